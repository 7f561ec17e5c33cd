-- Statements without blocks, as labels see them.
use Rattle.std.proofs.Common.{◌≡◌, refl, None}
use Rattle.typed_tree.specs.declared.statement.ValueStatement.{ValueStatement}
use Rattle.typed_tree.specs.declared.statement.ValueStatement.TheVariants as value
use Rattle.typed_tree.specs.BlockTree.{Simple, value_statement_tree}
use Rattle.schedule.specs.Schedule.{apply_of}

-- a statement that takes a value applies nothing
pub value_applies_nothing : (s : ValueStatement) → apply_of (Simple (value_statement_tree s)) ≡ None
value_applies_nothing (value.DeclareInt name e) = refl
value_applies_nothing (value.DeclareBool name c) = refl
value_applies_nothing (value.SetInt slot e) = refl
value_applies_nothing (value.SetBool slot c) = refl
value_applies_nothing (value.ReduceInt slot reduction e) = refl
value_applies_nothing (value.AddVertex slot e) = refl
value_applies_nothing (value.PrintInt e) = refl
value_applies_nothing (value.PrintBool c) = refl
