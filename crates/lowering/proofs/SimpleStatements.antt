-- Statements without blocks, as plans see them.
use Rattle.std.proofs.Common.{◌≡◌, None, refl}
use Rattle.typed_tree.specs.declared.statement.ValueStatement.{ValueStatement}
use Rattle.typed_tree.specs.declared.statement.ValueStatement.TheVariants as value
use Rattle.typed_tree.specs.BlockTree.{Simple, value_statement_tree}
use Rattle.plans.specs.Fusing.{edge_apply_of, vertex_apply_of}

-- a statement that takes a value applies nothing
pub value_applies_no_edges : (s : ValueStatement) → edge_apply_of (Simple (value_statement_tree s)) ≡ None
value_applies_no_edges (value.DeclareInt name e) = refl
value_applies_no_edges (value.DeclareBool name c) = refl
value_applies_no_edges (value.SetInt slot e) = refl
value_applies_no_edges (value.SetBool slot c) = refl
value_applies_no_edges (value.ReduceInt slot reduction e) = refl
value_applies_no_edges (value.AddVertex slot e) = refl
value_applies_no_edges (value.PrintInt e) = refl
value_applies_no_edges (value.PrintBool c) = refl

pub value_applies_no_vertices : (s : ValueStatement) → vertex_apply_of (Simple (value_statement_tree s)) ≡ None
value_applies_no_vertices (value.DeclareInt name e) = refl
value_applies_no_vertices (value.DeclareBool name c) = refl
value_applies_no_vertices (value.SetInt slot e) = refl
value_applies_no_vertices (value.SetBool slot c) = refl
value_applies_no_vertices (value.ReduceInt slot reduction e) = refl
value_applies_no_vertices (value.AddVertex slot e) = refl
value_applies_no_vertices (value.PrintInt e) = refl
value_applies_no_vertices (value.PrintBool c) = refl
