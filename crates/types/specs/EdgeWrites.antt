-- Reductions of edge functions: what their statements write.
use Rattle.std.specs.Prelude.{◌≡◌, ◌⊎◌, ℕ}
use Rattle.apply_options.specs.declared.reduction.Reduction.{Reduction}
use Rattle.typed_tree.specs.FunctionStatementTree.{FunctionStatementTree, FunctionStatementsTree, DeclareInt, DeclareBool, SetInt, SetBool}
use Rattle.typed_tree.specs.FunctionStatementTree.{ReduceInt, SetEntry, ReduceEntry, If, IfElse, NoStep, StepThen}

abbrev mutual
  -- the statement, or one in it, reduces entries of the vector so
  pub StepReduces : (vector : ℕ) → Reduction → FunctionStatementTree → Type 0
  StepReduces vector by (DeclareInt name e) = ⊥
  StepReduces vector by (DeclareBool name c) = ⊥
  StepReduces vector by (SetInt slot e) = ⊥
  StepReduces vector by (SetBool slot c) = ⊥
  StepReduces vector by (ReduceInt slot other e) = ⊥
  StepReduces vector by (SetEntry index e) = ⊥
  StepReduces vector by (ReduceEntry index other e) = (index ≡ vector) × (other ≡ by)
  StepReduces vector by (If c body) = StepsReduce vector by body
  StepReduces vector by (IfElse c body other) = StepsReduce vector by body ⊎ StepsReduce vector by other

  -- one of the statements does
  pub StepsReduce : (vector : ℕ) → Reduction → FunctionStatementsTree → Type 0
  StepsReduce vector by NoStep = ⊥
  StepsReduce vector by (StepThen step others) = StepReduces vector by step ⊎ StepsReduce vector by others

-- each vector is reduced in one way, if at all
abbrev pub ReducesInOneWay : FunctionStatementsTree → Type 0
ReducesInOneWay steps = (vector : ℕ) (a b : Reduction) → StepsReduce vector a steps → StepsReduce vector b steps → a ≡ b

abbrev mutual
  -- neither the statement nor one in it writes an entry by `=`
  pub StepSetsNoEntry : FunctionStatementTree → Type 0
  StepSetsNoEntry (DeclareInt name e) = Unit {0}
  StepSetsNoEntry (DeclareBool name c) = Unit {0}
  StepSetsNoEntry (SetInt slot e) = Unit {0}
  StepSetsNoEntry (SetBool slot c) = Unit {0}
  StepSetsNoEntry (ReduceInt slot by e) = Unit {0}
  StepSetsNoEntry (SetEntry vector e) = ⊥
  StepSetsNoEntry (ReduceEntry vector by e) = Unit {0}
  StepSetsNoEntry (If c body) = SetsNoEntry body
  StepSetsNoEntry (IfElse c body other) = SetsNoEntry body × SetsNoEntry other

  -- none of the statements does
  pub SetsNoEntry : FunctionStatementsTree → Type 0
  SetsNoEntry NoStep = Unit {0}
  SetsNoEntry (StepThen step others) = StepSetsNoEntry step × SetsNoEntry others
