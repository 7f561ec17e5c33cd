-- Declared variables, and the statements that declare them.
use Rattle.std.specs.Prelude.{ℕ, length}
use Rattle.syntax.specs.declared.declaration.DeclaredType.{DeclaredType}
use Rattle.syntax.specs.declared.declaration.DeclaredType.TheVariants as declared
use Rattle.typed_tree.specs.BlockTree.{StatementKindTree, Simple, DeclareInt, DeclareBool, DeclareSet}
use Rattle.typed_tree.specs.FunctionStatementTree as step
use Rattle.typed_tree.specs.FunctionStatementTree.{FunctionStatementTree}
use Rattle.expression_types.specs.declared.fault.TypeRule.TheVariants as rule
use Rattle.expression_types.specs.declared.scope.Entity.{Entity}
use Rattle.expression_types.specs.declared.scope.Entity.TheVariants as entity
use Rattle.expression_types.specs.Faults.{WithFaults, sure, fault_at, ◌>>=◌}
use Rattle.initializer_types.specs.Checker.{CheckerTree, integer_slot, condition_slot, set_slot}
use Rattle.initializer_types.specs.Initial.{InitializerTree, initializer_integer, initializer_condition, initializer_members}
use Rattle.types.specs.Statement.{no_action}
use Rattle.types.specs.Step.{no_step}

-- in main
abbrev pub variable_as : CheckerTree → ℕ → InitializerTree → DeclaredType → WithFaults (Entity × StatementKindTree)
variable_as c at initializer declared.Int = initializer_integer at initializer >>= λ e. sure
    (entity.IntVariable (integer_slot c), Simple (DeclareInt (length c.names) e))
variable_as c at initializer declared.Bool = initializer_condition at initializer >>= λ e. sure
    (entity.BoolVariable (condition_slot c), Simple (DeclareBool (length c.names) e))
variable_as c at initializer declared.VertexSet = initializer_members at initializer >>= λ s. sure
    (entity.SetVariable (set_slot c), Simple (DeclareSet (length c.names) s))
variable_as c at initializer declared.Vertex = fault_at at rule.WrongType (entity.Error, no_action)
variable_as c at initializer declared.Vector = fault_at at rule.WrongType (entity.Error, no_action)
variable_as c at initializer declared.EdgeSet = fault_at at rule.WrongType (entity.Error, no_action)
variable_as c at initializer declared.WeightedEdgeSet = fault_at at rule.WrongType (entity.Error, no_action)

-- in a function
abbrev pub step_variable_as : CheckerTree → ℕ → InitializerTree → DeclaredType → WithFaults (Entity × FunctionStatementTree)
step_variable_as c at initializer declared.Int = initializer_integer at initializer >>= λ e. sure
    (entity.IntVariable (integer_slot c), step.DeclareInt (length c.names) e)
step_variable_as c at initializer declared.Bool = initializer_condition at initializer >>= λ e. sure
    (entity.BoolVariable (condition_slot c), step.DeclareBool (length c.names) e)
step_variable_as c at initializer declared.VertexSet = fault_at at rule.WrongType (entity.Error, no_step)
step_variable_as c at initializer declared.Vertex = fault_at at rule.WrongType (entity.Error, no_step)
step_variable_as c at initializer declared.Vector = fault_at at rule.WrongType (entity.Error, no_step)
step_variable_as c at initializer declared.EdgeSet = fault_at at rule.WrongType (entity.Error, no_step)
step_variable_as c at initializer declared.WeightedEdgeSet = fault_at at rule.WrongType (entity.Error, no_step)
