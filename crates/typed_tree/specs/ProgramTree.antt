-- Programs, without pointers.
use Rattle.std.specs.Prelude.{ℕ, List, Option, map}
use Rattle.apply_options.specs.declared.setting.Setting.{Setting}
use Rattle.typed_tree.specs.declared.program.Typed.{Typed}
use Rattle.typed_tree.specs.declared.program.Vector.{Vector}
use Rattle.typed_tree.specs.declared.program.ScheduleCall.{ScheduleCall}
use Rattle.typed_tree.specs.FunctionStatementTree.{FunctionTree, function_tree}
use Rattle.typed_tree.specs.BlockTree.{BlockTree, block_tree}

-- a call of the schedule, at the offset of its first token
pub record ScheduleCallTree : Type 0 where
  pub at : ℕ
  pub setting : Setting
  pub arguments : List (List ℕ)

-- the names that the trees speak of, the labels, what the program declares, main, and the calls of the schedule
pub record ProgramTree : Type 0 where
  pub names : List (List ℕ)
  pub labels : List (List ℕ)
  pub edges : Option ℕ
  pub vectors : List Vector
  pub sets : List ℕ
  pub edge_functions : List FunctionTree
  pub vertex_functions : List FunctionTree
  pub filters : List FunctionTree
  pub main : BlockTree
  pub schedule : List ScheduleCallTree

abbrev pub call_tree : ScheduleCall → ScheduleCallTree
call_tree c = record { at = c.at; setting = c.setting; arguments = c.arguments.items }

-- the tree that a Rust tree is
abbrev pub program_tree : Typed → ProgramTree
program_tree p = record {
  names = p.names.items;
  labels = p.labels.items;
  edges = p.edges;
  vectors = p.vectors.items;
  sets = p.sets.items;
  edge_functions = map function_tree p.edge_functions.items;
  vertex_functions = map function_tree p.vertex_functions.items;
  filters = map function_tree p.filters.items;
  main = block_tree p.main.items;
  schedule = map call_tree p.schedule.items;
}
