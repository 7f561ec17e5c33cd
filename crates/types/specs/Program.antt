-- The program that a source is, and its faults.
use Rattle.std.specs.Prelude.{◌≡◌, ℕ, suc, List, [], ◌∷◌, ◌++◌, map, Option, Some, None, Result, Ok, Err}
use Rattle.syntax.specs.declared.declaration.DeclaredType.{DeclaredType}
use Rattle.syntax.specs.declared.declaration.DeclaredType.TheVariants as declared
use Rattle.syntax.specs.SourceTrees.{CallTree, ChainTree, DeclarationTree, Constant, Function, SourceTree}
use Rattle.typed_tree.specs.BlockTree.{BlockTree, Empty}
use Rattle.typed_tree.specs.declared.program.Typed.{Typed}
use Rattle.typed_tree.specs.ProgramTree.{ProgramTree, ScheduleCallTree, program_tree}
use Rattle.types.specs.declared.error.CheckError.{CheckError}
use Rattle.types.specs.declared.error.CheckError.TheVariants.{Faulty, NoMemory}
use Rattle.expression_types.specs.declared.fault.Fault.{Fault}
use Rattle.expression_types.specs.declared.fault.TypeRule.TheVariants as rule
use Rattle.expression_types.specs.Faults.{least_of, WithFaults, sure, fault_at, ◌>>=◌}
use Rattle.expression_types.specs.ScopeTree.{empty_scope}
use Rattle.initializer_types.specs.Checker.{without_ends}
use Rattle.types.specs.Declaration.{DeclaredTree, declarations_typed}

-- one more, where it is the type of a vertex set
abbrev pub counting : DeclaredType → ℕ → ℕ
counting declared.Int n = n
counting declared.Bool n = n
counting declared.Vertex n = n
counting declared.VertexSet n = suc n
counting declared.Vector n = n
counting declared.EdgeSet n = n
counting declared.WeightedEdgeSet n = n

-- how many constant vertex sets there are
abbrev pub set_count : List DeclarationTree → ℕ
set_count [] = 0
set_count (Constant at p initial ∷ others) = counting p.declared (set_count others)
set_count (Function at name parameters result body ∷ others) = set_count others

-- before the first declaration, in a program with n constant sets
abbrev pub no_declarations : ℕ → DeclaredTree
no_declarations sets = record {
  checker = record { scope = empty_scope sets; names = []; labels = []; label_names = []; statements = 0; writes = []; written = [] };
  edges = None;
  vectors = [];
  sets = [];
  edge_functions = [];
  vertex_functions = [];
  filters = [];
  main = None;
}

-- the calls of the schedule, in the order of the text
abbrev pub schedule_call : CallTree → ScheduleCallTree
schedule_call c = record { at = c.at; setting = c.setting; arguments = map without_ends (c.first ∷ c.more) }

abbrev pub chain_calls : List ChainTree → List ScheduleCallTree
chain_calls [] = []
chain_calls (chain ∷ others) = (schedule_call chain.first ∷ map schedule_call chain.more) ++ chain_calls others

abbrev pub schedule_calls : Option (List ChainTree) → List ScheduleCallTree
schedule_calls None = []
schedule_calls (Some chains) = chain_calls chains

-- a program has a function that is run
abbrev pub main_of : ℕ → Option BlockTree → WithFaults BlockTree
main_of length None = fault_at length rule.NoMain Empty
main_of length (Some main) = sure main

abbrev pub program_tree_of : DeclaredTree → BlockTree → List ScheduleCallTree → ProgramTree
program_tree_of d main schedule = record {
  names = d.checker.names;
  labels = d.checker.label_names;
  edges = d.edges;
  vectors = d.vectors;
  sets = d.sets;
  edge_functions = d.edge_functions;
  vertex_functions = d.vertex_functions;
  filters = d.filters;
  main = main;
  schedule = schedule;
}

-- the program that a source is, in a text of this length, with all its faults
abbrev pub program_of : SourceTree → ℕ → WithFaults ProgramTree
program_of source length =
    declarations_typed (no_declarations (set_count source.declarations)) source.declarations >>= λ d. main_of length d.main >>= λ main.
    sure (program_tree_of d main (schedule_calls source.schedule))

-- a source has no fault, and is this program; or of all its faults this one is reported
abbrev pub Checks : SourceTree → ℕ → Result ProgramTree Fault → Type 0
Checks source length (Ok p) = ((program_of source length).faults ≡ []) × ((program_of source length).value ≡ p)
Checks source length (Err fault) = least_of None (program_of source length).faults ≡ Some fault

-- the answer is what checking gives; nothing is said if memory runs out
abbrev pub Answers : SourceTree → ℕ → Result Typed CheckError → Type 0
Answers source length (Ok p) = Checks source length (Ok (program_tree p))
Answers source length (Err (Faulty fault)) = Checks source length (Err fault)
Answers source length (Err NoMemory) = Unit {0}
