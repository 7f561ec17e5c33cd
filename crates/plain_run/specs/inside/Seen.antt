-- What private contracts see of a run's state.
use Rattle.std.specs.Prelude.{Option, Some, None, List, ℤ}
use Rattle.plain_run.specs.declared.state.EdgeList.{EdgeList}
use Rattle.plain_run.specs.declared.state.Environment.{Environment}
use Rattle.plain_run.specs.declared.state.InterpreterState.{InterpreterState}
use Rattle.algorithm_meaning.specs.declared.outcome.End.{End}
use Rattle.plain_run.specs.declared.function.FunctionFrame.{FunctionFrame}
use Rattle.algorithm_meaning.specs.Function.{WorkValue}
use Rattle.algorithm_meaning.specs.State.{GraphValue, ScopeValue, StateValue}
use Rattle.algorithm_meaning.specs.Stand.{Stand, Live, Over}

abbrev pub graph_of : EdgeList → GraphValue
graph_of g = record { vertices = g.vertices; edges = g.edges.now }

abbrev pub scope_of : Environment → ScopeValue
scope_of s = record { integers = s.integers.items; conditions = s.conditions.items; source = s.source; destination = s.destination; weight = s.weight }

abbrev pub state_of : InterpreterState → StateValue
state_of s = record { vectors = s.vectors.items; sets = s.sets.items; scope = scope_of s.scope; text = s.text.items; turns = s.turns }

-- where a run stands: it continues, or it has ended
abbrev pub stand : Option End → StateValue → Stand
stand None s = Live s
stand (Some end) s = Over s end

-- what a function works on
abbrev pub work_of : List (List ℤ) → FunctionFrame → WorkValue
work_of vectors w = record { vectors = vectors; scope = scope_of w.scope; given = w.given.items }
