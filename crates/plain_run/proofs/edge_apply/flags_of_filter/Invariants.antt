use Rattle.std.proofs.Common.{◌≡◌, ◌-◌, ◌++◌, map}
use Rattle.std.specs.List.{range_with_len}
use Rattle.typed_tree.specs.FunctionStatementTree.{function_statements_tree}
use Rattle.algorithm_meaning.specs.Function.{result_of}
use Rattle.plain_run.proofs.edge_apply.flags_of_filter.Given as goal

-- the flags so far, and those that are to come, are all; the vectors stay
abbrev pub invariant-vertices : goal.invariant-vertices
invariant-vertices l =
    (l.flags.items ++ map (result_of (function_statements_tree l.steps) l.sets l.fn.vectors.items) (range_with_len l.vertex (l.vertices - l.vertex))
    ≡ map (result_of (function_statements_tree l.steps) l.sets l.fn.vectors.items) (range_with_len 0 l.vertices))
    × (l.vectors.items ≡ l.fn.vectors.items)
