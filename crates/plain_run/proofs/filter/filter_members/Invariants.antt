use Rattle.std.proofs.Common.{◌≡◌, ◌++◌, drop, map}
use Rattle.typed_tree.specs.FunctionStatementTree.{function_tree}
use Rattle.algorithm_meaning.specs.Function.{filtered}
use Rattle.plain_run.proofs.filter.filter_members.Given as goal

-- what is kept, and what is still to be, are all; the vectors stay
abbrev pub invariant-vertices : goal.invariant-vertices
invariant-vertices l =
    (l.kept.items ++ filtered (map function_tree l.filters) l.function l.sets l.fn.vectors.items (drop l.vertex-index l.vertices)
    ≡ filtered (map function_tree l.filters) l.function l.sets l.fn.vectors.items l.vertices)
    × (l.vectors.items ≡ l.fn.vectors.items)
