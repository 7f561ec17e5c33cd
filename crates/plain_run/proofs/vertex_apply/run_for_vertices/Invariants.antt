use Rattle.std.proofs.Common.{◌≡◌, drop}
use Rattle.typed_tree.specs.FunctionStatementTree.{function_statements_tree}
use Rattle.algorithm_meaning.specs.VertexSets.{after_vertices}
use Rattle.plain_run.proofs.vertex_apply.run_for_vertices.Given as goal

-- what is left to do from here comes to what was to be done
abbrev pub invariant-vertices : goal.invariant-vertices
invariant-vertices l =
    after_vertices (function_statements_tree l.steps) l.sets (drop l.vertex-index l.vertices) l.vectors.items
    ≡ after_vertices (function_statements_tree l.steps) l.sets l.vertices l.fn.vectors.items
