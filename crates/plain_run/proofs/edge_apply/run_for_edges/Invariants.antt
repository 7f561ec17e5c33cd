use Rattle.std.proofs.Common.{◌≡◌, [], ◌∷◌, drop}
use Rattle.std.specs.List.{filter}
use Rattle.typed_tree.specs.FunctionStatementTree.{function_statements_tree}
use Rattle.algorithm_meaning.specs.EdgeApply.{after_edges}
use Rattle.plain_run.specs.inside.Flags.{flagged}
use Rattle.plain_run.proofs.edge_apply.run_for_edges.Given as goal

-- what is left to do from here comes to what was to be done; the vectors that are read stay
abbrev pub invariant-edges : goal.invariant-edges
invariant-edges l =
    (after_edges (function_statements_tree l.steps ∷ []) l.sets l.fn.before.items (filter (flagged l.passing) (drop l.edge-index l.edges)) l.after.items
    ≡ after_edges (function_statements_tree l.steps ∷ []) l.sets l.fn.before.items (filter (flagged l.passing) l.edges) l.fn.before.items)
    × (l.before.items ≡ l.fn.before.items)
