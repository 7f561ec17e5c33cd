-- Proofs of `flags_of_filter`, src/edge_apply.rt.
use Rattle.std.proofs.Common.{ℕ, ℤ, ◌+◌, ◌-◌, ◌<◌, Bool, List, [], ◌∷◌, ◌++◌, map, ap, sym, ◌∙◌, arith, append_assoc}
use Rattle.std.specs.List.{range_with_len}
use Rattle.typed_tree.specs.FunctionStatementTree.{function_statements_tree}
use Rattle.algorithm_meaning.specs.Function.{result_of}
use Rattle.algorithm_meaning.proofs.Lists.{first_of_range}
use Rattle.plain_run.proofs.edge_apply.flags_of_filter.Goals as goal

pub vertices-preserved : goal.vertices-preserved
vertices-preserved c =
    let v = c.vertices.vertex in
    let n = c.args.vertices in
    let passes = result_of (function_statements_tree c.args.steps.now) c.args.sets.now c.args.vectors.now.items in
    let more = map passes (range_with_len (v + 1) (n - (v + 1))) in
    let below : v < n = omega arith in
    let flag = c.in_ok-flag.ensures.passes ∙ ap (λ (vectors : List (List ℤ)). result_of (function_statements_tree c.args.steps.now) c.args.sets.now vectors v) c.vertices.invariant.1 in (
      ap (λ (xs : List Bool). xs ++ more) c.in_ok-push.ensures.items
          ∙ append_assoc c.vertices.flags.items (c.in_ok-flag.flag ∷ []) more
          ∙ ap (λ (b : Bool). c.vertices.flags.items ++ b ∷ more) flag
          ∙ ap (λ (xs : List ℕ). c.vertices.flags.items ++ map passes xs) (sym (first_of_range v n below))
          ∙ c.vertices.invariant.0,
      c.in_ok-flag.ensures.vectors ∙ c.vertices.invariant.1,
    )
