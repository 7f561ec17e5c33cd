-- Proofs of `vertices_below`, src/initial_state.rt.
use Rattle.std.proofs.Common.{ℕ, ◌+◌, ◌-◌, ◌<◌, List, [], ◌∷◌, ◌++◌, ap, sym, ◌∙◌, arith, append_assoc}
use Rattle.std.specs.List.{range_with_len}
use Rattle.algorithm_meaning.proofs.Lists.{first_of_range}
use Rattle.plain_run.proofs.initial_state.vertices_below.Goals as goal

pub vertices-preserved : goal.vertices-preserved
vertices-preserved c =
    let v = c.vertices.vertex in
    let n = c.args.vertices in
    let more = range_with_len (v + 1) (n - (v + 1)) in
    let below : v < n = omega arith in
    ap (λ (xs : List ℕ). xs ++ more) c.in_ok-push.ensures.items
    ∙ append_assoc c.vertices.members.items (v ∷ []) more
    ∙ ap (λ (xs : List ℕ). c.vertices.members.items ++ xs) (sym (first_of_range v n below))
    ∙ c.vertices.invariant
