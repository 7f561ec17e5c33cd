-- Proofs of `modified_vertices`, src/edge_apply.rt.
use Rattle.std.proofs.Common.{ℕ, ◌+◌, ◌-◌, ◌<◌, cond, List, [], ◌∷◌, ◌++◌, ap, ◌∙◌, arith, append_assoc}
use Rattle.std.specs.List.{filter, range_with_len}
use Rattle.algorithm_meaning.specs.EdgeApply.{is_modified}
use Rattle.algorithm_meaning.proofs.Lists.{first_kept}
use Rattle.plain_run.proofs.edge_apply.modified_vertices.Goals as goal

pub vertices-preserved : goal.vertices-preserved
vertices-preserved c =
    let v = c.vertices.vertex in
    let n = c.args.vertices in
    let differs = is_modified c.args.vector c.args.before.now c.args.after.now in
    let more = filter differs (range_with_len (v + 1) (n - (v + 1))) in
    let below : v < n = omega arith in
    ap (λ (xs : List ℕ). xs ++ more) c.in_ok-keep_if.ensures
    ∙ append_assoc c.vertices.changed.items (cond c.differs.result (v ∷ []) []) more
    ∙ ap (λ (xs : List ℕ). c.vertices.changed.items ++ xs) (first_kept differs v n c.differs.result c.differs.ensures below)
    ∙ c.vertices.invariant
