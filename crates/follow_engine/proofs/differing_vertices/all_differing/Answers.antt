-- Proofs of `all_differing`, src/differing_vertices.rt.
use Rattle.std.proofs.Common.{ℕ, ◌+◌, ◌-◌, ◌<◌, cond, List, [], ◌∷◌, ◌++◌, ap, sym, ◌∙◌, arith, append_assoc}
use Rattle.std.specs.List.{filter, range_with_len}
use Rattle.algorithm_meaning.specs.VertexSets.{all_below}
use Rattle.algorithm_meaning.proofs.Lists.{first_kept}
use Rattle.follow_engine.specs.Differing.{differ_at}
use Rattle.follow_engine.proofs.Agreeing.{none_kept}
use Rattle.follow_engine.proofs.differing_vertices.all_differing.Goals as goal

pub vertices-preserved : goal.vertices-preserved
vertices-preserved c =
    let v = c.vertices.vertex in
    let n = c.args.n in
    let differs = differ_at c.args.now.now.vectors c.args.was.now.vectors c.args.count in
    let more = filter differs (range_with_len (v + 1) (n - (v + 1))) in
    let below : v < n = omega arith in
    ap (λ (xs : List ℕ). xs ++ more) c.in_ok-keep_if.ensures
    ∙ append_assoc c.vertices.found.items (cond c.differ.result (v ∷ []) []) more
    ∙ ap (λ (xs : List ℕ). c.vertices.found.items ++ xs) (first_kept differs v n c.differ.result c.differ.ensures below)
    ∙ c.vertices.invariant

pub returns-then-have_same_entries : goal.returns-then-have_same_entries
returns-then-have_same_entries c =
    c.new-found.ensures.items
    ∙ sym (none_kept (differ_at c.args.now.now.vectors c.args.was.now.vectors c.args.count) (all_below c.args.n) (c.have_same_entries.ensures c.if-have_same_entries.true))
