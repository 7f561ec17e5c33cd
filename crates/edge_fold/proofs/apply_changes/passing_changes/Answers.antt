-- Proofs of `passing_changes`, src/apply_changes.rt.
use Rattle.std.proofs.lemmas.Result.{IfOk-at_ok}
use Rattle.std.proofs.Common.{◌++◌, ◌<◌, ℕ, Bool, if◌then◌else◌, ℤ, List, Contains, refl, subst, sym, ap, ◌∙◌}
use Rattle.std.proofs.lemmas.List.Kept.{IsNonDecreasingBy-filter}
use Rattle.std.specs.List.{filter}
use Rattle.std.specs.List.Sorted.{IsNonDecreasing}
use Rattle.algorithm_meaning.specs.Value.{entry}
use Rattle.vectors.specs.Lanes.{lane_entry}
use Rattle.edge_fold.proofs.Endings.{if_each_ok}
use Rattle.edge_fold.specs.inside.Held.{held}
use Rattle.edge_fold.proofs.Findings.{among_kept, changed_agree, kept_passes, not_kept}
use Rattle.edge_fold.proofs.apply_changes.passing_changes.Goals as goal

pub returns : goal.returns
returns c =
    if_each_ok c.changes.result _ (λ found was m test vectors sizes is.
    let slot = c.args.slot.now in
    let n = c.args.context.vertices in
    let lane = lane_entry c.lane-old.result in
    let e = entry m.vectors slot.vector in
    let old = λ (v : ℕ). c.lane-old.ensures v ∙ ap (λ (vs : List (List ℤ)). entry vs slot.vector v) vectors in
    let marked = c.in_ok-marked.marked.items in
    let all = c.in_ok-marked.ensures in
    let new = λ (v : ℕ). if test v then held slot.entries v (lane v) else lane v in
    let kept = c.in_ok-keep_passing.ensures m test vectors sizes is in
    let same = c.deref-2.ensures.value ∙ kept ∙ ap (λ (ks : List ℕ). ks ++ filter test c.deref.result.now) c.new-kept.ensures.items ∙ ap (filter test) c.deref.ensures.value in
    let rising = IsNonDecreasingBy-filter (λ (x : ℕ). x) test marked all.ascending in
    let up = subst (λ (ks : List ℕ). IsNonDecreasing ks) (sym same) rising in
    let here = λ (v : ℕ) (has : Contains c.deref-2.result.now v).
    (let passes = kept_passes test marked v (subst (λ (ks : List ℕ). Contains ks v) same has) in
    ap (λ (b : Bool). if b then held slot.entries v (lane v) else lane v) passes) in
    let there = λ (v : ℕ) (l : v < n) (absent : ¬ Contains c.deref-2.result.now v).
    not_kept test marked v (test v) (held slot.entries v (lane v)) (lane v) refl (λ h. absent (subst (λ (ks : List ℕ). Contains ks v) (sym same) h)) (λ h. all.covers (λ h y. y) v (lane v) h) in
    let given = λ (v : ℕ) (has : Contains c.deref-2.result.now v). all.given v (among_kept test marked v (subst (λ (ks : List ℕ). Contains ks v) same has)) in
    IfOk-at_ok _ was (c.changes.ensures up given new here there)
    ∙ changed_agree lane e new (λ v. if test v then held slot.entries v (e v) else e v) old 0 n (λ v l. ap (λ (x : ℤ). if test v then held slot.entries v x else x) (old v)))
