-- Proofs of `all_changes`, src/apply_changes.rt.
use Rattle.std.proofs.lemmas.Result.{IfOk-weaker}
use Rattle.std.proofs.Common.{ℕ, ℤ, Bool, List, Contains, pos, get_or, refl, subst, sym, ap, ◌∙◌, arith, if◌then◌else◌}
use Rattle.std.specs.List.Sorted.{IsNonDecreasing}
use Rattle.algorithm_meaning.specs.Value.{entry}
use Rattle.vectors.specs.Lanes.{lane_entry}
use Rattle.edge_fold.specs.inside.Held.{AreMarked, held}
use Rattle.edge_fold.proofs.Findings.{changed_agree}
use Rattle.edge_fold.proofs.apply_changes.all_changes.Goals as goal

pub returns-then-context-entries : goal.returns-then-context-entries
returns-then-context-entries c =
    let slot = c.args.slot.now in
    let lane = lane_entry c.lane-old.result in
    let e = entry c.args.context.vectors.now.vectors slot.vector in
    c.in_ok-changes.ensures
    ∙ changed_agree lane e (λ v. get_or c.deref.result.now v (pos 0)) (λ v. held slot.entries v (e v)) c.lane-old.ensures 0 c.args.context.vertices
    (λ v l. ap (λ (ys : List ℤ). get_or ys v (pos 0)) c.deref.ensures.value ∙ sym
    (ap (λ (b : Bool). if b then get_or slot.entries.values.items v (pos 0) else e v) (slot.entries.whole v (omega (arith, l)))))

pub returns : goal.returns
returns c =
    let slot = c.args.slot.now in
    let lane = lane_entry c.lane-old.result in
    let e = entry c.args.context.vectors.now.vectors slot.vector in
    let marked = c.in_ok-marked.ensures in
    let same = c.deref-2.ensures.value in
    IfOk-weaker c.changes.result _ _
    (λ found told. told ∙ changed_agree lane e (λ v. held slot.entries v (lane v)) (λ v. held slot.entries v (e v)) c.lane-old.ensures 0 c.args.context.vertices (λ v l. ap (held slot.entries v) (c.lane-old.ensures v)))
    (c.changes.ensures (subst (λ (ks : List ℕ). IsNonDecreasing ks) (sym same) marked.ascending) (subst (λ (ks : List ℕ). AreMarked slot.entries ks) (sym same) marked.given)
    (λ v. held slot.entries v (lane v)) (λ v has. refl) (λ v l absent. marked.covers (λ h y. y) v (lane v) (λ has. absent (subst (λ (ks : List ℕ). Contains ks v) (sym same) has))))
