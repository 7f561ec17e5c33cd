-- Proofs of `grouped`, src/vectors.rt.
use Rattle.std.proofs.Common.{◌≡◌, ap, sym, ◌∙◌, subst, arith, refl, List, [], ◌++◌, drop, take, ℕ, length, get_or}
use Rattle.std.proofs.Math.Seq.{take-append_seam}
use Rattle.vectors.specs.declared.location.Location.{Location}
use Rattle.vectors.specs.inside.Layout.{AreLocated, FitTogether, HasArrays, IsLaidOut, vectors_at}
use Rattle.vectors.proofs.Groupings.{even_vectors, fit_own, is_laid_out, own_are_located}
use Rattle.vectors.proofs.vectors.Vectors.grouped.Goals as goal

pub locate_groups-requires : goal.locate_groups-requires
locate_groups-requires c =
    let arrays = c.args.arrays.now in
    let own = c.in_ok-locations.locations.items in
    let groups = c.args.groups.now in
    let made = c.in_ok-locations.ensures.length in
    let ok = c.in_ok-locations.locations.ok in
    let count : length own ≡ length arrays = omega arith in
    let alone = c.in_ok-locations.ensures.own in
    subst (λ (ls : List Location). AreLocated ls groups 0 0 ls) (sym c.deref_mut.ensures.value)
    (own_are_located own groups (λ i l. ap (λ (m : Location). m.array) (alone i (omega arith))) (λ i l. ap (λ (m : Location). m.first) (alone i (omega arith)))
    (λ i l. ap (λ (m : Location). m.stride) (alone i (omega arith))))

pub returns-then-not-locate_groups : goal.returns-then-not-locate_groups
returns-then-not-locate_groups c = record {
  vectors = tt;
  fit = λ same fits.
      let given = c.args.arrays.now in
      let own = c.in_ok-locations.locations.items in
      let made = c.in_ok-locations.ensures.length in
      let ok = c.in_ok-locations.locations.ok in
      let count : length own ≡ length given = omega arith in
      let together = fit_own given own c.args.groups.now count c.in_ok-locations.ensures.own fits in
      c.if-not-locate_groups.ensures.fit refl (subst (λ (ls : List Location). FitTogether ls c.args.groups.now) (sym c.deref_mut.ensures.value) together);
}

pub invariant_of-vectors : goal.invariant_of-vectors
invariant_of-vectors c =
    let groups = c.args.groups.now in
    let arrays = c.in_ok-new_arrays.field-0.items in
    let new = c.locate_groups.new.locations in
    let own = c.in_ok-locations.locations.items in
    let ok = c.in_ok-locations.locations.ok in
    let n = c.in_ok-locations.locations.len in
    let same = ap (λ (ls : List Location). length ls) c.deref_mut.ensures.value in
    let kept = c.locate_groups.auto.locations in
    let all : n ≡ length new = omega arith in
    let back : take n (new ++ drop (length new) own) ≡ new = ap (λ (k : ℕ). take k (new ++ drop (length new) own)) all ∙ take-append_seam new (drop (length new) own) in
    let located = c.if-not-locate_groups.ensures.located refl in
    let has : HasArrays new groups arrays = subst (λ (ls : List Location). HasArrays ls groups arrays) (c.deref.ensures.value ∙ back) c.in_ok-new_arrays.ensures in
    subst (IsLaidOut arrays (take n (new ++ drop (length new) own))) (sym c.in_ok-copied.ensures)
    (subst (λ (ls : List Location). IsLaidOut arrays ls groups) (sym back) (is_laid_out c.deref_mut.result.now groups new arrays located has))

pub load_all-requires-clause-even : goal.load_all-requires-clause-even
load_all-requires-clause-even c = λ i.
    let given = c.args.arrays.now in
    let groups = c.args.groups.now in
    let arrays = c.in_ok-new_arrays.field-0.items in
    let new = c.locate_groups.new.locations in
    let own = c.in_ok-locations.locations.items in
    let ok = c.in_ok-locations.locations.ok in
    let made = c.in_ok-locations.ensures.length in
    let n = c.in_ok-locations.locations.len in
    let same = ap (λ (ls : List Location). length ls) c.deref_mut.ensures.value in
    let kept = c.locate_groups.auto.locations in
    let all : n ≡ length new = omega arith in
    let back : take n (new ++ drop (length new) own) ≡ new = ap (λ (k : ℕ). take k (new ++ drop (length new) own)) all ∙ take-append_seam new (drop (length new) own) in
    let count : length own ≡ length given = omega arith in
    let located : AreLocated own groups (length groups) 0 new = subst (λ (ls : List Location). AreLocated ls groups (length groups) 0 new) c.deref_mut.ensures.value
    (c.if-not-locate_groups.ensures.located refl) in
    subst (λ (ls : List Location). length (get_or given i []) ≡ length (get_or (vectors_at arrays ls) i [])) (sym back)
    (even_vectors given own groups (length groups) 0 new arrays located count c.in_ok-locations.ensures.own i)
