-- Proofs of `new`, src/vectors.rt.
use Rattle.std.proofs.Common.{◌≡◌, ◌<◌, ◌^◌, ℕ, ap, sym, ◌∙◌, subst, arith, List, [], get_or, ℤ, length}
use Rattle.vectors.specs.Vectors.{VectorsValue}
use Rattle.vectors.specs.inside.Layout.{IsLaidOut, location_at, own_location}
use Rattle.vectors.proofs.Layouts.{own_is_laid_out, own_vectors}
use Rattle.vectors.proofs.vectors.Vectors.new.Goals as goal

pub returns : goal.returns
returns c =
    let arrays = c.args.arrays.items in
    let ls = c.in_ok-locations.locations.items in
    let same = c.deref.ensures.value in
    let Own : List (List ℤ) → Type 0 = λ xs. (i : ℕ) → i < length xs → location_at ls i ≡ own_location xs i in
    let own : Own arrays = subst Own same c.in_ok-locations.ensures.own in
    let ok = c.in_ok-locations.locations.ok in
    let made = c.in_ok-locations.ensures.length in
    let as_many = ap (λ (xs : List (List ℤ)). length xs) same in
    let count : length ls ≡ length arrays = omega arith in
    ap (λ (vs : List (List ℤ)). let v : VectorsValue = record { vectors = vs; groups = c.new.result.items } in v) (own_vectors arrays ls count own)
    ∙ ap (λ (gs : List (List ℕ)). let v : VectorsValue = record { vectors = arrays; groups = gs } in v) c.new.ensures.items

pub invariant_of-result : goal.invariant_of-result
invariant_of-result c =
    let arrays = c.args.arrays.items in
    let ls = c.in_ok-locations.locations.items in
    let same = c.deref.ensures.value in
    let Own : List (List ℤ) → Type 0 = λ xs. (i : ℕ) → i < length xs → location_at ls i ≡ own_location xs i in
    let own : Own arrays = subst Own same c.in_ok-locations.ensures.own in
    let Few : List (List ℤ) → Type 0 = λ xs. (i : ℕ) → i < length xs → length (get_or xs i []) < 2 ^ 64 in
    let few : Few arrays = subst Few same c.in_ok-locations.ensures.fits in
    let ok = c.in_ok-locations.locations.ok in
    let made = c.in_ok-locations.ensures.length in
    let as_many = ap (λ (xs : List (List ℤ)). length xs) same in
    let count : length ls ≡ length arrays = omega arith in
    subst (IsLaidOut arrays ls) (sym c.new.ensures.items) (own_is_laid_out arrays ls count own few)
