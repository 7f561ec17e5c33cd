-- Runs that reach a limit.
use Rattle.std.proofs.Common.{◌≡◌, ℕ, zero, suc, ◌+◌, ◌-◌, ◌<◌, ◌≤◌, ◌==◌, nat_le, Bool, true, false, cond, List, [], ◌∷◌, length, take, drop, get_or, slice_range, refl, sym, ap, ◌∙◌, subst, arith}
use Rattle.std.proofs.Common.{length-drop}
use Rattle.std.proofs.lemmas.Bool.Decides.{nat_tests}
use Rattle.std.proofs.lemmas.List.{drop-take, take-append-drop, take-take, get_or-drop, drop-drop}
use Rattle.std.proofs.lemmas.List.Sums.{sum_by-append, sum_by-cons, sum_by_more}
use Rattle.crew.specs.Limits.{EachEndsAtLimit, limited_ends, weight}
use Rattle.crew.specs.Partition.{AreEnds}

-- where the runs end
last_is_end : (s r p : ℕ) (b : Bool) → (r == 0) ≡ b → (r ≡ 0 → s ≡ p) → (0 < r → s < p) → AreEnds s p (cond b [] (p ∷ []))
last_is_end s r p true none at more = at (grind (arith, nat_tests))
last_is_end s r p false some at more = (more (grind (arith, nat_tests)), refl)

next_is_end : (limit s r p l : ℕ) (ds : List ℕ) (b : Bool) → s < p + 1 → 0 < r → p + 1 + length ds ≡ l
    → ((s r : ℕ) → (r ≡ 0 → s ≡ p + 1) → (0 < r → s < p + 1) → AreEnds s l (limited_ends limit r (p + 1) ds))
    → AreEnds s l (cond b ((p + 1) ∷ limited_ends limit 0 (p + 1) ds) (limited_ends limit r (p + 1) ds))
next_is_end limit s r p l ds true below some whole more = (below, more (p + 1) 0 (λ h. refl) (λ h. absurd (omega (arith, h))))
next_is_end limit s r p l ds false below some whole more = more s r (λ h. absurd (omega (arith, h, some))) (λ h. below)

pub limited_are_ends : (limit s r p l : ℕ) (ds : List ℕ) → (r ≡ 0 → s ≡ p) → (0 < r → s < p) → s ≤ p → p + length ds ≡ l → AreEnds s l (limited_ends limit r p ds)
limited_are_ends limit s r p l [] at more low whole =
    let e : p ≡ l = omega (arith, whole) in subst (λ k. AreEnds s k (limited_ends limit r p [])) e (last_is_end s r p (r == 0) refl at more)
limited_are_ends limit s r p l (d ∷ ds) at more low whole =
    let rest : p + 1 + length ds ≡ l = omega (arith, whole) in
    next_is_end limit s (r + (d + 1)) p l ds (nat_le limit (r + (d + 1))) (omega (arith, low)) (omega arith) rest
    (λ t q here above. limited_are_ends limit t q (p + 1) l ds here above (at_or_below t q (p + 1) here above) rest)
  where
    at_or_below : (t q p : ℕ) → (q ≡ 0 → t ≡ p) → (0 < q → t < p) → t ≤ p
    at_or_below t zero p here above = let e = here refl in omega (arith, e)
    at_or_below t (suc q) p here above = let e = above (omega arith) in omega (arith, e)

-- the weight of a run
weight_between : (xs : List ℕ) (s m : ℕ) → weight (take s xs) + weight (slice_range xs s (s + m)) ≡ weight (take (s + m) xs)
weight_between xs s m =
    let e : s + m - s ≡ m = omega arith in
    ap (λ k. weight (take s xs) + weight (take k (drop s xs))) e
    ∙ ap (λ ys. weight (take s xs) + weight ys) (sym (drop-take s m xs))
    ∙ ap (λ ys. weight ys + weight (drop s (take (s + m) xs))) (sym (take-take s (s + m) xs (omega arith)))
    ∙ sym (sum_by-append (λ d. d + 1) (take s (take (s + m) xs)) (drop s (take (s + m) xs)))
    ∙ ap weight (take-append-drop s (take (s + m) xs))

weight_from : (xs : List ℕ) (s p : ℕ) → s ≤ p → weight (take s xs) + weight (slice_range xs s p) ≡ weight (take p xs)
weight_from xs s p low =
    let e : s + (p - s) ≡ p = omega (arith, low) in
    subst (λ k. weight (take s xs) + weight (slice_range xs s k) ≡ weight (take k xs)) e (weight_between xs s (p - s))

weight_more : (xs : List ℕ) (s p : ℕ) → s ≤ p → p < length xs → weight (slice_range xs s (p + 1)) ≡ weight (slice_range xs s p) + (get_or xs p 0 + 1)
weight_more xs s p low inside =
    let a = weight_from xs s p low in
    let b = weight_from xs s (p + 1) (omega (arith, low)) in
    let c = sum_by_more (λ d. d + 1) xs p 0 inside in
    omega (arith, a, b, c)

weight_none : (xs : List ℕ) (p : ℕ) → weight (slice_range xs p p) ≡ 0
weight_none xs p = let a = weight_from xs p p (omega arith) in omega (arith, a)

-- the run that is not ended
pub record HasReached (limit s r p : ℕ) (all : List ℕ) : Type 0 where
  pub low : s ≤ p
  pub reached : r ≡ weight (slice_range all s p)
  pub below : r < limit

before_last : (limit s p : ℕ) (all : List ℕ) → s < p → p ≤ length all → weight (slice_range all s p) < limit → weight (slice_range all s (p - 1)) < limit
before_last limit s (suc p) all low inside below =
    let e : suc p - 1 ≡ p = omega arith in
    let m = weight_more all s p (omega (arith, low)) (omega (arith, inside)) in
    let f : weight (slice_range all s (p + 1)) < limit = subst (λ k. weight (slice_range all s k) < limit) (let q : suc p ≡ p + 1 = omega arith in q) below in
    subst (λ k. weight (slice_range all s k) < limit) (sym e) (omega (arith, m, f))
before_last limit s zero all low inside below = absurd (omega (arith, low))

some_are_between : (xs : List ℕ) (s p : ℕ) → s ≤ p → 0 < weight (slice_range xs s p) → s < p
some_are_between xs s p low some = grind (arith, weight_none)

-- at the end of the list
last_at_limit : (limit s r p : ℕ) (all : List ℕ) (b : Bool) → (r == 0) ≡ b → p ≡ length all → HasReached limit s r p all → EachEndsAtLimit limit s (cond b [] (p ∷ [])) all
last_at_limit limit s r p all true none whole has = tt
last_at_limit limit s r p all false some whole has =
    let positive : 0 < weight (slice_range all s p) = (let e : 0 < r = grind (arith, nat_tests) in let f = has.reached in omega (arith, e, f)) in (
      record {
        reaches = λ other. absurd (other whole);
        first = before_last limit s p all (some_are_between all s p has.low positive) (omega (arith, whole)) (let e = has.reached in let f = has.below in omega (arith, e, f));
      },
      tt,
    )

-- one vertex more
next_at_limit : (limit s r p d : ℕ) (all ds : List ℕ) (b : Bool) → nat_le limit (r + (d + 1)) ≡ b → p < length all → get_or all p 0 ≡ d → HasReached limit s r p all
    → ((s r : ℕ) → HasReached limit s r (p + 1) all → EachEndsAtLimit limit s (limited_ends limit r (p + 1) ds) all)
    → EachEndsAtLimit limit s (cond b ((p + 1) ∷ limited_ends limit 0 (p + 1) ds) (limited_ends limit (r + (d + 1)) (p + 1) ds)) all
next_at_limit limit s r p d all ds true reached inside at has more =
    let m = weight_more all s p has.low inside in
    let h = has.reached in
    let limit_reached : limit ≤ r + (d + 1) = grind (arith, nat_tests) in
    let e : p + 1 - 1 ≡ p = omega arith in
    let z = weight_none all (p + 1) in (
      record {
        reaches = λ other. omega (arith, m, h, limit_reached, at);
        first = subst (λ k. weight (slice_range all s k) < limit) (sym e) (let b = has.below in omega (arith, b, h));
      },
      more (p + 1) 0 (record { low = omega arith; reached = sym z; below = (let b = has.below in omega (arith, b)) }),
    )
next_at_limit limit s r p d all ds false not_reached inside at has more =
    let m = weight_more all s p has.low inside in
    let h = has.reached in
    let l = has.low in
    more s (r + (d + 1)) (record { low = omega (arith, l); reached = omega (arith, m, h, at); below = grind (arith, nat_tests) })

pub limited_at_limit : (limit s r p : ℕ) (all ds : List ℕ) → drop p all ≡ ds → p ≤ length all → HasReached limit s r p all → EachEndsAtLimit limit s (limited_ends limit r p ds) all
limited_at_limit limit s r p all [] left inside has =
    let n = length-drop p all in
    let z : length (drop p all) ≡ 0 = ap length left in
    last_at_limit limit s r p all (r == 0) refl (omega (arith, n, z, inside)) has
limited_at_limit limit s r p all (d ∷ ds) left inside has =
    let n = length-drop p all in
    let z : length (drop p all) ≡ suc (length ds) = ap length left in
    let more : p < length all = omega (arith, n, z) in
    let at : get_or all p 0 ≡ d = ap (λ k. get_or all k 0) (let q : p ≡ p + 0 = omega arith in q) ∙ sym (get_or-drop p all 0 0) ∙ ap (λ ys. get_or ys 0 0) left in
    let next : drop (p + 1) all ≡ ds = sym (drop-drop 1 p all) ∙ ap (drop 1) left in
    next_at_limit limit s r p d all ds (nat_le limit (r + (d + 1))) refl more at has (λ t q h. limited_at_limit limit t q (p + 1) all ds next (omega (arith, more)) h)

some_weight : (all : List ℕ) → 0 < length all → 0 < weight all
some_weight [] some = absurd (omega (arith, some))
some_weight (d ∷ ds) some = let e = sum_by-cons (λ d. d + 1) d ds in omega (arith, e)

pub begins_at_limit : (limit : ℕ) (all : List ℕ) → (0 < weight all → 0 < limit) → EachEndsAtLimit limit 0 (limited_ends limit 0 0 all) all
begins_at_limit limit [] some = tt
begins_at_limit limit (d ∷ ds) some =
    limited_at_limit limit 0 0 0 (d ∷ ds) (d ∷ ds) refl (omega arith) (record { low = omega arith; reached = sym (weight_none (d ∷ ds) 0); below = some (some_weight (d ∷ ds) (omega arith)) })
