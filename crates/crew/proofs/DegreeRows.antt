-- Sums at numbers in a row, and the weight of the degrees of vertices in a row.
use Rattle.std.proofs.Common.{◌≡◌, ◌≢◌, ℕ, zero, suc, ◌+◌, ◌-◌, ◌<◌, ◌≤◌, inl, inr, min, List, [], ◌∷◌, length, map, take, drop, slice_range, refl, sym, ap, ap₂, ◌∙◌, arith}
use Rattle.std.specs.List.{range_with_len, sum_by}
use Rattle.std.proofs.Math.Nat.{suc-min-suc}
use Rattle.std.proofs.lemmas.Bool.{cases_eq}
use Rattle.std.proofs.lemmas.List.{drop-map, take_min}
use Rattle.std.proofs.lemmas.List.FromFn.{length-map-range_with_len, length-range_with_len, take-map-range_with_len}
use Rattle.std.proofs.lemmas.List.Sums.{sum_by-cons, sum_by-take-drop, sum_by-take-le}
use Rattle.crew.specs.Limits.{weight}

-- the rest of a row
drop_range : (k a n : ℕ) → drop k (range_with_len a n) ≡ range_with_len (a + k) (n - k)
drop_range zero a n = let start : a ≡ a + 0 = omega arith in let count : n ≡ n - 0 = omega arith in ap₂ range_with_len start count
drop_range (suc k) a zero = let none : 0 ≡ 0 - suc k = omega arith in ap (λ (n : ℕ). range_with_len (a + suc k) n) none
drop_range (suc k) a (suc n) =
    let start : a + 1 + k ≡ a + suc k = omega arith in
    let count : n - k ≡ suc n - suc k = omega arith in
    drop_range k (a + 1) n ∙ ap₂ range_with_len start count

-- sums of functions that agree there
pub range_same : (f g : ℕ → ℕ) (a n : ℕ) → ((v : ℕ) → a ≤ v → f v ≡ g v) → sum_by f (range_with_len a n) ≡ sum_by g (range_with_len a n)
range_same f g a zero same = refl
range_same f g a (suc n) same =
    sum_by-cons f a (range_with_len (a + 1) n)
    ∙ ap₂ (λ x y. x + y) (same a (omega arith)) (range_same f g (a + 1) n (λ v l. same v (omega (arith, l))))
    ∙ sym (sum_by-cons g a (range_with_len (a + 1) n))

-- the sum of a function that is zero there
pub range_none : (f : ℕ → ℕ) (a n : ℕ) → ((v : ℕ) → a ≤ v → f v ≡ 0) → sum_by f (range_with_len a n) ≡ 0
range_none f a zero none = refl
range_none f a (suc n) none =
    let whole = sum_by-cons f a (range_with_len (a + 1) n) in
    let here = none a (omega arith) in
    let rest = range_none f (a + 1) n (λ v l. none v (omega (arith, l))) in
    omega (arith, whole, here, rest)

-- the sum of a function that is one more at one number
pub range_one_more : (f g : ℕ → ℕ) (d a n : ℕ) → a ≤ d → d < a + n → f d ≡ g d + 1 → ((v : ℕ) → v ≢ d → f v ≡ g v) → sum_by f (range_with_len a n) ≡ sum_by g (range_with_len a n) + 1
range_one_more f g d a zero low high more same = absurd (omega (arith, low, high))
range_one_more f g d a (suc n) low high more same =
    let of_f = sum_by-cons f a (range_with_len (a + 1) n) in
    let of_g = sum_by-cons g a (range_with_len (a + 1) n) in
    elim (cases_eq a d) [
      | inl at ↦
          let here : f a ≡ g a + 1 = ap f at ∙ more ∙ ap (λ k. g k + 1) (sym at) in
          let rest = range_same f g (a + 1) n (λ v l. same v (omega (arith, l, at))) in
          omega (arith, of_f, of_g, here, rest)
      | inr other ↦
          let here = same a other in
          let rest = range_one_more f g d (a + 1) n (omega (arith, low, other)) (omega (arith, high)) more same in
          omega (arith, of_f, of_g, here, rest)
    ]

-- numbers that add nothing may be left out
pub range_cut : (f : ℕ → ℕ) (a k m : ℕ) → ((v : ℕ) → a + m ≤ v → f v ≡ 0) → sum_by f (range_with_len a k) ≡ sum_by f (range_with_len a (min k m))
range_cut f a zero m none = ap (λ n. sum_by f (range_with_len a n)) (let e : 0 ≡ min 0 m = omega arith in e)
range_cut f a (suc k) zero none =
    range_none f a (suc k) (λ v l. none v (omega (arith, l))) ∙ ap (λ n. sum_by f (range_with_len a n)) (let e : 0 ≡ min (suc k) 0 = omega arith in e)
range_cut f a (suc k) (suc m) none =
    sum_by-cons f a (range_with_len (a + 1) k)
    ∙ ap (λ n. f a + n) (range_cut f (a + 1) k m (λ v l. none v (omega (arith, l))))
    ∙ sym (sum_by-cons f a (range_with_len (a + 1) (min k m)))
    ∙ ap (λ n. sum_by f (range_with_len a n)) (sym (suc-min-suc k m))

-- sums at numbers in two rows
pub range_shifted : (f g : ℕ → ℕ) (a b n : ℕ) → ((i : ℕ) → i < n → f (a + i) ≡ g (b + i)) → sum_by f (range_with_len a n) ≡ sum_by g (range_with_len b n)
range_shifted f g a b zero same = refl
range_shifted f g a b (suc n) same =
    let of_f = sum_by-cons f a (range_with_len (a + 1) n) in
    let of_g = sum_by-cons g b (range_with_len (b + 1) n) in
    let first : f a ≡ g b = ap f (let e : a ≡ a + 0 = omega arith in e) ∙ same 0 (omega arith) ∙ ap g (let e : b + 0 ≡ b = omega arith in e) in
    let rest = range_shifted f g (a + 1) (b + 1) n
    (λ i l. ap f (let e : a + 1 + i ≡ a + suc i = omega arith in e) ∙ same (suc i) (omega (arith, l)) ∙ ap g (let e : b + suc i ≡ b + 1 + i = omega arith in e)) in
    omega (arith, of_f, of_g, first, rest)

-- the weight of degrees
pub weight-map : (f : ℕ → ℕ) (us : List ℕ) → weight (map f us) ≡ sum_by f us + length us
weight-map f [] = refl
weight-map f (u ∷ us) =
    let whole = sum_by-cons (λ d. d + 1) (f u) (map f us) in
    let part = sum_by-cons f u us in
    let rest = weight-map f us in
    omega (arith, whole, part, rest)

-- a run of degrees, which is shorter at the end of the row
pub run_of : (f : ℕ → ℕ) (n s k : ℕ) → slice_range (map f (range_with_len 0 n)) s (s + k) ≡ map f (range_with_len s (min k (n - s)))
run_of f n s k =
    let part : s + k - s ≡ k = omega arith in
    let first : 0 + s ≡ s = omega arith in
    let row = map f (range_with_len s (n - s)) in
    let count = length-map-range_with_len f s (n - s) in
    ap (λ j. take j (drop s (map f (range_with_len 0 n)))) part
    ∙ ap (take k) (drop-map f s (range_with_len 0 n) ∙ ap (map f) (drop_range s 0 n ∙ ap (λ a. range_with_len a (n - s)) first))
    ∙ sym (take_min k row)
    ∙ ap (λ m. take (min k m) row) count
    ∙ take-map-range_with_len f s (n - s) (min k (n - s)) (omega arith)

-- the weight of a run, by the sum at 64 numbers, of which those past the row add nothing
pub run_weight : (f : ℕ → ℕ) (n s k : ℕ) → ((v : ℕ) → n ≤ v → f v ≡ 0) → sum_by f (range_with_len s k) + min (n - s) k ≡ weight (slice_range (map f (range_with_len 0 n)) s (s + k))
run_weight f n s k none =
    let cut = range_cut f s k (n - s) (λ v l. none v (omega (arith, l))) in
    let sum = weight-map f (range_with_len s (min k (n - s))) in
    let count = length-range_with_len s (min k (n - s)) in
    let run = ap weight (run_of f n s k) in
    omega (arith, cut, sum, count, run)

-- a run is a part of all
pub run_below : (ds : List ℕ) (s k : ℕ) → weight (slice_range ds s (s + k)) ≤ weight ds
run_below ds s k =
    let front = sum_by-take-le (λ d. d + 1) (drop s ds) (s + k - s) in
    let parts = sum_by-take-drop (λ d. d + 1) ds s in
    omega (arith, front, parts)
