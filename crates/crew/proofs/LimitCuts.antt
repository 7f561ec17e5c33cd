-- Runs that do not reach the limit.
use Rattle.std.proofs.Common.{◌≡◌, ℕ, zero, suc, ◌+◌, ◌-◌, ◌<◌, nat_le, min, List, [], ◌∷◌, ◌++◌, length, take, drop, slice_range, sym, ap, ap₂, ◌∙◌, arith, length-drop}
use Rattle.std.proofs.lemmas.Bool.{lt-leb, cond-false}
use Rattle.std.proofs.lemmas.List.{drop-drop, drop_min}
use Rattle.std.proofs.lemmas.List.Sums.{sum_by-cons, sum_by-take-drop}
use Rattle.crew.specs.Limits.{limited_ends, weight}
use Rattle.crew.specs.inside.Cuts.{CutsOn}

-- vertices that do not reach the limit
passed : (limit r i k : ℕ) (ds : List ℕ) → r + weight (take k ds) < limit → limited_ends limit r i ds ≡ limited_ends limit (r + weight (take k ds)) (i + min k (length ds)) (drop k ds)
passed limit r i zero ds below =
    ap₂ (λ a b. limited_ends limit a b ds) (let e : r ≡ r + 0 = omega arith in e) (let e : i ≡ i + min 0 (length ds) = omega arith in e)
passed limit r i (suc k) [] below =
    ap₂ (λ a b. limited_ends limit a b []) (let e : r ≡ r + 0 = omega arith in e) (let e : i ≡ i + min (suc k) 0 = omega arith in e)
passed limit r i (suc k) (d ∷ ds) below =
    let whole = sum_by-cons (λ d. d + 1) d (take k ds) in
    let sum : r + (d + 1) + weight (take k ds) ≡ r + weight (d ∷ take k ds) = omega (arith, whole) in
    let index : i + 1 + min k (length ds) ≡ i + min (suc k) (suc (length ds)) = omega arith in
    let here : r + (d + 1) < limit = omega (arith, whole, below) in
    let rest : r + (d + 1) + weight (take k ds) < limit = omega (arith, sum, below) in
    cond-false (nat_le limit (r + (d + 1))) _ _ (lt-leb limit (r + (d + 1)) here)
    ∙ passed limit (r + (d + 1)) (i + 1) k ds rest
    ∙ ap₂ (λ a b. limited_ends limit a b (drop k ds)) sum index

-- a run that does not reach the limit
pub cuts_run : (limit : ℕ) (ds : List ℕ) (r s k w n : ℕ) (es : List ℕ) → s < length ds → w ≡ weight (slice_range ds s (s + k)) → n ≡ r + w → n < limit
    → CutsOn limit ds r s es n (min (s + k) (length ds)) es
cuts_run limit ds r s k w n es inside is sum below =
    let part : s + k - s ≡ k = omega arith in
    let run : w ≡ weight (take k (drop s ds)) = is ∙ ap (λ j. weight (take j (drop s ds))) part in
    let whole : n ≡ r + weight (take k (drop s ds)) = omega (arith, sum, run) in
    let left = length-drop s ds in
    let stop : s + min k (length (drop s ds)) ≡ min (s + k) (length ds) = omega (arith, left, inside) in
    let rest : drop k (drop s ds) ≡ drop (min (s + k) (length ds)) ds = drop-drop k s ds ∙ sym (drop_min (s + k) ds) in
    let few : r + weight (take k (drop s ds)) < limit = omega (arith, whole, below) in
    let parts = sum_by-take-drop (λ d. d + 1) (drop s ds) k in
    let after = ap weight rest in
    record {
      ends = ap (λ fs. es ++ fs)
          (sym (passed limit r s k (drop s ds) few
          ∙ ap₂ (λ a b. limited_ends limit a b (drop k (drop s ds))) (sym whole) stop
          ∙ ap (λ xs. limited_ends limit n (min (s + k) (length ds)) xs) rest));
      fits = omega (arith, whole, parts, after);
    }
