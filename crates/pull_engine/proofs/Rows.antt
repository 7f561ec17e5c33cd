-- Parts of a row of numbers.
use Rattle.std.proofs.Common.{◌≡◌, ℕ, zero, suc, ◌+◌, ◌-◌, ◌≤◌, List, ◌∷◌, take, drop, slice_range, refl, ap, ap₂, ◌∙◌, arith}
use Rattle.std.specs.List.{range_with_len}

drop_range : (k a n : ℕ) → drop k (range_with_len a n) ≡ range_with_len (a + k) (n - k)
drop_range zero a n = let start : a ≡ a + 0 = omega arith in let count : n ≡ n - 0 = omega arith in ap₂ range_with_len start count
drop_range (suc k) a zero = let none : 0 ≡ 0 - suc k = omega arith in ap (λ (n : ℕ). range_with_len (a + suc k) n) none
drop_range (suc k) a (suc n) =
    let start : a + 1 + k ≡ a + suc k = omega arith in
    let count : n - k ≡ suc n - suc k = omega arith in
    drop_range k (a + 1) n ∙ ap₂ range_with_len start count

take_range : (k a n : ℕ) → k ≤ n → take k (range_with_len a n) ≡ range_with_len a k
take_range zero a n le = refl
take_range (suc k) a zero le = absurd (omega (arith, le))
take_range (suc k) a (suc n) le = ap (λ (us : List ℕ). a ∷ us) (take_range k (a + 1) n (omega (arith, le)))

-- the numbers from one on up to another are a part of those below the last
pub part_of_range : (n start end : ℕ) → start ≤ end → end ≤ n → slice_range (range_with_len 0 n) start end ≡ range_with_len start (end - start)
part_of_range n start end order within =
    let some : end - start ≤ n - start = omega (arith, order, within) in
    let first : 0 + start ≡ start = omega arith in
    ap (take (end - start)) (drop_range start 0 n ∙ ap (λ (a : ℕ). range_with_len a (n - start)) first) ∙ take_range (end - start) start (n - start) some
