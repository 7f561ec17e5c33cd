-- Bytes into which a list is written.
use Rattle.std.proofs.Common.{◌≡◌, ℕ, zero, suc, ◌+◌, ◌-◌, ◌*◌, ◌%◌, ◌^◌, ◌<◌, ◌≤◌, List, [], ◌∷◌, ◌++◌, length, get_or, take, drop, refl, sym, ◌∙◌, ap, arith, add-one}
use Rattle.std.specs.Int.{w32, to_le_bytes}
use Rattle.std.proofs.lemmas.List.{drop-drop, drop-take, take-take, take_more, get_or-take}
use native.Mathlib.Nat.{mod-eq_of_lt}
use Rattle.ascending_lists.specs.Ascending.{AscendsFrom}
use Rattle.pages.specs.inside.Numbers.{number_of, number_at}
use Rattle.pages.specs.inside.Packed.{after_first, list_of, elements_in, span_of}
use Rattle.ascending_lists.proofs.Cutting.{rises}
use Rattle.pages.proofs.Ascent.{small_at}
use Rattle.pages.proofs.Masks.{number_cut}

-- four bytes that a number is written in make the number
pub number_written : (x : ℕ) → x < 2 ^ 32 → number_of (to_le_bytes w32 x) ≡ x
number_written x small = omega arith

small_written : (x i : ℕ) → get_or (to_le_bytes w32 x) i 0 < 256
small_written x zero = omega arith
small_written x (suc zero) = omega arith
small_written x (suc (suc zero)) = omega arith
small_written x (suc (suc (suc zero))) = omega arith
small_written x (suc (suc (suc (suc i)))) = omega arith

-- so do fewer of them, where they are enough
pub cut_written : (w x : ℕ) (bytes : List ℕ) → w ≤ 4 → x < 2 ^ (8 * w) → x < 2 ^ 32 → take 4 bytes ≡ to_le_bytes w32 x → number_of (take w bytes) ≡ x
cut_written w x bytes le small fits is =
    let front : take w bytes ≡ take w (to_le_bytes w32 x) = sym (take-take w 4 bytes le) ∙ ap (take w) is in
    let cut : number_of (to_le_bytes w32 x) % 2 ^ (8 * w) ≡ number_of (take w (to_le_bytes w32 x)) = number_cut w 4 (to_le_bytes w32 x) (small_written x) le in
    ap number_of front ∙ sym cut ∙ ap (λ n. n % 2 ^ (8 * w)) (number_written x fits) ∙ mod-eq_of_lt small

-- a list depends on its own bytes alone
same_after : (first w n m : ℕ) (bytes bytes' : List ℕ) → w * n ≤ m → take m bytes ≡ take m bytes' → after_first first w n bytes ≡ after_first first w n bytes'
same_after first w zero m bytes bytes' le same = refl
same_after first w (suc n) m bytes bytes' le same =
    let room : w + w * n ≤ m = omega arith in
    let k : ℕ = m - w in
    let up : w + k ≡ m = omega arith in
    let here : take w bytes ≡ take w bytes' = sym (take-take w m bytes (omega arith)) ∙ ap (take w) same ∙ take-take w m bytes' (omega arith) in
    let rest : take k (drop w bytes) ≡ take k (drop w bytes') = sym (drop-take w k bytes) ∙ ap (λ j. drop w (take j bytes)) up ∙ ap (drop w) same ∙ sym (ap (λ j. drop w (take j bytes')) up)
    ∙ drop-take w k bytes' in
    rw (here, same_after first w n k (drop w bytes) (drop w bytes') (omega arith) rest) refl

same_list : (first w n m : ℕ) (bytes bytes' : List ℕ) → 0 < n → w * (n - 1) ≤ m → take m bytes ≡ take m bytes' → list_of first w n bytes ≡ list_of first w n bytes'
same_list first w zero m bytes bytes' some le same = absurd (omega arith)
same_list first w (suc n) m bytes bytes' some le same =
    let one : suc n - 1 ≡ n = omega arith in
    let room : w * n ≤ m = rw one at le in
    ap (λ xs. first ∷ xs) (same_after first w n m bytes bytes' room same)

pub same_front : (w n m : ℕ) (bytes bytes' : List ℕ) → 0 < n → 4 + w * (n - 1) ≤ m → take m bytes ≡ take m bytes' → elements_in w n bytes ≡ elements_in w n bytes'
same_front w n m bytes bytes' some le same =
    let k : ℕ = m - 4 in
    let up : 4 + k ≡ m = omega arith in
    let first : take 4 bytes ≡ take 4 bytes' = sym (take-take 4 m bytes (omega arith)) ∙ ap (take 4) same ∙ take-take 4 m bytes' (omega arith) in
    let rest : take k (drop 4 bytes) ≡ take k (drop 4 bytes') = sym (drop-take 4 k bytes) ∙ ap (λ j. drop 4 (take j bytes)) up ∙ ap (drop 4) same ∙ sym (ap (λ j. drop 4 (take j bytes')) up)
    ∙ drop-take 4 k bytes' in
    ap (λ b. list_of (number_of b) w n (drop 4 bytes)) first ∙ same_list (number_of (take 4 bytes')) w n k (drop 4 bytes) (drop 4 bytes') some (omega arith) rest

-- one element more
after_more : (first w n : ℕ) (bytes : List ℕ) → after_first first w (suc n) bytes ≡ after_first first w n bytes ++ (first + number_at w (w * n) bytes) ∷ []
after_more first w zero bytes =
    let none : 0 ≡ w * 0 = omega arith in
    ap (λ p. (first + number_at w p bytes) ∷ []) none
after_more first w (suc n) bytes =
    let position : w + w * n ≡ w * suc n = omega arith in
    let at : drop (w * n) (drop w bytes) ≡ drop (w * suc n) bytes = drop-drop (w * n) w bytes ∙ ap (λ p. drop p bytes) position in
    ap (λ xs. (first + number_of (take w bytes)) ∷ xs) (after_more first w n (drop w bytes))
    ∙ ap (λ ys. (first + number_of (take w bytes)) ∷ (after_first first w n (drop w bytes) ++ (first + number_of (take w ys)) ∷ [])) at

pub elements_more : (w n : ℕ) (bytes : List ℕ) → 0 < n → elements_in w (n + 1) bytes ≡ elements_in w n bytes ++ (number_of (take 4 bytes) + number_at w (4 + w * (n - 1)) bytes) ∷ []
elements_more w zero bytes some = absurd (omega arith)
elements_more w (suc n) bytes some =
    let first : ℕ = number_of (take 4 bytes) in
    let one : suc n - 1 ≡ n = omega arith in
    let at : drop (w * n) (drop 4 bytes) ≡ drop (4 + w * (suc n - 1)) bytes = drop-drop (w * n) 4 bytes ∙ ap (λ k. drop (4 + w * k) bytes) (sym one) in
    ap (λ k. list_of first w k (drop 4 bytes)) (add-one (suc n))
    ∙ ap (λ xs. first ∷ xs) (after_more first w n (drop 4 bytes))
    ∙ ap (λ ys. first ∷ (after_first first w n (drop 4 bytes) ++ (first + number_of (take w ys)) ∷ [])) at

pub elements_one : (w : ℕ) (bytes : List ℕ) (x : ℕ) → x < 2 ^ 32 → take 4 bytes ≡ to_le_bytes w32 x → elements_in w 1 bytes ≡ x ∷ []
elements_one w bytes x small is = ap (λ b. number_of b ∷ []) is ∙ ap (λ n. n ∷ []) (number_written x small)

-- One list more is written: what stands before the new offset stays.
pub element_written : (w n m x : ℕ) (old new xs : List ℕ) → 0 < n → w ≤ 4 → m ≡ 4 + w * (n - 1) → n < length xs → AscendsFrom 0 xs → span_of xs < 2 ^ (8 * w) → x ≡ get_or xs n 0 - get_or xs 0 0
    → take m new ≡ take m old → take 4 (drop m new) ≡ to_le_bytes w32 x → elements_in w n old ≡ take n xs → elements_in w (n + 1) new ≡ take (n + 1) xs
element_written w n m x old new xs some width at within ascends wide is front part so_far =
    let low : get_or xs 0 0 ≤ get_or xs n 0 = rises 0 xs ascends 0 n (omega arith) within in
    let high : get_or xs n 0 ≤ get_or xs (length xs - 1) 0 = rises 0 xs ascends n (length xs - 1) (omega arith) (omega arith) in
    let fits : get_or xs n 0 < 2 ^ 32 = small_at 0 xs ascends n within in
    let offset : number_of (take w (drop m new)) ≡ x = cut_written w x (drop m new) width (omega arith) (omega arith) part in
    let same : elements_in w n new ≡ take n xs = same_front w n m new old some (omega arith) front ∙ so_far in
    let first : number_of (take 4 new) ≡ get_or xs 0 0 = first_is w n new some ∙ ap (λ ys. get_or ys 0 0) same ∙ get_or-take n xs 0 0 some in
    let sum : number_of (take 4 new) + number_at w (4 + w * (n - 1)) new ≡ get_or xs n 0 = ap (λ k. number_of (take 4 new) + number_at w k new) (sym at) ∙ omega (arith, first, offset, is, low) in
    elements_more w n new some ∙ rw (same, sum) (sym (take_more xs n 0 within))
  where
    first_is : (w n : ℕ) (bytes : List ℕ) → 0 < n → number_of (take 4 bytes) ≡ get_or (elements_in w n bytes) 0 0
    first_is w zero bytes some = absurd (omega arith)
    first_is w (suc n) bytes some = refl

-- bytes that stay up to a position stay up to a smaller one, and from a smaller one on
pub front_stays : (position at : ℕ) (new old : List ℕ) → position ≤ at → take at new ≡ take at old → take position new ≡ take position old
front_stays position at new old le same = sym (take-take position at new le) ∙ ap (take position) same ∙ take-take position at old le

pub middle_stays : (position m at : ℕ) (new old : List ℕ) → at ≡ position + m → take at new ≡ take at old → take m (drop position new) ≡ take m (drop position old)
middle_stays position m at new old is same =
    sym (drop-take position m new) ∙ ap (λ k. drop position (take k new)) (sym is) ∙ ap (drop position) same ∙ ap (λ k. drop position (take k old)) is ∙ drop-take position m old
