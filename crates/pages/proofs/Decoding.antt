-- The elements of a packed list, by their indices.
use Rattle.std.proofs.Common.{◌≡◌, ℕ, zero, suc, ◌+◌, ◌-◌, ◌*◌, ◌^◌, ◌<◌, ◌≤◌, ℤ, pos, List, length, get_or, take, drop, refl, sym, ◌∙◌, ap, subst, arith, add-one}
use Rattle.std.proofs.Math.Nat.{mul-le-mul_left}
use Rattle.std.specs.Map.{keys_of, values_of}
use Rattle.std.proofs.lemmas.List.{drop-drop, get_or-map, length-map}
use Rattle.ascending_lists.specs.Ascending.{AscendsFrom}
use Rattle.pages.specs.inside.Numbers.{number_of, number_at}
use Rattle.pages.specs.inside.Packed.{after_first, list_of, entries_of, IsView, IsWeightedView}
use Rattle.edge_updates.proofs.Weighted.{things_of, length_weighted, weights_of}
use Rattle.pages.specs.declared.weights.WeightWidth.{WeightWidth}
use Rattle.pages.specs.inside.Weights.{weight_size, weight_in, weights_from}
use Rattle.pages.proofs.Ascent.{small_at}
use Rattle.pages.proofs.Weighing.{weights_length, weight_found, weights_part}

after_length : (first w n : ℕ) (bytes : List ℕ) → length (after_first first w n bytes) ≡ n
after_length first w zero bytes = refl
after_length first w (suc n) bytes = omega (arith, after_length first w n (drop w bytes))

-- there are as many elements as are asked for
pub list_length : (first w n : ℕ) (bytes : List ℕ) → length (list_of first w n bytes) ≡ n
list_length first w zero bytes = refl
list_length first w (suc n) bytes = omega (arith, after_length first w n bytes)

after_at : (first w n k : ℕ) (bytes : List ℕ) → k < n → get_or (after_first first w n bytes) k 0 ≡ first + number_at w (w * k) bytes
after_at first w zero k bytes lt = absurd (omega arith)
after_at first w (suc n) zero bytes lt =
    let none : 0 ≡ w * 0 = omega arith in
    ap (λ position. first + number_at w position bytes) none
after_at first w (suc n) (suc k) bytes lt =
    let position : w + w * k ≡ w * suc k = omega arith in
    after_at first w n k (drop w bytes) (omega arith)
    ∙ ap (λ ys. first + number_of (take w ys)) (drop-drop (w * k) w bytes ∙ ap (λ p. drop p bytes) position)

-- an element after the first is as far above it as its offset says
pub list_at_more : (first w n k : ℕ) (bytes : List ℕ) → suc k < n → get_or (list_of first w n bytes) (suc k) 0 ≡ first + number_at w (w * k) bytes
list_at_more first w zero k bytes lt = absurd (omega arith)
list_at_more first w (suc n) k bytes lt = after_at first w n k bytes (omega arith)

pub list_at_first : (first w n : ℕ) (bytes : List ℕ) → 0 < n → get_or (list_of first w n bytes) 0 0 ≡ first
list_at_first first w zero bytes lt = absurd (omega arith)
list_at_first first w (suc n) bytes lt = refl

-- one element more
pub times_more : (w k : ℕ) → w * k + w ≡ w * (k + 1)
times_more w k = omega arith

module _ (first w mask n : ℕ) (bytes xs : List ℕ) (ok : IsView first w mask n bytes) (is : list_of first w n bytes ≡ xs) where
  pub count : length xs ≡ n
  count = ap length (sym is) ∙ list_length first w n bytes

  -- an offset may be read as four bytes
  pub room_at : (k : ℕ) → k + 1 < length xs → w * k + 4 ≤ length bytes
  room_at k lt =
      let within : w * (n - 1) + 3 ≤ length bytes = ok.within (omega (arith, count)) in
      let below : w * (k + 1) ≤ w * (n - 1) = mul-le-mul_left w (omega (arith, count)) in
      omega (arith, within, below, times_more w k, ok.some)

  -- what it is above the first
  pub read_at : (k x : ℕ) → k + 1 < length xs → x ≡ number_at w (w * k) bytes → (first + x ≡ get_or xs (k + 1) 0) × (first + x < 2 ^ 32)
  read_at k x lt at =
      let element : get_or (list_of first w n bytes) (suc k) 0 ≡ first + number_at w (w * k) bytes = list_at_more first w n k bytes (omega (arith, count)) in
      let same : first + x ≡ get_or xs (k + 1) 0 = ap (λ v. first + v) at ∙ sym element ∙ ap (λ ys. get_or ys (suc k) 0) is ∙ ap (λ i. get_or xs i 0) (sym (add-one k)) in
      let ascends : AscendsFrom 0 xs = subst (AscendsFrom 0) is ok.ascends in
      (same, omega (arith, same, small_at 0 xs ascends (k + 1) lt))

  pub read_first : 0 < length xs → first ≡ get_or xs 0 0
  read_first lt = sym (list_at_first first w n bytes (omega (arith, count))) ∙ ap (λ ys. get_or ys 0 0) is

  pub ascending : AscendsFrom 0 xs
  ascending = subst (AscendsFrom 0) is ok.ascends

-- a list with its weights
module _ (first w mask n : ℕ) (v : WeightWidth) (bytes : List ℕ) (es : List (ℕ × ℤ)) (ok : IsWeightedView first w mask n v bytes) (is : entries_of first w n v bytes ≡ es) where
  -- its elements alone
  pub keys_seen : list_of first w n bytes ≡ keys_of es
  keys_seen = sym (things_of (list_of first w n bytes) (weights_from v n (drop (w * (n - 1)) bytes))) ∙ ap keys_of is

  pub entry_count : length es ≡ n
  entry_count = ap length (sym is) ∙ length_weighted (list_of first w n bytes) (weights_from v n (drop (w * (n - 1)) bytes)) ∙ list_length first w n bytes

  -- its weights alone
  pub weights_seen : weights_from v n (drop (w * (n - 1)) bytes) ≡ values_of es
  weights_seen =
      sym (weights_of (list_of first w n bytes) (weights_from v n (drop (w * (n - 1)) bytes)) (weights_length v n (drop (w * (n - 1)) bytes) ∙ sym (list_length first w n bytes)))
      ∙ ap values_of is

  -- so many of them from an index on may be read, and are what is there
  pub weights_room : (from m : ℕ) → 0 < m → from + m ≤ length es → w * (n - 1) + weight_size v * from + weight_size v * m ≤ length bytes
  weights_room from m some le =
      let s : ℕ = weight_size v in
      let sum : s * (from + m) ≡ s * from + s * m = omega arith in
      let within : from + m ≤ n = omega (arith, entry_count, le) in
      let below : s * (from + m) ≤ s * n = mul-le-mul_left s within in
      omega (arith, sum, ok.weights (omega (arith, within, some)), below)

  pub weights_are : (from m : ℕ) → from + m ≤ length es → weights_from v m (drop (w * (n - 1) + weight_size v * from) bytes) ≡ take m (drop from (values_of es))
  weights_are from m le =
      ap (weights_from v m) (sym (drop-drop (weight_size v * from) (w * (n - 1)) bytes))
      ∙ sym (weights_part v n from m (drop (w * (n - 1)) bytes) (omega (arith, entry_count, le)))
      ∙ ap (λ ws. take m (drop from ws)) weights_seen

  pub weight_is : (k : ℕ) → k < length es → weight_in v (drop (w * (n - 1) + weight_size v * k) bytes) ≡ (get_or es k (0, pos 1)).1
  weight_is k lt =
      ap (weight_in v) (sym (drop-drop (weight_size v * k) (w * (n - 1)) bytes))
      ∙ sym (weight_found v n k (drop (w * (n - 1)) bytes) (pos 1) (omega (arith, entry_count, lt)))
      ∙ ap (λ ws. get_or ws k (pos 1)) weights_seen
      ∙ get_or-map (λ e. e.1) es k (0, pos 1) (pos 1) lt

pub keys_long : (es : List (ℕ × ℤ)) → length (keys_of es) ≡ length es
keys_long es = length-map es (λ e. e.0)
