-- Weights in bytes: by their indices, as they are written, and in columns.
use Rattle.std.proofs.Common.{◌≡◌, ℕ, zero, suc, ◌+◌, ◌-◌, ◌*◌, ◌<◌, ◌≤◌, ℤ, pos, List, [], ◌∷◌, ◌++◌, replicate, length, get_or, slice_set, take, drop, inl, inr, refl, sym, ◌∙◌, ap, subst, arith}
use Rattle.std.proofs.Common.{add-one}
use Rattle.std.proofs.lemmas.Bool.{cases_eq}
use Rattle.std.proofs.lemmas.List.{drop-drop, drop-take, take_more_set}
use Rattle.edge_updates.specs.Weighted.{weighted}
use Rattle.pages.specs.declared.weights.WeightWidth.{WeightWidth}
use Rattle.pages.specs.declared.weights.WeightWidth.TheVariants.{Ones, OneByte, TwoBytes, FourBytes, EightBytes}
use Rattle.std.specs.Int.{w32, w64, cast_signed}
use Rattle.pages.specs.inside.Numbers.{number_of}
use Rattle.pages.specs.inside.Weights.{weight_size, weight_in, weights_from, column_of}
use Rattle.pages.proofs.Encoding.{front_stays, middle_stays}

pub weights_length : (v : WeightWidth) (n : ℕ) (bytes : List ℕ) → length (weights_from v n bytes) ≡ n
weights_length v zero bytes = refl
weights_length v (suc n) bytes = ap suc (weights_length v n (drop (weight_size v) bytes))

-- where the next weight stands
next_position : (s k : ℕ) → s + s * k ≡ s * suc k
next_position s k = omega arith

first_position : (s : ℕ) → 0 ≡ s * 0
first_position s = omega arith

-- the weight at an index
pub weight_found : (v : WeightWidth) (n k : ℕ) (bytes : List ℕ) (d : ℤ) → k < n → get_or (weights_from v n bytes) k d ≡ weight_in v (drop (weight_size v * k) bytes)
weight_found v zero k bytes d lt = absurd (omega (arith, lt))
weight_found v (suc n) zero bytes d lt = ap (λ p. weight_in v (drop p bytes)) (first_position (weight_size v))
weight_found v (suc n) (suc k) bytes d lt =
    weight_found v n k (drop (weight_size v) bytes) d (omega (arith, lt))
    ∙ ap (weight_in v) (drop-drop (weight_size v * k) (weight_size v) bytes ∙ ap (λ p. drop p bytes) (next_position (weight_size v) k))

-- the weights in front, and those from an index on
weights_front : (v : WeightWidth) (n m : ℕ) (bytes : List ℕ) → m ≤ n → take m (weights_from v n bytes) ≡ weights_from v m bytes
weights_front v n zero bytes le = refl
weights_front v zero (suc m) bytes le = absurd (omega (arith, le))
weights_front v (suc n) (suc m) bytes le = ap (λ ws. weight_in v bytes ∷ ws) (weights_front v n m (drop (weight_size v) bytes) (omega (arith, le)))

pub weights_part : (v : WeightWidth) (n from m : ℕ) (bytes : List ℕ) → from + m ≤ n → take m (drop from (weights_from v n bytes)) ≡ weights_from v m (drop (weight_size v * from) bytes)
weights_part v n zero m bytes le = weights_front v n m bytes (omega (arith, le)) ∙ ap (λ p. weights_from v m (drop p bytes)) (first_position (weight_size v))
weights_part v zero (suc from) m bytes le = absurd (omega (arith, le))
weights_part v (suc n) (suc from) m bytes le =
    weights_part v n from m (drop (weight_size v) bytes) (omega (arith, le))
    ∙ ap (weights_from v m) (drop-drop (weight_size v * from) (weight_size v) bytes ∙ ap (λ p. drop p bytes) (next_position (weight_size v) from))

-- weights depend on their own bytes alone
same_weight : (v : WeightWidth) (m : ℕ) (bytes bytes' : List ℕ) → weight_size v ≤ m → take m bytes ≡ take m bytes' → weight_in v bytes ≡ weight_in v bytes'
same_weight Ones m bytes bytes' le same = refl
same_weight OneByte m bytes bytes' le same = ap (λ b. pos (number_of b)) (front_stays 1 m bytes bytes' le same)
same_weight TwoBytes m bytes bytes' le same = ap (λ b. pos (number_of b)) (front_stays 2 m bytes bytes' le same)
same_weight FourBytes m bytes bytes' le same = ap (λ b. cast_signed w32 (number_of b)) (front_stays 4 m bytes bytes' le same)
same_weight EightBytes m bytes bytes' le same = ap (λ b. cast_signed w64 (number_of b)) (front_stays 8 m bytes bytes' le same)

pub same_weights : (v : WeightWidth) (n m : ℕ) (bytes bytes' : List ℕ) → weight_size v * n ≤ m → take m bytes ≡ take m bytes' → weights_from v n bytes ≡ weights_from v n bytes'
same_weights v zero m bytes bytes' le same = refl
same_weights v (suc n) m bytes bytes' le same =
    let s : ℕ = weight_size v in
    let room : s + s * n ≤ m = omega (arith, le, next_position s n) in
    let k : ℕ = m - s in
    let up : s + k ≡ m = omega (arith, room) in
    let rest : take k (drop s bytes) ≡ take k (drop s bytes') = sym (drop-take s k bytes) ∙ ap (λ j. drop s (take j bytes)) up ∙ ap (drop s) same ∙ sym (ap (λ j. drop s (take j bytes')) up)
    ∙ drop-take s k bytes' in
    ap (λ w. w ∷ weights_from v n (drop s bytes)) (same_weight v m bytes bytes' (omega (arith, room)) same)
    ∙ ap (λ ws. weight_in v bytes' ∷ ws) (same_weights v n k (drop s bytes) (drop s bytes') (omega (arith, room, up)) rest)

-- one weight more
weights_more : (v : WeightWidth) (n : ℕ) (bytes : List ℕ) → weights_from v (suc n) bytes ≡ weights_from v n bytes ++ weight_in v (drop (weight_size v * n) bytes) ∷ []
weights_more v zero bytes = ap (λ p. weight_in v (drop p bytes) ∷ []) (first_position (weight_size v))
weights_more v (suc n) bytes =
    let s : ℕ = weight_size v in
    let at : drop (s * n) (drop s bytes) ≡ drop (s * suc n) bytes = drop-drop (s * n) s bytes ∙ ap (λ p. drop p bytes) (next_position s n) in
    ap (λ ws. weight_in v bytes ∷ ws) (weights_more v n (drop s bytes))
    ∙ ap (λ b. weight_in v bytes ∷ (weights_from v n (drop s bytes) ++ weight_in v b ∷ [])) at

column_more : (n : ℕ) (ws : List ℤ) → column_of (suc n) ws ≡ column_of n ws ++ get_or ws n (pos 1) ∷ []
column_more zero [] = refl
column_more zero (w ∷ ws) = refl
column_more (suc n) [] = ap (λ v. pos 1 ∷ v) (column_more n [])
column_more (suc n) (w ∷ ws) = ap (λ v. w ∷ v) (column_more n ws)

-- a weight more is written: those before it stay
pub weight_written : (v : WeightWidth) (n position at : ℕ) (w : ℤ) (old new : List ℕ) (ws : List ℤ) → at ≡ position + weight_size v * n → take at new ≡ take at old → weight_in v (drop at new) ≡ w
    → w ≡ get_or ws n (pos 1) → weights_from v n (drop position old) ≡ column_of n ws → weights_from v (n + 1) (drop position new) ≡ column_of (n + 1) ws
weight_written v n position at w old new ws is front put this so_far =
    let s : ℕ = weight_size v in
    let here : drop (s * n) (drop position new) ≡ drop at new = drop-drop (s * n) position new ∙ ap (λ p. drop p new) (sym is) in
    let before : weights_from v n (drop position new) ≡ column_of n ws = same_weights v n (s * n) (drop position new) (drop position old) (omega arith)
    (middle_stays position (s * n) at new old is front) ∙ so_far in
    ap (λ k. weights_from v k (drop position new)) (add-one n)
    ∙ weights_more v n (drop position new)
    ∙ ap (λ us. us ++ weight_in v (drop (s * n) (drop position new)) ∷ []) before
    ∙ ap (λ x. column_of n ws ++ x ∷ []) (ap (weight_in v) here ∙ put ∙ this)
    ∙ sym (column_more n ws)
    ∙ ap (λ k. column_of k ws) (sym (add-one n))

-- a weight more is read into a block
pub weight_filled : (v : WeightWidth) (n start position : ℕ) (x : ℤ) (bytes : List ℕ) (block : List ℤ) → n < length block → position ≡ start + weight_size v * n → x ≡ weight_in v (drop position bytes)
    → take n block ≡ weights_from v n (drop start bytes) → take (n + 1) (slice_set block n x) ≡ weights_from v (n + 1) (drop start bytes)
weight_filled v n start position x bytes block lt is read so_far =
    let s : ℕ = weight_size v in
    let here : drop position bytes ≡ drop (s * n) (drop start bytes) = ap (λ p. drop p bytes) is ∙ sym (drop-drop (s * n) start bytes) in
    take_more_set block n x lt
    ∙ ap (λ ws. ws ++ x ∷ []) so_far
    ∙ ap (λ w. weights_from v n (drop start bytes) ++ w ∷ []) (read ∙ ap (weight_in v) here)
    ∙ sym (weights_more v n (drop start bytes))
    ∙ ap (λ k. weights_from v k (drop start bytes)) (sym (add-one n))

pub ones_filled : (n : ℕ) (bytes : List ℕ) → replicate n (pos 1) ≡ weights_from Ones n bytes
ones_filled zero bytes = refl
ones_filled (suc n) bytes = ap (λ v. pos 1 ∷ v) (ones_filled n bytes)

-- what is true of the weights before an index and of that at it
pub true_more : (P : ℤ → Type 0) (ws : List ℤ) (n : ℕ) → ((i : ℕ) → i < n → P (get_or ws i (pos 1))) → P (get_or ws n (pos 1)) → (i : ℕ) → i < n + 1 → P (get_or ws i (pos 1))
true_more P ws n before here i lt = elim (cases_eq i n) [ inl at ↦ subst (λ k. P (get_or ws k (pos 1))) (sym at) here | inr other ↦ before i (omega (arith, other, lt)) ]

-- where all are 1, no byte is read
pub ones_written : (n : ℕ) (bytes : List ℕ) (ws : List ℤ) → ((i : ℕ) → get_or ws i (pos 1) ≡ pos 1) → weights_from Ones n bytes ≡ column_of n ws
ones_written zero bytes ws all = refl
ones_written (suc n) bytes [] all = ap (λ v. pos 1 ∷ v) (ones_written n bytes [] (λ i. refl))
ones_written (suc n) bytes (w ∷ ws) all =
    ap (λ x. x ∷ weights_from Ones n bytes) (sym (all 0)) ∙ ap (λ v. w ∷ v) (ones_written n bytes ws (λ i. all (suc i)))

-- a column of n weights
pub column_length : (n : ℕ) (ws : List ℤ) → length (column_of n ws) ≡ n
column_length zero ws = refl
column_length (suc n) [] = ap suc (column_length n [])
column_length (suc n) (w ∷ ws) = ap suc (column_length n ws)

pub column_whole : (n : ℕ) (ws : List ℤ) → length ws ≡ n → column_of n ws ≡ ws
column_whole zero [] same = refl
column_whole zero (w ∷ ws) same = absurd (omega (arith, same))
column_whole (suc n) [] same = absurd (omega (arith, same))
column_whole (suc n) (w ∷ ws) same = ap (λ v. w ∷ v) (column_whole n ws (omega (arith, same)))

pub weighted_column : {X : Type 0} (n : ℕ) (xs : List X) (ws : List ℤ) → n ≡ length xs → weighted xs (column_of n ws) ≡ weighted xs ws
weighted_column n [] ws same = refl
weighted_column zero (x ∷ xs) ws same = absurd (omega (arith, same))
weighted_column (suc n) (x ∷ xs) [] same = ap (λ v. (x, pos 1) ∷ v) (weighted_column n xs [] (omega (arith, same)))
weighted_column (suc n) (x ∷ xs) (w ∷ ws) same = ap (λ v. (x, w) ∷ v) (weighted_column n xs ws (omega (arith, same)))

-- it is cut and filled up with 1
pub padded : (n : ℕ) (ws : List ℤ) → take n ws ++ replicate (n - length (take n ws)) (pos 1) ≡ column_of n ws
padded zero ws = refl
padded (suc n) [] =
    let all : suc n - 0 ≡ suc n = omega arith in
    ap (λ k. replicate k (pos 1)) all ∙ ones (suc n)
  where
    ones : (m : ℕ) → replicate m (pos 1) ≡ column_of m []
    ones zero = refl
    ones (suc m) = ap (λ v. pos 1 ∷ v) (ones m)
padded (suc n) (w ∷ ws) =
    let same : suc n - suc (length (take n ws)) ≡ n - length (take n ws) = omega arith in
    ap (λ k. w ∷ (take n ws ++ replicate k (pos 1))) same ∙ ap (λ v. w ∷ v) (padded n ws)

-- more weights of 1 after others
pub column_ones : (n m : ℕ) (bytes : List ℕ) (ws : List ℤ) → column_of (n + m) (take n ws) ≡ column_of n ws ++ weights_from Ones m bytes
column_ones zero m bytes ws =
    let same : 0 + m ≡ m = omega arith in
    ap (λ k. column_of k []) same ∙ sym (ones_written m bytes [] (λ i. refl))
column_ones (suc n) m bytes [] =
    let same : suc n + m ≡ suc (n + m) = omega arith in
    ap (λ k. column_of k []) same ∙ ap (λ v. pos 1 ∷ v) (ap (column_of (n + m)) (sym (nothing n)) ∙ column_ones n m bytes [])
  where
    nothing : (n : ℕ) → take {A = ℤ} n [] ≡ []
    nothing zero = refl
    nothing (suc n) = refl
column_ones (suc n) m bytes (w ∷ ws) =
    let same : suc n + m ≡ suc (n + m) = omega arith in
    ap (λ k. column_of k (w ∷ take n ws)) same ∙ ap (λ v. w ∷ v) (column_ones n m bytes ws)
