-- Entries cut at a key.
use Rattle.std.proofs.Common.{◌≡◌, ℕ, ℤ, zero, suc, ◌+◌, ◌-◌, ◌<◌, ◌≤◌, Some, None, List, [], ◌∷◌, ◌++◌, pos, length, get_or, take, drop, slice_range, refl, sym, ◌∙◌, ap, arith, get_or-drop}
use Rattle.std.proofs.Common.{length-drop}
use Rattle.std.specs.Map.{keys_of}
use Rattle.std.specs.Option.{option_or}
use Rattle.std.proofs.lemmas.Bool.{lt-ltb, le-ltb}
use Rattle.std.proofs.lemmas.List.{drop-drop, drop_more, drop-map, get_or-map, take-append-drop}
use Rattle.ascending_lists.specs.Maps.{lookup}
use Rattle.ascending_lists.specs.MapOperations.{entries_below, entries_above}
use Rattle.ascending_lists.proofs.MapCuts.{lookup_append, lookup_first, nothing_below, nothing_above}

-- the entries before an index, where they are those below a key
below_is : (k n : ℕ) (ys : List (ℕ × ℤ)) → ((i : ℕ) → i < n → i < length ys → get_or (keys_of ys) i 0 < k) → ((i : ℕ) → n ≤ i → i < length ys → k ≤ get_or (keys_of ys) i 0)
    → take n ys ≡ entries_below k ys
below_is k zero [] under over = refl
below_is k zero (y ∷ ys) under over = rw (le-ltb y.0 k (over 0 (omega arith) (omega arith))) (below_is k zero ys (λ i lt _. absurd (omega arith)) (λ i le lt. over (suc i) (omega arith) (omega arith)))
below_is k (suc n) [] under over = refl
below_is k (suc n) (y ∷ ys) under over =
    rw (lt-ltb y.0 k (under 0 (omega arith) (omega arith))) (ap (λ zs. y ∷ zs) (below_is k n ys (λ i lt in_list. under (suc i) (omega arith) (omega arith))
    (λ i le lt. over (suc i) (omega arith) (omega arith))))

-- those from an index on, where they are those above it
above_is : (k n : ℕ) (ys : List (ℕ × ℤ)) → ((i : ℕ) → i < n → i < length ys → get_or (keys_of ys) i 0 ≤ k) → ((i : ℕ) → n ≤ i → i < length ys → k < get_or (keys_of ys) i 0)
    → drop n ys ≡ entries_above k ys
above_is k zero [] under over = refl
above_is k zero (y ∷ ys) under over = rw (lt-ltb k y.0 (over 0 (omega arith) (omega arith)))
    (ap (λ zs. y ∷ zs) (above_is k zero ys (λ i lt _. absurd (omega arith)) (λ i le lt. over (suc i) (omega arith) (omega arith))))
above_is k (suc n) [] under over = refl
above_is k (suc n) (y ∷ ys) under over =
    rw (le-ltb k y.0 (under 0 (omega arith) (omega arith))) (above_is k n ys (λ i lt in_list. under (suc i) (omega arith) (omega arith)) (λ i le lt. over (suc i) (omega arith) (omega arith)))

-- the same from an index on
module _ (k from j : ℕ) (xs : List (ℕ × ℤ)) (le : from ≤ j) where
  at : (i : ℕ) → get_or (keys_of (drop from xs)) i 0 ≡ get_or (keys_of xs) (from + i) 0
  at i = ap (λ ys. get_or ys i 0) (sym (drop-map (λ e. e.0) from xs)) ∙ get_or-drop from (keys_of xs) i 0

  pub cut_below : ((i : ℕ) → from ≤ i → i < j → i < length xs → get_or (keys_of xs) i 0 < k) → ((i : ℕ) → j ≤ i → i < length xs → k ≤ get_or (keys_of xs) i 0)
      → slice_range xs from j ≡ entries_below k (drop from xs)
  cut_below under over =
      below_is k (j - from) (drop from xs)
      (λ i lt in_list. omega (arith, at i, under (from + i) (omega arith) (omega arith) (omega (arith, length-drop from xs))))
      (λ i ge in_list. omega (arith, at i, over (from + i) (omega arith) (omega (arith, length-drop from xs))))

  pub cut_above : ((i : ℕ) → from ≤ i → i < j → i < length xs → get_or (keys_of xs) i 0 ≤ k) → ((i : ℕ) → j ≤ i → i < length xs → k < get_or (keys_of xs) i 0)
      → drop j xs ≡ entries_above k (drop from xs)
  cut_above under over =
      let back : from + (j - from) ≡ j = omega arith in
      ap (λ n. drop n xs) (sym back) ∙ sym (drop-drop (j - from) from xs)
      ∙ above_is k (j - from) (drop from xs)
      (λ i lt in_list. omega (arith, at i, under (from + i) (omega arith) (omega arith) (omega (arith, length-drop from xs))))
      (λ i ge in_list. omega (arith, at i, over (from + i) (omega arith) (omega (arith, length-drop from xs))))

-- the weight of a key that stands at an index, and of one that would stand there
module _ (k at : ℕ) (es : List (ℕ × ℤ)) (front : slice_range es 0 at ≡ entries_below k (drop 0 es)) where
  parts : (r : List (ℕ × ℤ)) → drop at es ≡ r → lookup k es ≡ lookup k r
  parts r is =
      let all : at - 0 ≡ at = omega arith in
      let under : take at es ≡ entries_below k es = ap (λ n. take n es) (sym all) ∙ front in
      ap (lookup k) (sym (take-append-drop at es) ∙ ap (λ l. l ++ drop at es) under ∙ ap (λ l. entries_below k es ++ l) is)
      ∙ lookup_append k (entries_below k es) r
      ∙ ap (λ o. option_or o (lookup k r)) (nothing_below k k es (omega arith))

  pub weight_there : at < length es → get_or (keys_of es) at 0 ≡ k → Some (get_or es at (0, pos 1)).1 ≡ lookup k es
  weight_there lt is =
      let e : ℕ × ℤ = get_or es at (0, pos 1) in
      let key : e.0 ≡ k = sym (get_or-map (λ e. e.0) es at (0, pos 1) 0 lt) ∙ is in
      sym (parts (e ∷ drop (at + 1) es) (drop_more es at (0, pos 1) lt) ∙ lookup_first e (drop (at + 1) es) k key)

  pub weight_missing : (next : ℕ) → at ≡ next → drop next es ≡ entries_above k (drop 0 es) → lookup k es ≡ None
  weight_missing next same back = parts (entries_above k es) (ap (λ n. drop n es) same ∙ back) ∙ nothing_above k k es (omega arith)
