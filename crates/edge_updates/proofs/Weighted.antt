-- Lists in columns, against the list of pairs.
use Rattle.std.proofs.Common.{◌≡◌, ℕ, zero, suc, ◌<◌, ◌≤◌, ℤ, pos, List, [], ◌∷◌, ◌++◌, length, take, drop, get_or, refl, sym, ◌∙◌, ap, arith}
use Rattle.std.proofs.lemmas.List.{get_or_default}
use Rattle.std.specs.Map.{keys_of, values_of}
use Rattle.edge_updates.specs.Weighted.{weighted}

module _ {X : Type 0} where
  -- the things alone
  pub things_of : (xs : List X) (ws : List ℤ) → keys_of (weighted xs ws) ≡ xs
  things_of [] ws = refl
  things_of (x ∷ xs) [] = ap (λ v. x ∷ v) (things_of xs [])
  things_of (x ∷ xs) (w ∷ ws) = ap (λ v. x ∷ v) (things_of xs ws)

  pub length_weighted : (xs : List X) (ws : List ℤ) → length (weighted xs ws) ≡ length xs
  length_weighted [] ws = refl
  length_weighted (x ∷ xs) [] = ap suc (length_weighted xs [])
  length_weighted (x ∷ xs) (w ∷ ws) = ap suc (length_weighted xs ws)

  -- the pair at an index
  pub weighted_at : (xs : List X) (ws : List ℤ) (i : ℕ) (d : X × ℤ) → i < length xs → get_or (weighted xs ws) i d ≡ (get_or xs i d.0, get_or ws i (pos 1))
  weighted_at [] ws i d lt = absurd (omega (arith, lt))
  weighted_at (x ∷ xs) [] zero d lt = refl
  weighted_at (x ∷ xs) [] (suc i) d lt = weighted_at xs [] i d (omega (arith, lt))
  weighted_at (x ∷ xs) (w ∷ ws) zero d lt = refl
  weighted_at (x ∷ xs) (w ∷ ws) (suc i) d lt = weighted_at xs ws i d (omega (arith, lt))

  -- both columns are cut at one index
  pub take_weighted : (n : ℕ) (xs : List X) (ws : List ℤ) → take n (weighted xs ws) ≡ weighted (take n xs) (take n ws)
  take_weighted zero xs ws = refl
  take_weighted (suc n) [] ws = refl
  take_weighted (suc n) (x ∷ xs) [] = ap (λ v. (x, pos 1) ∷ v) (nothing n (take_weighted n xs []))
    where
      nothing : (n : ℕ) → take n (weighted xs []) ≡ weighted (take n xs) (take n []) → take n (weighted xs []) ≡ weighted (take n xs) []
      nothing zero is = refl
      nothing (suc n) is = is
  take_weighted (suc n) (x ∷ xs) (w ∷ ws) = ap (λ v. (x, w) ∷ v) (take_weighted n xs ws)

  pub drop_weighted : (n : ℕ) (xs : List X) (ws : List ℤ) → drop n (weighted xs ws) ≡ weighted (drop n xs) (drop n ws)
  drop_weighted zero xs ws = refl
  drop_weighted (suc n) [] ws = refl
  drop_weighted (suc n) (x ∷ xs) [] = nothing n (drop_weighted n xs [])
    where
      nothing : (n : ℕ) → drop n (weighted xs []) ≡ weighted (drop n xs) (drop n []) → drop n (weighted xs []) ≡ weighted (drop n xs) []
      nothing zero is = refl
      nothing (suc n) is = is
  drop_weighted (suc n) (x ∷ xs) (w ∷ ws) = drop_weighted n xs ws

  -- a column is read no further than the things go
  pub take_column : (n : ℕ) (xs : List X) (ws : List ℤ) → length xs ≤ n → weighted xs (take n ws) ≡ weighted xs ws
  take_column n [] ws le = refl
  take_column zero (x ∷ xs) ws le = absurd (omega (arith, le))
  take_column (suc n) (x ∷ xs) [] le = refl
  take_column (suc n) (x ∷ xs) (w ∷ ws) le = ap (λ v. (x, w) ∷ v) (take_column n xs ws (omega (arith, le)))

take_nothing : (n : ℕ) → take {A = ℤ} n [] ≡ []
take_nothing zero = refl
take_nothing (suc n) = refl

module _ {X : Type 0} where
  -- the weights alone, where the column has one for each thing
  pub weights_of : (xs : List X) (ws : List ℤ) → length ws ≡ length xs → values_of (weighted xs ws) ≡ ws
  weights_of [] [] same = refl
  weights_of [] (w ∷ ws) same = absurd (omega (arith, same))
  weights_of (x ∷ xs) [] same = absurd (omega (arith, same))
  weights_of (x ∷ xs) (w ∷ ws) same = ap (λ v. w ∷ v) (weights_of xs ws (omega (arith, same)))

  -- pairs in columns again
  pub weighted_parts : (es : List (X × ℤ)) → weighted (keys_of es) (values_of es) ≡ es
  weighted_parts [] = refl
  weighted_parts (e ∷ es) = ap (λ v. e ∷ v) (weighted_parts es)

  -- more things and weights after others
  pub weighted_append : (xs ys : List X) (ws vs : List ℤ) → length ws ≡ length xs → weighted (xs ++ ys) (ws ++ vs) ≡ weighted xs ws ++ weighted ys vs
  weighted_append [] ys [] vs same = refl
  weighted_append [] ys (w ∷ ws) vs same = absurd (omega (arith, same))
  weighted_append (x ∷ xs) ys [] vs same = absurd (omega (arith, same))
  weighted_append (x ∷ xs) ys (w ∷ ws) vs same = ap (λ v. (x, w) ∷ v) (weighted_append xs ys ws vs (omega (arith, same)))

  -- a thing of weight 1 more
  pub weighted_one : (xs : List X) (ws : List ℤ) (x : X) → weighted (xs ++ x ∷ []) (take (length xs) ws) ≡ weighted xs ws ++ (x, pos 1) ∷ []
  weighted_one [] ws x = refl
  weighted_one (y ∷ xs) [] x = ap (λ v. (y, pos 1) ∷ v) (ap (λ ws. weighted (xs ++ x ∷ []) ws) (sym (take_nothing (length xs))) ∙ weighted_one xs [] x)
  weighted_one (y ∷ xs) (w ∷ ws) x = ap (λ v. (y, w) ∷ v) (weighted_one xs ws x)

-- the columns of lent things, and what is seen of them
module _ {X : Type 0} (xs : List X) (ws : List ℤ) (es : List (X × ℤ)) (seen : weighted xs ws ≡ es) where
  pub seen_length : length xs ≡ length es
  seen_length = sym (length_weighted xs ws) ∙ ap length seen

  pub seen_thing : (i : ℕ) (d : X × ℤ) (e : X) → i < length es → get_or xs i e ≡ (get_or es i d).0
  seen_thing i d e lt =
      let within : i < length xs = omega (arith, lt, seen_length) in
      get_or_default xs i e d.0 within ∙ sym (ap (λ p. p.0) (weighted_at xs ws i d within)) ∙ ap (λ v. (get_or v i d).0) seen

  pub seen_weight : (i : ℕ) (d : X × ℤ) → i < length es → get_or ws i (pos 1) ≡ (get_or es i d).1
  seen_weight i d lt = sym (ap (λ p. p.1) (weighted_at xs ws i d (omega (arith, lt, seen_length)))) ∙ ap (λ v. (get_or v i d).1) seen
