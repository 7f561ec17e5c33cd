-- Blocks of vertices of which some are kept, and the weights that come along.
use Rattle.std.proofs.Common.{◌≡◌, ℕ, zero, suc, ◌+◌, ◌<◌, ℤ, Bool, true, false, List, [], ◌∷◌, length, get_or, set, take, refl, sym, ap, ◌∙◌, subst, arith}
use Rattle.std.proofs.lemmas.List.{drop-set-lt, length-set, take-set}
use Rattle.std.proofs.lemmas.List.Filters.{FiltersInPlace, FiltersInPlace-more_no, FiltersInPlace-more_set}
use Rattle.std.specs.Map.{keys_of, values_of}
use Rattle.edge_fold.specs.Contributions.{weighted_entries}

-- what is read is written at the front, and counts where it passes
pub one_more : {X : Type 0} (p : X → Bool) (xs ys : List X) (k i : ℕ) (x : X) (n : ℕ) (b : Bool) → FiltersInPlace p xs ys k i → i < length ys → p x ≡ b → x ≡ get_or ys i x → (b ≡ true → n ≡ k + 1)
    → (b ≡ false → n ≡ k)
    → FiltersInPlace p xs (set ys k x) n (i + 1)
one_more p xs ys k i x n true at l is here counts stays = subst (λ (m : ℕ). FiltersInPlace p xs (set ys k x) m (i + 1)) (sym (counts refl)) (FiltersInPlace-more_set at l is here)
one_more p xs ys k i x n false at l is here counts stays =
    let passed = FiltersInPlace-more_no at l is here in
    let before = at.behind in
    subst (λ (m : ℕ). FiltersInPlace p xs (set ys k x) m (i + 1)) (sym (stays refl)) (record {
      front = take-set ys k x ∙ passed.front;
      rest = drop-set-lt (i + 1) ys k x (omega (arith, before)) ∙ passed.rest;
      behind = passed.behind;
      within = passed.within;
      long = length-set ys k x ∙ passed.long;
    })

-- the entries of two columns, index by index
pub entries-take : (n : ℕ) (ks : List ℕ) (ws : List ℤ) → length ws ≡ length ks → weighted_entries (take n ks) (take n ws) ≡ take n (weighted_entries ks ws)
entries-take zero ks ws same = refl
entries-take (suc n) [] ws same = refl
entries-take (suc n) (k ∷ ks) [] same = absurd (omega (arith, same))
entries-take (suc n) (k ∷ ks) (w ∷ ws) same = ap (λ es. (k, w) ∷ es) (entries-take n ks ws (omega (arith, same)))

pub entries-set : (i : ℕ) (ks : List ℕ) (ws : List ℤ) (x : ℕ) (w : ℤ) → length ws ≡ length ks → weighted_entries (set ks i x) (set ws i w) ≡ set (weighted_entries ks ws) i (x, w)
entries-set i [] [] x w same = refl
entries-set i [] (v ∷ vs) x w same = absurd (omega (arith, same))
entries-set i (k ∷ ks) [] x w same = absurd (omega (arith, same))
entries-set zero (k ∷ ks) (v ∷ vs) x w same = refl
entries-set (suc i) (k ∷ ks) (v ∷ vs) x w same = ap (λ es. (k, v) ∷ es) (entries-set i ks vs x w (omega (arith, same)))

-- the first entries, read as columns
pub entries_read : (n : ℕ) (es : List (ℕ × ℤ)) → weighted_entries (take n (keys_of es)) (take n (values_of es)) ≡ take n es
entries_read zero es = refl
entries_read (suc n) [] = refl
entries_read (suc n) (e ∷ es) = ap (λ fs. e ∷ fs) (entries_read n es)
