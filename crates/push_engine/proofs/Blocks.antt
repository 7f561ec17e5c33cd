-- Blocks of neighbours that are read from a walk, and what is kept of them.
use Rattle.std.proofs.Common.{◌≡◌, ◌+◌, ◌<◌, ◌≤◌, ℕ, ℤ, Bool, true, false, cond, List, [], ◌∷◌, ◌++◌, get_or, length, set, take, sym, ap, refl, ◌∙◌, arith}
use Rattle.std.proofs.lemmas.List.{append-nil, take-map, take-set, take_more, take_more_set}
use Rattle.std.proofs.lemmas.List.Elements.{filter-append}
use Rattle.std.specs.List.{filter}
use Rattle.std.specs.Map.{keys_of, values_of}
use Rattle.edge_fold.specs.Between.{firsts}
use Rattle.edge_fold.specs.Contributions.{weighted_entries}
use Rattle.edge_fold.proofs.WeightColumns.{firsts-filter}
use Rattle.edge_apply.proofs.Kept.{entries_read}

pub none_left : (es : List (ℕ × ℤ)) → length es ≤ 0 → es ≡ []
none_left [] l = refl
none_left (e ∷ es) l = absurd (omega (arith, l))

-- the neighbours of those that pass are the vertices that are kept
pub keys_kept : (test : ℕ → Bool) (n : ℕ) (coming : List (ℕ × ℤ)) (read kept : List ℕ) → take n read ≡ take n (keys_of coming) → kept ≡ filter test (take n read)
    → firsts (filter (λ e. test e.0) (take n coming)) ≡ kept
keys_kept test n coming read kept filled keeps =
    firsts-filter test (take n coming) ∙ ap (filter test) (sym (take-map (λ (e : ℕ × ℤ). e.0) n coming) ∙ sym filled) ∙ sym keeps

-- so it is with their weights
pub entries_kept : (test : ℕ → Bool) (n : ℕ) (coming : List (ℕ × ℤ)) (keys : List ℕ) (weights : List ℤ) (kept : List (ℕ × ℤ)) → take n keys ≡ take n (keys_of coming)
    → take n weights ≡ take n (values_of coming)
    → kept ≡ filter (λ e. test e.0) (weighted_entries (take n keys) (take n weights)) → kept ≡ filter (λ e. test e.0) (take n coming)
entries_kept test n coming keys weights kept first second keeps =
    keeps ∙ ap (filter (λ e. test e.0)) (
    ap (λ ks. weighted_entries ks (take n weights)) first
    ∙ ap (λ ws. weighted_entries (take n (keys_of coming)) ws) second
    ∙ entries_read n coming
    )

-- one more neighbour is read, and counts if it passes
pub one_read : (p : ℕ → Bool) (xs keys : List ℕ) (k i x n : ℕ) (b : Bool) → i < length xs → k < length keys → p x ≡ b → x ≡ get_or xs i 0 → (b ≡ true → n ≡ k + 1) → (b ≡ false → n ≡ k)
    → take k keys ≡ filter p (take i xs) → take n (set keys k x) ≡ filter p (take (i + 1) xs)
one_read p xs keys k i x n true inside fits is here counts stays at =
    ap (λ m. take m (set keys k x)) (counts refl)
    ∙ take_more_set keys k x fits
    ∙ ap (λ ks. ks ++ x ∷ []) at
    ∙ ap (λ ks. filter p (take i xs) ++ ks) (sym (ap (λ (c : Bool). cond c (x ∷ []) []) is) ∙ ap (λ y. filter p (y ∷ [])) here)
    ∙ sym (filter-append p (take i xs) (get_or xs i 0 ∷ []))
    ∙ ap (filter p) (sym (take_more xs i 0 inside))
one_read p xs keys k i x n false inside fits is here counts stays at =
    ap (λ m. take m (set keys k x)) (stays refl)
    ∙ take-set keys k x
    ∙ at
    ∙ sym (append-nil (filter p (take i xs)))
    ∙ ap (λ ks. filter p (take i xs) ++ ks) (sym (ap (λ (c : Bool). cond c (x ∷ []) []) is) ∙ ap (λ y. filter p (y ∷ [])) here)
    ∙ sym (filter-append p (take i xs) (get_or xs i 0 ∷ []))
    ∙ ap (filter p) (sym (take_more xs i 0 inside))

pub one_at_most : (k n : ℕ) (b : Bool) → (b ≡ true → n ≡ k + 1) → (b ≡ false → n ≡ k) → n ≤ k + 1
one_at_most k n true on off = let e = on refl in omega (arith, e)
one_at_most k n false on off = let e = off refl in omega (arith, e)
