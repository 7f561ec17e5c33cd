-- Numbers reduced with those of the sources of a list, one by one.
use Rattle.std.proofs.Common.{◌≡◌, ℕ, ◌+◌, ◌<◌, ◌≤◌, ℤ, Bool, true, false, cond, List, [], ◌∷◌, length, take, get_or, refl, sym, ap, ◌∙◌}
use Rattle.std.proofs.lemmas.List.{take_all, take_more}
use Rattle.std.proofs.lemmas.List.Elements.{filter-append}
use Rattle.std.specs.List.{filter}
use Rattle.apply_options.specs.declared.reduction.Reduction.{Reduction}
use Rattle.kernels.specs.Arithmetic.{reduced}
use Rattle.edge_fold.specs.ReducedContributions.{reduced_with}
use Rattle.pull_engine.proofs.Deciding.{reduced_with-append}

one_or_none : (r : Reduction) (number : ℕ → ℤ) (n : ℤ) (x : ℕ) (b : Bool) → reduced_with r number n (cond b (x ∷ []) []) ≡ cond b (reduced r n (number x)) n
one_or_none r number n x true = refl
one_or_none r number n x false = refl

-- one more source
pub one_folded : (r : Reduction) (number : ℕ → ℤ) (p : ℕ → Bool) (old n : ℤ) (xs : List ℕ) (i : ℕ) (b : Bool) → i < length xs → p (get_or xs i 0) ≡ b
    → n ≡ reduced_with r number old (filter p (take i xs)) → cond b (reduced r n (number (get_or xs i 0))) n ≡ reduced_with r number old (filter p (take (i + 1) xs))
one_folded r number p old n xs i b l is was =
    let x = get_or xs i 0 in
    let front = filter p (take i xs) in
    sym (
    ap (λ (ys : List ℕ). reduced_with r number old (filter p ys)) (take_more xs i 0 l)
    ∙ ap (λ (ys : List ℕ). reduced_with r number old ys) (filter-append p (take i xs) (x ∷ []))
    ∙ reduced_with-append r number old front (filter p (x ∷ []))
    ∙ ap (λ (c : Bool). reduced_with r number (reduced_with r number old front) (cond c (x ∷ []) [])) is
    ∙ ap (λ (m : ℤ). reduced_with r number m (cond b (x ∷ []) [])) (sym was)
    ∙ one_or_none r number n x b)

-- all sources
pub all_folded : (r : Reduction) (number : ℕ → ℤ) (p : ℕ → Bool) (old : ℤ) (xs : List ℕ) (i : ℕ) → length xs ≤ i
    → reduced_with r number old (filter p (take i xs)) ≡ reduced_with r number old (filter p xs)
all_folded r number p old xs i l = ap (λ (ys : List ℕ). reduced_with r number old (filter p ys)) (take_all i xs l)
