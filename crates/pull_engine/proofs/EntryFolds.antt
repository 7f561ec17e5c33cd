-- Numbers reduced with those of sources and weights.
use Rattle.std.proofs.Common.{◌≡◌, ℕ, ℤ, Bool, List, [], ◌∷◌, ◌++◌, take, drop, refl, sym, ap, ◌∙◌}
use Rattle.std.proofs.lemmas.List.{take-append-drop}
use Rattle.std.proofs.lemmas.List.Elements.{filter-append}
use Rattle.std.specs.List.{filter}
use Rattle.std.specs.Map.{keys_of}
use Rattle.apply_options.specs.declared.reduction.Reduction.{Reduction}
use Rattle.kernels.specs.Arithmetic.{reduced}
use Rattle.edge_fold.specs.EntryNumbers.{reduced_over}
use Rattle.edge_fold.specs.ReducedContributions.{reduced_with}
use Rattle.edge_fold.proofs.WeightColumns.{firsts-filter}
use Rattle.pull_engine.specs.Columns.{passing}

-- numbers of the sources alone
over_sources : (r : Reduction) (number : ℕ → ℤ) (n : ℤ) (es : List (ℕ × ℤ)) → reduced_over r (λ s _. number s) n es ≡ reduced_with r number n (keys_of es)
over_sources r number n [] = refl
over_sources r number n (e ∷ es) = over_sources r number (reduced r n (number e.0)) es

pub over_passing : (r : Reduction) (number : ℕ → ℤ) (n : ℤ) (p : ℕ → Bool) (es : List (ℕ × ℤ)) → reduced_over r (λ s _. number s) n (passing p es) ≡ reduced_with r number n (filter p (keys_of es))
over_passing r number n p es = over_sources r number n (passing p es) ∙ ap (λ (ss : List ℕ). reduced_with r number n ss) (firsts-filter p es)

reduced_over-append : (r : Reduction) (number : ℕ → ℤ → ℤ) (n : ℤ) (xs ys : List (ℕ × ℤ)) → reduced_over r number n (xs ++ ys) ≡ reduced_over r number (reduced_over r number n xs) ys
reduced_over-append r number n [] ys = refl
reduced_over-append r number n (x ∷ xs) ys = reduced_over-append r number (reduced r n (number x.0 x.1)) xs ys

-- one round of a walk over all sources
pub entries_of_round : (p : ℕ → Bool) (r : Reduction) (number : ℕ → ℤ → ℤ) (n m : ℤ) (all rest lent : List (ℕ × ℤ)) (count : ℕ) → rest ≡ drop count all → lent ≡ passing p (take count all)
    → m ≡ reduced_over r number n lent → reduced_over r number m (passing p rest) ≡ reduced_over r number n (passing p all)
entries_of_round p r number n m all rest lent count behind keeps is =
    ap (λ (es : List (ℕ × ℤ)). reduced_over r number m (passing p es)) behind
    ∙ ap (λ (k : ℤ). reduced_over r number k (passing p (drop count all))) (is ∙ ap (λ (es : List (ℕ × ℤ)). reduced_over r number n es) keeps)
    ∙ sym (reduced_over-append r number n (passing p (take count all)) (passing p (drop count all)))
    ∙ ap (λ (es : List (ℕ × ℤ)). reduced_over r number n es)
    (sym (filter-append (λ (e : ℕ × ℤ). p e.0) (take count all) (drop count all)) ∙ ap (λ (es : List (ℕ × ℤ)). passing p es) (take-append-drop count all))
