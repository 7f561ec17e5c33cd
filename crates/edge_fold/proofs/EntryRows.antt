-- Numbers of sources and weights, one after the other.
use Rattle.std.proofs.Common.{◌≡◌, ℕ, pos, ◌+◌, ◌<◌, ◌==◌, ℤ, cond, List, [], ◌∷◌, ◌++◌, length, get_or, drop, refl, sym, ap, ◌∙◌}
use Rattle.std.proofs.lemmas.List.{drop_more}
use Rattle.weighted_edges.specs.Edge.{Edge}
use Rattle.apply_options.specs.declared.reduction.Reduction.{Reduction}
use Rattle.algorithm_meaning.specs.Arithmetic.{reduced}
use Rattle.edge_fold.specs.declared.apply_context.SourceContribution.{SourceContribution}
use Rattle.edge_fold.specs.inside.EntryNumbers.{IsEntryContribution, IsReducedOver, each_weighed, entry_numbers_given}
use Rattle.edge_fold.specs.EntryNumbers.{reduced_over}
use Rattle.edge_fold.specs.Contributions.{column, weighted_entries, numbers_for_vector, given_on, reduced_at, row}
use Rattle.edge_fold.specs.inside.Contributions.{each_given}
use Rattle.edge_fold.proofs.Columns.{equal, grouped, joined_at, nothing_either, one_for}

pub one_entry_more : (r : Reduction) (f : ℕ → ℤ → ℤ) (n : ℤ) (k : ℕ) (es : List (ℕ × ℤ)) → k < length es
    → reduced_over r f (reduced r n (f (get_or es k (0, pos 1)).0 (get_or es k (0, pos 1)).1)) (drop (k + 1) es) ≡ reduced_over r f n (drop k es)
one_entry_more r f n k es l = sym (ap (λ (xs : List (ℕ × ℤ)). reduced_over r f n xs) (drop_more es k (0, pos 1) l))

-- one more entry of a row, whose number was joined
pub one_weight_more : (r : Reduction) (v : ℕ) (f : ℤ → ℤ) (now next : ℤ) (k u : ℕ) (n : ℤ) (es : List (ℕ × ℤ)) → k < length es → u ≡ (get_or es k (0, pos 1)).0 → n ≡ f (get_or es k (0, pos 1)).1
    → next ≡ reduced_at r v now ((u, n) ∷ []) → reduced_at r v next (each_weighed f (drop (k + 1) es)) ≡ reduced_at r v now (each_weighed f (drop k es))
one_weight_more r v f now next k u n es l at of is =
    ap (λ (y : ℤ). reduced_at r v y (each_weighed f (drop (k + 1) es)))
    (is ∙ ap (λ (w : ℕ). reduced_at r v now ((w, n) ∷ [])) at ∙ ap (λ (m : ℤ). reduced_at r v now (((get_or es k (0, pos 1)).0, m) ∷ [])) of)
    ∙ sym (ap (λ (xs : List (ℕ × ℤ)). reduced_at r v now (each_weighed f xs)) (drop_more es k (0, pos 1) l))

-- what a row gives, a number for each weight
pub weighed_row : (x y source : ℕ) (r : Reduction) (number : ℤ → ℤ) (g : Edge → List (ℕ × Reduction × ℤ)) → ((d : ℕ) (w : ℤ) → g (source, d, w) ≡ (y, r, number w) ∷ []) → (es : List (ℕ × ℤ))
    → given_on x g (row source es) ≡ cond (y == x) (each_weighed number es) []
weighed_row x y source r number g same [] = nothing_either (y == x) [] refl
weighed_row x y source r number g same (e ∷ es) =
    ap (λ (gs : List (ℕ × Reduction × ℤ)). numbers_for_vector x e.0 gs ++ given_on x g (row source es)) (same e.0 e.1)
    ∙ one_for y x e.0 (number e.1) (y == x) (each_weighed number es) (given_on x g (row source es)) (weighed_row x y source r number g same es)

-- a column's numbers, reduced to one before they are joined
over_first : (r : Reduction) (f : ℕ → ℤ → ℤ) (d v : ℕ) (h n : ℤ) (es : List (ℕ × ℤ)) → reduced_at r v h ((d, reduced_over r f n es) ∷ []) ≡ reduced_at r v h ((d, n) ∷ entry_numbers_given f d es)
over_first r f d v h n [] = refl
over_first r f d v h n (e ∷ es) =
    over_first r f d v h (reduced r n (f e.0 e.1)) es
    ∙ ap (λ (y : ℤ). reduced_at r v y (entry_numbers_given f d es)) (grouped r h n (f e.0 e.1) (d == v))

pub is_reduced_over : (r : Reduction) (f : ℕ → ℤ → ℤ) (s : ℕ) (w : ℤ) (all ss : List ℕ) (weights ws : List ℤ) (n first : ℤ) → all ≡ s ∷ ss → weights ≡ w ∷ ws → first ≡ f s w
    → n ≡ reduced_over r f first (weighted_entries ss ws)
    → IsReducedOver r f (weighted_entries all weights) n
is_reduced_over r f s w all ss weights ws n first whole weighed begins is d v h =
    ap (λ (y : ℤ). reduced_at r v h ((d, y) ∷ [])) (is ∙ ap (λ (y : ℤ). reduced_over r f y (weighted_entries ss ws)) begins)
    ∙ over_first r f d v h (f s w) (weighted_entries ss ws)
    ∙ sym (ap (λ (us : List ℕ). reduced_at r v h (entry_numbers_given f d (weighted_entries us weights))) whole
    ∙ ap (λ (qs : List ℤ). reduced_at r v h (entry_numbers_given f d (weighted_entries (s ∷ ss) qs))) weighed)

weighed_column : (x y d : ℕ) (r : Reduction) (number : ℕ → ℤ → ℤ) (g : Edge → List (ℕ × Reduction × ℤ)) → ((s d : ℕ) (w : ℤ) → g (s, d, w) ≡ (y, r, number s w) ∷ []) → (es : List (ℕ × ℤ))
    → given_on x g (column d es) ≡ cond (y == x) (entry_numbers_given number d es) []
weighed_column x y d r number g same [] = nothing_either (y == x) [] refl
weighed_column x y d r number g same (e ∷ es) =
    ap (λ (gs : List (ℕ × Reduction × ℤ)). numbers_for_vector x d gs ++ given_on x g (column d es)) (same e.0 d e.1)
    ∙ one_for y x d (number e.0 e.1) (y == x) (entry_numbers_given number d es) (given_on x g (column d es)) (weighed_column x y d r number g same es)

-- to join what is sent is to join what the edges of a column give
pub weighed_together : (r : Reduction) (x d v : ℕ) (h : ℤ) (contribution : SourceContribution) (g : Edge → List (ℕ × Reduction × ℤ)) (es : List (ℕ × ℤ)) → IsEntryContribution contribution g es
    → (contribution.vector ≡ x → contribution.reduction ≡ r)
    → reduced_at r v h (cond (contribution.vector == x) (each_given contribution.number (d ∷ [])) []) ≡ reduced_at r v h (given_on x g (column d es))
weighed_together r x d v h contribution g es is own =
    joined_at r contribution.reduction v h (each_given contribution.number (d ∷ [])) (entry_numbers_given is.number d es) (contribution.vector == x) (λ at. own (equal contribution.vector x at))
    (is.all d v h)
    ∙ sym (ap (λ (gs : List (ℕ × ℤ)). reduced_at r v h gs) (weighed_column x contribution.vector d contribution.reduction is.number g is.each es))
