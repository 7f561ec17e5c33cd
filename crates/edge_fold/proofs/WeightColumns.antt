-- Entries of neighbours, and weights that do not count.
use Rattle.std.proofs.Common.{◌≡◌, ℕ, zero, suc, ◌<◌, ℤ, Bool, true, false, cond, List, [], ◌∷◌, ◌++◌, length, get_or, take, drop, refl, sym, ap, ◌∙◌, arith}
use Rattle.std.specs.List.{filter}
use Rattle.weighted_edges.specs.Edge.{Edge, unit_edge, unit_weight}
use Rattle.apply_options.specs.declared.reduction.Reduction.{Reduction}
use Rattle.typed_tree.specs.FunctionStatementTree.{FunctionStatementsTree}
use Rattle.algorithm_meaning.specs.State.{StateValue}
use Rattle.kernels.specs.Meaning.{given_in}
use Rattle.edge_fold.specs.Between.{firsts}
use Rattle.edge_fold.specs.Folded.{AreWeightless}
use Rattle.edge_fold.specs.Contributions.{all_given, column, weighted_entries, numbers_for_vector, given_on, row}

pub firsts_of : (ks : List ℕ) (ws : List ℤ) → firsts (weighted_entries ks ws) ≡ ks
firsts_of [] ws = refl
firsts_of (k ∷ ks) [] = ap (λ us. k ∷ us) (firsts_of ks [])
firsts_of (k ∷ ks) (w ∷ ws) = ap (λ us. k ∷ us) (firsts_of ks ws)

-- entries of neighbours that pass
firsts_kept : (b : Bool) (e : ℕ × ℤ) (es : List (ℕ × ℤ)) (us : List ℕ) → firsts es ≡ us → firsts (cond b (e ∷ es) es) ≡ cond b (e.0 ∷ us) us
firsts_kept true e es us same = ap (λ vs. e.0 ∷ vs) same
firsts_kept false e es us same = same

pub firsts-filter : (test : ℕ → Bool) (es : List (ℕ × ℤ)) → firsts (filter (λ e. test e.0) es) ≡ filter test (firsts es)
firsts-filter test [] = refl
firsts-filter test (e ∷ es) = firsts_kept (test e.0) e (filter (λ e. test e.0) es) (filter test (firsts es)) (firsts-filter test es)

-- entries in two parts
pub unit_parts : (n : ℕ) (ks : List ℕ) → weighted_entries (take n ks) [] ++ weighted_entries (drop n ks) [] ≡ weighted_entries ks []
unit_parts zero ks = refl
unit_parts (suc n) [] = refl
unit_parts (suc n) (k ∷ ks) = ap (λ es. (k, unit_weight) ∷ es) (unit_parts n ks)

pub entries_parts : (n : ℕ) (ks : List ℕ) (ws : List ℤ) → length ws ≡ length ks → weighted_entries (take n ks) (take n ws) ++ weighted_entries (drop n ks) (drop n ws) ≡ weighted_entries ks ws
entries_parts zero ks ws same = refl
entries_parts (suc n) [] [] same = refl
entries_parts (suc n) [] (w ∷ ws) same = absurd (omega (arith, same))
entries_parts (suc n) (k ∷ ks) [] same = absurd (omega (arith, same))
entries_parts (suc n) (k ∷ ks) (w ∷ ws) same = ap (λ es. (k, w) ∷ es) (entries_parts n ks ws (omega (arith, same)))

-- the entries of two columns, index by index
pub entries-length : (ks : List ℕ) (ws : List ℤ) → length (weighted_entries ks ws) ≡ length ks
entries-length [] ws = refl
entries-length (k ∷ ks) [] = ap suc (entries-length ks [])
entries-length (k ∷ ks) (w ∷ ws) = ap suc (entries-length ks ws)

pub entries-at : (i : ℕ) (ks : List ℕ) (ws : List ℤ) (d : ℕ) (e : ℤ) (f : ℕ × ℤ) → length ws ≡ length ks → i < length ks → (get_or ks i d, get_or ws i e) ≡ get_or (weighted_entries ks ws) i f
entries-at i [] ws d e f same l = absurd (omega (arith, l))
entries-at i (k ∷ ks) [] d e f same l = absurd (omega (arith, same))
entries-at zero (k ∷ ks) (w ∷ ws) d e f same l = refl
entries-at (suc i) (k ∷ ks) (w ∷ ws) d e f same l = entries-at i ks ws d e f (omega (arith, same)) (omega (arith, l))

-- those of a column alone, each with weight 1
pub unit_at : (i : ℕ) (ks : List ℕ) (d : ℕ) (f : ℕ × ℤ) → i < length ks → (get_or ks i d, unit_weight) ≡ get_or (weighted_entries ks []) i f
unit_at i [] d f l = absurd (omega (arith, l))
unit_at zero (k ∷ ks) d f l = refl
unit_at (suc i) (k ∷ ks) d f l = unit_at i ks d f (omega (arith, l))

-- the neighbour at an index
pub first_at : (es : List (ℕ × ℤ)) (i : ℕ) (e : ℕ × ℤ) (d : ℕ) → i < length es → (get_or es i e).0 ≡ get_or (firsts es) i d
first_at [] i e d l = absurd (omega (arith, l))
first_at (f ∷ es) zero e d l = refl
first_at (f ∷ es) (suc i) e d l = first_at es i e d (omega (arith, l))

pub firsts-length : (es : List (ℕ × ℤ)) → length (firsts es) ≡ length es
firsts-length [] = refl
firsts-length (e ∷ es) = ap suc (firsts-length es)

-- what is given on an edge is the same with any weight
pub all_weightless : (m : StateValue) (steps : List FunctionStatementsTree) → AreWeightless m steps → (e : Edge) → all_given m steps e ≡ all_given m steps (unit_edge (e.0, e.1))
all_weightless m [] are e = refl
all_weightless m (s ∷ ss) are e =
    ap (λ (gs : List (ℕ × Reduction × ℤ)). gs ++ all_given m ss e) (are.0 e)
    ∙ ap (λ (gs : List (ℕ × Reduction × ℤ)). given_in m s (unit_edge (e.0, e.1)) ++ gs) (all_weightless m ss are.1 e)

-- so it is on the edges of a row, and on those of a column
unit_row : (x s : ℕ) (g : Edge → List (ℕ × Reduction × ℤ)) → ((e : Edge) → g e ≡ g (unit_edge (e.0, e.1))) → (es : List (ℕ × ℤ))
    → given_on x g (row s (weighted_entries (firsts es) [])) ≡ given_on x g (row s es)
unit_row x s g same [] = refl
unit_row x s g same (e ∷ es) =
    ap (λ (gs : List (ℕ × Reduction × ℤ)). numbers_for_vector x e.0 gs ++ given_on x g (row s (weighted_entries (firsts es) []))) (sym (same (s, e.0, e.1)))
    ∙ ap (λ (gs : List (ℕ × ℤ)). numbers_for_vector x e.0 (g (s, e.0, e.1)) ++ gs) (unit_row x s g same es)

pub weightless_row : (x s : ℕ) (m : StateValue) (steps : List FunctionStatementsTree) (ds : List ℕ) (es : List (ℕ × ℤ)) → AreWeightless m steps → firsts es ≡ ds
    → given_on x (all_given m steps) (row s (weighted_entries ds [])) ≡ given_on x (all_given m steps) (row s es)
weightless_row x s m steps ds es are keys =
    ap (λ (us : List ℕ). given_on x (all_given m steps) (row s (weighted_entries us []))) (sym keys) ∙ unit_row x s (all_given m steps) (all_weightless m steps are) es

unit_column : (x d : ℕ) (g : Edge → List (ℕ × Reduction × ℤ)) → ((e : Edge) → g e ≡ g (unit_edge (e.0, e.1))) → (es : List (ℕ × ℤ))
    → given_on x g (column d (weighted_entries (firsts es) [])) ≡ given_on x g (column d es)
unit_column x d g same [] = refl
unit_column x d g same (e ∷ es) =
    ap (λ (gs : List (ℕ × Reduction × ℤ)). numbers_for_vector x d gs ++ given_on x g (column d (weighted_entries (firsts es) []))) (sym (same (e.0, d, e.1)))
    ∙ ap (λ (gs : List (ℕ × ℤ)). numbers_for_vector x d (g (e.0, d, e.1)) ++ gs) (unit_column x d g same es)

pub weightless_column : (x d : ℕ) (m : StateValue) (steps : List FunctionStatementsTree) (ss : List ℕ) (es : List (ℕ × ℤ)) → AreWeightless m steps → firsts es ≡ ss
    → given_on x (all_given m steps) (column d (weighted_entries ss [])) ≡ given_on x (all_given m steps) (column d es)
weightless_column x d m steps ss es are keys =
    ap (λ (us : List ℕ). given_on x (all_given m steps) (column d (weighted_entries us []))) (sym keys) ∙ unit_column x d (all_given m steps) (all_weightless m steps are) es
