-- Numbers that are given to the ends of edges, by two functions for vectors that differ.
use Rattle.std.proofs.Common.{◌≡◌, ℕ, zero, suc, ◌==◌, ℤ, pos, true, false, not, List, [], ◌∷◌, ◌++◌, slice_index_or, slice_set, ap, sym, ◌∙◌, refl, arith}
use Rattle.std.proofs.lemmas.Bool.Decides.{nat_tests}
use Rattle.weighted_edges.specs.Edge.{Edge}
use Rattle.typed_tree.specs.FunctionStatementTree.{FunctionStatementsTree}
use Rattle.algorithm_meaning.specs.Arithmetic.{reduced}
use Rattle.algorithm_meaning.specs.Value.{reduce_at}
use Rattle.algorithm_meaning.specs.EdgeApply.{all_give, with_given, after_edges}
use Rattle.algorithm_meaning.specs.declared.state.SetBinding.{SetBinding}
use Rattle.algorithm_meaning.specs.declared.contribution.Contribution.{Contribution}
use Rattle.plans.proofs.GivenVectors.{AreFor}

-- the rows at two indices are changed in any order
rows_change : (xs : List (List ℤ)) (a b : ℕ) (f g : List ℤ → List ℤ) → (a == b) ≡ false
    → slice_set (slice_set xs a (f (slice_index_or xs a []))) b (g (slice_index_or (slice_set xs a (f (slice_index_or xs a []))) b []))
    ≡ slice_set (slice_set xs b (g (slice_index_or xs b []))) a (f (slice_index_or (slice_set xs b (g (slice_index_or xs b []))) a []))
rows_change [] a b f g h = refl
rows_change (x ∷ xs) zero zero f g h = absurd (grind (arith, nat_tests))
rows_change (x ∷ xs) zero (suc b) f g h = refl
rows_change (x ∷ xs) (suc a) zero f g h = refl
rows_change (x ∷ xs) (suc a) (suc b) f g h =
    let apart : (a == b) ≡ false = grind (arith, nat_tests) in
    ap (λ (rest : List (List ℤ)). x ∷ rest) (rows_change xs a b f g apart)

other_row : (xs : List (List ℤ)) (a b : ℕ) (row : List ℤ) → (a == b) ≡ false → slice_index_or (slice_set xs a row) b [] ≡ slice_index_or xs b []
other_row [] a b row h = refl
other_row (x ∷ xs) zero zero row h = absurd (grind (arith, nat_tests))
other_row (x ∷ xs) zero (suc b) row h = refl
other_row (x ∷ xs) (suc a) zero row h = refl
other_row (x ∷ xs) (suc a) (suc b) row h = let apart : (a == b) ≡ false = grind (arith, nat_tests) in other_row xs a b row apart

-- what a number does to a row
abbrev row_after : ℕ → Contribution → List ℤ → List ℤ
row_after v c row = slice_set row v (reduced c.reduction (slice_index_or row v (pos 0)) c.number)

abbrev after_number : ℕ → Contribution → List (List ℤ) → List (List ℤ)
after_number v c xs = reduce_at xs c.vector v c.reduction c.number

differs : (a b : ℕ) → not (a == b) ≡ true → (a == b) ≡ false
differs a b h = grind (arith, nat_tests)

numbers_swap : (u v : ℕ) (c d : Contribution) (xs : List (List ℤ)) → (c.vector == d.vector) ≡ false → after_number v d (after_number u c xs) ≡ after_number u c (after_number v d xs)
numbers_swap u v c d xs h = rows_change xs c.vector d.vector (row_after u c) (row_after v d) h

-- a number goes after others that are for vectors other than its own
goes_after : (u v : ℕ) (d : Contribution) (cs : List Contribution) (xs : List (List ℤ)) → AreFor (λ x. not (x == d.vector)) cs
    → with_given u cs (after_number v d xs) ≡ after_number v d (with_given u cs xs)
goes_after u v d [] xs h = refl
goes_after u v d (c ∷ cs) xs h =
    ap (with_given u cs) (sym (numbers_swap u v c d xs (differs c.vector d.vector h.0))) ∙ goes_after u v d cs (after_number u c xs) h.1

-- none of the first numbers is for a vector of the second
abbrev pub AreForOthers : (cs ds : List Contribution) → Type 0
AreForOthers cs [] = Unit {0}
AreForOthers cs (d ∷ ds) = AreFor (λ x. not (x == d.vector)) cs × AreForOthers cs ds

all_go_after : (u v : ℕ) (cs ds : List Contribution) (xs : List (List ℤ)) → AreForOthers cs ds → with_given u cs (with_given v ds xs) ≡ with_given v ds (with_given u cs xs)
all_go_after u v cs [] xs h = refl
all_go_after u v cs (d ∷ ds) xs h =
    all_go_after u v cs ds (after_number v d xs) h.1 ∙ ap (with_given v ds) (goes_after u v d cs xs h.0)

with_given-append : (v : ℕ) (cs ds : List Contribution) (xs : List (List ℤ)) → with_given v (cs ++ ds) xs ≡ with_given v ds (with_given v cs xs)
with_given-append v [] ds xs = refl
with_given-append v (c ∷ cs) ds xs = with_given-append v cs ds (after_number v c xs)

-- the vectors after the destinations of edges got what these numbers are
abbrev pub given_along : (Edge → List Contribution) → List Edge → List (List ℤ) → List (List ℤ)
given_along F [] xs = xs
given_along F (edge ∷ edges) xs = given_along F edges (with_given edge.1 (F edge) xs)

pub edges_give : (functions : List FunctionStatementsTree) (sets : List SetBinding) (before : List (List ℤ)) (edges : List Edge) (xs : List (List ℤ))
    → after_edges functions sets before edges xs ≡ given_along (all_give functions sets before) edges xs
edges_give functions sets before [] xs = refl
edges_give functions sets before (edge ∷ edges) xs = edges_give functions sets before edges (with_given edge.1 (all_give functions sets before edge) xs)

module _ (F G : Edge → List Contribution) (apart : (e e' : Edge) → AreForOthers (F e) (G e')) where
  edge_goes_after : (edges : List Edge) (edge : Edge) (xs : List (List ℤ))
      → given_along F edges (with_given edge.1 (G edge) xs) ≡ with_given edge.1 (G edge) (given_along F edges xs)
  edge_goes_after [] edge xs = refl
  edge_goes_after (e ∷ edges) edge xs =
      ap (given_along F edges) (all_go_after e.1 edge.1 (F e) (G edge) xs (apart e edge)) ∙ edge_goes_after edges edge (with_given e.1 (F e) xs)

  -- both along each edge, or one after the other
  pub both_along : (edges : List Edge) (xs : List (List ℤ)) → given_along (λ e. F e ++ G e) edges xs ≡ given_along G edges (given_along F edges xs)
  both_along [] xs = refl
  both_along (e ∷ edges) xs =
      both_along edges (with_given e.1 (F e ++ G e) xs)
      ∙ ap (λ (ys : List (List ℤ)). given_along G edges (given_along F edges ys)) (with_given-append e.1 (F e) (G e) xs)
      ∙ ap (given_along G edges) (edge_goes_after edges e (with_given e.1 (F e) xs))

row_stays : (vector v : ℕ) (cs : List Contribution) (xs : List (List ℤ)) → AreFor (λ x. not (x == vector)) cs → slice_index_or (with_given v cs xs) vector [] ≡ slice_index_or xs vector []
row_stays vector v [] xs h = refl
row_stays vector v (c ∷ cs) xs h =
    row_stays vector v cs (after_number v c xs) h.1
    ∙ other_row xs c.vector vector (row_after v c (slice_index_or xs c.vector [])) (differs c.vector vector h.0)

-- a vector for which nothing is given stays
pub row_along : (F : Edge → List Contribution) (vector : ℕ) → ((e : Edge) → AreFor (λ x. not (x == vector)) (F e)) → (edges : List Edge) (xs : List (List ℤ))
    → slice_index_or (given_along F edges xs) vector [] ≡ slice_index_or xs vector []
row_along F vector h [] xs = refl
row_along F vector h (e ∷ edges) xs = row_along F vector h edges (with_given e.1 (F e) xs) ∙ row_stays vector e.1 (F e) xs (h e)
