-- Two edge functions along the same edges.
use Rattle.std.proofs.Common.{◌≡◌, ℕ, ◌==◌, ℤ, true, not, List, [], ◌∷◌, ◌++◌, slice_index_or, ap, sym, ◌∙◌}
use Rattle.std.proofs.lemmas.List.{append-nil}
use Rattle.weighted_edges.specs.Edge.{Edge}
use Rattle.typed_tree.specs.FunctionStatementTree.{FunctionStatementsTree}
use Rattle.algorithm_meaning.specs.EdgeApply.{gives, after_edges}
use Rattle.typed_tree.specs.Independence.{is_none_of, are_apart}
use Rattle.typed_tree.specs.inside.Access.{steps_write}
use Rattle.algorithm_meaning.specs.declared.state.SetBinding.{SetBinding}
use Rattle.algorithm_meaning.specs.declared.contribution.Contribution.{Contribution}
use Rattle.plans.proofs.Beside.{AgreeBut}
use Rattle.plans.proofs.GivenVectors.{AreFor, gives_for, each_differs}
use Rattle.plans.proofs.Giving.{AreForOthers, given_along, edges_give, both_along, row_along}

one_gives : (f : FunctionStatementsTree) (sets : List SetBinding) (before : List (List ℤ)) (edges : List Edge) (xs : List (List ℤ))
    → after_edges (f ∷ []) sets before edges xs ≡ given_along (gives f sets before) edges xs
one_gives f sets before edges xs =
    edges_give (f ∷ []) sets before edges xs ∙ (λ i. given_along (λ e. append-nil (gives f sets before e) i) edges xs)

two_give : (f g : FunctionStatementsTree) (sets : List SetBinding) (before : List (List ℤ)) (edges : List Edge) (xs : List (List ℤ))
    → after_edges (f ∷ g ∷ []) sets before edges xs ≡ given_along (λ e. gives f sets before e ++ gives g sets before e) edges xs
two_give f g sets before edges xs =
    edges_give (f ∷ g ∷ []) sets before edges xs ∙ (λ i. given_along (λ e. gives f sets before e ++ append-nil (gives g sets before e) i) edges xs)

-- a vector that the function does not write stays
pub unwritten_stays : (f : FunctionStatementsTree) (sets : List SetBinding) (before : List (List ℤ)) (edges : List Edge) (xs : List (List ℤ))
    → AgreeBut (steps_write f) (after_edges (f ∷ []) sets before edges xs) xs
unwritten_stays f sets before edges xs vector h =
    ap (λ (ys : List (List ℤ)). slice_index_or ys vector []) (one_gives f sets before edges xs)
    ∙ row_along (gives f sets before) vector (λ e. gives_for (λ x. not (x == vector)) f sets before e (each_differs vector (steps_write f) h)) edges xs

for_others : (cs ds : List Contribution) (vectors : List ℕ) → ((vector : ℕ) → is_none_of vector vectors ≡ true → AreFor (λ x. not (x == vector)) cs)
    → AreFor (λ v. is_none_of v vectors) ds → AreForOthers cs ds
for_others cs [] vectors differ h = tt
for_others cs (d ∷ ds) vectors differ h = (differ d.vector h.0, for_others cs ds vectors differ h.1)

module _ (f g : FunctionStatementsTree) (apart : are_apart (steps_write g) (steps_write f) ≡ true) where
  give_to_others : (sets : List SetBinding) (before : List (List ℤ)) (e e' : Edge) → AreForOthers (gives f sets before e) (gives g sets before e')
  give_to_others sets before e e' =
      for_others (gives f sets before e) (gives g sets before e') (steps_write f)
      (λ vector h. gives_for (λ x. not (x == vector)) f sets before e (each_differs vector (steps_write f) h))
      (gives_for (λ v. is_none_of v (steps_write f)) g sets before e' apart)

  -- where the second gives the same after the first, both are as one
  pub one_behind_other : (a b : List SetBinding) (xs ys : List (List ℤ)) (edges : List Edge) → ((e : Edge) → gives g b ys e ≡ gives g a xs e) → ys ≡ after_edges (f ∷ []) a xs edges xs
      → after_edges (g ∷ []) b ys edges ys ≡ after_edges (f ∷ g ∷ []) a xs edges xs
  one_behind_other a b xs ys edges same is_after =
      one_gives g b ys edges ys
      ∙ (λ i. given_along (λ e. same e i) edges (is_after i))
      ∙ ap (given_along (gives g a xs) edges) (one_gives f a xs edges xs)
      ∙ sym (two_give f g a xs edges xs ∙ both_along (gives f a xs) (gives g a xs) (give_to_others a xs) edges xs)

  -- what the first wrote is not written by the second
  pub second_leaves : (sets : List SetBinding) (xs : List (List ℤ)) (edges : List Edge) → AgreeBut (steps_write g) (after_edges (f ∷ []) sets xs edges xs) (after_edges (f ∷ g ∷ []) sets xs edges xs)
  second_leaves sets xs edges vector h =
      sym (ap (λ (ys : List (List ℤ)). slice_index_or ys vector []) (two_give f g sets xs edges xs ∙ both_along (gives f sets xs) (gives g sets xs) (give_to_others sets xs) edges xs)
      ∙ row_along (gives g sets xs) vector (λ e. gives_for (λ x. not (x == vector)) g sets xs e (each_differs vector (steps_write g) h)) edges (given_along (gives f sets xs) edges xs)
      ∙ ap (λ (ys : List (List ℤ)). slice_index_or ys vector []) (sym (one_gives f sets xs edges xs)))
