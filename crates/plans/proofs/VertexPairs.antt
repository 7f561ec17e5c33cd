-- Two vertex applies, vertex by vertex.
use Rattle.std.proofs.Common.{◌≡◌, ℕ, ◌+◌, ◌<◌, ◌==◌, ℤ, Bool, true, false, List, [], ◌∷◌, ap, sym, ◌∙◌, refl, arith, subst}
use Rattle.std.proofs.lemmas.Bool.Decides.{nat_tests}
use Rattle.typed_tree.specs.FunctionStatementTree.{FunctionStatementsTree}
use Rattle.algorithm_meaning.specs.State.{StateValue}
use Rattle.algorithm_meaning.specs.VertexSets.{after_vertex, after_vertices}
use Rattle.plans.specs.inside.Fusing.{steps_are_local}
use Rattle.plans.specs.Machine.{after_both}
use Rattle.algorithm_meaning.specs.declared.state.SetBinding.{SetBinding}
use Rattle.plans.proofs.Ascending.{AscendsFrom}
use Rattle.plans.proofs.Columns.{column, same_columns}
use Rattle.plans.proofs.Local.{vertex_alike}
use Rattle.plans.proofs.OtherColumns.{vertex_elsewhere}

same_number : (m n : ℕ) → (m == n) ≡ true → m ≡ n
same_number m n h = grind (arith, nat_tests)

module _ (sets : List SetBinding) (f g : FunctionStatementsTree) (f_local : steps_are_local f ≡ true) (g_local : steps_are_local g ≡ true) where
  at_first : (u v : ℕ) (xs : List (List ℤ)) → (u == v) ≡ false → (v == u) ≡ false
      → column u (after_vertex g sets v (after_vertex f sets u xs)) ≡ column u (after_vertex f sets u (after_vertex g sets v xs))
  at_first u v xs apart away =
      vertex_elsewhere v u away sets g (after_vertex f sets u xs) g_local
      ∙ vertex_alike u sets f xs (after_vertex g sets v xs) f_local (sym (vertex_elsewhere v u away sets g xs g_local))

  at_second : (u v : ℕ) (xs : List (List ℤ)) → (u == v) ≡ false → (v == u) ≡ false
      → column v (after_vertex g sets v (after_vertex f sets u xs)) ≡ column v (after_vertex f sets u (after_vertex g sets v xs))
  at_second u v xs apart away =
      vertex_alike v sets g (after_vertex f sets u xs) xs g_local (vertex_elsewhere u v apart sets f xs f_local)
      ∙ sym (vertex_elsewhere u v apart sets f (after_vertex g sets v xs) f_local)

  at_other : (u v x : ℕ) (xs : List (List ℤ)) → (u == x) ≡ false → (v == x) ≡ false
      → column x (after_vertex g sets v (after_vertex f sets u xs)) ≡ column x (after_vertex f sets u (after_vertex g sets v xs))
  at_other u v x xs h k =
      vertex_elsewhere v x k sets g (after_vertex f sets u xs) g_local ∙ vertex_elsewhere u x h sets f xs f_local
      ∙ sym (vertex_elsewhere u x h sets f (after_vertex g sets v xs) f_local ∙ vertex_elsewhere v x k sets g xs g_local)

  at_each : (u v x : ℕ) (xs : List (List ℤ)) (a b : Bool) → (u == v) ≡ false → (v == u) ≡ false → (u == x) ≡ a → (v == x) ≡ b
      → column x (after_vertex g sets v (after_vertex f sets u xs)) ≡ column x (after_vertex f sets u (after_vertex g sets v xs))
  at_each u v x xs true b apart away h k =
      subst (λ (y : ℕ). column y (after_vertex g sets v (after_vertex f sets u xs)) ≡ column y (after_vertex f sets u (after_vertex g sets v xs))) (same_number u x h) (at_first u v xs apart away)
  at_each u v x xs false true apart away h k =
      subst (λ (y : ℕ). column y (after_vertex g sets v (after_vertex f sets u xs)) ≡ column y (after_vertex f sets u (after_vertex g sets v xs))) (same_number v x k) (at_second u v xs apart away)
  at_each u v x xs false false apart away h k = at_other u v x xs h k

  -- two functions at different vertices may change places
  change_places : (u v : ℕ) (xs : List (List ℤ)) → (u == v) ≡ false → (v == u) ≡ false
      → after_vertex g sets v (after_vertex f sets u xs) ≡ after_vertex f sets u (after_vertex g sets v xs)
  change_places u v xs apart away =
      same_columns (after_vertex g sets v (after_vertex f sets u xs)) (after_vertex f sets u (after_vertex g sets v xs)) (λ x. at_each u v x xs (u == x) (v == x) apart away refl refl)

  goes_last : (v low : ℕ) (us : List ℕ) (xs : List (List ℤ)) → v < low → AscendsFrom low us
      → after_vertices f sets us (after_vertex g sets v xs) ≡ after_vertex g sets v (after_vertices f sets us xs)
  goes_last v low [] xs below ascending = refl
  goes_last v low (u ∷ us) xs below ascending =
      let less : v < u = omega (arith, below, ascending.0) in
      let apart : (u == v) ≡ false = grind (arith, nat_tests) in
      let away : (v == u) ≡ false = grind (arith, nat_tests) in
      ap (after_vertices f sets us) (sym (change_places u v xs apart away))
      ∙ goes_last v (u + 1) us (after_vertex f sets u xs) (omega (arith, less)) ascending.1

  both_members : (low : ℕ) (s : StateValue) (vs : List ℕ) (xs : List (List ℤ)) → s.sets ≡ sets → AscendsFrom low vs
      → after_both f g s vs xs ≡ after_vertices g sets vs (after_vertices f sets vs xs)
  both_members low s [] xs same ascending = refl
  both_members low s (v ∷ vs) xs same ascending =
      ap (λ (sets : List SetBinding). after_both f g s vs (after_vertex g sets v (after_vertex f sets v xs))) same
      ∙ both_members (v + 1) s vs (after_vertex g sets v (after_vertex f sets v xs)) same ascending.1
      ∙ ap (after_vertices g sets vs) (goes_last v (v + 1) vs (after_vertex f sets v xs) (omega arith) ascending.1)

-- both at each vertex, or one after the other
pub both_at_each : (f g : FunctionStatementsTree) → steps_are_local f ≡ true → steps_are_local g ≡ true → (low : ℕ) (s : StateValue) (vs : List ℕ) (xs : List (List ℤ)) → AscendsFrom low vs
    → after_both f g s vs xs ≡ after_vertices g s.sets vs (after_vertices f s.sets vs xs)
both_at_each f g f_local g_local low s vs xs ascending = both_members s.sets f g f_local g_local low s vs xs refl ascending
