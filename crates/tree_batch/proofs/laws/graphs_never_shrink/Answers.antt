-- Proofs of `graphs_never_shrink`, src/laws.rt.
use Rattle.std.proofs.Common.{◌≡◌, inl, inr, sym, subst, arith}
use Rattle.std.proofs.lemmas.Bool.{cases_lt}
use Rattle.std.specs.List.{Contains}
use Rattle.tree_batch.specs.declared.batch.Entry.TheVariants.{Grow}
use Rattle.tree_batch.specs.Edge.{most_asked, vertices_after}
use Rattle.tree_batch.proofs.Deciding.{asked_most, most_is_asked}
use Rattle.tree_batch.proofs.laws.graphs_never_shrink.Goals as goal

pub returns-clause-before : goal.returns-clause-before
returns-clause-before c g batch = omega arith

pub returns-clause-asked : goal.returns-clause-asked
returns-clause-asked c g batch n there = omega (arith, asked_most batch n there.0 there.1 there.2)

pub returns-clause-no_more : goal.returns-clause-no_more
returns-clause-no_more c g batch = elim (cases_lt g.vertices (most_asked batch)) [
  | inl more ↦
      let grown : vertices_after g.vertices batch ≡ most_asked batch = omega arith in
      elim (most_is_asked batch) [
        | inl none ↦ absurd (omega (arith, none))
        | inr there ↦ inr (subst (λ n. Contains batch (Grow n)) (sym grown) there)
      ]
  | inr same ↦ inl (omega arith)
]
