-- Beside `VectorAccumulators`: definitions that no public contract cites.
use Rattle.std.specs.Prelude.{[], ℕ, ℤ, List, suc, ◌==◌, if◌then◌else◌, ◌∷◌, ◌≡◌}
use Rattle.apply_options.specs.declared.reduction.Reduction.{Reduction}
use Rattle.edge_fold.specs.declared.vector_accumulator.VectorAccumulator.{VectorAccumulator}
use Rattle.edge_fold.specs.VectorAccumulators.{held_in_with, reduction_in, active}
use Rattle.edge_fold.specs.declared.apply_context.ApplyContext.{ApplyContext}
use Rattle.edge_fold.specs.declared.vector_accumulator.VectorAccumulators.{VectorAccumulators}
use Rattle.edge_fold.specs.Contributions.{reduced_at}
use Rattle.edge_fold.specs.FoldStarts.{combined_with_seed, first_entry}

-- the new entry of a vector at a vertex, or this one where nothing was given
abbrev pub held_in : List VectorAccumulator → (vector v : ℕ) → ℤ → ℤ
held_in ss x v old = held_in_with (λ h y. y) ss x v old

-- the index of the first slot of a vector, or how many slots there are
abbrev pub index_in : (vector : ℕ) → List VectorAccumulator → ℕ
index_in x [] = 0
index_in x (s ∷ ss) = if s.vector == x then 0 else suc (index_in x ss)

-- after a join slots have what was given for a vector by a reduction, too
pub record HaveJoined (f : ApplyContext) (x : ℕ) (r : Reduction) (before after : VectorAccumulators) (gs : List (ℕ × ℤ)) : Type 0 where
  pub entries : (v : ℕ) (h : ℤ) → held_in_with (combined_with_seed f.start r) (active after) x v (first_entry f x v h)
      ≡ reduced_at r v (held_in_with (combined_with_seed f.start r) (active before) x v (first_entry f x v h)) gs
  pub reduction : reduction_in (active before) x r ≡ r → reduction_in (active after) x r ≡ r
