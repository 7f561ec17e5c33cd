-- Accumulators of several vectors, one for each vector that is written.
use Rattle.std.specs.Prelude.{[], ℕ, ℤ, ◌==◌, if◌then◌else◌, List, ◌∷◌, take}
use Rattle.apply_options.specs.declared.reduction.Reduction.{Reduction}
use Rattle.edge_fold.specs.declared.vector_accumulator.VectorAccumulator.{VectorAccumulator}
use Rattle.edge_fold.specs.declared.vector_accumulator.VectorAccumulators.{VectorAccumulators}
use Rattle.edge_fold.specs.Held.{held_with}

-- what the first slot of a vector has, or this where there is none
abbrev pub of_slot : {A : Type 0} → (VectorAccumulator → A) → List VectorAccumulator → (vector : ℕ) → A → A
of_slot of [] x d = d
of_slot of (s ∷ ss) x d = if s.vector == x then of s else of_slot of ss x d

-- a number combined with the new entry of a vector at a vertex, or the number where nothing was given
abbrev pub held_in_with : (ℤ → ℤ → ℤ) → List VectorAccumulator → (vector v : ℕ) → ℤ → ℤ
held_in_with combine ss x v h = of_slot (λ s. held_with combine s.entries v h) ss x h

-- the reduction by which a vector was given something, or this one where nothing was given
abbrev pub reduction_in : List VectorAccumulator → (vector : ℕ) → Reduction → Reduction
reduction_in ss x r = of_slot (λ s. s.reduction) ss x r

-- those in use
abbrev pub active : VectorAccumulators → List VectorAccumulator
active s = take s.used s.slots.items
