-- Starts of folds: what new entries begin with, the old entry or nothing.
use Rattle.std.specs.Prelude.{ℕ, ℤ}
use Rattle.apply_options.specs.declared.reduction.Reduction.{Reduction}
use Rattle.algorithm_meaning.specs.Arithmetic.{reduced}
use Rattle.algorithm_meaning.specs.Value.{entry}
use Rattle.edge_fold.specs.declared.apply_context.ApplyContext.{ApplyContext}
use Rattle.edge_fold.specs.declared.apply_context.FoldStart.{FoldStart}
use Rattle.edge_fold.specs.declared.apply_context.FoldStart.TheVariants as start

-- the number that a fold begins with: the old entry, or for a piece any number, with which the piece is combined later
abbrev pub seed : FoldStart → (old h : ℤ) → ℤ
seed start.OldEntry old h = old
seed start.Unit old h = h

-- a seed combined with what was folded: a fold from the old entry has it already
abbrev pub combined_with_seed : FoldStart → Reduction → ℤ → ℤ → ℤ
combined_with_seed start.OldEntry r h y = y
combined_with_seed start.Unit r h y = reduced r h y

-- the seed at a vertex, for a vector that functions write
abbrev pub first_entry : ApplyContext → (vector v : ℕ) → ℤ → ℤ
first_entry f x v h = seed f.start (entry f.vectors.now.vectors x v) h
