-- The sources of an apply in pieces.
use Rattle.std.specs.Prelude.{ℕ, Bool, if◌then◌else◌, List}
use Rattle.std.specs.List.{filter, range_with_len}
use Rattle.apply_options.specs.declared.apply_schedule.Direction.{Direction}
use Rattle.apply_options.specs.declared.apply_schedule.Direction.TheVariants.{DensePush}

-- of the sources of a piece, those that pass, where the piece is to test them
abbrev pub passing_in : (tested : Bool) → (from : ℕ → Bool) → List ℕ → List ℕ
passing_in tested from us = if tested then filter from us else us

-- the list that is cut into pieces, of a graph of n vertices: all of them for a dense push, and else those that pass
abbrev pub cut_list : Direction → ℕ → (from : ℕ → Bool) → List ℕ
cut_list DensePush n from = range_with_len 0 n
cut_list d n from = filter from (range_with_len 0 n)
