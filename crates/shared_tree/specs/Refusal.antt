-- The numbers by which refusals are known.
use Rattle.std.specs.Prelude.{ℕ}
use Rattle.shared_tree.specs.declared.error.TreeError.{TreeError}
use Rattle.shared_tree.specs.declared.error.TreeError.TheVariants.{NotAscending, NoMemory}

-- the number of a refusal
abbrev pub number_of : TreeError → ℕ
number_of NotAscending = 101
number_of NoMemory = 900
