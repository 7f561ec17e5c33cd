-- The numbers by which refusals are known.
use Rattle.std.specs.Prelude.{ℕ}
use Rattle.vectors.specs.declared.error.GroupError.{GroupError}
use Rattle.vectors.specs.declared.error.GroupError.TheVariants.{Unfit, NoMemory}

-- the number of a refusal
abbrev pub number_of : GroupError → ℕ
number_of Unfit = 308
number_of NoMemory = 900
