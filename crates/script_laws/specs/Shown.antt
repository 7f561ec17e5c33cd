-- What is true of outcomes: their numbers are in their ranges, and what was printed are lines.
use Rattle.std.specs.Prelude.{FitsSigned, ◌<◌, ◌^◌}
use Rattle.std.specs.Int.{w64}
use Rattle.std.specs.List.{AllByRecursion}
use Rattle.algorithm_meaning.specs.declared.outcome.End.{End}
use Rattle.algorithm_meaning.specs.declared.outcome.End.TheVariants.{Finished, TurnsOver, Fault}
use Rattle.algorithm_meaning.specs.declared.outcome.NamedVector.{NamedVector}
use Rattle.algorithm_meaning.specs.declared.outcome.NamedSet.{NamedSet}
use Rattle.algorithm_meaning.specs.declared.outcome.Outcome.{Outcome}
use Rattle.scripts.specs.Commands.{HasNone}
use Rattle.meaning_laws.specs.Printing.{IsPrinted}

-- the numbers of a fault are below 2 ^ 64
abbrev pub IsEnd : End → Type 0
IsEnd Finished = Unit {0}
IsEnd TurnsOver = Unit {0}
IsEnd (Fault number statement) = (number < 2 ^ 64) × (statement < 2 ^ 64)

-- a name, in which the byte 58, a colon, is not, and integers of 64 bits
pub record IsVector (v : NamedVector) : Type 0 where
  pub name : HasNone 58 v.name
  pub entries : AllByRecursion (FitsSigned w64) v.entries

-- such a name, and numbers below 2 ^ 64
pub record IsSet (s : NamedSet) : Type 0 where
  pub name : HasNone 58 s.name
  pub members : AllByRecursion (λ m. m < 2 ^ 64) s.members

-- the numbers of an outcome are in their ranges, and its names have no colon
pub record HasNumbers (o : Outcome) : Type 0 where
  pub end : IsEnd o.end
  pub turns : o.turns < 2 ^ 64
  pub vectors : AllByRecursion IsVector o.vectors
  pub sets : AllByRecursion IsSet o.sets

-- and what was printed are lines
pub record IsOutcome (o : Outcome) : Type 0 where
  pub printed : IsPrinted o.text
  pub numbers : HasNumbers o
