-- The offsets that terminals tell.
use Rattle.std.specs.Prelude.{ℕ, List, map, Option, Some, None, IfSome}
use Rattle.std.specs.List.{AllByRecursion, Contains}
use Rattle.syntax.specs.Terminals.{Terminal, Name, Number, Label, Text, LeadingKeyword, OfKeyword, OfSymbol}

-- where a terminal stands, if it tells it
abbrev pub offset_of : Terminal → Option ℕ
offset_of (Name name) = Some name.at
offset_of (Number n) = None
offset_of (Label label) = Some label.at
offset_of (Text bytes) = None
offset_of (LeadingKeyword keyword at) = Some at
offset_of (OfKeyword keyword) = None
offset_of (OfSymbol symbol) = None

-- P holds of the offset, where the terminal tells it
abbrev pub StandsWhere : (ℕ → Type 0) → Terminal → Type 0
StandsWhere P terminal = IfSome (offset_of terminal) P

-- of each of them
abbrev pub StandWhere : (ℕ → Type 0) → List Terminal → Type 0
StandWhere P terminals = AllByRecursion (StandsWhere P) terminals

-- one of them is at this offset
abbrev pub IsOffsetIn : List Terminal → ℕ → Type 0
IsOffsetIn terminals at = Contains (map offset_of terminals) (Some at)
