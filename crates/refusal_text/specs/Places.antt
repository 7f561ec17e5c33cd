-- Where in a text an offset stands.
use Rattle.std.specs.Prelude.{ℕ, Bool}
use Rattle.std.proofs.Common.{nat_eq, not}

-- a byte ends a line
abbrev pub ends_line : ℕ → Bool
ends_line byte = nat_eq byte 10

-- a byte stands within a line
abbrev pub is_within : ℕ → Bool
is_within byte = not (nat_eq byte 10)
