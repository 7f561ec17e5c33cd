-- Numbers in a range.
use Rattle.std.specs.Prelude.{ℕ, ◌&&◌, nat_le, if◌then◌else◌}

-- the number, where it is from `least` to `most`, or else the default
abbrev pub within : (least most default : ℕ) → ℕ → ℕ
within least most default n = if nat_le least n && nat_le n most then n else default
