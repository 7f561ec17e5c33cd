use Rattle.std.proofs.Common.{◌≡◌, ◌+◌, ◌≤◌, take}
use Rattle.std.specs.List.{count_by, suffix_len}
use Rattle.refusal_text.specs.Places.{ends_line, is_within}
use Rattle.refusal_text.proofs.place.place_of.Given as goal

abbrev pub invariant-bytes : goal.invariant-bytes
invariant-bytes l = (l.line ≡ count_by ends_line (take l.i l.text) + 1) × (l.column ≡ suffix_len is_within (take l.i l.text) + 1) × (l.column ≤ l.i + 1)
