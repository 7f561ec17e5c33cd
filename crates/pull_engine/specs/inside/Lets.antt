-- Which vertices the words of destinations let through.
use Rattle.std.specs.Prelude.{ℕ, Bool, true, ◌≡◌}
use Rattle.algorithm_meaning.specs.Arithmetic.{compared}
use Rattle.vectors.specs.Lanes.{lane_entry}
use Rattle.vertex_sets.specs.declared.form.Form.TheVariants as Form
use Rattle.kernels.specs.EdgeApply.{is_member}
use Rattle.edge_apply.specs.Words.{is_set}
use Rattle.pull_engine.specs.declared.destination_words.DestinationWords.{DestinationWords}
use Rattle.pull_engine.specs.declared.destination_words.DestinationWords.TheVariants as words

abbrev pub lets : DestinationWords → ℕ → Bool
lets words.All v = true
lets (words.Given given) v = is_set given.now v
lets (words.Members set) v = is_member v set.members
lets (words.Entries test) v = compared test.comparison (lane_entry test.lane v) test.number

-- a set is kept as bits
abbrev pub IsInBits : DestinationWords → Type 0
IsInBits words.All = Unit {0}
IsInBits (words.Given given) = Unit {0}
IsInBits (words.Members set) = set.form ≡ Form.Bits
IsInBits (words.Entries test) = Unit {0}
