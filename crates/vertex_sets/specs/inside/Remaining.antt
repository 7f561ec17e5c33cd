-- What an iterator has still to give.
use Rattle.std.specs.Prelude.{ℕ, List}
use Rattle.vertex_sets.specs.declared.iter.Rest.{Rest}
use Rattle.vertex_sets.specs.declared.iter.Rest.TheVariants.{Listed, Flagged, Worded}

abbrev pub members_left : Rest → List ℕ
members_left (Listed list) = list.now
members_left (Flagged flags) = flags
members_left (Worded words) = words
