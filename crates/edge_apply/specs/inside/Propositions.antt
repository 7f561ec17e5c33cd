-- Facts that have one proof at most, as ghost fields ask for it.
use Rattle.std.specs.Prelude.{ℕ, ◌+◌, List, [], ◌∷◌}
use Rattle.std.specs.Coded.{×_prop, Coded-set, Unit-prop, coded_ℕ, le_prop}
use Rattle.crew.specs.Partition.{AreEnds}
use Rattle.edge_apply.specs.inside.Lists.{AscendsFrom}

pub AscendsFrom-prop : (low : ℕ) (us : List ℕ) → IsProp (AscendsFrom low us)
AscendsFrom-prop low [] = Unit-prop
AscendsFrom-prop low (u ∷ us) = ×_prop le_prop (AscendsFrom-prop (u + 1) us)

pub AreEnds-prop : (start length : ℕ) (ends : List ℕ) → IsProp (AreEnds start length ends)
AreEnds-prop start length [] = Coded-set coded_ℕ start length
AreEnds-prop start length (e ∷ es) = ×_prop le_prop (AreEnds-prop e length es)
