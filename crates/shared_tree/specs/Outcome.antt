-- What the calls that make trees give, case by case.
use Rattle.std.specs.Prelude.{◌≡◌, ℕ, Result, Ok, Err, List}
use Rattle.ascending_lists.specs.Maps.{IsMap}
use Rattle.shared_tree.specs.declared.error.TreeError.{TreeError}
use Rattle.shared_tree.specs.declared.error.TreeError.TheVariants.{NotAscending, NoMemory}
use Rattle.shared_tree.specs.Balanced.{Balanced}

-- a tree of these entries, unless they are no map in order
abbrev pub Builds : {V : Type 0} → List (ℕ × V) → Result (Balanced V) TreeError → Type 0
Builds es (Ok t) = IsMap es × (t.entries ≡ es)
Builds es (Err NotAscending) = ¬ (IsMap es)
Builds es (Err NoMemory) = IsMap es
