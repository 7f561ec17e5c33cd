-- Entries that are cut at a key.
use Rattle.std.specs.Prelude.{◌≡◌, ℕ, Option, List}
use Rattle.ascending_lists.specs.Maps.{lookup}
use Rattle.ascending_lists.specs.MapOperations.{entries_below, entries_above}

-- The entries es cut at k: l is what they have below k, found the value at k, and r what they have above.
pub record CutsEntries {V : Type 0} (k : ℕ) (es l : List (ℕ × V)) (found : Option V) (r : List (ℕ × V)) : Type 0 where
  pub front : l ≡ entries_below k es
  pub there : found ≡ lookup k es
  pub back : r ≡ entries_above k es
