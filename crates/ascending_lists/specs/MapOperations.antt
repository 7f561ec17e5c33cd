-- Unions, differences and parts of lists of entries in ascending order of keys.
use Rattle.std.specs.Prelude.{ℕ, nat_lt, if◌then◌else◌, List, [], ◌∷◌, ◌++◌}
use Rattle.std.specs.Option.{unwrap_or}
use Rattle.ascending_lists.specs.Sets.{has}
use Rattle.ascending_lists.specs.Maps.{lookup}

-- the entries whose keys are below a number
abbrev pub entries_below : {V : Type 0} → ℕ → List (ℕ × V) → List (ℕ × V)
entries_below k [] = []
entries_below k (e ∷ es) = if nat_lt e.0 k then e ∷ entries_below k es else entries_below k es

-- the entries whose keys are above a number
abbrev pub entries_above : {V : Type 0} → ℕ → List (ℕ × V) → List (ℕ × V)
entries_above k [] = []
entries_above k (e ∷ es) = if nat_lt k e.0 then e ∷ entries_above k es else entries_above k es

-- an entry with the value that a list has at its key, or its own where the list has none
abbrev pub renewed : {V : Type 0} → ℕ × V → List (ℕ × V) → ℕ × V
renewed e ys = (e.0, unwrap_or (lookup e.0 ys) e.1)

-- the entries of both lists in order, each key once; where both have a key, the second's value
abbrev pub union_keeping_second : {V : Type 0} → List (ℕ × V) → List (ℕ × V) → List (ℕ × V)
union_keeping_second [] ys = ys
union_keeping_second (e ∷ es) ys = entries_below e.0 ys ++ renewed e ys ∷ union_keeping_second es (entries_above e.0 ys)

-- the entries of both lists in order, each key once; where both have a key, the first's value
abbrev pub union_keeping_first : {V : Type 0} → List (ℕ × V) → List (ℕ × V) → List (ℕ × V)
union_keeping_first [] ys = ys
union_keeping_first (e ∷ es) ys = entries_below e.0 ys ++ e ∷ union_keeping_first es (entries_above e.0 ys)

-- the entries whose keys are not among some numbers
abbrev pub without_keys : {V : Type 0} → List (ℕ × V) → List ℕ → List (ℕ × V)
without_keys [] ks = []
without_keys (e ∷ es) ks = if has e.0 ks then without_keys es ks else e ∷ without_keys es ks
