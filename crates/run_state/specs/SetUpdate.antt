-- Updates of the sets of a state.
use Rattle.std.specs.Prelude.{◌≡◌, ℕ}
use Rattle.algorithm_meaning.specs.State.{StateValue}
use Rattle.algorithm_meaning.specs.VertexSets.{with_members, with_new_set}
use Rattle.run_state.specs.declared.set_update.SetUpdate.{SetUpdate}
use Rattle.run_state.specs.declared.set_update.SetUpdate.TheVariants as update

-- a state after the update
abbrev pub with_update : StateValue → SetUpdate → StateValue
with_update s update.Nothing = s
with_update s (update.New name set) = with_new_set s name set.members
with_update s (update.Other index set) = with_members s index set.members

-- the set is one of n vertices
abbrev pub IsUpdateOf : ℕ → SetUpdate → Type 0
IsUpdateOf n update.Nothing = Unit {0}
IsUpdateOf n (update.New name set) = set.vertices ≡ n
IsUpdateOf n (update.Other index set) = set.vertices ≡ n
