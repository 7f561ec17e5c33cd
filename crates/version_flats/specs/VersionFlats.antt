-- The flats of versions that are kept.
use Rattle.std.specs.Prelude.{◌≡◌, ◌≢◌, ℕ, ◌≤◌, ◌⊎◌, true, nat_eq, Option, Some, IfSome}
use Rattle.std.specs.Option.{option_map}
use Rattle.indexmap.specs.IndexMap.{get}
use Rattle.tree_batch.specs.Digraph.{Digraph}
use Rattle.version_list.specs.Machine.{State, newest_number, version_graph, is_kept}
use Rattle.version_flats.specs.declared.version_flats.VersionFlats.{VersionFlats}

-- the flat of version k, where there is one
abbrev pub flat_of : VersionFlats → ℕ → Option Digraph
flat_of flats k = option_map (λ flat. flat.value) (get nat_eq flats.flats k)

-- version k was made, and g is its graph
pub record IsMade (s : State) (k : ℕ) (g : Digraph) : Type 0 where
  pub made : k ≤ newest_number s
  pub graph : g ≡ version_graph s k

-- version k is kept, and g is its graph
pub record IsKept (s : State) (k : ℕ) (g : Digraph) : Type 0 where
  pub kept : is_kept s k ≡ true
  pub made : k ≤ newest_number s
  pub graph : g ≡ version_graph s k

-- each flat is that of a version that is kept, and the last one of a newest version is that of a version that was made, which may be gone
pub record AreOf (s : State) (flats : VersionFlats) : Type 0 where
  pub kept : (k : ℕ) (g : Digraph) → flat_of flats k ≡ Some g → IsKept s k g
  pub last : IfSome flats.last (λ l. IsMade s l.version l.flat.value)

-- each flat is one from before, or that of version k, whose graph is g
abbrev pub MayGain : VersionFlats → ℕ → Digraph → VersionFlats → Type 0
MayGain old k g new = (q : ℕ) (flat : Digraph) → flat_of new q ≡ Some flat → (flat_of old q ≡ Some flat) ⊎ ((q ≡ k) × (flat ≡ g))

-- no version but this one was dropped, and the versions' graphs are as before
pub record Follows (old new : State) (version : ℕ) : Type 0 where
  pub made : newest_number old ≤ newest_number new
  pub graphs : (k : ℕ) → k ≤ newest_number old → version_graph new k ≡ version_graph old k
  pub kept : (k : ℕ) → k ≢ version → is_kept old k ≡ true → is_kept new k ≡ true
