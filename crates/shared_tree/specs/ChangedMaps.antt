-- Maps changed at many keys.
use Rattle.std.specs.Prelude.{[], ◌≡◌, ℕ, ◌+◌, ◌%◌, ◌^◌, Option, Some, None, List, ◌∷◌}
use Rattle.ascending_lists.specs.Maps.{Rises, lookup}

-- what becomes of the value at a key: as a change makes it, or as it was where there is no change
abbrev pub MadeAt : {V C : Type 0} → (C → Option V → Option V → Type 0) → Option C → Option V → Option V → Type 0
MadeAt makes None old new = new ≡ old
MadeAt makes (Some c) old new = makes c old new

-- the map new is es with each of the changes made at its key, and every other key as it was
pub record IsChangedMap {V C : Type 0} (makes : C → Option V → Option V → Type 0) (changes : List (ℕ × C)) (es new : List (ℕ × V)) : Type 0 where
  pub values : (k : ℕ) → MadeAt makes (lookup k changes) (lookup k es) (lookup k new)
  pub within : (low high : ℕ) → Rises low high es → Rises low high changes → Rises low high new

-- how much all values weigh together
abbrev pub total_weight : {V : Type 0} → (V → ℕ) → List (ℕ × V) → ℕ
total_weight weight [] = 0
total_weight weight (e ∷ es) = weight e.1 + total_weight weight es

-- from old to new it is g more, modulo 2 ^ 64
abbrev pub GrewBy : ℕ → ℕ → ℕ → Type 0
GrewBy old g new = (old + g) % 2 ^ 64 ≡ new % 2 ^ 64
