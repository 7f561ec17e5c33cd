-- A map split at a key.
use Rattle.std.specs.Prelude.{◌≡◌, ℕ, ◌+◌, ◌^◌, Option, Some, None, List, [], ◌∷◌, ◌++◌}
use Rattle.ascending_lists.specs.Maps.{Rises}

-- the one entry at a key, or none where there is no value
abbrev pub entry_at_key : {V : Type 0} → ℕ → Option V → List (ℕ × V)
entry_at_key k None = []
entry_at_key k (Some v) = (k, v) ∷ []

-- m is the value at k in es, front has the entries before it, and back those after it
pub record IsSplit {V : Type 0} (k : ℕ) (es front : List (ℕ × V)) (m : Option V) (back : List (ℕ × V)) : Type 0 where
  pub whole : es ≡ front ++ (entry_at_key k m ++ back)
  pub below : Rises 0 k front
  pub above : Rises (k + 1) (2 ^ 32) back
