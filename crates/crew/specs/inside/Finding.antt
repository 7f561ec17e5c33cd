-- What workers found, before it is put in order.
use Rattle.std.specs.Prelude.{◌≡◌, ℕ, ◌+◌, ◌-◌, ◌<◌, ◌≤◌, Option, Some, List, [], ◌∷◌, ◌++◌, slice_set}
use Rattle.crew.specs.declared.piece_results.Found.{Found}
use Rattle.crew.specs.inside.ClaimWord.{times}
use Rattle.crew.specs.Pieces.{pieces_of}

module _ {T : Type 0} where
  -- it is one of the pieces, with an answer for it
  abbrev pub IsAnswered : (ℕ → T → Type 0) → ℕ → Found T → Type 0
  IsAnswered answers pieces f = (0 < f.piece) × (f.piece ≤ pieces) × answers f.piece f.out

  -- one more piece was found, with an answer for it
  abbrev pub HasAdded : (ℕ → T → Type 0) → ℕ → List (Found T) → List (Found T) → Type 0
  HasAdded answers piece before after = (f : Found T) × (after ≡ before ++ f ∷ []) × (f.piece ≡ piece) × answers piece f.out

  -- each of the pieces is among what was found
  abbrev pub AreAll : ℕ → List (Found T) → Type 0
  AreAll pieces found = (j : ℕ) → j < pieces → 0 < times (j + 1) (pieces_of found)

  -- the slots after each piece was put into its own
  abbrev pub put_all : List (Option (Found T)) → List (Found T) → List (Option (Found T))
  put_all slots [] = slots
  put_all slots (f ∷ found) = put_all (slice_set slots (f.piece - 1) (Some f)) found
