-- What a run of pieces finds.
use Rattle.std.specs.Prelude.{◌≡◌, ℕ, ◌+◌, ◌<◌, Some, List, [], ◌∷◌, length, map, slice_get}
use Rattle.crew.specs.declared.piece_results.Found.{Found}

module _ {T : Type 0} (answers : ℕ → T → Type 0) where
  -- at index j stands piece j + 1, with an answer for it
  abbrev pub IsFoundAt : List (Found T) → ℕ → Type 0
  IsFoundAt found j = (f : Found T) × (slice_get found j ≡ Some f) × (f.piece ≡ j + 1) × answers (j + 1) f.out

  -- each of the pieces is found once, in the order of the pieces, and no other
  abbrev pub AreFound : ℕ → List (Found T) → Type 0
  AreFound pieces found = (length found ≡ pieces) × ((j : ℕ) → j < pieces → IsFoundAt found j)

  -- each has an answer for its piece, whatever pieces they are
  abbrev pub AreAnswers : List (Found T) → Type 0
  AreAnswers [] = Unit {0}
  AreAnswers (f ∷ found) = answers f.piece f.out × AreAnswers found

-- the numbers of the pieces
abbrev pub pieces_of : {T : Type 0} → List (Found T) → List ℕ
pieces_of found = map (λ f. f.piece) found
