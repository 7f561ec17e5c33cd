-- What is found of all pieces, as one fact about the list, for the merge of an engine.
use Rattle.std.proofs.Common.{◌≡◌, ℕ, suc, ◌+◌, ◌<◌, Some, List, [], ◌∷◌, length, refl, sym, ap, ap₂, ◌∙◌, subst, arith, slice_get}
use Rattle.std.specs.List.{range_with_len}
use Rattle.std.specs.List.Sorted.{IsPermutation}
use Rattle.std.proofs.lemmas.List.Sorted.{IsPermutation-refl}
use Rattle.crew.specs.declared.piece_results.Found.{Found}
use Rattle.crew.specs.Pieces.{AreAnswers, AreFound, pieces_of}

module _ {T : Type 0} (answers : ℕ → T → Type 0) where
  -- at index j stands piece k + j + 1, with an answer for it
  abbrev StandFrom : ℕ → List (Found T) → Type 0
  StandFrom k found = (j : ℕ) → j < length found → (f : Found T) × (slice_get found j ≡ Some f) × (f.piece ≡ k + j + 1) × answers (k + j + 1) f.out

  stand_after : (k : ℕ) (f : Found T) (found : List (Found T)) → StandFrom k (f ∷ found) → StandFrom (k + 1) found
  stand_after k f found all j below =
      let next = all (suc j) (omega arith) in
      let same : k + suc j + 1 ≡ k + 1 + j + 1 = omega arith in
      (next.0, next.1, next.2 ∙ same, subst (λ n. answers n next.0.out) same next.3)

  stand_first : (k : ℕ) (f : Found T) (found : List (Found T)) → StandFrom k (f ∷ found) → (f.piece ≡ k + 1) × answers f.piece f.out
  stand_first k f found all =
      let first = all 0 (omega arith) in
      let same : first.0 ≡ f = grind arith in
      let number : k + 0 + 1 ≡ k + 1 = omega arith in
      let is : f.piece ≡ k + 1 = ap (λ (g : Found T). g.piece) (sym same) ∙ (first.2 ∙ number) in
      (is, subst (λ (g : Found T). answers g.piece g.out) same (subst (λ n. answers n first.0.out) (sym first.2) first.3))

  stands : (k : ℕ) (found : List (Found T)) → StandFrom k found → AreAnswers answers found × (pieces_of found ≡ range_with_len (k + 1) (length found))
  stands k [] all = (tt, refl)
  stands k (f ∷ found) all =
      let first = stand_first k f found all in
      let rest = stands (k + 1) found (stand_after k f found all) in
      ((first.1, rest.0), ap₂ (λ n ns. n ∷ ns) first.0 rest.1)

  from_first : (pieces : ℕ) (found : List (Found T)) → AreFound answers pieces found → StandFrom 0 found
  from_first pieces found are j below =
      let len = are.0 in
      let at = are.1 j (omega arith) in
      let same : j + 1 ≡ 0 + j + 1 = omega arith in
      (at.0, at.1, at.2 ∙ same, subst (λ n. answers n at.0.out) same at.3)

  -- each has an answer for its piece
  pub found_answers : (pieces : ℕ) (found : List (Found T)) → AreFound answers pieces found → AreAnswers answers found
  found_answers pieces found are = (stands 0 found (from_first pieces found are)).0

  -- each piece is there once, and no other
  pub found_once : (pieces : ℕ) (found : List (Found T)) → AreFound answers pieces found → IsPermutation (pieces_of found) (range_with_len 1 pieces)
  found_once pieces found are =
      let is = (stands 0 found (from_first pieces found are)).1 ∙ ap (range_with_len 1) are.0 in
      subst (IsPermutation (pieces_of found)) is (IsPermutation-refl (pieces_of found))
