-- The pieces of a list.
use Rattle.std.proofs.Common.{◌≡◌, ℕ, ◌+◌, ◌-◌, ◌<◌, List, [], ◌∷◌, ◌++◌, length, take, drop, get_or, slice_range, refl, sym, ap, ◌∙◌, arith}
use Rattle.std.proofs.lemmas.List.{drop-drop, drop_all, get_or-drop, take-append-drop}
use Rattle.std.specs.List.{flat_map, range_with_len}
use Rattle.crew.specs.Partition.{AreEnds, all_pieces, end_of, piece_of}

-- a piece and what is after it
part_and_rest : (s e : ℕ) (xs : List ℕ) → s < e → slice_range xs s e ++ drop e xs ≡ drop s xs
part_and_rest s e xs low =
    let q : s + (e - s) ≡ e = omega (arith, low) in
    ap (λ ys. take (e - s) (drop s xs) ++ ys) (ap (λ k. drop k xs) (sym q) ∙ sym (drop-drop (e - s) s xs)) ∙ take-append-drop (e - s) (drop s xs)

-- the pieces from an end on
pieces_from : (ends xs : List ℕ) (j s : ℕ) (es : List ℕ) → drop j (0 ∷ ends) ≡ s ∷ es → AreEnds s (length xs) es
    → flat_map (piece_of ends xs) (range_with_len (j + 1) (length es)) ≡ drop s xs
pieces_from ends xs j s [] at are = sym (drop_all s xs (omega (arith, are)))
pieces_from ends xs j s (e ∷ es) at are =
    let all = 0 ∷ ends in
    let start : end_of ends (j + 1 - 1) ≡ s = ap (λ k. get_or all k 0) (let q : j + 1 - 1 ≡ j + 0 = omega arith in q) ∙ sym (get_or-drop j all 0 0) ∙ ap (λ ys. get_or ys 0 0) at in
    let end : end_of ends (j + 1) ≡ e = sym (get_or-drop j all 1 0) ∙ ap (λ ys. get_or ys 1 0) at in
    let next : drop (j + 1) all ≡ e ∷ es = sym (drop-drop 1 j all) ∙ ap (drop 1) at in
    ap (λ ys. ys ++ flat_map (piece_of ends xs) (range_with_len (j + 1 + 1) (length es))) (ap (λ k. slice_range xs k (end_of ends (j + 1))) start ∙ ap (slice_range xs s) end)
    ∙ ap (λ ys. slice_range xs s e ++ ys) (pieces_from ends xs (j + 1) e es next are.1)
    ∙ part_and_rest s e xs are.0

pub pieces_are_the_list : (ends xs : List ℕ) → AreEnds 0 (length xs) ends → all_pieces ends xs ≡ xs
pieces_are_the_list ends xs are = pieces_from ends xs 0 0 ends refl are
