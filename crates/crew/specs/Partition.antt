-- The pieces of a list at boundaries, the indices where they end.
use Rattle.std.specs.Prelude.{◌≡◌, ℕ, ◌-◌, ◌<◌, List, [], ◌∷◌, length, slice_index_or, slice_range}
use Rattle.std.specs.List.{flat_map, range_with_len}

-- the ends ascend from an index to the end of a list: each piece has an element, and each element is in one piece
abbrev pub AreEnds : (start length : ℕ) → (ends : List ℕ) → Type 0
AreEnds start length [] = start ≡ length
AreEnds start length (e ∷ es) = (start < e) × AreEnds e length es

-- where piece k ends, from 1; the list begins where piece 0 would end
abbrev pub end_of : (ends : List ℕ) → ℕ → ℕ
end_of ends k = slice_index_or (0 ∷ ends) k 0

-- what is in piece k
abbrev pub piece_of : {A : Type 0} → (ends : List ℕ) → List A → ℕ → List A
piece_of ends xs k = slice_range xs (end_of ends (k - 1)) (end_of ends k)

-- the pieces, one after the other
abbrev pub all_pieces : {A : Type 0} → (ends : List ℕ) → List A → List A
all_pieces ends xs = flat_map (piece_of ends xs) (range_with_len 1 (length ends))
