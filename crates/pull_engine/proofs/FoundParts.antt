-- Pieces that are found, and put together in their order.
use Rattle.std.proofs.Common.{◌≡◌, ℕ, zero, suc, ◌+◌, ◌<◌, List, [], ◌∷◌, ◌++◌, length, get_or, Contains, sym, ap, ◌∙◌, arith}
use Rattle.std.proofs.lemmas.Grind.{flat_map-append}
use Rattle.std.proofs.lemmas.List.{append-nil, get_or_default}
use Rattle.std.proofs.lemmas.List.Sorted.{Contains-permutation, IsPermutation-sym}
use Rattle.std.specs.List.{flat_map, range_with_len}
use Rattle.std.specs.List.Sorted.{IsPermutation}
use Rattle.crew.specs.declared.piece_results.Found.{Found}
use Rattle.edge_fold.specs.declared.gathered.Gathered.{Gathered}
use Rattle.vectors.specs.declared.changes.EntryChange.{EntryChange}
use Rattle.crew.specs.Pieces.{AreAnswers}
use Rattle.pull_engine.specs.Ranges.{all_listed}
use Rattle.vertex_sets.proofs.Ascending.{range_end, range_has}

-- what is found at an index is the part of its piece
abbrev pub ListParts : (parts : ℕ → List EntryChange) → List (Found Gathered) → Type 0
ListParts parts fs = AreAnswers (λ k g. all_listed g.vectors.items ≡ parts k) fs

part_at : (parts : ℕ → List EntryChange) (fs : List (Found Gathered)) (i : ℕ) (d : Found Gathered) → ListParts parts fs → i < length fs
    → all_listed (get_or fs i d).out.vectors.items ≡ parts (get_or fs i d).piece
part_at parts [] i d are l = absurd (omega (arith, l))
part_at parts (f ∷ fs) zero d are l = are.0
part_at parts (f ∷ fs) (suc i) d are l = part_at parts fs i d are.1 (omega (arith, l))

pub part_found : (parts : ℕ → List EntryChange) (fs : List (Found Gathered)) (i piece : ℕ) (d e f : Found Gathered) → ListParts parts fs → i < length fs → e ≡ get_or fs i d
    → (get_or fs i f).piece ≡ piece → all_listed e.out.vectors.items ≡ parts piece
part_found parts fs i piece d e f are l is at =
    ap (λ (g : Found Gathered). all_listed g.out.vectors.items) is ∙ part_at parts fs i d are l
    ∙ ap (λ (g : Found Gathered). parts g.piece) (get_or_default fs i d f l) ∙ ap parts at

-- one piece more
pub parts_more : (parts : ℕ → List EntryChange) (n : ℕ) (found part more : List EntryChange) → part ≡ parts (n + 1) → more ≡ found ++ part → found ≡ flat_map parts (range_with_len 1 n)
    → more ≡ flat_map parts (range_with_len 1 (n + 1))
parts_more parts n found part more is tells was =
    let next : n + 1 ≡ 1 + n = omega arith in
    tells ∙ ap (λ cs. cs ++ part) was ∙ ap (λ cs. flat_map parts (range_with_len 1 n) ++ cs) (is ∙ sym (append-nil (parts (n + 1))))
    ∙ sym (flat_map-append parts (range_with_len 1 n) ((n + 1) ∷ [])) ∙ ap (flat_map parts) (sym (range_end 1 n (n + 1) next))

-- each piece is found
pub piece_is_found : (pieces n : ℕ) (found : List ℕ) → IsPermutation found (range_with_len 1 pieces) → n < pieces → Contains found (n + 1)
piece_is_found pieces n found same l =
    Contains-permutation (range_with_len 1 pieces) found (n + 1) (IsPermutation-sym found (range_with_len 1 pieces) same) (range_has 1 pieces (n + 1) (omega arith) (omega (arith, l)))
