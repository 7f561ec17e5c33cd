use Rattle.std.proofs.Common.{◌≡◌, ℕ, List}
use Rattle.std.specs.List.{flat_map, range_with_len}
use Rattle.std.specs.List.Sorted.{IsPermutation}
use Rattle.vectors.specs.declared.changes.EntryChange.{EntryChange}
use Rattle.crew.specs.Pieces.{AreAnswers, pieces_of}
use Rattle.pull_engine.specs.Ranges.{all_listed}
use Rattle.pull_engine.proofs.pieces.append_pieces.Given as goal

-- the changes of the pieces that have come
abbrev pub invariant-pieces : goal.invariant-pieces
invariant-pieces l = (parts : ℕ → List EntryChange) → IsPermutation (pieces_of l.found) (range_with_len 1 l.pieces) → AreAnswers (λ k g. all_listed g.vectors.items ≡ parts k) l.found
    → l.changes.items ≡ flat_map parts (range_with_len 1 l.index)
