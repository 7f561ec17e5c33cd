use Rattle.std.proofs.Common.{◌≡◌, ℕ, ◌*◌, List}
use Rattle.std.specs.List.{filter, range_with_len}
use Rattle.vertex_sets.specs.inside.Words.{bit_members}
use Rattle.edge_fold.proofs.Walks.{HasWalked}
use Rattle.edge_apply.specs.Words.{passes_words}
use Rattle.pull_engine.specs.Columns.{columns}
use Rattle.pull_engine.specs.inside.Words.{in_word}
use Rattle.pull_engine.proofs.destinations.fold_block.Given as goal

-- the edges into some vertices are folded, and those of the bits that are left come
abbrev pub invariant-vertices : goal.invariant-vertices
invariant-vertices l =
    let lines = columns (passes_words l.input.from) l.input.flat.now.edges in
    (all : List ℕ) × (lines all ≡ lines (filter (in_word (64 * l.block) l.word) (range_with_len (64 * l.block) 64)))
    × HasWalked l.input.context lines all (bit_members 64 (64 * l.block) l.left) l.fn.scratch l.scratch

abbrev pub decreases-vertices : goal.decreases-vertices
decreases-vertices l = l.left
