use Rattle.std.proofs.Common.{◌≡◌, ℕ, ◌*◌, List}
use Rattle.std.specs.List.{filter, range_with_len}
use Rattle.vertex_sets.specs.inside.Words.{bit_members}
use Rattle.edge_fold.proofs.Walks.{HasWalked}
use Rattle.edge_apply.specs.Words.{passes_words}
use Rattle.push_engine.specs.inside.Rows.{rows_to}
use Rattle.push_engine.proofs.sources.fold_block.Given as goal

-- the edges from some sources are folded, and those of the bits that are left come
abbrev pub invariant-vertices : goal.invariant-vertices
invariant-vertices l =
    let rows_of = rows_to (passes_words l.input.to) l.input.flat.now.edges in
    (all : List ℕ) × (rows_of all ≡ rows_of (filter (passes_words l.words) (range_with_len (64 * l.number) 64)))
    × HasWalked l.input.context rows_of all (bit_members 64 (64 * l.number) l.left) l.fn.scratch l.scratch

abbrev pub decreases-vertices : goal.decreases-vertices
decreases-vertices l = l.left
