-- Blocks of 64 vertices, and words with a bit for each vertex of one.
use Rattle.std.specs.Prelude.{ℕ, ◌*◌, ℤ, List}
use Rattle.apply_options.specs.declared.reduction.Reduction.{Reduction}
use Rattle.vectors.specs.Lanes.{lane_entry}
use Rattle.vectors.specs.declared.changes.EntryChange.{EntryChange}
use Rattle.edge_fold.specs.Changed.{changed_from}
use Rattle.edge_apply.specs.Words.{passes_words}
use Rattle.pull_engine.specs.declared.blocks.BlockPull.{BlockPull}
use Rattle.pull_engine.specs.inside.Ranges.{pulled_to}
use Rattle.pull_engine.specs.inside.Words.{in_word}

-- the changes of a pull to those vertices of a block whose bits are set in a word
abbrev pub block_changes : BlockPull → Reduction → (number : ℕ → ℤ → ℤ) → (block word : ℕ) → List EntryChange
block_changes p r number block word =
    changed_from (lane_entry p.old) (pulled_to r number (lane_entry p.old) (passes_words p.from) (in_word (64 * block) word) p.flat.now.edges) (64 * block) 64
