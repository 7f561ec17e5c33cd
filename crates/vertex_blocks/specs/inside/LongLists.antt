-- Vertices that have more neighbours than fit into a page, with their lists.
use Rattle.std.specs.Prelude.{ℕ, ℤ, List, map}
use Rattle.pages.specs.inside.Index.{IsIndex}
use Rattle.vertex_blocks.specs.declared.long_list.LongList.{LongList}
use Rattle.vertex_blocks.specs.declared.long_list.LongList.TheVariants.{Packed, Chunked}
use Rattle.vertex_blocks.specs.declared.long_lists.LongEntry.{LongEntry}
use Rattle.vertex_blocks.specs.Blocks.{Block, AreNeighbourLists}

-- the list, packed or in chunks
abbrev pub entries_in : LongList → List (ℕ × ℤ)
entries_in (Packed list) = list
entries_in (Chunked set) = set.entries

-- a vertex with its list
abbrev pub long_entry : LongEntry → ℕ × List (ℕ × ℤ)
long_entry e = (e.vertex, entries_in e.list)

abbrev pub long_entries : List LongEntry → Block
long_entries es = map long_entry es

-- The vertices rise below 64 and have neighbours, and the bits say which vertices are there.
pub record AreLongLists (bits : ℕ) (es : List LongEntry) : Type 0 where
  pub index : IsIndex bits (long_entries es)
  pub lists : AreNeighbourLists (long_entries es)
