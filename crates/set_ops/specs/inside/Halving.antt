-- Two sets that are cut at one head.
use Rattle.std.specs.Prelude.{◌≡◌, ℕ, ◌+◌, ◌<◌, ◌≤◌, ℤ, Option, Some}
use Rattle.std.specs.Map.{keys_of}
use Rattle.ascending_lists.specs.Ascending.{Ascends}
use Rattle.tail_codec.specs.declared.operation.MapOperation.{MapOperation}
use Rattle.c_tree.specs.Chunks.{ChunkedSet}
use Rattle.c_tree.specs.Parts.{IsRoot, IsCut}
use Rattle.c_tree.specs.declared.cut.Cut.{Cut}
use Rattle.set_ops.specs.declared.halves.Begun.{Begun}
use Rattle.set_ops.specs.declared.halves.Begun.TheVariants.{Whole, Halved}
use Rattle.set_ops.specs.declared.halves.OwnedHalves.{OwnedHalves}
use Rattle.set_ops.specs.declared.combined.Combined.{Combined}
use Rattle.set_ops.specs.inside.Answers.{IsCombined}

-- The set a is l, then k with weight w at its root, then r, and c is the set b cut at k.
pub record AreHalves (a b l : ChunkedSet) (k : ℕ) (w : ℤ) (r : ChunkedSet) (c : Cut) : Type 0 where
  pub first : IsRoot a l k w r
  pub second : IsCut k b c.below c.found c.above

-- the answer for both sets, or both sets cut
abbrev pub IsBegun : MapOperation → ChunkedSet → ChunkedSet → Begun → Type 0
IsBegun op a b (Whole m) = IsCombined op a.chunk_size a.entries b.entries m.part m.common
IsBegun op a b (Halved h) = AreHalves a b h.left h.key h.weight h.right h.second

-- Two sets of one chunk size over a base.
pub record AreOver (base : Option ℕ) (a b : ChunkedSet) : Type 0 where
  pub sizes : a.chunk_size ≡ b.chunk_size
  pub first : Ascends base (keys_of a.entries)
  pub second : Ascends base (keys_of b.entries)

-- The halves below are over a base, and those above over k.
pub record AreHalvesOver (base : Option ℕ) (l : ChunkedSet) (k : ℕ) (r : ChunkedSet) (c : Cut) : Type 0 where
  pub below : AreOver base l c.below
  pub above : AreOver (Some k) r c.above

-- levels at which halves go to two threads, of which there are at most 6
abbrev pub HasForks : ℕ → ℕ → Type 0
HasForks forks level = (0 < forks) × (forks + level ≤ 7)

-- the answer for the halves below
abbrev pub IsBelow : MapOperation → ChunkedSet → Cut → Combined → Type 0
IsBelow op l c m = IsCombined op l.chunk_size l.entries c.below.entries m.part m.common

-- the answer for the halves above
abbrev pub IsAbove : MapOperation → ChunkedSet → Cut → Combined → Type 0
IsAbove op r c m = IsCombined op r.chunk_size r.entries c.above.entries m.part m.common

-- The answers lo and hi are those for the halves below and above.
pub record AreAnswers (op : MapOperation) (l r : ChunkedSet) (c : Cut) (lo hi : Combined) : Type 0 where
  pub below : IsBelow op l c lo
  pub above : IsAbove op r c hi

-- halves that can be lent, over a base
abbrev pub AreLent : Option ℕ → OwnedHalves → Type 0
AreLent base h = AreHalvesOver base h.left h.key h.right h.second

-- the answer for the lent halves below
abbrev pub IsLentBelow : MapOperation → OwnedHalves → Combined → Type 0
IsLentBelow op h m = IsBelow op h.left h.second m

-- the answer for the lent halves above
abbrev pub IsLentAbove : MapOperation → OwnedHalves → Combined → Type 0
IsLentAbove op h m = IsAbove op h.right h.second m

-- the answers for both
abbrev pub AreLentAnswers : MapOperation → OwnedHalves → Combined → Combined → Type 0
AreLentAnswers op h lo hi = AreAnswers op h.left h.right h.second lo hi
