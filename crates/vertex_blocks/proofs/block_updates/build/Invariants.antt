use Rattle.std.proofs.Common.{◌≡◌, ℕ, ◌*◌, ◌^◌, ◌≤◌, length}
use Rattle.std.specs.Option.{option_copied}
use Rattle.pages.specs.Updates.{updates_of, EdgesAscend}
use Rattle.vertex_blocks.specs.inside.Steps.{IsBuilt, list_after}
use Rattle.vertex_blocks.proofs.block_updates.build.Given as goal

abbrev pub invariant-loop-first : goal.invariant-loop-first
invariant-loop-first l = record {
  low : l.low ≤ 64;
  built : IsBuilt (list_after l.fn.updates (option_copied l.fn.old)) l.low l.building.page l.building.long;
  coming : EdgesAscend (l.low * 2 ^ 24) l.rest;
  passed : (u : ℕ) → l.low ≤ u → updates_of u l.fn.updates ≡ updates_of u l.rest;
}

abbrev pub decreases-loop-first : goal.decreases-loop-first
decreases-loop-first l = length l.rest
