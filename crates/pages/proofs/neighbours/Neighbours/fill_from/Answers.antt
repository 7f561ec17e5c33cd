-- Proofs of `fill_from`, src/neighbours.rt.
use Rattle.std.proofs.Common.{◌≡◌, ℕ, ◌-◌, ◌<◌, List, length, slice_set, take, drop, ◌∙◌, ap, arith, length-drop}
use Rattle.std.proofs.lemmas.Grind.{common_steps}
use Rattle.std.proofs.lemmas.List.{length-set, length-take}
use Rattle.std.specs.Map.{keys_of}
use Rattle.pages.proofs.Decoding.{read_first, keys_seen, entry_count, keys_long}
use Rattle.pages.proofs.Filling.{first_filled}
use Rattle.pages.proofs.neighbours.Neighbours.fill_from.Goals as goal

pub fill_after-requires-clause-room : goal.fill_after-requires-clause-room
fill_after-requires-clause-room c =
    let l = c.self.inside in
    omega (arith, entry_count l.packed.first l.packed.width l.packed.mask l.packed.len l.weights l.packed.offsets.now c.args.self.now c.self.invariant c.self.view_is)

pub fill_after-requires-then-not-is_empty-clause-room : goal.fill_after-requires-then-not-is_empty-clause-room
fill_after-requires-then-not-is_empty-clause-room c =
    let l = c.self.inside in
    let block : List ℕ = slice_set c.args.block.now 0 l.packed.first in
    let some : 0 < length c.args.block.now = grind (arith, common_steps) in
    omega (
      arith,
      entry_count l.packed.first l.packed.width l.packed.mask l.packed.len l.weights l.packed.offsets.now c.args.self.now c.self.invariant c.self.view_is,
      length-set c.args.block.now 0 l.packed.first,
      length-take (length block - 1) (drop 1 block),
      length-drop 1 block,
      some,
    )

pub returns-then-not-is_empty : goal.returns-then-not-is_empty
returns-then-not-is_empty c =
    let l = c.self.inside in
    let xs : List ℕ = keys_of c.args.self.now in
    let keys = keys_seen l.packed.first l.packed.width l.packed.mask l.packed.len l.weights l.packed.offsets.now c.args.self.now c.self.invariant c.self.view_is in
    let long_keys = keys_long c.args.self.now in
    let some : 0 < length c.args.block.now = grind (arith, common_steps) in
    let first = read_first l.packed.first l.packed.width l.packed.mask l.packed.len l.packed.offsets.now xs c.self.invariant.view keys (omega (arith, long_keys)) in
    let start : 0 ≡ c.args.from = omega arith in
    let rest = rw keys at c.fill_after-then-not-is_empty.ensures in
    first_filled c.args.block.now xs c.fill_after-then-not-is_empty.new.block l.packed.first some (omega (arith, long_keys)) first rest
    ∙ ap (λ n. take (length c.args.block.now) (drop n xs)) start

pub returns-then-from-gt0 : goal.returns-then-from-gt0
returns-then-from-gt0 c =
    let l = c.self.inside in
    let keys = keys_seen l.packed.first l.packed.width l.packed.mask l.packed.len l.weights l.packed.offsets.now c.args.self.now c.self.invariant c.self.view_is in
    c.fill_after.ensures ∙ ap (λ ks. take (length c.args.block.now) (drop c.args.from ks)) keys
