-- Proofs of `fill_below`, src/neighbours.rt.
use Rattle.std.proofs.Common.{◌≡◌, ℕ, ◌-◌, ◌<◌, List, reverse, length, get_or, take, refl, ◌∙◌, ap, arith}
use Rattle.std.proofs.lemmas.List.{length-reverse, length-take-le}
use Rattle.std.specs.Map.{keys_of}
use Rattle.pages.proofs.Decoding.{read_first, keys_seen, entry_count, keys_long}
use Rattle.pages.proofs.Filling.{down_at, last_filled}
use Rattle.pages.proofs.neighbours.Neighbours.fill_below.Goals as goal

pub fill_before-requires-clause-within : goal.fill_before-requires-clause-within
fill_before-requires-clause-within c =
    let l = c.self.inside in
    omega (arith, entry_count l.packed.first l.packed.width l.packed.mask l.packed.len l.weights l.packed.offsets.now c.args.self.now c.self.invariant c.self.view_is)

pub fill_before-requires-then-count-gt0-clause-within : goal.fill_before-requires-then-count-gt0-clause-within
fill_before-requires-then-count-gt0-clause-within c =
    let l = c.self.inside in
    omega (arith, entry_count l.packed.first l.packed.width l.packed.mask l.packed.len l.weights l.packed.offsets.now c.args.self.now c.self.invariant c.self.view_is)

pub returns-then-count-gt0 : goal.returns-then-count-gt0
returns-then-count-gt0 c =
    let l = c.self.inside in
    let xs : List ℕ = keys_of c.args.self.now in
    let keys = keys_seen l.packed.first l.packed.width l.packed.mask l.packed.len l.weights l.packed.offsets.now c.args.self.now c.self.invariant c.self.view_is in
    let long_keys = keys_long c.args.self.now in
    let block = c.args.block.now in
    let whole : List ℕ = reverse (take c.args.end xs) in
    let end : c.args.end ≡ length block = omega arith in
    let long : length whole ≡ length block = length-reverse (take c.args.end xs) ∙ length-take-le c.args.end xs (omega (arith, c.requires.within, long_keys)) ∙ end in
    let some : 0 < length xs = omega (arith, c.requires.within, long_keys) in
    let first = read_first l.packed.first l.packed.width l.packed.mask l.packed.len l.packed.offsets.now xs c.self.invariant.view keys some in
    let last : get_or xs 0 0 ≡ get_or whole (length block - 1) 0 = down_at xs c.args.end (length block - 1) 0 (omega (arith, c.requires.within, long_keys)) (omega arith) in
    let rest = rw keys at c.fill_before-then-count-gt0.ensures in
    last_filled block c.fill_before-then-count-gt0.new.block whole (length block) (length (take (length block - 1) block)) l.packed.first refl c.if-count-gt0.true long
    (length-take-le (length block - 1) block (omega arith)) rest (first ∙ last)

pub returns-then-count-end : goal.returns-then-count-end
returns-then-count-end c =
    let l = c.self.inside in
    let keys = keys_seen l.packed.first l.packed.width l.packed.mask l.packed.len l.weights l.packed.offsets.now c.args.self.now c.self.invariant c.self.view_is in
    c.fill_before.ensures ∙ ap (λ ks. take (length c.args.block.now) (reverse (take c.args.end ks))) keys
