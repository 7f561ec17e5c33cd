-- Proofs of `fill`, src/iter.rt.
use Rattle.std.proofs.Common.{◌≡◌, ℕ, ◌+◌, ◌≤◌, ℤ, [], ◌∷◌, ◌++◌, length, slice_set, refl, sym, ◌∙◌, ap, length-set, arith, rules}
use Rattle.c_tree.specs.inside.Chunks.{entries_of}
use Rattle.c_tree.specs.inside.Blocks.{IsRead}
use Rattle.c_tree.proofs.Filling.{IsFilled, same_length, filled_count, filled_one, filled_read, read_whole}
use Rattle.c_tree.proofs.iter.Iter.fill.Goals as goal

key_of : ℕ × ℤ → ℕ
key_of e = e.0

pub loop-filled-preserved : goal.loop-filled-preserved
unfolding key_of
loop-filled-preserved c =
    let l = c.loop-filled in
    let whole = c.args.self.now in
    let old = c.args.block.now in
    let head = c.in-Some.head in
    let weight = c.in-Some.at_head.now.weight in
    let tail = c.in-Some.at_head.now.tail.entries in
    let next = entries_of c.next.new.self in
    let block = slice_set l.block l.filled head in
    let read = c.fill_from-filled-in-loop-filled in
    let none : l.self-inside.tail ≡ [] = l.invariant.stopped c.loop-filled-test.true in
    let cells : l.self-inside.chunks ≡ (head, c.in-Some.at_head.now) ∷ c.next.new.self = search rules in
    let list : l.self-inside.tail ++ entries_of l.self-inside.chunks ≡ (head, weight) ∷ (tail ++ next) =
    ap (λ t. t ++ entries_of l.self-inside.chunks) none ∙ ap entries_of cells in
    let one : IsFilled key_of (l.filled + 1) whole (tail ++ next) old block =
    filled_one key_of l.filled whole (head, weight) (tail ++ next) old l.block block (rw list at l.invariant.read) c.loop-filled-test.true refl in
    let from : c.iter-self-inside.result ≡ tail = search rules in
    let is : IsRead key_of (l.filled + 1) tail block read.result read.new.tail read.new.block = rw from at read.ensures in
    let all : IsFilled key_of read.result whole (read.new.tail ++ next) old read.new.block =
    filled_read key_of (l.filled + 1) whole tail next old block read.result read.new.tail read.new.block one is in
    let same : length read.new.block ≡ length block =
    same_length key_of read.result whole (read.new.tail ++ next) old read.new.block all ∙ sym (same_length key_of (l.filled + 1) whole (tail ++ next) old block one) in
    let room : l.filled + 1 ≤ length block = omega (arith, length-set l.block l.filled head) in
    record { read = all; stopped = read_whole key_of (l.filled + 1) tail block read.result read.new.tail read.new.block room is same }

pub returns-in_default-clause-count : goal.returns-in_default-clause-count
unfolding key_of
returns-in_default-clause-count c =
    let l = c.loop-filled in
    let none : l.self-inside.chunks ≡ [] = search rules in
    filled_count key_of l.filled c.args.self.now _ c.args.block.now l.block l.invariant.read
    (λ lt. ap (λ t. t ++ entries_of l.self-inside.chunks) (l.invariant.stopped lt) ∙ ap entries_of none)
