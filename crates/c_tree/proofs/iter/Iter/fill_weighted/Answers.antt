-- Proofs of `fill_weighted`, src/iter.rt.
use Rattle.std.proofs.Common.{◌≡◌, ℕ, ◌+◌, ◌≤◌, ℤ, [], ◌∷◌, ◌++◌, length, slice_set, to_z, of_z, w64, refl, sym, ◌∙◌, ap, length-set, arith, rules}
use Rattle.c_tree.specs.inside.Chunks.{entries_of}
use Rattle.c_tree.specs.inside.Blocks.{IsRead}
use Rattle.c_tree.proofs.Filling.{IsFilled, same_length, filled_count, filled_one, filled_read, read_whole}
use Rattle.c_tree.proofs.iter.Iter.fill_weighted.Goals as goal

key_of : ℕ × ℤ → ℕ
key_of e = e.0

weight_of : ℕ × ℤ → ℤ
weight_of e = e.1

pub loop-filled-preserved : goal.loop-filled-preserved
unfolding key_of weight_of
loop-filled-preserved c =
    let l = c.loop-filled in
    let whole = c.args.self.now in
    let head = c.in-Some.head in
    let weight = c.in-Some.at_head.now.weight in
    let tail = c.in-Some.at_head.now.tail.entries in
    let next = entries_of c.next.new.self in
    let keys = slice_set l.keys l.filled head in
    let weights = slice_set l.weights l.filled weight in
    let read = c.fill_weighted_from-filled-in-loop-filled in
    let none : l.self-inside.tail ≡ [] = l.invariant.stopped c.loop-filled-test.true in
    let cells : l.self-inside.chunks ≡ (head, c.in-Some.at_head.now) ∷ c.next.new.self = search rules in
    let list : l.self-inside.tail ++ entries_of l.self-inside.chunks ≡ (head, weight) ∷ (tail ++ next) =
    ap (λ t. t ++ entries_of l.self-inside.chunks) none ∙ ap entries_of cells in
    let one : IsFilled key_of (l.filled + 1) whole (tail ++ next) c.args.keys.now keys =
    filled_one key_of l.filled whole (head, weight) (tail ++ next) c.args.keys.now l.keys keys (rw list at l.invariant.keys) c.loop-filled-test.true refl in
    let other : IsFilled weight_of (l.filled + 1) whole (tail ++ next) c.args.weights.now weights =
    filled_one weight_of l.filled whole (head, weight) (tail ++ next) c.args.weights.now l.weights weights (rw list at l.invariant.weights)
    (omega (arith, l.invariant.columns, c.loop-filled-test.true)) refl in
    let round : to_z w64 (of_z w64 c.weight.result) ≡ c.weight.result = search rules in
    let value : to_z w64 (of_z w64 c.weight.result) ≡ weight = round ∙ c.weight.ensures in
    let from : c.iter-self-inside.result ≡ tail = search rules in
    let is : IsRead key_of (l.filled + 1) tail keys read.result read.new.tail read.new.keys = rw from at read.ensures.keys in
    let is' : IsRead weight_of (l.filled + 1) tail weights read.result read.new.tail read.new.weights = rw (from, value) at read.ensures.weights in
    let all : IsFilled key_of read.result whole (read.new.tail ++ next) c.args.keys.now read.new.keys =
    filled_read key_of (l.filled + 1) whole tail next c.args.keys.now keys read.result read.new.tail read.new.keys one is in
    let all' : IsFilled weight_of read.result whole (read.new.tail ++ next) c.args.weights.now read.new.weights =
    filled_read weight_of (l.filled + 1) whole tail next c.args.weights.now weights read.result read.new.tail read.new.weights other is' in
    let long : length read.new.keys ≡ length c.args.keys.now = same_length key_of read.result whole (read.new.tail ++ next) c.args.keys.now read.new.keys all in
    let long' : length read.new.weights ≡ length c.args.weights.now = same_length weight_of read.result whole (read.new.tail ++ next) c.args.weights.now read.new.weights all' in
    let same : length read.new.keys ≡ length keys = long ∙ sym (same_length key_of (l.filled + 1) whole (tail ++ next) c.args.keys.now keys one) in
    let room : l.filled + 1 ≤ length keys = omega (arith, length-set l.keys l.filled head) in
    record {
      keys = all;
      weights = all';
      columns = long' ∙ c.requires ∙ sym long;
      stopped = read_whole key_of (l.filled + 1) tail keys read.result read.new.tail read.new.keys room is same;
    }

pub returns-in_default-clause-count : goal.returns-in_default-clause-count
unfolding key_of
returns-in_default-clause-count c =
    let l = c.loop-filled in
    let none : l.self-inside.chunks ≡ [] = search rules in
    filled_count key_of l.filled c.args.self.now _ c.args.keys.now l.keys l.invariant.keys
    (λ lt. ap (λ t. t ++ entries_of l.self-inside.chunks) (l.invariant.stopped lt) ∙ ap entries_of none)
