-- Proofs of `merge_front`, src/merging.rt.
use Rattle.std.proofs.Common.{◌≡◌, ◌<◌, ℕ, ℤ, length, to_z, of_z, w64, length-set, ◌∙◌, ap, arith, rules}
use Rattle.std.specs.Map.{keys_of}
use Rattle.ascending_lists.proofs.Merging.{some_left}
use Rattle.tail_codec.specs.inside.Merging.{merged}
use Rattle.tail_codec.proofs.Writing.{length_keys}
use Rattle.tail_codec.proofs.MapMerging.{turned, less, on}
use Rattle.tail_codec.proofs.merging.merge_front.Goals as goal

pub loop-from_first-preserved : goal.loop-from_first-preserved
loop-from_first-preserved c =
    let l = c.loop-from_first in
    let op = c.args.operation in
    let xs = c.args.first.now in
    let ys = c.args.second.now in
    let all = merged op xs ys in
    let within' : l.from_first < length (keys_of xs) = omega (arith, c.loop-from_first-test.true, ap length c.keys-first_keys.ensures) in
    let within2' : l.from_second < length (keys_of ys) = omega (arith, c.if-from_second-second_keys.true, ap length c.keys-second_keys.ensures) in
    let within : l.from_first < length xs = omega (arith, within', length_keys xs) in
    let within2 : l.from_second < length ys = omega (arith, within2', length_keys ys) in
    let room : l.len < length l.keys = omega (arith, l.invariant.room, some_left op (keys_of xs) (keys_of ys) l.from_first l.from_second within' within2') in
    let same : length l.weights ≡ length l.keys = omega (arith, l.invariant.keys, l.invariant.weights) in
    let round : to_z w64 (of_z w64 c.weight_of_lesser.result) ≡ c.weight_of_lesser.result = search rules in
    let first : to_z w64 (of_z w64 c.weight.result) ≡ c.weight.result = search rules in
    let second : to_z w64 (of_z w64 c.weight-in-loop-from_first.result) ≡ c.weight-in-loop-from_first.result = search rules in
    let further = on op all xs ys l.keys l.weights l.from_first l.from_second l.len within within2 room same l.invariant.merging in
    rw (
      round,
      c.weight_of_lesser.ensures,
      first,
      second,
      c.from-from_first.ensures,
      c.from-from_second.ensures,
      c.from-len.ensures,
      c.min.ensures,
      c.takes_second-takes_second.ensures,
      c.weight.ensures,
      c.weight-in-loop-from_first.ensures,
      c.keys-first_keys.ensures,
      c.keys-second_keys.ensures,
    ) (record {
      merging = turned op all xs ys l.keys l.weights l.from_first l.from_second l.len within within2 room same l.invariant.merging;
      first = further.0;
      second = further.1;
      room = rw (length-set {A = ℕ}) (omega (arith, less op all xs ys l.keys l.weights l.from_first l.from_second l.len within within2 room same l.invariant.merging, l.invariant.room));
      keys = length-set {A = ℕ} l.keys l.len _ ∙ l.invariant.keys;
      weights = length-set {A = ℤ} l.weights l.len _ ∙ l.invariant.weights;
    })
