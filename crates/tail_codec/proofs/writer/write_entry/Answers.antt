-- Proofs of `write_entry`, src/writer.rt.
use Rattle.std.proofs.Common.{◌≡◌, ◌≢◌, ℕ, ◌+◌, ◌*◌, ◌^◌, ◌<◌, ℤ, ◌++◌, take, refl, sym, ◌∙◌, ap, append_assoc, arith, rules}
use Rattle.tail_codec.specs.Spelling.{weight_number}
use Rattle.tail_codec.specs.inside.Writing.{Fits, entry_room}
use Rattle.tail_codec.proofs.Numbers.{one_number}
use Rattle.tail_codec.proofs.EntryNumbers.{is_one_by, is_other_by}
use Rattle.tail_codec.proofs.writer.write_entry.Goals as goal

room_one : (w : ℤ) → weight_number w ≡ 2 → entry_room w ≡ 5
room_one w is = rw (is_one_by w is) refl

room_other : (w : ℤ) → weight_number w ≢ 2 → entry_room w ≡ 15
room_other w other = rw (is_other_by w other) refl

five : (k : ℕ) → k < 2 ^ 35 → Fits k 5
five k small = record { some = omega arith; small = omega (arith, small) }

ten : (k : ℕ) → k < 2 ^ 64 → Fits k 10
ten k small = record { some = omega arith; small = omega (arith, small) }

pub write_number-requires : goal.write_number-requires
write_number-requires c =
    let is : c.number_of_weight-number.result ≡ weight_number c.args.weight = search rules in
    let one = room_one c.args.weight (sym is ∙ c.if-number-eq-ONE.true) in
    (5, five _ (omega (arith, c.requires.small)), omega (arith, one, c.requires.room))

pub returns-then-number-eq-ONE : goal.returns-then-number-eq-ONE
returns-then-number-eq-ONE c =
    let is : c.number_of_weight-number.result ≡ weight_number c.args.weight = search rules in
    let two = sym is ∙ c.if-number-eq-ONE.true in
    let w = c.write_number.ensures in
    record {
      bytes = w.bytes;
      spells = rw (is_one_by c.args.weight two) (one_number (2 * c.args.distance) w.bytes w.spells);
      front = w.front;
      after = omega (arith, room_one c.args.weight two, w.after 5 (five (2 * c.args.distance) (omega (arith, c.requires.small))));
    }

pub write_number-position-requires : goal.write_number-position-requires
write_number-position-requires c =
    let is : c.number_of_weight-number.result ≡ weight_number c.args.weight = search rules in
    let other = room_other c.args.weight (λ two. c.if-number-eq-ONE.false (is ∙ two)) in
    (5, five _ (omega (arith, c.requires.small)), omega (arith, other, c.requires.room))

pub write_number-requires-2 : goal.write_number-requires-2
write_number-requires-2 c =
    let is : c.number_of_weight-number.result ≡ weight_number c.args.weight = search rules in
    let other = room_other c.args.weight (λ two. c.if-number-eq-ONE.false (is ∙ two)) in
    let first = c.write_number-position.ensures.after 5 (five (2 * c.args.distance + 1) (omega (arith, c.requires.small))) in
    (10, ten c.number_of_weight-number.result (omega (arith, c.number_of_weight-number.type_inv)), omega (arith, other, first, c.requires.room))

pub returns : goal.returns
returns c =
    let is : c.number_of_weight-number.result ≡ weight_number c.args.weight = search rules in
    let not_two : weight_number c.args.weight ≢ 2 = λ two. c.if-number-eq-ONE.false (is ∙ two) in
    let w = c.write_number-position.ensures in
    let v = c.write_number-2.ensures in
    let number : c.number_of_weight-number.result < 2 ^ 64 = omega (arith, c.number_of_weight-number.type_inv) in
    record {
      bytes = w.bytes ++ v.bytes;
      spells = rw (is_other_by c.args.weight not_two) (w.bytes, v.bytes, refl, w.spells, one_number (weight_number c.args.weight) v.bytes (rw is at v.spells));
      front = v.front ∙ ap (λ u. u ++ v.bytes) w.front ∙ append_assoc (take c.args.position c.args.buffer.now) w.bytes v.bytes;
      after = omega (arith, room_other c.args.weight not_two, w.after 5 (five (2 * c.args.distance + 1) (omega (arith, c.requires.small))), v.after 10 (ten c.number_of_weight-number.result number));
    }
