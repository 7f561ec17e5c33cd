-- Proofs of `read_entry`, src/reading.rt.
use Rattle.std.proofs.Common.{◌≡◌, ◌≢◌, ℕ, ◌%◌, pos, to_z, of_z, w64, ap, arith, rules}
use Rattle.tail_codec.specs.inside.Decoding.{number_weight}
use Rattle.tail_codec.proofs.EntryNumbers.{has_numbers, entry_of_two, too_large, second_number, spelled_one, not_one}
use Rattle.tail_codec.proofs.reading.read_entry.Goals as goal

odd : (n : ℕ) → n % 2 ≢ 0 → n % 2 ≡ 1
odd n other = omega arith

pub returns-in_default : goal.returns-in_default
returns-in_default c = λ e rest begins. c.in_default.ensures _ _ (has_numbers c.args.low e rest c.args.bytes.now begins).begins

pub returns-then-key-ge-LIMIT : goal.returns-then-key-ge-LIMIT
returns-then-key-ge-LIMIT c = too_large c.args.low c.in-Some.number c.in-Some.rest.now c.args.bytes.now c.in-Some.ensures c.if-key-ge-LIMIT.true

pub returns-in_default-read_number : goal.returns-in_default-read_number
returns-in_default-read_number c = λ e rest begins.
    let s = second_number c.args.low c.in-Some.number c.in-Some.rest.now c.args.bytes.now c.in-Some.ensures c.if-number-eq0.false e rest begins in
    c.in_default-read_number.ensures _ _ s.0

pub returns-then-number-eq-ONE : goal.returns-then-number-eq-ONE
returns-then-number-eq-ONE c =
    let m = c.in-Some-read_number.number in
    let one : number_weight m ≡ pos 1 = ap number_weight c.if-number-eq-ONE.true in
    spelled_one c.args.low c.in-Some.number m c.in-Some.rest.now c.in-Some-read_number.rest.now c.args.bytes.now c.in-Some.ensures c.if-number-eq0.false c.in-Some-read_number.ensures one

pub returns : goal.returns
returns c =
    let n = c.in-Some.number in
    let m = c.in-Some-read_number.number in
    let same : to_z w64 (of_z w64 c.weight_of_number.result) ≡ number_weight m = search rules in
    let made = entry_of_two c.args.low n m c.in-Some.rest.now c.in-Some-read_number.rest.now c.args.bytes.now c.in-Some.ensures c.in-Some-read_number.ensures
    (odd n c.if-number-eq0.false) c.if-key-ge-LIMIT.false (not_one m c.if-number-eq-ONE.false) in
    rw same made
