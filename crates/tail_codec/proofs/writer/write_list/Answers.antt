-- Proofs of `write_list`, src/writer.rt.
use Rattle.std.proofs.Common.{◌≡◌, ℕ, ◌+◌, ◌-◌, ◌^◌, ◌<◌, ℤ, pos, to_z, of_z, w64, List, length, take, get_or, refl, sym, ◌∙◌, ap, arith, rules}
use Rattle.std.specs.Map.{keys_of}
use Rattle.tail_codec.specs.Appending.{least_after}
use Rattle.tail_codec.specs.Spelling.{weight_number}
use Rattle.tail_codec.specs.inside.Writing.{entry_room}
use Rattle.tail_codec.proofs.Writing.{entry_fits, entry_next, key_of, length_keys, room_after, written}
use Rattle.tail_codec.proofs.writer.write_list.Goals as goal

-- the entry at a position, by the column of keys
key_at : (i key : ℕ) (keys : List ℕ) (es : List (ℕ × ℤ)) → keys ≡ keys_of es → i < length es → key ≡ get_or keys i 0 → key ≡ (get_or es i (0, pos 0)).0
key_at i key keys es same within is = is ∙ ap (λ v. get_or v i 0) same ∙ key_of i es within

as_long : (keys : List ℕ) (es : List (ℕ × ℤ)) → keys ≡ keys_of es → length keys ≡ length es
as_long keys es same = ap length same ∙ length_keys es

pub overflow_sub-key : goal.overflow_sub-key
overflow_sub-key c =
    let l = c.loop-position in
    let es = c.args.entries.now in
    let within : l.position < length es = omega (arith, c.loop-position-test.true, as_long c.keys-keys.result.now es c.keys-keys.ensures) in
    rw (key_at l.position c.from-key.result c.keys-keys.result.now es c.keys-keys.ensures within c.from-key.ensures, l.invariant.next)
    (entry_fits c.args.low l.position es within c.requires.ascending).0

pub write_entry-len-requires-clause-small : goal.write_entry-len-requires-clause-small
write_entry-len-requires-clause-small c =
    let l = c.loop-position in
    let es = c.args.entries.now in
    let within : l.position < length es = omega (arith, c.loop-position-test.true, as_long c.keys-keys.result.now es c.keys-keys.ensures) in
    let key = key_at l.position c.from-key.result c.keys-keys.result.now es c.keys-keys.ensures within c.from-key.ensures in
    omega (arith, key, (entry_fits c.args.low l.position es within c.requires.ascending).1)

pub write_entry-len-requires-clause-room : goal.write_entry-len-requires-clause-room
write_entry-len-requires-clause-room c =
    let l = c.loop-position in
    let es = c.args.entries.now in
    let within : l.position < length es = omega (arith, c.loop-position-test.true, as_long c.keys-keys.result.now es c.keys-keys.ensures) in
    let round : to_z w64 (of_z w64 c.weight.result) ≡ c.weight.result = search rules in
    omega (arith, room_after l.position es within, l.invariant.room, c.requires.room, ap entry_room (round ∙ c.weight.ensures))

pub loop-position-preserved : goal.loop-position-preserved
loop-position-preserved c =
    let l = c.loop-position in
    let es = c.args.entries.now in
    let within : l.position < length es = omega (arith, c.loop-position-test.true, as_long c.keys-keys.result.now es c.keys-keys.ensures) in
    let key = key_at l.position c.from-key.result c.keys-keys.result.now es c.keys-keys.ensures within c.from-key.ensures in
    let weight : c.weight.result ≡ (get_or es l.position (0, pos 0)).1 = c.weight.ensures in
    let g : c.from-key.result - l.low ≡ (get_or es l.position (0, pos 0)).0 - least_after c.args.low (keys_of (take l.position es)) = rw (key, l.invariant.next) refl in
    let round : to_z w64 (of_z w64 c.weight.result) ≡ c.weight.result = search rules in
    let entry = rw round at c.write_entry-len.ensures in
    let fits : weight_number (get_or es l.position (0, pos 0)).1 < 2 ^ 64 = rw (← weight) (search rules) in
    record {
      spells = written c.args.low l.position es (c.from-key.result - l.low) l.len c.write_entry-len.result l.buffer c.write_entry-len.new.buffer within c.requires.ascending l.invariant.spells g fits
          (rw (← weight) entry);
      next = ap (λ (n : ℕ). n + 1) key ∙ sym (entry_next c.args.low l.position es within);
      room = omega (arith, entry.after, room_after l.position es within, l.invariant.room, ap entry_room weight);
    }
