-- Proofs of `append_together` and its mutually recursive functions, src/spelling.rt.
use Rattle.std.proofs.Common.{◌≡◌, ◌-◌, ◌^◌, ◌<◌, to_z, of_z, w64, arith, rules}
use Rattle.std.specs.Map.{keys_of}
use Rattle.tail_codec.specs.Appending.{least_after}
use Rattle.ascending_lists.specs.Ascending.{least}
use Rattle.tail_codec.specs.Spelling.{SpellsNumbers, entry_numbers, weight_number}
use Rattle.c_tree.specs.inside.Chunks.{together}
use Rattle.c_tree.specs.inside.Spelled.{SpellsUpTo}
use Rattle.c_tree.proofs.Spelled.{left_ascends, left_over, right_ascends, right_over, root_fits, sides_smaller, spelled_whole, appended_after}
use Rattle.c_tree.proofs.spelling.+append_together.Goals as goal

pub append_together-requires : goal.append_together-requires
append_together-requires t c =
    let p = c.args.prefix.now in
    let whole = c.args.chunks.now in
    let k = c.in-Some in
    let smaller = (sides_smaller p whole k.below.now k.head k.at_head.now k.above.now k.ensures c.requires.ascending c.requires.over).0 in (
      omega (arith, smaller),
      (
        left_ascends p whole k.below.now k.head k.at_head.now k.above.now k.ensures c.requires.ascending c.requires.over,
        left_over p whole k.below.now k.head k.at_head.now k.above.now k.ensures c.requires.ascending c.requires.over,
      ),
    )

pub overflow_sub-distance : goal.overflow_sub-distance
overflow_sub-distance t c =
    let p = c.args.prefix.now in
    let whole = c.args.chunks.now in
    let k = c.in-Some in
    let fits = (root_fits p whole k.below.now k.head k.at_head.now k.above.now k.ensures c.requires.ascending c.requires.over).0 in
    rw (c.least_after.ensures, c.from.ensures, c.in_ok-last.ensures.bytes.after) fits

pub append_together-requires-2 : goal.append_together-requires-2
append_together-requires-2 t c =
    let p = c.args.prefix.now in
    let whole = c.args.chunks.now in
    let k = c.in-Some in
    let smaller = (sides_smaller p whole k.below.now k.head k.at_head.now k.above.now k.ensures c.requires.ascending c.requires.over).1 in
    let right = right_ascends p whole k.below.now k.head k.at_head.now k.above.now k.ensures c.requires.ascending c.requires.over in
    (omega (arith, smaller), (rw c.tail.ensures right, right_over p whole k.below.now k.head k.at_head.now k.above.now k.ensures c.requires.ascending c.requires.over))

pub returns : goal.returns
returns t c =
    let p = c.args.prefix.now in
    let whole = c.args.chunks.now in
    let k = c.in-Some in
    let left = c.in_ok-last.ensures in
    let number = c.in_ok-append_entry.ensures in
    let round : to_z w64 (of_z w64 c.weight.result) ≡ c.weight.result = search rules in
    let fits : weight_number k.at_head.now.weight < 2 ^ 64 = rw (← c.weight.ensures) (search rules) in
    let entry : SpellsNumbers (entry_numbers (k.head - least_after (least c.in_ok-last.last.now.base) (keys_of c.in_ok-last.last.now.entries)) k.at_head.now.weight) number.more =
    rw (round, c.weight.ensures, c.least_after.ensures, c.from.ensures) at number.bytes in
    appended_after (λ last more. SpellsUpTo c.tail.result.now.base (together c.tail.result.now k.above.now.entries) last.now more)
    (λ last more. SpellsUpTo p.base (together p whole.entries) last.now more)
    c.args.bytes.now.items c.append_together.new.bytes.items c.append_entry.new.bytes.items left.more number.more left.behind number.behind c.append_together-2.result
    c.append_together-2.new.bytes.items c.append_together-2.ensures
    (λ last more right. spelled_whole p whole k.below.now k.head k.at_head.now k.above.now k.ensures c.requires.ascending c.requires.over c.in_ok-last.last.now left.more number.more left.bytes fits
    entry more last.now (rw c.tail.ensures at right))
