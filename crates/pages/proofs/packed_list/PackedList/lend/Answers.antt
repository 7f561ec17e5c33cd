-- Proofs of `lend`, src/packed_list.rt.
use Rattle.std.proofs.lemmas.List.{take_rest}
use Rattle.pages.proofs.PackedLists.{lent_view}
use Rattle.pages.proofs.packed_list.PackedList.lend.Goals as goal

pub new-requires : goal.new-requires
new-requires c =
    let l = c.self.inside in
    rw (c.number-first.ensures, c.deref.ensures.value, c.deref-2.ensures.value, take_rest l.bytes.items 4) (lent_view l.width l.len l.weights l.bytes.items c.self.invariant)
