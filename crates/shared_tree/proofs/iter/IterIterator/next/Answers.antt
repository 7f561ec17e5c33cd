-- Proofs of `next`, src/iter.rt.
use Rattle.std.proofs.Common.{◌-◌, ◌<◌, drop, length, take, sym, ap, ◌∙◌, arith}
use Rattle.std.proofs.lemmas.List.{length-drop}
use Rattle.shared_tree.specs.inside.Pending.{pending}
use Rattle.shared_tree.proofs.Stacks.{pending_top, room_top, next_entries, next_room}
use Rattle.shared_tree.proofs.Lowest.{lent_rest, rest_written, on_stack, above_lowest, lowest}
use Rattle.shared_tree.proofs.iter.IterIterator.next.Goals as goal

pub returns-in-Empty-clause-steps : goal.returns-in-Empty-clause-steps
returns-in-Empty-clause-steps g c =
    let i = c.self.inside in
    let link = c.index-links-height in
    let end = ap (λ n. pending (take n (drop 1 i.links))) (lowest i.links link.result i.height (omega arith) c.self.invariant.2 link.is c.in-Empty.is) in
    (sym c.self.view_is ∙ end, end)

pub descend-top-requires-clause-room : goal.descend-top-requires-clause-room
descend-top-requires-clause-room g c =
    let i = c.self.inside in
    let link = c.index-links-height in
    let some = above_lowest i.links link.result i.height _ _ _ c.self.invariant.3 link.is c.in-Fork.is in
    let within : i.height - 1 < length (drop 1 i.links) = omega (arith, some, length-drop 1 i.links) in
    let top = room_top (drop 1 i.links) (i.height - 1) link.result within (on_stack i.links link.result i.height some link.is) i.height (omega (arith, some)) c.self.invariant.2 in
    next_room link.result.now c.link.result.now _ _ _ c.in-Fork.is (rw c.deref.ensures at c.link.ensures) (i.height - 1) top.1

pub descend-top-requires-clause-stack : goal.descend-top-requires-clause-stack
descend-top-requires-clause-stack g c =
    let i = c.self.inside in
    let link = c.index-links-height in
    let some = above_lowest i.links link.result i.height _ _ _ c.self.invariant.3 link.is c.in-Fork.is in
    let within : i.height - 1 < length (drop 1 i.links) = omega (arith, some, length-drop 1 i.links) in
    let top = room_top (drop 1 i.links) (i.height - 1) link.result within (on_stack i.links link.result i.height some link.is) i.height (omega (arith, some)) c.self.invariant.2 in
    rw (lent_rest i.links) top.0

pub returns-in-Fork-clause-steps : goal.returns-in-Fork-clause-steps
returns-in-Fork-clause-steps g c =
    let i = c.self.inside in
    let link = c.index-links-height in
    let some = above_lowest i.links link.result i.height _ _ _ c.self.invariant.3 link.is c.in-Fork.is in
    let within : i.height - 1 < length (drop 1 i.links) = omega (arith, some, length-drop 1 i.links) in
    let top = pending_top (drop 1 i.links) (i.height - 1) link.result within (on_stack i.links link.result i.height some link.is) i.height (omega (arith, some)) in
    let left = rw (lent_rest i.links) at c.descend-top.ensures.entries in
    rw (c.deref-in-Fork.ensures, rest_written i.links c.descend-top.new.links (omega arith))
    (next_entries link.result.now c.link.result.now _ _ _ c.in-Fork.is (rw c.deref.ensures at c.link.ensures) _ _ _ (sym c.self.view_is ∙ top) left)

pub returns-in-Fork-clause-goes : goal.returns-in-Fork-clause-goes
returns-in-Fork-clause-goes g c = record {
  on = λ _. (tt, tt, rw (returns-in-Fork-clause-steps g c) (omega arith));
  keeps = tt;
  rests = λ _. tt;
}
