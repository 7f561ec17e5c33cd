-- Proofs of the mutually recursive functions of src/forked.rt.
use denote.Exit.{no}
use denote.Param.{param}
use denote.Param.Send.{IsSync, sendable, param_send, arg_send, shr_send}
use Rattle.std.proofs.Common.{◌≡◌, IfOk, Ok, subst, to_z, of_z, w64, arith, rules}
use Rattle.std.proofs.Crossing.{sync as heap_sync}
use Rattle.std.proofs.lemmas.Result.{IfOk-weaker}
use Rattle.set_ops.specs.inside.Answers.{IsRejoined, IsCombined}
use Rattle.set_ops.specs.inside.Halving.{AreHalves, AreAnswers, IsBelow, IsAbove}
use Rattle.set_ops.proofs.Combining.{head_of, halves_over, halves_rejoin, ok_is}
use Rattle.set_ops.proofs.Crossing.{halves_sync, task_sync, number_sync, seven_send}
use Rattle.set_ops.proofs.forked.+forked.Goals as goal

pub combine_forked-in_two-requires-after_bounds : goal.combine_forked-in_two-requires-after_bounds
combine_forked-in_two-requires-after_bounds g t c κs within =
    let a = c.args.first.now in
    let b = c.args.second.now in
    let v = c.in-Halved.halves in
    let h = c.in_ok-halves-in-Halved.halves in
    let same = c.in_ok-halves-in-Halved.ensures in
    let cut : AreHalves a b v.left v.key v.weight v.right v.second = rw c.in-Halved.is at c.in_ok-combined.ensures in
    let is : AreHalves a b h.left h.key h.weight h.right h.second = rw (same.0, same.1, same.2, same.3, same.4) cut in
    ((omega (arith, c.if-forking-eq0.false), c.requires.few), halves_over c.args.task.base a b h.left h.key h.weight h.right h.second is c.requires.first_over c.requires.second_over c.requires.sizes)

pub combine_forked-rejoin-requires-clause-ascending : goal.combine_forked-rejoin-requires-clause-ascending
combine_forked-rejoin-requires-clause-ascending g t c =
    let a = c.args.first.now in
    let b = c.args.second.now in
    let v = c.in-Halved.halves in
    let h = c.in_ok-halves-in-Halved.halves in
    let op = c.args.task.operation in
    let same = c.in_ok-halves-in-Halved.ensures in
    let cut : AreHalves a b v.left v.key v.weight v.right v.second = rw c.in-Halved.is at c.in_ok-combined.ensures in
    let is : AreHalves a b h.left h.key h.weight h.right h.second = rw (same.0, same.1, same.2, same.3, same.4) cut in
    let are : AreAnswers op h.left h.right h.second c.in_ok-below.below c.in_ok-below.above = c.in_ok-below.ensures in
    let round : to_z w64 (of_z w64 h.weight) ≡ h.weight = search rules in
    rw round (halves_rejoin c.args.task.base a b h.left h.key h.weight h.right h.second is c.requires.first_over c.requires.second_over op c.in_ok-below.below c.in_ok-below.above are).ascending

pub combine_forked-rejoin-requires-clause-below_room : goal.combine_forked-rejoin-requires-clause-below_room
combine_forked-rejoin-requires-clause-below_room g t c =
    let a = c.args.first.now in
    let b = c.args.second.now in
    let v = c.in-Halved.halves in
    let h = c.in_ok-halves-in-Halved.halves in
    let op = c.args.task.operation in
    let same = c.in_ok-halves-in-Halved.ensures in
    let cut : AreHalves a b v.left v.key v.weight v.right v.second = rw c.in-Halved.is at c.in_ok-combined.ensures in
    let is : AreHalves a b h.left h.key h.weight h.right h.second = rw (same.0, same.1, same.2, same.3, same.4) cut in
    let are : AreAnswers op h.left h.right h.second c.in_ok-below.below c.in_ok-below.above = c.in_ok-below.ensures in
    (halves_rejoin c.args.task.base a b h.left h.key h.weight h.right h.second is c.requires.first_over c.requires.second_over op c.in_ok-below.below c.in_ok-below.above are).below_room

pub combine_forked-rejoin-requires-clause-above_room : goal.combine_forked-rejoin-requires-clause-above_room
combine_forked-rejoin-requires-clause-above_room g t c =
    let a = c.args.first.now in
    let b = c.args.second.now in
    let v = c.in-Halved.halves in
    let h = c.in_ok-halves-in-Halved.halves in
    let op = c.args.task.operation in
    let same = c.in_ok-halves-in-Halved.ensures in
    let cut : AreHalves a b v.left v.key v.weight v.right v.second = rw c.in-Halved.is at c.in_ok-combined.ensures in
    let is : AreHalves a b h.left h.key h.weight h.right h.second = rw (same.0, same.1, same.2, same.3, same.4) cut in
    let are : AreAnswers op h.left h.right h.second c.in_ok-below.below c.in_ok-below.above = c.in_ok-below.ensures in
    (halves_rejoin c.args.task.base a b h.left h.key h.weight h.right h.second is c.requires.first_over c.requires.second_over op c.in_ok-below.below c.in_ok-below.above are).above_room

pub combine_forked-returns : goal.combine_forked-returns
combine_forked-returns g t c =
    let a = c.args.first.now in
    let b = c.args.second.now in
    let v = c.in-Halved.halves in
    let h = c.in_ok-halves-in-Halved.halves in
    let op = c.args.task.operation in
    let same = c.in_ok-halves-in-Halved.ensures in
    let cut : AreHalves a b v.left v.key v.weight v.right v.second = rw c.in-Halved.is at c.in_ok-combined.ensures in
    let is : AreHalves a b h.left h.key h.weight h.right h.second = rw (same.0, same.1, same.2, same.3, same.4) cut in
    let are : AreAnswers op h.left h.right h.second c.in_ok-below.below c.in_ok-below.above = c.in_ok-below.ensures in
    let round : to_z w64 (of_z w64 h.weight) ≡ h.weight = search rules in
    ok_is
    (λ m. IsRejoined op c.in_ok-below.below (head_of h.key h.weight h.second.found) c.in_ok-below.above m.part m.common)
    (λ m. IsCombined op a.chunk_size a.entries b.entries m.part m.common)
    (halves_rejoin c.args.task.base a b h.left h.key h.weight h.right h.second is c.requires.first_over c.requires.second_over op c.in_ok-below.below c.in_ok-below.above are).whole
    c.rejoin.result (rw round at c.rejoin.ensures)

pub in_two-join-below-requires-send-F : goal.in_two-join-below-requires-send-F
in_two-join-below-requires-send-F g t c κs within =
    let f : IsSync (param 1 g.row.F) = search sendable depth 6 in
    let r : IsSync (param 0 g.row.R) = search sendable depth 6 in
    param_send _ _ (arg_send _ no _ (seven_send _ _ _ _ _ _ _ _ (shr_send _ _ _ f) (shr_send _ _ _ number_sync) (shr_send _ _ _ halves_sync) (shr_send _ _ _ number_sync) (shr_send _ _ _ r)
    (shr_send _ _ _ heap_sync) (shr_send _ _ _ task_sync)))

pub in_two-returns : goal.in_two-returns
in_two-returns g t c =
    let op = c.args.task.operation in
    let h = c.args.halves.now in
    IfOk-weaker c.both.result
    (λ p. (c.join-below.result.0 ≡ Ok p.0) × (c.join-below.result.1 ≡ Ok p.1))
    (λ p. AreAnswers op h.left h.right h.second p.0 p.1)
    (λ p are. record {
      below = subst (λ o. IfOk o (IsBelow op h.left h.second)) {x = c.join-below.result.0} are.0 c.join-below.ensures.first;
      above = subst (λ o. IfOk o (IsAbove op h.right h.second)) {x = c.join-below.result.1} are.1 c.join-below.ensures.second;
    })
    c.both.ensures
