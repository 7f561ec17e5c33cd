-- Proofs of `combine` and its mutually recursive functions, src/combine.rt.
use Rattle.std.proofs.Common.{◌≡◌, to_z, of_z, w64, arith, rules}
use Rattle.set_ops.specs.inside.Answers.{IsCombined, IsRejoined}
use Rattle.set_ops.specs.inside.Halving.{AreHalves, AreAnswers}
use Rattle.set_ops.proofs.Combining.{head_of, halves_less, halves_over, halves_rejoin, ok_is}
use Rattle.set_ops.proofs.combine.+combine.Goals as goal

pub combine-requires : goal.combine-requires
combine-requires t c =
    let a = c.args.first.now in
    let b = c.args.second.now in
    let h = c.in-Halved.halves in
    let is : AreHalves a b h.left h.key h.weight h.right h.second = rw c.in-Halved.is at c.in_ok-combined.ensures in
    let less = (halves_less c.args.task.base a b h.left h.key h.weight h.right h.second is c.requires.first_over c.requires.second_over).0 in
    let over = halves_over c.args.task.base a b h.left h.key h.weight h.right h.second is c.requires.first_over c.requires.second_over c.requires.sizes in
    (omega (arith, less), rw c.view-below.ensures (over.below.sizes, (over.below.first, over.below.second)))

pub combine-requires-2 : goal.combine-requires-2
combine-requires-2 t c =
    let a = c.args.first.now in
    let b = c.args.second.now in
    let h = c.in-Halved.halves in
    let is : AreHalves a b h.left h.key h.weight h.right h.second = rw c.in-Halved.is at c.in_ok-combined.ensures in
    let less = (halves_less c.args.task.base a b h.left h.key h.weight h.right h.second is c.requires.first_over c.requires.second_over).1 in
    let over = halves_over c.args.task.base a b h.left h.key h.weight h.right h.second is c.requires.first_over c.requires.second_over c.requires.sizes in
    (omega (arith, less), rw (c.view-above.ensures, c.above.ensures) (over.above.sizes, (over.above.first, over.above.second)))

pub rejoin-requires-clause-ascending : goal.rejoin-requires-clause-ascending
rejoin-requires-clause-ascending t c =
    let a = c.args.first.now in
    let b = c.args.second.now in
    let h = c.in-Halved.halves in
    let op = c.args.task.operation in
    let is : AreHalves a b h.left h.key h.weight h.right h.second = rw c.in-Halved.is at c.in_ok-combined.ensures in
    let are : AreAnswers op h.left h.right h.second c.in_ok-below.below c.in_ok-above.above =
    record { below = rw c.view-below.ensures at c.in_ok-below.ensures; above = rw (c.above.ensures, c.view-above.ensures) at c.in_ok-above.ensures } in
    let round : to_z w64 (of_z w64 h.weight) ≡ h.weight = search rules in
    rw round (halves_rejoin c.args.task.base a b h.left h.key h.weight h.right h.second is c.requires.first_over c.requires.second_over op c.in_ok-below.below c.in_ok-above.above are).ascending

pub rejoin-requires-clause-below_room : goal.rejoin-requires-clause-below_room
rejoin-requires-clause-below_room t c =
    let a = c.args.first.now in
    let b = c.args.second.now in
    let h = c.in-Halved.halves in
    let op = c.args.task.operation in
    let is : AreHalves a b h.left h.key h.weight h.right h.second = rw c.in-Halved.is at c.in_ok-combined.ensures in
    let are : AreAnswers op h.left h.right h.second c.in_ok-below.below c.in_ok-above.above =
    record { below = rw c.view-below.ensures at c.in_ok-below.ensures; above = rw (c.above.ensures, c.view-above.ensures) at c.in_ok-above.ensures } in
    (halves_rejoin c.args.task.base a b h.left h.key h.weight h.right h.second is c.requires.first_over c.requires.second_over op c.in_ok-below.below c.in_ok-above.above are).below_room

pub rejoin-requires-clause-above_room : goal.rejoin-requires-clause-above_room
rejoin-requires-clause-above_room t c =
    let a = c.args.first.now in
    let b = c.args.second.now in
    let h = c.in-Halved.halves in
    let op = c.args.task.operation in
    let is : AreHalves a b h.left h.key h.weight h.right h.second = rw c.in-Halved.is at c.in_ok-combined.ensures in
    let are : AreAnswers op h.left h.right h.second c.in_ok-below.below c.in_ok-above.above =
    record { below = rw c.view-below.ensures at c.in_ok-below.ensures; above = rw (c.above.ensures, c.view-above.ensures) at c.in_ok-above.ensures } in
    (halves_rejoin c.args.task.base a b h.left h.key h.weight h.right h.second is c.requires.first_over c.requires.second_over op c.in_ok-below.below c.in_ok-above.above are).above_room

pub returns : goal.returns
returns t c =
    let a = c.args.first.now in
    let b = c.args.second.now in
    let h = c.in-Halved.halves in
    let op = c.args.task.operation in
    let is : AreHalves a b h.left h.key h.weight h.right h.second = rw c.in-Halved.is at c.in_ok-combined.ensures in
    let are : AreAnswers op h.left h.right h.second c.in_ok-below.below c.in_ok-above.above =
    record { below = rw c.view-below.ensures at c.in_ok-below.ensures; above = rw (c.above.ensures, c.view-above.ensures) at c.in_ok-above.ensures } in
    let round : to_z w64 (of_z w64 h.weight) ≡ h.weight = search rules in
    ok_is
    (λ m. IsRejoined op c.in_ok-below.below (head_of h.key h.weight h.second.found) c.in_ok-above.above m.part m.common)
    (λ m. IsCombined op a.chunk_size a.entries b.entries m.part m.common)
    (halves_rejoin c.args.task.base a b h.left h.key h.weight h.right h.second is c.requires.first_over c.requires.second_over op c.in_ok-below.below c.in_ok-above.above are).whole
    c.rejoin.result (rw round at c.rejoin.ensures)
