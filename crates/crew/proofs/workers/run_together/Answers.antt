-- Proofs of `run_together`, src/workers.rt.
use Rattle.std.proofs.Common.{sym, subst}
use Rattle.std.proofs.lemmas.Result.{IfOk-weaker}
use Rattle.std.specs.List.{All}
use Rattle.crew.specs.inside.Finding.{IsAnswered, AreAll}
use Rattle.crew.specs.inside.Ordering.{AreInOrder}
use Rattle.crew.specs.Pieces.{AreFound}
use Rattle.crew.proofs.Ordered.{ranged_from, found_in_order}
use Rattle.crew.proofs.workers.run_together.Goals as goal
use Rattle.crew.proofs.workers.run_together.Goals.{in-Claimed+in_ok-found-in-Claimed, in-Fixed+in_ok-found-in-Fixed}

pub in_order-requires-clause-ranged : goal.in_order-requires-clause-ranged
in_order-requires-clause-ranged g c =
    let answers = g.W.Work.answers c.args.run.now.work.now in
    let n = c.args.run.now.pieces in
    let answered : All (IsAnswered answers n) c.match-assignment.found.items = elim c.match-assignment.branch [
      | in-Claimed+in_ok-found-in-Claimed w ↦ subst (λ v. All (IsAnswered answers n) v.items) (sym w.found-is) w.in_ok-found-in-Claimed.ensures.found.0
      | in-Fixed+in_ok-found-in-Fixed w ↦ subst (λ v. All (IsAnswered answers n) v.items) (sym w.found-is) w.in_ok-found-in-Fixed.ensures.found.0
    ] in
    ranged_from answers n c.match-assignment.found.items answered

pub in_order-requires-clause-all : goal.in_order-requires-clause-all
in_order-requires-clause-all g c =
    elim c.match-assignment.branch [
      | in-Claimed+in_ok-found-in-Claimed w ↦ subst (λ v. AreAll c.args.run.now.pieces v.items) (sym w.found-is) w.in_ok-found-in-Claimed.ensures.found.1
      | in-Fixed+in_ok-found-in-Fixed w ↦ subst (λ v. AreAll c.args.run.now.pieces v.items) (sym w.found-is) w.in_ok-found-in-Fixed.ensures.found.1
    ]

pub returns-clause-states : goal.returns-clause-states
returns-clause-states g c =
    let keeps = g.W.Work.keeps c.args.run.now.work.now in
    elim c.match-assignment.branch [
      | in-Claimed+in_ok-found-in-Claimed w ↦ subst (λ v. All keeps v.items) (sym w.states-is) w.in_ok-found-in-Claimed.ensures.states
      | in-Fixed+in_ok-found-in-Fixed w ↦ subst (λ v. All keeps v.items) (sym w.states-is) w.in_ok-found-in-Fixed.ensures.states
    ]

pub returns-clause-found : goal.returns-clause-found
returns-clause-found g c =
    let answers = g.W.Work.answers c.args.run.now.work.now in
    let n = c.args.run.now.pieces in
    let answered : All (IsAnswered answers n) c.match-assignment.found.items = elim c.match-assignment.branch [
      | in-Claimed+in_ok-found-in-Claimed w ↦ subst (λ v. All (IsAnswered answers n) v.items) (sym w.found-is) w.in_ok-found-in-Claimed.ensures.found.0
      | in-Fixed+in_ok-found-in-Fixed w ↦ subst (λ v. All (IsAnswered answers n) v.items) (sym w.found-is) w.in_ok-found-in-Fixed.ensures.found.0
    ] in
    IfOk-weaker c.in_order.result (λ v. AreInOrder n c.match-assignment.found.items v.items) (λ v. AreFound answers n v.items)
    (λ v order. found_in_order answers n c.match-assignment.found.items answered v.items order) c.in_order.ensures
