-- Proofs of `piece`, src/pieces.rt.
use Rattle.std.proofs.lemmas.Result.{IfOk-at_ok}
use Rattle.std.proofs.Common.{true, refl}
use Rattle.crew.specs.Partition.{piece_of}
use Rattle.edge_apply.specs.Words.{is_set}
use Rattle.edge_fold.proofs.Endings.{if_each_ok}
use Rattle.push_engine.specs.Rows.{rows}
use Rattle.push_engine.specs.Sources.{passing_in}
use Rattle.push_engine.proofs.GatheredAlike.{gathered_first, gathered_second, gathered_where}
use Rattle.push_engine.proofs.pieces.PushWorkWork.piece.Goals as goal

pub returns-in-Some-clause-out : goal.returns-in-Some-clause-out
returns-in-Some-clause-out c =
    if_each_ok c.gather_piece.result _ (λ g was.
    let w = c.args.self.now in
    let n = w.apply.flat.now.vertices in
    let words = c.in-Some.words.now in (
      IfOk-at_ok _ was c.gather_piece.ensures.ascending,
      λ m steps from to vectors sizes kernels is_from is_to.
          let es = rows w.apply.flat.now.edges (passing_in w.tested from (piece_of w.partition w.sources.items c.args.piece)) in
          gathered_where n m steps (is_set words) to es g (c.in-Some.ensures m to vectors sizes is_to)
          (gathered_first n m steps (is_set words) es g (IfOk-at_ok _ was c.gather_piece.ensures.given m steps from (λ _. true) vectors sizes kernels is_from (λ v. refl))),
    ))

pub returns-in-None-clause-out : goal.returns-in-None-clause-out
returns-in-None-clause-out c =
    if_each_ok c.gather_piece-in-None.result _ (λ g was.
    let w = c.args.self.now in
    let n = w.apply.flat.now.vertices in (
      IfOk-at_ok _ was c.gather_piece-in-None.ensures.ascending,
      λ m steps from to vectors sizes kernels is_from is_to.
          let es = rows w.apply.flat.now.edges (passing_in w.tested from (piece_of w.partition w.sources.items c.args.piece)) in
          gathered_second n m steps to es g (IfOk-at_ok _ was c.gather_piece-in-None.ensures.given m steps from to vectors sizes kernels is_from is_to),
    ))
