-- Proofs of `piece`, src/pieces.rt.
use Rattle.std.proofs.Common.{ℕ, List, Option, Some, IfSome, sym, subst}
use Rattle.std.proofs.lemmas.Result.{IfOk-weaker}
use Rattle.apply_options.specs.declared.reduction.Reduction.{Reduction}
use Rattle.vectors.specs.declared.changes.EntryChange.{EntryChange}
use Rattle.pull_engine.specs.Pieces.{AnswersFor, AreFor, IsPiecePulled}
use Rattle.pull_engine.specs.Ranges.{shape_reduction, shape_vector}
use Rattle.pull_engine.proofs.pieces.PullWorkWork.piece.Goals as goal

pub returns-in_ok-changes-in-Some-clause-out : goal.returns-in_ok-changes-in-Some-clause-out
returns-in_ok-changes-in-Some-clause-out c =
    let w = c.args.self.now in
    let k = c.args.piece in
    let y = c.in-Some.target.vector in
    let r = c.in-Some.target.reduction in
    let at = c.in-Some.ensures.some in
    let by = c.in-Some.ensures.reduction in
    let pulled = subst (λ (o : Option ℕ). IfSome o (λ v. IsPiecePulled v w k c.in_ok-changes-in-Some.changes.items)) at c.in_ok-changes-in-Some.ensures in
    IfOk-weaker c.listed_in.result _ _
    (λ g listed. (
      subst (λ (o : Option ℕ). AnswersFor o w k g) (sym at) (subst (λ (cs : List EntryChange). IsPiecePulled y w k cs) (sym listed.0) pulled),
      subst (λ (o : Option Reduction). AreFor (shape_vector w.shape) o g.vectors.items) (sym by)
          (subst (λ (o : Option ℕ). AreFor o (Some r) g.vectors.items) (sym at) listed.1),
    ))
    c.listed_in.ensures

pub returns-in-None-clause-out : goal.returns-in-None-clause-out
returns-in-None-clause-out c =
    let w = c.args.self.now in
    let none = c.in-None.ensures.none in
    IfOk-weaker c.gather_piece.result _ _
    (λ g gathers. (
      subst (λ (o : Option ℕ). AnswersFor o w c.args.piece g) (sym none) gathers,
      subst (λ (o : Option ℕ). AreFor o (shape_reduction w.shape) g.vectors.items) (sym none) tt,
    ))
    c.gather_piece.ensures
