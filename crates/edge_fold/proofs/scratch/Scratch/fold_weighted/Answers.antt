-- Proofs of `fold_weighted`, src/weighted.rt.
use Rattle.std.proofs.Common.{subst, sym}
use Rattle.std.proofs.lemmas.Result.{on_ok_weaker}
use Rattle.edge_fold.specs.declared.scratch.Scratch.{Scratch}
use Rattle.edge_fold.specs.Folded.{HasFolded}
use Rattle.edge_fold.proofs.scratch.Scratch.fold_weighted.Goals as goal

pub returns-then-done : goal.returns-then-done
returns-then-done c = c.in_ok-done.ensures.folded c.if-done.true

pub returns : goal.returns
returns c =
    let same = sym (c.in_ok-done.ensures.unchanged c.if-done.false) in
    on_ok_weaker c.gather_weighted.result
    (λ done m steps edges are has. done m steps edges are (subst (λ (t : Scratch). HasFolded c.args.context m steps edges t) same has))
    c.gather_weighted.ensures
