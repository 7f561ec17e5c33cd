-- Proofs of `fold_part`, src/pieces.rt.
use Rattle.std.proofs.Common.{[], sym, ap}
use Rattle.std.specs.List.{filter}
use Rattle.edge_fold.proofs.Walks.{folded_along}
use Rattle.edge_apply.specs.Words.{passes_words}
use Rattle.push_engine.specs.inside.Rows.{rows_to}
use Rattle.push_engine.specs.Sources.{passing_in}
use Rattle.push_engine.proofs.work.PushWork.fold_part.Goals as goal

pub returns-then-self : goal.returns-then-self
returns-then-self c m steps from are is has =
    let a = c.args in
    let edges = a.self.now.apply.flat.now.edges in
    let to = passes_words a.to in
    folded_along a.context m steps (rows_to to edges (filter from a.part.now)) (rows_to to edges (passing_in a.self.now.tested from a.part.now)) c.fold_passing_part.new.scratch
    (ap (λ b. rows_to to edges (passing_in b from a.part.now)) (sym c.if-self.true)) (c.in_ok-fold_passing_part.ensures m steps from are is has)

pub returns : goal.returns
returns c m steps from are is has =
    let a = c.args in
    let edges = a.self.now.apply.flat.now.edges in
    let to = passes_words a.to in
    folded_along a.context m steps (rows_to to edges a.part.now) (rows_to to edges (passing_in a.self.now.tested from a.part.now)) c.fold_rows.new.scratch
    (ap (λ b. rows_to to edges (passing_in b from a.part.now)) (sym c.if-self.false)) (c.in_ok-fold_rows.ensures m steps [] are has)
