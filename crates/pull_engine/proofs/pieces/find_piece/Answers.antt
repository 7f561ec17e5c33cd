-- Proofs of `find_piece`, src/pieces.rt.
use Rattle.std.proofs.Common.{◌-◌, ◌<◌, length, refl, sym, ap, ◌∙◌, arith}
use Rattle.crew.specs.declared.piece_results.Found.{Found}
use Rattle.edge_fold.specs.declared.gathered.Gathered.{Gathered}
use Rattle.pull_engine.proofs.FoundParts.{part_found}
use Rattle.pull_engine.proofs.pieces.find_piece.Goals as goal

pub returns-then-found-piece-clause-some : goal.returns-then-found-piece-clause-some
returns-then-found-piece-clause-some c parts are =
    let fs = c.args.found.now in
    let some = c.requires in
    let few = c.if-piece-found.true in
    let inside : c.args.piece - 1 < length fs = omega (arith, some, few) in
    part_found parts fs (c.args.piece - 1) c.args.piece c.index-found-piece-then-found-piece.result _ c.index-found-piece.result are inside refl c.if-found-piece.true

pub returns-then-one-piece-clause-some : goal.returns-then-one-piece-clause-some
returns-then-one-piece-clause-some c parts are =
    let fs = c.args.found.now in
    let one = c.one-item.result in
    part_found parts fs c.found.one-index c.args.piece one one one are c.found-test.true c.one-item.is (ap (λ (f : Found Gathered). f.piece) (sym c.one-item.is) ∙ c.if-one-piece.true)
