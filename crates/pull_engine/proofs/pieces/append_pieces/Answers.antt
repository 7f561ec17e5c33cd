-- Proofs of `append_pieces`, src/pieces.rt.
use Rattle.std.proofs.Common.{◌++◌, Vec, Global, ap, ◌∙◌}
use Rattle.vectors.specs.declared.changes.EntryChange.{EntryChange}
use Rattle.crew.specs.Pieces.{pieces_of}
use Rattle.pull_engine.specs.Ranges.{all_listed}
use Rattle.pull_engine.proofs.FoundParts.{parts_more, piece_is_found}
use Rattle.pull_engine.proofs.pieces.append_pieces.Goals.{in-Some+in_ok-append_listed-in-Some, in-None}
use Rattle.pull_engine.proofs.pieces.append_pieces.Goals as goal

pub pieces-preserved : goal.pieces-preserved
pieces-preserved c parts order are =
    let n = c.pieces.index in
    let was = c.pieces.invariant parts order are in
    elim c.match-find_piece.branch [
      | in-Some+in_ok-append_listed-in-Some w ↦
          parts_more parts n c.pieces.changes.items (all_listed w.in-Some.one.now.vectors.items) c.match-find_piece.changes.items (w.in-Some.ensures.some parts are)
          (ap (λ (v : Vec EntryChange Global). v.items) w.changes-is ∙ w.in_ok-append_listed-in-Some.ensures ∙ ap (λ gs. c.pieces.changes.items ++ all_listed gs) w.deref.ensures.value)
          was
      | in-None w ↦ absurd (w.in-None.ensures.none (piece_is_found c.args.pieces n (pieces_of c.args.found.now) order c.pieces-test.true))
    ]
