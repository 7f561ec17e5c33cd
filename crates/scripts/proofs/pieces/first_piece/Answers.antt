-- Proofs of `first_piece`, src/pieces.rt.
use Rattle.scripts.proofs.PieceLaws.{pieces_alone, pieces_before}
use Rattle.scripts.proofs.pieces.first_piece.Goals as goal

pub returns : goal.returns
returns c = λ separator front none. record {
  alone = pieces_alone separator front none;
  before = λ rest. pieces_before separator front rest none;
}
