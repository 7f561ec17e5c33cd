-- Proofs of `joined_pieces`, src/pieces.rt.
use Rattle.scripts.proofs.PieceLaws.{pieces-JoinsAgain}
use Rattle.scripts.proofs.pieces.joined_pieces.Goals as goal

pub returns : goal.returns
returns c = pieces-JoinsAgain
