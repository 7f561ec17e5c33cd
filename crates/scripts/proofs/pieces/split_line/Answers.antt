-- Proofs of `split_line`, src/pieces.rt.
use Rattle.scripts.proofs.PieceLaws.{split_none, split_pieces}
use Rattle.scripts.proofs.pieces.split_line.Goals as goal

pub returns-clause-none : goal.returns-clause-none
returns-clause-none c = split_none 10 c.args.bytes.now c.split_at_line_feed.result c.split_at_line_feed.ensures

pub returns-clause-lines : goal.returns-clause-lines
returns-clause-lines c = split_pieces 10 c.args.bytes.now c.split_at_line_feed.result c.split_at_line_feed.ensures
