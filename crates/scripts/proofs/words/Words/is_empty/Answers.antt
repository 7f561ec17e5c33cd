-- Proofs of `is_empty`, src/words.rt.
use Rattle.scripts.proofs.WordLaws.{is_empty-words_left}
use Rattle.scripts.proofs.words.Words.is_empty.Goals as goal

pub returns : goal.returns
returns c = is_empty-words_left c.self.inside.rest c.args.self.now c.is_none.result c.self.view_is c.is_none.ensures
