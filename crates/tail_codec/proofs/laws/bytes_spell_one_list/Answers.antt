-- Proofs of `bytes_spell_one_list`, src/laws.rt.
use Rattle.ascending_lists.specs.Ascending.{least}
use Rattle.tail_codec.proofs.Lists.{same_list}
use Rattle.tail_codec.proofs.laws.bytes_spell_one_list.Goals as goal

pub returns : goal.returns
returns c = λ base xs ys bytes one other. same_list (least base) xs ys bytes one other
