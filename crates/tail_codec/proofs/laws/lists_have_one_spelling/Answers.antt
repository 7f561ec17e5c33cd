-- Proofs of `lists_have_one_spelling`, src/laws.rt.
use Rattle.ascending_lists.specs.Ascending.{least}
use Rattle.tail_codec.proofs.Lists.{list_spelling, same_spelling}
use Rattle.tail_codec.proofs.laws.lists_have_one_spelling.Goals as goal

pub returns : goal.returns
returns c = record {
  spelled = λ base es ascends weights. list_spelling (least base) es ascends weights;
  once = λ base es one other spells spells'. same_spelling (least base) es one other spells spells';
  ascending = λ base es bytes spells. spells.ascending;
  weights = λ base es bytes spells. spells.weights;
}
