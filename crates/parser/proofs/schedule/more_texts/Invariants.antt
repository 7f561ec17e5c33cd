use Rattle.std.proofs.Common.{length, map}
use Rattle.parser.specs.inside.Readers.{terminals}
use Rattle.syntax.proofs.Loops.{Goes}
use Rattle.syntax.specs.SourceReading.{next_text}
use Rattle.syntax.specs.SourceViews.{text_of}
use Rattle.parser.proofs.schedule.more_texts.Given as goal

abbrev pub invariant-texts : goal.invariant-texts
invariant-texts l = Goes next_text (terminals l.cursor) (map text_of l.texts.items) (terminals l.left)

abbrev pub decreases-texts : goal.decreases-texts
decreases-texts l = length (terminals l.left)
