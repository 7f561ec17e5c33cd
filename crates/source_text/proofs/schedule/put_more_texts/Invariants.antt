use Rattle.std.proofs.Common.{map}
use Rattle.syntax.specs.SourceSpelling.{each_before, next_text_before}
use Rattle.syntax.specs.SourceViews.{text_of}
use Rattle.source_text.specs.inside.Written.{PutsUpTo}
use Rattle.source_text.proofs.schedule.put_more_texts.Given as goal

abbrev pub invariant-texts : goal.invariant-texts
invariant-texts l = PutsUpTo (each_before next_text_before (map text_of l.texts)) (λ x. next_text_before (text_of x)) l.texts l.text-index l.fn.out.items l.out.items
