-- Proofs of `put_more_texts`, src/schedule.rt.
use Rattle.std.proofs.Common.{map}
use Rattle.syntax.specs.SourceSpelling.{each_before, next_text_before}
use Rattle.syntax.specs.SourceViews.{text_of}
use Rattle.source_text.proofs.Puts.{up_to_none, up_to_more, up_to_all, each_before-map}
use Rattle.source_text.proofs.schedule.put_more_texts.Goals as goal

pub texts-init : goal.texts-init
texts-init c =
    up_to_none (each_before next_text_before (map text_of c.args.texts.now)) (λ x. next_text_before (text_of x)) c.args.texts.now c.args.out.now.items
    (each_before-map text_of next_text_before c.args.texts.now)

pub texts-preserved : goal.texts-preserved
texts-preserved c =
    up_to_more _ (λ x. next_text_before (text_of x)) c.args.texts.now c.texts.text-index c.text-item.result c.text-item.result c.args.out.now.items c.texts.out.items c.put_next_text.new.out.items
    c.texts.invariant c.texts-test.true c.text-item.is c.in_ok-put_next_text.ensures

pub returns : goal.returns
returns c =
    up_to_all _ (λ x. next_text_before (text_of x)) c.args.texts.now c.texts.text-index c.args.out.now.items c.texts.out.items c.texts.invariant c.texts-test.false
