-- Proofs of `put_more_calls`, src/schedule.rt.
use Rattle.std.proofs.Common.{map}
use Rattle.syntax.specs.SourceSpelling.{each_before, next_call_before}
use Rattle.syntax.specs.SourceViews.{call_tree}
use Rattle.source_text.proofs.Puts.{up_to_none, up_to_more, up_to_all, each_before-map}
use Rattle.source_text.proofs.schedule.put_more_calls.Goals as goal

pub calls-init : goal.calls-init
calls-init c =
    up_to_none (each_before next_call_before (map call_tree c.args.calls.now)) (λ x. next_call_before (call_tree x)) c.args.calls.now c.args.out.now.items
    (each_before-map call_tree next_call_before c.args.calls.now)

pub calls-preserved : goal.calls-preserved
calls-preserved c =
    up_to_more _ (λ x. next_call_before (call_tree x)) c.args.calls.now c.calls.call-index c.call-item.result c.call-item.result c.args.out.now.items c.calls.out.items c.put_next_call.new.out.items
    c.calls.invariant c.calls-test.true c.call-item.is c.in_ok-put_next_call.ensures

pub returns : goal.returns
returns c =
    up_to_all _ (λ x. next_call_before (call_tree x)) c.args.calls.now c.calls.call-index c.args.out.now.items c.calls.out.items c.calls.invariant c.calls-test.false
