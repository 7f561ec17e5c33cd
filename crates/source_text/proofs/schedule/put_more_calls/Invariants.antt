use Rattle.std.proofs.Common.{map}
use Rattle.syntax.specs.SourceSpelling.{each_before, next_call_before}
use Rattle.syntax.specs.SourceViews.{call_tree}
use Rattle.source_text.specs.inside.Written.{PutsUpTo}
use Rattle.source_text.proofs.schedule.put_more_calls.Given as goal

abbrev pub invariant-calls : goal.invariant-calls
invariant-calls l = PutsUpTo (each_before next_call_before (map call_tree l.calls)) (λ x. next_call_before (call_tree x)) l.calls l.call-index l.fn.out.items l.out.items
