-- Proofs of `more_calls`, src/schedule.rt.
use Rattle.std.proofs.Common.{ap}
use Rattle.std.proofs.lemmas.Result.{err_from_is_err_and}
use Rattle.lexer.specs.declared.symbol.Symbol.TheVariants as symbol
use Rattle.syntax.specs.Terminals.{OfSymbol}
use Rattle.parser.specs.inside.Readers.{terminals}
use Rattle.syntax.specs.ExpressionReading.{after_by}
use Rattle.parser.proofs.Faults.{passed_on}
use Rattle.syntax.proofs.Loops.{goes_end, goes_fails, after_found, after_fails, below}
use Rattle.syntax.specs.SourceReading.{call_at, after_terminal}
use Rattle.syntax.specs.SourceViews.{call_tree}
use Rattle.parser.specs.inside.Views.{each}
use Rattle.parser.proofs.Lists.{list_start, list_step}
use Rattle.parser.proofs.schedule.more_calls.Goals as goal

pub calls-init : goal.calls-init
calls-init c = list_start call_tree c.new-calls.result.items (terminals c.args.cursor) c.new-calls.ensures.items

pub calls-preserved : goal.calls-preserved
calls-preserved c =
    list_step call_tree c.calls.calls.items _ c.in_ok-call.call (terminals c.in_ok-call.behind) c.in_ok-push.ensures.items c.calls.invariant
    (after_found call_at (terminals c.in-Some.after) (terminals c.in_ok-call.behind) (call_tree c.in_ok-call.call)
    (after_terminal (OfSymbol symbol.Arrow) (terminals c.calls.left)) c.in-Some.ensures.behind c.in_ok-call.ensures.reads)
    (below _ _ _ c.in_ok-call.ensures.shorter c.in-Some.ensures.shorter)

pub returns-in_err-call-clause-reads : goal.returns-in_err-call-clause-reads
returns-in_err-call-clause-reads c =
    let p = err_from_is_err_and c.from_residual.result c.from_residual.ensures.1 in
    rw (p.1, p.2) (passed_on call_tree (each call_tree) c.in_err-call.field-0.0 _ _ c.in_err-call.ensures.reads
    (λ none. goes_fails c.calls.invariant (after_fails call_at (terminals c.in-Some.after) (after_terminal (OfSymbol symbol.Arrow) (terminals c.calls.left)) c.in-Some.ensures.behind none)))

pub returns-clause-reads : goal.returns-clause-reads
returns-clause-reads c = goes_end c.calls.invariant (ap (after_by call_at) c.in_default.ensures.behind)
