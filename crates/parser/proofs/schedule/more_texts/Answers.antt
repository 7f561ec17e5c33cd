-- Proofs of `more_texts`, src/schedule.rt.
use Rattle.std.proofs.Common.{ap}
use Rattle.std.proofs.lemmas.Result.{err_from_is_err_and}
use Rattle.lexer.specs.declared.symbol.Symbol.TheVariants as symbol
use Rattle.syntax.specs.Terminals.{OfSymbol}
use Rattle.parser.specs.inside.Readers.{terminals}
use Rattle.syntax.specs.ExpressionReading.{after_by}
use Rattle.parser.proofs.Faults.{passed_on}
use Rattle.syntax.proofs.Loops.{goes_end, goes_fails, after_found, after_fails}
use Rattle.syntax.specs.SourceReading.{text_at, after_terminal}
use Rattle.syntax.specs.SourceViews.{text_of}
use Rattle.parser.specs.inside.Views.{each}
use Rattle.parser.proofs.Lists.{list_start, list_step, below_strictly}
use Rattle.parser.proofs.schedule.more_texts.Goals as goal

pub texts-init : goal.texts-init
texts-init c = list_start text_of c.new-texts.result.items (terminals c.args.cursor) c.new-texts.ensures.items

pub texts-preserved : goal.texts-preserved
texts-preserved c =
    list_step text_of c.texts.texts.items _ c.in_ok-text.text (terminals c.in_ok-text.behind) c.in_ok-push.ensures.items c.texts.invariant
    (after_found text_at (terminals c.in-Some.after) (terminals c.in_ok-text.behind) (text_of c.in_ok-text.text)
    (after_terminal (OfSymbol symbol.Comma) (terminals c.texts.left)) c.in-Some.ensures.behind c.in_ok-text.ensures.reads)
    (below_strictly _ _ _ c.in_ok-text.ensures.shorter c.in-Some.ensures.shorter)

pub returns-in_err-text-clause-reads : goal.returns-in_err-text-clause-reads
returns-in_err-text-clause-reads c =
    let p = err_from_is_err_and c.from_residual.result c.from_residual.ensures.1 in
    rw (p.1, p.2) (passed_on text_of (each text_of) c.in_err-text.field-0.0 _ _ c.in_err-text.ensures.reads
    (λ none. goes_fails c.texts.invariant (after_fails text_at (terminals c.in-Some.after) (after_terminal (OfSymbol symbol.Comma) (terminals c.texts.left)) c.in-Some.ensures.behind none)))

pub returns-clause-reads : goal.returns-clause-reads
returns-clause-reads c = goes_end c.texts.invariant (ap (after_by text_at) c.in_default.ensures.behind)
