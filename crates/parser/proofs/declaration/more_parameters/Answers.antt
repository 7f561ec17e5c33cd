-- Proofs of `more_parameters`, src/declaration.rt.
use Rattle.std.proofs.Common.{ap}
use Rattle.std.proofs.lemmas.Result.{err_from_is_err_and}
use Rattle.lexer.specs.declared.symbol.Symbol.TheVariants as symbol
use Rattle.syntax.specs.Terminals.{OfSymbol}
use Rattle.parser.specs.inside.Readers.{terminals}
use Rattle.syntax.specs.ExpressionReading.{after_by}
use Rattle.parser.proofs.Faults.{passed_on}
use Rattle.syntax.proofs.Loops.{after_found, after_fails, below}
use Rattle.syntax.specs.SourceReading.{typed_at, after_terminal}
use Rattle.syntax.specs.SourceViews.{parameter_tree}
use Rattle.parser.specs.inside.Views.{each}
use Rattle.parser.proofs.Lists.{follow_start, follow_step, follow_end, follow_fails}
use Rattle.parser.proofs.declaration.more_parameters.Goals as goal

pub parameters-init : goal.parameters-init
parameters-init c = follow_start parameter_tree c.new-parameters.result.items _ c.args.first (terminals c.args.cursor) c.new-parameters.ensures.items c.in_ok-push.ensures.items

pub parameters-preserved : goal.parameters-preserved
parameters-preserved c =
    follow_step parameter_tree c.parameters.parameters.items _ c.in_ok-parameter.parameter (terminals c.in_ok-parameter.behind) c.in_ok-push-2.ensures.items c.parameters.invariant
    (after_found typed_at (terminals c.in-Some.after) (terminals c.in_ok-parameter.behind) (parameter_tree c.in_ok-parameter.parameter)
    (after_terminal (OfSymbol symbol.Comma) (terminals c.parameters.left)) c.in-Some.ensures.behind c.in_ok-parameter.ensures.reads)
    (below _ _ _ c.in_ok-parameter.ensures.shorter c.in-Some.ensures.shorter)

pub returns-in_err-parameter-clause-reads : goal.returns-in_err-parameter-clause-reads
returns-in_err-parameter-clause-reads c =
    let p = err_from_is_err_and c.from_residual-in_err-parameter.result c.from_residual-in_err-parameter.ensures.1 in
    rw (p.1, p.2) (passed_on parameter_tree (each parameter_tree) c.in_err-parameter.field-0.0 _ _ c.in_err-parameter.ensures.reads
    (λ none. follow_fails c.parameters.invariant (after_fails typed_at (terminals c.in-Some.after)
    (after_terminal (OfSymbol symbol.Comma) (terminals c.parameters.left)) c.in-Some.ensures.behind none)))

pub returns-clause-reads : goal.returns-clause-reads
returns-clause-reads c = follow_end c.parameters.invariant (ap (after_by typed_at) c.in_default.ensures.behind)
