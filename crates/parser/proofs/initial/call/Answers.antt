-- Proofs of `call`, src/initial.rt.
use Rattle.std.proofs.Common.{ap, ◌∙◌, subst, sym, [], ◌∷◌}
use Rattle.lexer.specs.declared.keyword.Keyword.TheVariants as keyword
use Rattle.lexer.specs.declared.symbol.Symbol.TheVariants as symbol
use Rattle.syntax.specs.Terminals.{OfKeyword, OfSymbol}
use Rattle.parser.specs.inside.Readers.{terminals, Gives}
use Rattle.syntax.specs.Nesting.{◌>>=◌}
use Rattle.syntax.specs.SourceReading.{in_parentheses}
use Rattle.syntax.specs.SourceTrees.{Vertices, OutDegrees}
use Rattle.syntax.specs.SourceViews.{initial_tree}
use Rattle.parser.specs.inside.Fronts.{filter_at}
use Rattle.parser.proofs.InitialLaws.{call_by_method}
use Rattle.parser.proofs.Steps.{closed-found}
use Rattle.parser.proofs.initial.call.Goals as goal

pub returns-in-Some-after_method-2-clause-reads : goal.returns-in-Some-after_method-2-clause-reads
returns-in-Some-after_method-2-clause-reads c =
    subst (Gives initial_tree c.filter.result)
    (sym (call_by_method c.args.name (terminals c.args.cursor) keyword.Filter (terminals c.in-Some-after_method-2.after) c.in-Some-after_method-2.ensures.behind
    ∙ ap (λ r. r >>= filter_at c.args.name) c.in-Some-after_method-2.ensures.behind))
    c.filter.ensures.reads

pub returns-in-Some-clause-reads : goal.returns-in-Some-clause-reads
returns-in-Some-clause-reads c =
    subst (Gives initial_tree c.without_arguments.result)
    (sym (call_by_method c.args.name (terminals c.args.cursor) keyword.GetVertices (terminals c.in-Some.after) c.in-Some.ensures.behind
    ∙ closed-found (OfSymbol symbol.Dot ∷ OfKeyword keyword.GetVertices ∷ []) (in_parentheses []) (Vertices c.args.name) (terminals c.args.cursor)
    (terminals c.in-Some.after) c.in-Some.ensures.behind))
    c.without_arguments.ensures.reads

pub returns-in-Some-after_method-clause-reads : goal.returns-in-Some-after_method-clause-reads
returns-in-Some-after_method-clause-reads c =
    subst (Gives initial_tree c.without_arguments-in-Some-after_method.result)
    (sym (call_by_method c.args.name (terminals c.args.cursor) keyword.GetOutDegrees (terminals c.in-Some-after_method.after) c.in-Some-after_method.ensures.behind
    ∙ closed-found (OfSymbol symbol.Dot ∷ OfKeyword keyword.GetOutDegrees ∷ []) (in_parentheses []) (OutDegrees c.args.name) (terminals c.args.cursor) (terminals c.in-Some-after_method.after)
    c.in-Some-after_method.ensures.behind))
    c.without_arguments-in-Some-after_method.ensures.reads
