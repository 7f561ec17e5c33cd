-- Proofs of `method`, src/statement.rt.
use Rattle.std.proofs.Common.{sym, ◌∙◌, ap, subst}
use Rattle.syntax.specs.SourceReading.{method_by}
use Rattle.syntax.specs.SourceViews.{simple_action_tree}
use Rattle.parser.specs.inside.Readers.{terminals, Gives}
use Rattle.parser.proofs.ApplyLaws.{applied_is}
use Rattle.parser.proofs.statement.method.Goals as goal

pub returns-in-None-clause-reads : goal.returns-in-None-clause-reads
returns-in-None-clause-reads c =
    subst (Gives simple_action_tree c.applied.result)
    (applied_is c.args.name (terminals c.args.cursor) ∙ ap (method_by c.args.name (terminals c.args.cursor)) (sym c.in-None.ensures.behind))
    c.applied.ensures.reads
