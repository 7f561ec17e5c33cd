-- Proofs of `initial`, src/initial.rt.
use Rattle.std.proofs.Common.{sym, ◌∙◌, subst}
use Rattle.parser.specs.inside.Readers.{terminals, Gives}
use Rattle.syntax.specs.SourceViews.{initial_tree}
use Rattle.parser.proofs.InitialLaws.{call_is}
use Rattle.parser.proofs.initial.initial.Goals as goal

pub returns-then-begins_call-clause-reads : goal.returns-then-begins_call-clause-reads
returns-then-begins_call-clause-reads c =
    subst (Gives initial_tree c.call.result)
    (sym (call_is (terminals c.args.cursor) c.in_ok-name.name (terminals c.in_ok-name.rest) (sym c.begins_call.ensures ∙ c.if-begins_call.true) c.in_ok-name.ensures.reads))
    c.call.ensures.reads
