-- Proofs of `has_method`, src/initial.rt.
use Rattle.std.proofs.Common.{ap, sym, ◌∙◌, ◌∷◌}
use Rattle.lexer.specs.Tokens.{slice_of}
use Rattle.syntax.specs.Terminals.{terminal_of}
use Rattle.parser.specs.inside.Readers.{terminals}
use Rattle.parser.specs.inside.Fronts.{called_terminal}
use Rattle.parser.proofs.InitialLaws.{method_after}
use Rattle.parser.proofs.initial.has_method.Goals as goal

pub returns-in-Keyword : goal.returns-in-Keyword
returns-in-Keyword c =
    c.is_method.ensures c.in-Some-next.token.span.start (terminals c.in-Some-next.field-0-1)
    ∙ sym (ap (λ kind. called_terminal
    (terminal_of kind (slice_of c.in-Some.after.text.now c.in-Some-next.token.span) c.in-Some-next.token.span.start ∷ terminals c.in-Some-next.field-0-1)) c.in-Keyword.is)
    ∙ sym (ap called_terminal c.in-Some-next.ensures.terminal)
    ∙ sym (method_after (terminals c.args.cursor) (terminals c.in-Some.after) c.in-Some.ensures.behind)
