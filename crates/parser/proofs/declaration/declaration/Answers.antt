-- Proofs of `declaration`, src/declaration.rt.
use Rattle.std.proofs.Common.{sym, ◌∙◌, ap, subst, Some, ◌≡◌, ◌∷◌}
use Rattle.lexer.specs.Tokens.{slice_of}
use Rattle.syntax.specs.Terminals.{keyword_terminal, terminal_of}
use Rattle.parser.specs.inside.Readers.{terminals, Gives}
use Rattle.syntax.specs.SourceViews.{declaration_tree}
use Rattle.syntax.specs.SourceReading.{declaration_by}
use Rattle.parser.specs.inside.Declarations.{beginning_of}
use Rattle.parser.proofs.DeclarationLaws.{declared_is}
use Rattle.parser.proofs.declaration.declaration.Goals as goal

pub returns-in-Some-begun_by-clause-reads : goal.returns-in-Some-begun_by-clause-reads
returns-in-Some-begun_by-clause-reads c =
    let is : terminals c.args.cursor ≡ keyword_terminal c.in-Keyword.keyword c.in-Some.token.span.start ∷ terminals c.in-Some.after =
    c.in-Some.ensures.terminal
    ∙ ap (λ kind. terminal_of kind (slice_of c.args.cursor.text.now c.in-Some.token.span) c.in-Some.token.span.start ∷ terminals c.in-Some.after) c.in-Keyword.is
    in
    let beginning : beginning_of c.in-Keyword.keyword ≡ Some c.in-Some-begun_by.beginning = sym c.in-Some-begun_by.ensures in
    subst (Gives declaration_tree c.begun.result)
    (sym (ap declaration_by is ∙ declared_is c.in-Keyword.keyword c.in-Some.token.span.start c.in-Some-begun_by.beginning (terminals c.in-Some.after) beginning))
    c.begun.ensures.reads
