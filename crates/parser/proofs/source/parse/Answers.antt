-- Proofs of `parse`, src/source.rt.
use Rattle.std.proofs.Common.{◌≡◌, ap, ◌∙◌, subst, Some, None, Err, List, ◌-◌, drop, length}
use Rattle.lexer.specs.declared.token.Token.{Token}
use Rattle.syntax.specs.Terminals.{terminals_of}
use Rattle.parser.specs.declared.syntax_error.SyntaxError.{SyntaxError}
use Rattle.parser.specs.inside.Readers.{terminals}
use Rattle.syntax.specs.Nesting.{limit, StaysWithin}
use Rattle.syntax.specs.SourceReading.{source_at}
use Rattle.syntax.specs.SourceViews.{source_tree}
use Rattle.parser.specs.inside.Outcome.{GivesSource}
use Rattle.parser.specs.Outcome.{beginning_of}
use Rattle.parser.proofs.ParseLaws.{is_source, is_no_source}
use Rattle.parser.proofs.source.parse.Goals as goal

pub returns-in-Err-Unexpected-clause-answers : goal.returns-in-Err-Unexpected-clause-answers
returns-in-Err-Unexpected-clause-answers c =
    let same : terminals c.new-cursor.result ≡ terminals_of c.args.text.now c.in_ok-tokens.tokens.items = c.new-cursor.ensures.left ∙ ap (terminals_of c.args.text.now) c.deref.ensures.value in
    let which = c.in-Err-Unexpected.field-0-is in
    let at = c.beginning_of_last.ensures ∙ ap (λ (ts : List Token). beginning_of c.args.text.now (drop (length ts - c.in-Err-Unexpected.left) ts)) c.deref-in-Err-Unexpected.ensures.value in
    is_no_source c.args.text.now c.in_ok-tokens.tokens.items c.beginning_of_last.result c.in_ok-tokens.ensures
    (subst (λ ts. StaysWithin limit 0 (terminals_of c.args.text.now ts)) c.deref-2.ensures.value (c.in_default.ensures c.args.text.now))
    (subst (λ ws. source_at ws ≡ None) same (subst (λ (e : SyntaxError). GivesSource (Err e) (source_at (terminals c.new-cursor.result))) which c.in-Err-Unexpected.ensures.reads))
    (length c.in_ok-tokens.tokens.items - c.in-Err-Unexpected.left, at)

pub returns-in-Ok-clause-answers : goal.returns-in-Ok-clause-answers
returns-in-Ok-clause-answers c =
    let same : terminals c.new-cursor.result ≡ terminals_of c.args.text.now c.in_ok-tokens.tokens.items = c.new-cursor.ensures.left ∙ ap (terminals_of c.args.text.now) c.deref.ensures.value in
    is_source c.args.text.now c.in_ok-tokens.tokens.items (source_tree c.in-Ok.source) c.in_ok-tokens.ensures
    (subst (λ ts. StaysWithin limit 0 (terminals_of c.args.text.now ts)) c.deref-2.ensures.value (c.in_default.ensures c.args.text.now))
    (subst (λ ws. source_at ws ≡ Some (source_tree c.in-Ok.source)) same c.in-Ok.ensures.reads)
