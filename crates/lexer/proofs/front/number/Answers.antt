-- Proofs of `number`, src/front.rt.
use Rattle.std.proofs.Common.{◌≡◌, pos, take, inl, inr, rules, arith, sym, ◌∙◌, ap, subst}
use Rattle.std.proofs.lemmas.Bool.{cases_lt}
use Rattle.std.proofs.lemmas.Int.{to_z-of_z, ints}
use mir.Syntax.{w64}
use mir.Val.{to_z, of_z}
use Rattle.lexer.specs.declared.token.TokenKind.TheVariants as kind
use Rattle.lexer.specs.inside.Runs.{IsFirst}
use Rattle.lexer.specs.Tokens.{Lexeme}
use Rattle.decimal.specs.Numbers.{digits_number}
use Rattle.lexer.proofs.FrontLaws.{number_first, large_prefix}
use Rattle.lexer.proofs.front.number.Goals as goal

pub returns-in-Ok : goal.returns-in-Ok
returns-in-Ok c =
    let value : digits_number (take c.in-Some.len c.args.bytes.now) ≡ c.in-Some.value = c.in-Some.ensures.1 in
    let same : to_z w64 (of_z w64 c.in-Ok.number) ≡ pos (digits_number (take c.in-Some.len c.args.bytes.now)) =
    ap (λ z. to_z w64 (of_z w64 z)) (c.in-Ok.ensures.1) ∙ to_z-of_z w64 (pos c.in-Some.value) c.in-Ok.ensures.0 ∙ ap pos (sym value) in
    subst (λ z. IsFirst (Lexeme (kind.Number z)) c.args.bytes.now c.in-Some.len) (sym same)
    (number_first c.args.bytes.now c.in-Some.len c.requires.some c.requires.digit (search rules) (search rules) c.in-Some.ensures.2
    (omega (arith, ints, value, c.in-Ok.ensures.0)))

pub returns-in-Err : goal.returns-in-Err
returns-in-Err c = large_prefix c.args.bytes.now c.in-Some.len (search rules) (elim (cases_lt 9223372036854775807 c.in-Some.value) [
  | inl large ↦ omega (arith, c.in-Some.ensures.1)
  | inr small ↦ absurd (c.in-Err.ensures (omega (arith, ints)))
])

pub returns-in-None : goal.returns-in-None
returns-in-None c =
    let (len, begins, large) = c.in-None.ensures in
    large_prefix c.args.bytes.now len begins.1 (omega arith)
