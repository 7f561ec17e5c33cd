-- Proofs of `tokens`, src/scan.rt.
use Rattle.std.proofs.Common.{◌+◌, subst, sym}
use Rattle.std.proofs.lemmas.List.{take_rest}
use Rattle.lexer.specs.inside.Runs.{IsFirst}
use Rattle.lexer.specs.Tokens.{Lexeme}
use Rattle.lexer.proofs.ReadingLaws.{IsReadTo, read_gap, read_more}
use Rattle.lexer.proofs.scan.tokens.Goals as goal

pub loop-at-preserved-in-Gap : goal.loop-at-preserved-in-Gap
loop-at-preserved-in-Gap c =
    let (kind, gap, first) = c.in-Gap.ensures in
    read_gap c.args.source.now c.loop-at.at c.loop-at.tokens.items kind c.in-Gap.len c.loop-at.invariant gap
    (subst (λ bytes. IsFirst kind bytes c.in-Gap.len) (take_rest c.args.source.now c.loop-at.at) first)

pub loop-at-preserved : goal.loop-at-preserved
loop-at-preserved c =
    subst (IsReadTo c.args.source.now (c.loop-at.at + c.in-Token.len)) (sym c.in_ok-push-in-Token.ensures.items)
    (read_more c.args.source.now c.loop-at.at c.loop-at.tokens.items (Lexeme c.in-Token.kind) c.in-Token.len c.loop-at.invariant
    (subst (λ bytes. IsFirst (Lexeme c.in-Token.kind) bytes c.in-Token.len) (take_rest c.args.source.now c.loop-at.at) c.in-Token.ensures))
