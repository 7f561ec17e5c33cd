-- Proofs of `read_front`, src/front.rt.
use Rattle.std.proofs.Common.{rules, sym}
use Rattle.lexer.specs.Tokens.{White, Comment}
use Rattle.lexer.proofs.FrontLaws.{white_first, comment_first, comment_begins}
use Rattle.lexer.proofs.front.read_front.Goals as goal

pub returns-then-is_white : goal.returns-then-is_white
returns-then-is_white c =
    (White, tt, white_first c.args.bytes.now c.white_len.result c.requires (sym c.if-is_white.ensures) c.white_len.ensures)

pub returns-then-begins_with : goal.returns-then-begins_with
returns-then-begins_with c =
    let (others, begins) = c.if-begins_with.ensures in (
      Comment,
      tt,
      comment_first c.args.bytes.now others c.line_len.result
          (comment_begins c.args.bytes.now c.split_at.result.1.now others c.requires (search rules) c.split_at.ensures.back begins)
          c.line_len.ensures,
    )
