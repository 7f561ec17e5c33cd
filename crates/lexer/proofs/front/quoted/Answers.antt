-- Proofs of `quoted`, src/front.rt.
use Rattle.lexer.proofs.FrontLaws.{text_first, no_text}
use Rattle.lexer.proofs.front.quoted.Goals as goal

pub returns-then-begins_with : goal.returns-then-begins_with
returns-then-begins_with c =
    text_first c.args.inside.now c.split_at.result.0.now c.split_at.result.1.now c.if-begins_with.ensures.0 c.quotable_len-len.result
    c.quotable_len-len.ensures.0 c.split_at.ensures.front c.split_at.ensures.back c.if-begins_with.ensures.1 c.quotable_len-len.ensures.1

pub returns-else-begins_with : goal.returns-else-begins_with
returns-else-begins_with c =
    no_text c.args.inside.now c.split_at.result.1.now c.quotable_len-len.result
    c.quotable_len-len.ensures c.split_at.ensures.back c.if-begins_with.ensures
