-- Proofs of `label`, src/front.rt.
use Rattle.lexer.proofs.FrontLaws.{label_first, no_label}
use Rattle.lexer.proofs.front.label.Goals as goal
use Rattle.lexer.proofs.front.label.Goals.{else-begins_with-via-then-begins_with+else-is_name, else-begins_with-via-else-begins_with}

pub returns-then-is_name : goal.returns-then-is_name
returns-then-is_name c =
    label_first c.args.inside.now c.split_at.result.0.now c.split_at.result.1.now c.if-begins_with.ensures.0 c.word_len-len.result
    c.word_len-len.ensures.0 c.split_at.ensures.front c.split_at.ensures.back c.if-begins_with.ensures.1 c.if-is_name.ensures

pub returns-else-begins_with : goal.returns-else-begins_with
returns-else-begins_with c =
    no_label c.args.inside.now c.split_at.result.0.now c.split_at.result.1.now c.word_len-len.result
    c.word_len-len.ensures c.split_at.ensures.front c.split_at.ensures.back
    (λ others begins is_name. elim c.else-begins_with.branch [
      | else-begins_with-via-then-begins_with+else-is_name w ↦ w.if-is_name.ensures is_name
      | else-begins_with-via-else-begins_with w ↦ w.if-begins_with.ensures others begins
    ])
