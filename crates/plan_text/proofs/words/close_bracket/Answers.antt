-- Proofs of `close_bracket`, src/words.rt.
use Rattle.std.proofs.Common.{◌∷◌, [], ◌++◌, ap, ◌∙◌, append_assoc, vec_len}
use Rattle.std.proofs.lemmas.Result.{on_ok_weaker}
use Rattle.plan_text.specs.Expressions.{spaced_words}
use Rattle.plan_text.proofs.Spaces.{before_space, popped}
use Rattle.plan_text.proofs.words.close_bracket.Goals as goal

pub returns : goal.returns
returns c =
    on_ok_weaker c.put_word.result (λ is before ws some was.
    is ∙ ap (λ t. t ++ 93 ∷ 32 ∷ []) (popped (before ++ spaced_words ws) 32 (vec_len c.args.out.now) c.args.out.now.items c.pop.new.self.items c.args.out.now.ok.0
    (before_space before ws c.args.out.now.items some was) c.pop.ensures.rest)
    ∙ append_assoc before (spaced_words ws) (93 ∷ 32 ∷ []))
    c.put_word.ensures
