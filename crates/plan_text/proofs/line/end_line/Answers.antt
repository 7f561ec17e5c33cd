-- Proofs of `end_line`, src/line.rt.
use Rattle.std.proofs.Common.{◌∷◌, [], ◌++◌, ap, ◌∙◌, append_assoc, vec_len}
use Rattle.plan_text.specs.Expressions.{spaced_words}
use Rattle.plan_text.proofs.Spaces.{before_space, popped}
use Rattle.plan_text.proofs.line.end_line.Goals as goal

pub returns : goal.returns
returns c before ws some was =
    c.in_ok-push.ensures.items
    ∙ ap (λ t. t ++ 10 ∷ []) (popped (before ++ spaced_words ws) 32 (vec_len c.args.out.now) c.args.out.now.items c.pop.new.self.items c.args.out.now.ok.0
    (before_space before ws c.args.out.now.items some was) c.pop.ensures.rest)
    ∙ append_assoc before (spaced_words ws) (10 ∷ [])
