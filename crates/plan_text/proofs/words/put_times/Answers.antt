-- Proofs of `put_times`, src/words.rt.
use Rattle.std.proofs.Common.{◌∷◌, [], ◌++◌, ◌∙◌, sym, ap}
use Rattle.plan_text.specs.inside.Rows.{times}
use Rattle.plan_text.specs.Expressions.{spaced}
use Rattle.plan_text.proofs.Spaces.{put_after, times_more}
use Rattle.plan_text.proofs.words.put_times.Goals as goal

pub times-preserved : goal.times-preserved
times-preserved c =
    put_after c.args.out.now.items c.times.out.items c.put_word.new.out.items (times c.times._time c.args.word.now) (c.args.word.now ∷ []) c.times.invariant c.in_ok-put_word.ensures
    ∙ ap (λ ws. c.args.out.now.items ++ spaced ws) (sym (times_more c.times._time c.args.word.now))
