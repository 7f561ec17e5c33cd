use Rattle.std.proofs.Common.{◌≡◌, ◌++◌}
use Rattle.plan_text.specs.inside.Rows.{times}
use Rattle.plan_text.specs.Expressions.{spaced}
use Rattle.plan_text.proofs.words.put_times.Given as goal

-- so many are there
abbrev pub invariant-times : goal.invariant-times
invariant-times l = l.out.items ≡ l.fn.out.items ++ spaced (times l._time l.word)
