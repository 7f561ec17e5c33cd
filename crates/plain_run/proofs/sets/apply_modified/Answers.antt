-- Proofs of `apply_modified`, src/sets.rt.
use Rattle.std.proofs.Common.{ap, refl}
use Rattle.algorithm_meaning.specs.State.{StateValue}
use Rattle.plain_run.proofs.sets.apply_modified.Goals as goal

pub returns-clause-members : goal.returns-clause-members
returns-clause-members c =
    rw (c.new.ensures, c.in_ok-changed.ensures, c.deref.ensures.value, c.deref-2.ensures.value, ap (λ (s : StateValue). s.vectors) c.in_ok-after.ensures.state, c.in_ok-after.ensures.vectors) refl
