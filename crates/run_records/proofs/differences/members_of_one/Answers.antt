-- Proofs of `members_of_one`, src/differences.rt.
use Rattle.std.proofs.Common.{◌∙◌, ap, sym}
use Rattle.std.proofs.lemmas.Result.{IfOk-weaker}
use Rattle.kernels.specs.EdgeApply.{is_member}
use Rattle.run_records.proofs.differences.members_of_one.Goals as goal

pub returns : goal.returns
returns c =
    IfOk-weaker c.numbers_of_one.result _ _ (λ found is v off. sym (ap (is_member v) (c.deref.ensures.value ∙ c.in_ok-first.ensures)) ∙ is v off ∙ ap (is_member v) (c.deref-2.ensures.value ∙ c.in_ok-second.ensures))
    c.numbers_of_one.ensures
