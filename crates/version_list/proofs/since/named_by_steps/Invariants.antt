use Rattle.version_list.proofs.LastBatches.{AreNamed}
use Rattle.version_list.proofs.since.named_by_steps.Given as goal

abbrev pub invariant-steps : goal.invariant-steps
invariant-steps l = AreNamed l.steps l.done-index l.most l.left l.named.items
