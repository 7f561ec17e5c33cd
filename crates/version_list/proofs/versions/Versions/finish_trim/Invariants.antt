use Rattle.version_list.specs.declared.step.Step.TheVariants.{Trim}
use Rattle.version_list.specs.Machine.{state_after}
use Rattle.version_list.proofs.versions.Versions.finish_trim.Given as goal

abbrev pub ghost-at : goal.ghost-at
ghost-at a = state_after a._from.now.state Trim
