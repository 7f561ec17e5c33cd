-- Proofs of `refusals_stand_in_the_text`, src/passes.rt.
use Rattle.compiler.proofs.Offsets.{stands_in}
use Rattle.compiler.proofs.passes.refusals_stand_in_the_text.Goals as goal

pub returns : goal.returns
returns c = stands_in
