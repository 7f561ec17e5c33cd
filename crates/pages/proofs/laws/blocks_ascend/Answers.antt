-- Proofs of `blocks_ascend`, src/laws.rt.
use Rattle.pages.proofs.UpdateRuns.{ascend_in_page}
use Rattle.pages.proofs.laws.blocks_ascend.Goals as goal

pub returns : goal.returns
returns c = ascend_in_page
