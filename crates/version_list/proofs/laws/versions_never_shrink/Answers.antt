-- Proofs of `versions_never_shrink`, src/laws.rt.
use Rattle.version_list.proofs.Shrinking.{no_fewer}
use Rattle.version_list.proofs.laws.versions_never_shrink.Goals as goal

pub returns : goal.returns
returns c s j k le = no_fewer s.opening s.batches j k le
