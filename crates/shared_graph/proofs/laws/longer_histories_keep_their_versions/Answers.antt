-- Proofs of `longer_histories_keep_their_versions`, src/laws.rt.
use Rattle.shared_graph.proofs.Versions.{batches_prefix, version_stays}
use Rattle.shared_graph.proofs.laws.longer_histories_keep_their_versions.Goals as goal

pub returns-clause-batches : goal.returns-clause-batches
returns-clause-batches c = batches_prefix

pub returns-clause-versions : goal.returns-clause-versions
returns-clause-versions c = version_stays
