-- Proofs of `terminals_have_one_source`, src/laws.rt.
use Rattle.syntax.proofs.SourcesExact.{one_source}
use Rattle.syntax.proofs.laws.terminals_have_one_source.Goals as goal

pub returns : goal.returns
returns c = one_source
