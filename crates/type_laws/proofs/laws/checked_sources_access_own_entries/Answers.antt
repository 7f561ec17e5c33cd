-- Proofs of `checked_sources_access_own_entries`, src/laws.rt.
use Rattle.type_laws.proofs.EntryAccess.{entries_are_accessed_well}
use Rattle.type_laws.proofs.laws.checked_sources_access_own_entries.Goals as goal

pub returns : goal.returns
returns c = λ source length program checks. entries_are_accessed_well source length checks.0
