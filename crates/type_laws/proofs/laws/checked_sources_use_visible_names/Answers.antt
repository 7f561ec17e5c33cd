-- Proofs of `checked_sources_use_visible_names`, src/laws.rt.
use Rattle.type_laws.proofs.UsedNames.{names_are_visible}
use Rattle.type_laws.proofs.laws.checked_sources_use_visible_names.Goals as goal

pub returns : goal.returns
returns c = λ source length program checks. names_are_visible source length checks.0
