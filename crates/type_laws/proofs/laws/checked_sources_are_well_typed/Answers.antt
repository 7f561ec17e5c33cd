-- Proofs of `checked_sources_are_well_typed`, src/laws.rt.
use Rattle.type_laws.proofs.InitialValues.{initials_fit}
use Rattle.type_laws.proofs.WellTyped.{declarations_fit}
use Rattle.type_laws.proofs.laws.checked_sources_are_well_typed.Goals as goal

pub returns : goal.returns
returns c = record {
  initials = λ source length program checks. initials_fit source length checks.0;
  declarations = λ source length program checks. declarations_fit source length checks.0;
}
