-- Proofs of `checked_sources_print_in_main_alone`, src/laws.rt.
use Rattle.type_laws.proofs.Prints.{prints_stand_in_main}
use Rattle.type_laws.proofs.laws.checked_sources_print_in_main_alone.Goals as goal

pub returns : goal.returns
returns c = λ source length program checks. prints_stand_in_main source length checks.0
