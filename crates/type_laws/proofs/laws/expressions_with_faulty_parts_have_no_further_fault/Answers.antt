-- Proofs of `expressions_with_faulty_parts_have_no_further_fault`, src/laws.rt.
use Rattle.type_laws.proofs.FaultyForms.{faulty_with_faults}
use Rattle.type_laws.proofs.FaultyParts.{faulty_parts, initial_not_sound}
use Rattle.type_laws.proofs.PartSplits.{faulty_initial}
use Rattle.type_laws.proofs.laws.expressions_with_faulty_parts_have_no_further_fault.Goals as goal

pub returns : goal.returns
returns c = record {
  further = λ scope at form is. (faulty_parts scope at form is).0;
  whole = λ scope at form is. (faulty_parts scope at form is).1;
  fault = faulty_with_faults;
  initial = faulty_initial;
  unsound = initial_not_sound;
}
