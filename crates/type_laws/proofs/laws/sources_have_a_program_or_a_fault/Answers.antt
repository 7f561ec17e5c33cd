-- Proofs of `sources_have_a_program_or_a_fault`, src/laws.rt.
use Rattle.type_laws.proofs.Outcomes.{not_both_outcomes, one_outcome}
use Rattle.type_laws.proofs.laws.sources_have_a_program_or_a_fault.Goals as goal

pub returns : goal.returns
returns c = record { one = one_outcome; not_both = not_both_outcomes }
