-- Proofs of `checked_sources_declare_new_names`, src/laws.rt.
use Rattle.type_laws.proofs.NewNames.{edges_are_one, names_are_new}
use Rattle.type_laws.proofs.laws.checked_sources_declare_new_names.Goals as goal

pub returns : goal.returns
returns c = record {
  names = λ source length program checks. names_are_new source length checks.0;
  edges = λ source length program checks. edges_are_one source length checks.0;
}
