-- Proofs of `checked_sources_declare_main`, src/laws.rt.
use Rattle.type_laws.proofs.MainFunction.{main_is_declared_once, main_is_declared_somewhere}
use Rattle.type_laws.proofs.laws.checked_sources_declare_main.Goals as goal

pub returns : goal.returns
returns c = record {
  main = λ source length program checks. main_is_declared_somewhere source length checks.0;
  one = λ source length program checks. main_is_declared_once source length checks.0;
}
