-- Proofs of `expressions_have_types_where_they_have_no_fault`, src/laws.rt.
use Rattle.type_laws.proofs.FaultlessExpressions.{expression_typed}
use Rattle.type_laws.proofs.TypedExpressions.{expression_fine}
use Rattle.type_laws.proofs.laws.expressions_have_types_where_they_have_no_fault.Goals as goal

pub returns : goal.returns
returns c = record {
  typed = λ scope at e meant none. let t = expression_typed scope at meant e none in (t.type, t.has);
  faultless = λ scope at e type has. (expression_fine scope at e type has).none;
}
