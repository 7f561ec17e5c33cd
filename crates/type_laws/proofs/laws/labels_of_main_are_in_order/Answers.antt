-- Proofs of `labels_of_main_are_in_order`, src/laws.rt.
use Rattle.std.proofs.Common.{subst}
use Rattle.type_laws.specs.LabelIndices.{LabelsAreInOrder}
use Rattle.type_laws.proofs.MainLabels.{labels_in_order}
use Rattle.type_laws.proofs.laws.labels_of_main_are_in_order.Goals as goal

pub returns : goal.returns
returns c = λ source length program checks. subst (λ p. LabelsAreInOrder p) checks.1 (labels_in_order source length checks.0)
