-- Proofs of `fused_statements_are_one_instruction`, src/laws.rt.
use Rattle.std.proofs.Common.{subst}
use Rattle.typed_tree.specs.ProgramTree.{ProgramTree}
use Rattle.typed_tree.specs.Resolved.{IsResolved}
use Rattle.type_laws.specs.AskedVectors.{AskForWritten}
use Rattle.type_laws.specs.LabelIndices.{LabelsAreInOrder}
use Rattle.type_laws.specs.Numbers.{InOrder, numbers}
use Rattle.type_laws.specs.VisibleSets.{NamesSetsApart}
use Rattle.type_laws.proofs.MainLabels.{labels_in_order}
use Rattle.type_laws.proofs.NamedPrograms.{asks_for_written, names_sets_apart}
use Rattle.type_laws.proofs.Numbers.{program_order}
use Rattle.type_laws.proofs.ResolvedPrograms.{program_resolved}
use Rattle.plan_laws.proofs.Whole.{fused_are_one}
use Rattle.plan_laws.proofs.laws.fused_statements_are_one_instruction.Goals as goal

pub returns : goal.returns
returns c = λ source length program schedule checks accepted first second fused.
    fused_are_one program schedule (subst (λ p. IsResolved p) checks.1 (program_resolved source length checks.0))
    (subst (λ p. NamesSetsApart p) checks.1 (names_sets_apart source length checks.0)) (subst (λ p. AskForWritten p) checks.1 (asks_for_written source length checks.0))
    (subst (λ p. LabelsAreInOrder p) checks.1 (labels_in_order source length checks.0))
    (subst (λ (p : ProgramTree). InOrder 1 (numbers p.main)) checks.1 (program_order source length)) accepted first second fused
