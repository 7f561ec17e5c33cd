-- Proofs of `checked_sources_have_distinct_labels`, src/laws.rt.
use Rattle.std.proofs.Common.{sym, ap, ◌∙◌}
use Rattle.type_laws.proofs.LabelLaws.{labels_are_distinct, labels_are_kept}
use Rattle.type_laws.proofs.laws.checked_sources_have_distinct_labels.Goals as goal

pub returns : goal.returns
returns c = record {
  distinct = λ source length program checks. labels_are_distinct source length checks.0;
  kept = λ source length program checks. ap (λ p. p.labels) (sym checks.1) ∙ labels_are_kept source length checks.0;
}
