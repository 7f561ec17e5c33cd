-- Proofs of `checked_programs_name_visible_sets_apart`, src/laws.rt.
use Rattle.std.proofs.Common.{subst}
use Rattle.type_laws.specs.VisibleSets.{NamesSetsApart}
use Rattle.type_laws.proofs.NamedPrograms.{names_sets_apart}
use Rattle.type_laws.proofs.laws.checked_programs_name_visible_sets_apart.Goals as goal

pub returns : goal.returns
returns c = λ source length program checks. subst (λ p. NamesSetsApart p) checks.1 (names_sets_apart source length checks.0)
