-- Proofs of `checked_programs_are_resolved`, src/laws.rt.
use Rattle.std.proofs.Common.{subst}
use Rattle.typed_tree.specs.Resolved.{IsResolved}
use Rattle.type_laws.proofs.ResolvedPrograms.{program_resolved}
use Rattle.type_laws.proofs.laws.checked_programs_are_resolved.Goals as goal

pub returns : goal.returns
returns c = λ source length program checks. subst (λ p. IsResolved p) checks.1 (program_resolved source length checks.0)
