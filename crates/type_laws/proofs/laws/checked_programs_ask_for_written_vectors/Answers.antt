-- Proofs of `checked_programs_ask_for_written_vectors`, src/laws.rt.
use Rattle.std.proofs.Common.{subst}
use Rattle.type_laws.specs.AskedVectors.{AskForWritten}
use Rattle.type_laws.proofs.NamedPrograms.{asks_for_written}
use Rattle.type_laws.proofs.laws.checked_programs_ask_for_written_vectors.Goals as goal

pub returns : goal.returns
returns c = λ source length program checks. subst (λ p. AskForWritten p) checks.1 (asks_for_written source length checks.0)
