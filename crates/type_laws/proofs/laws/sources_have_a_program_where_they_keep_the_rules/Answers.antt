-- Proofs of `sources_have_a_program_where_they_keep_the_rules`, src/laws.rt.
use Rattle.std.proofs.Common.{refl}
use Rattle.types.specs.Program.{program_of}
use Rattle.type_laws.proofs.FaultlessSources.{source_keeps}
use Rattle.type_laws.proofs.KeptSources.{source_kept}
use Rattle.type_laws.proofs.laws.sources_have_a_program_where_they_keep_the_rules.Goals as goal

pub returns : goal.returns
returns c = λ source length. (λ program. source_keeps source length program.1.0, λ keeps. ((program_of source length).value, (source_kept source length keeps, refl)))
