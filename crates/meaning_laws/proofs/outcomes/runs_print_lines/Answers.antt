-- Proofs of `runs_print_lines`, src/outcomes.rt.
use Rattle.meaning_laws.proofs.Sound.{prints}
use Rattle.meaning_laws.proofs.outcomes.runs_print_lines.Goals as goal

pub returns : goal.returns
returns c = prints
