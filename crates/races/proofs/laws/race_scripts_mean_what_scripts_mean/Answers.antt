-- Proofs of `race_scripts_mean_what_scripts_mean`, src/laws.rt.
use Rattle.scripts.specs.Commands.{lines_of}
use Rattle.races.proofs.ScriptLaws.{order_left}
use Rattle.races.proofs.laws.race_scripts_mean_what_scripts_mean.Goals as goal

pub returns : goal.returns
returns c = λ text o is may. record {
  left = λ programs. (order_left programs (lines_of text) o is may).0;
  answered = λ programs. (order_left programs (lines_of text) o is may).1;
}
