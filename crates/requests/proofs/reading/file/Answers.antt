-- Proofs of `file`, src/reading.rt.
use Rattle.std.proofs.Common.{◌∙◌, ap}
use Rattle.std.specs.Borrow.{Bor}
use Rattle.clap.specs.Words.{Text, found_of}
use Rattle.clap.proofs.WalkLemmas.{first_value-rows}
use Rattle.requests.proofs.Found.{text_or}
use Rattle.requests.proofs.reading.file.Goals as goal

pub returns : goal.returns
returns c = ap (λ (s : Bor Text). s.now) c.unwrap_or.ensures ∙ text_or c.get_str.result _ _ (c.get_str.ensures ∙ first_value-rows (found_of c.args.found.now) c.args.name.now)
