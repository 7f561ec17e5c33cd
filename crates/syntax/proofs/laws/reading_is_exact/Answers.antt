-- Proofs of `reading_is_exact`, src/laws.rt.
use Rattle.std.proofs.Common.{subst}
use Rattle.syntax.specs.ExpressionBeginnings.{Begins}
use Rattle.syntax.proofs.ExpressionsExact.{At}
use Rattle.syntax.proofs.ExpressionReadings.{expressions_sound, expressions_complete}
use Rattle.syntax.proofs.laws.reading_is_exact.Goals as goal

pub returns-clause-sound : goal.returns-clause-sound
returns-clause-sound c = λ depth ws tree rest read. subst (At (Begins depth) ws) read (expressions_sound depth ws)

pub returns-clause-complete : goal.returns-clause-complete
returns-clause-complete c = expressions_complete
