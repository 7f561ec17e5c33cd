-- Proofs of `numbers_are_their_digits`, src/commands.rt.
use Rattle.script_laws.proofs.DigitLaws.{integer_is, number_is}
use Rattle.script_laws.proofs.commands.numbers_are_their_digits.Goals as goal

pub returns-clause-numbers : goal.returns-clause-numbers
returns-clause-numbers c = number_is

pub returns-clause-integers : goal.returns-clause-integers
returns-clause-integers c = integer_is
