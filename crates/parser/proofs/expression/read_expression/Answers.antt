-- Proofs of `read_expression`, src/expression.rt.
use Rattle.parser.specs.inside.Readers.{terminals}
use Rattle.parser.proofs.ExpressionAnswers.{answers}
use Rattle.parser.proofs.expression.read_expression.Goals as goal

pub returns-clause-begins : goal.returns-clause-begins
returns-clause-begins c = answers c.args.depth (terminals c.args.cursor) c.expression.result c.expression.ensures.reads
