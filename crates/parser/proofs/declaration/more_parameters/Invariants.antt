use Rattle.std.proofs.Common.{length, map}
use Rattle.parser.specs.inside.Readers.{terminals}
use Rattle.syntax.specs.SourceReading.{next_parameter}
use Rattle.syntax.specs.SourceViews.{parameter_tree}
use Rattle.parser.proofs.Lists.{Follow}
use Rattle.parser.proofs.declaration.more_parameters.Given as goal

abbrev pub invariant-parameters : goal.invariant-parameters
invariant-parameters l = Follow next_parameter (parameter_tree l.fn.first) (terminals l.cursor) (map parameter_tree l.parameters.items) (terminals l.left)

abbrev pub decreases-parameters : goal.decreases-parameters
decreases-parameters l = length (terminals l.left)
