use Rattle.std.proofs.Common.{map}
use Rattle.syntax.specs.SourceSpelling.{each_before, next_parameter_before}
use Rattle.syntax.specs.SourceViews.{parameter_tree}
use Rattle.source_text.specs.inside.Written.{PutsUpTo}
use Rattle.source_text.proofs.declaration.put_more_parameters.Given as goal

abbrev pub invariant-parameters : goal.invariant-parameters
invariant-parameters l = PutsUpTo (each_before next_parameter_before (map parameter_tree l.parameters))
    (λ x. next_parameter_before (parameter_tree x)) l.parameters l.parameter-index l.fn.out.items l.out.items
