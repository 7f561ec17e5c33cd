-- Proofs of `put_more_parameters`, src/declaration.rt.
use Rattle.std.proofs.Common.{map}
use Rattle.syntax.specs.SourceSpelling.{each_before, next_parameter_before}
use Rattle.syntax.specs.SourceViews.{parameter_tree}
use Rattle.source_text.proofs.Puts.{up_to_none, up_to_more, up_to_all, each_before-map}
use Rattle.source_text.proofs.declaration.put_more_parameters.Goals as goal

pub parameters-init : goal.parameters-init
parameters-init c =
    up_to_none (each_before next_parameter_before (map parameter_tree c.args.parameters.now)) (λ x. next_parameter_before (parameter_tree x)) c.args.parameters.now c.args.out.now.items
    (each_before-map parameter_tree next_parameter_before c.args.parameters.now)

pub parameters-preserved : goal.parameters-preserved
parameters-preserved c =
    up_to_more _ (λ x. next_parameter_before
    (parameter_tree x)) c.args.parameters.now c.parameters.parameter-index c.parameter-item.result c.parameter-item.result c.args.out.now.items c.parameters.out.items
    c.put_next_parameter.new.out.items
    c.parameters.invariant c.parameters-test.true c.parameter-item.is c.in_ok-put_next_parameter.ensures

pub returns : goal.returns
returns c =
    up_to_all _ (λ x. next_parameter_before
    (parameter_tree x)) c.args.parameters.now c.parameters.parameter-index c.args.out.now.items c.parameters.out.items c.parameters.invariant c.parameters-test.false
