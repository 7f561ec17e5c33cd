-- Proofs of `function_does_avoid`, src/access.rt.
use Rattle.std.proofs.Common.{◌∙◌, map}
use Rattle.typed_tree.specs.FunctionStatementTree.{function_tree}
use Rattle.schedule.proofs.Uses.{function_is_apart}
use Rattle.schedule.proofs.access.function_does_avoid.Goals as goal

pub returns : goal.returns
returns c = c.function_passes.ensures ∙ function_is_apart c.args.vectors.now (map function_tree c.args.functions.now) c.args.index
