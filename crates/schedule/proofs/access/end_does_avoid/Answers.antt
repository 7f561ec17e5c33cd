-- Proofs of `end_does_avoid`, src/access.rt.
use Rattle.std.proofs.Common.{◌∙◌, map}
use Rattle.typed_tree.specs.FunctionStatementTree.{function_tree}
use Rattle.schedule.proofs.Uses.{end_is_apart}
use Rattle.schedule.proofs.access.end_does_avoid.Goals as goal

pub returns : goal.returns
returns c = c.end_passes.ensures ∙ end_is_apart c.args.vectors.now (map function_tree c.args.filters.now) c.args.end
