-- Proofs of `end_does_omit`, src/fusing/accesses.rt.
use Rattle.std.proofs.Common.{◌∙◌, map, [], ◌∷◌}
use Rattle.typed_tree.specs.FunctionStatementTree.{function_tree}
use Rattle.lowering.proofs.SetsRead.{end_is_apart}
use Rattle.lowering.proofs.fusing.accesses.end_does_omit.Goals as goal

pub returns : goal.returns
returns c = c.end_passes.ensures ∙ end_is_apart (c.args.set ∷ []) (map function_tree c.args.filters.now) c.args.end
