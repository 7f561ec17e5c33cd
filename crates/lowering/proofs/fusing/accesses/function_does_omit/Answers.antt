-- Proofs of `function_does_omit`, src/fusing/accesses.rt.
use Rattle.std.proofs.Common.{◌∙◌, map, [], ◌∷◌}
use Rattle.typed_tree.specs.FunctionStatementTree.{function_tree}
use Rattle.lowering.proofs.SetsRead.{function_is_apart}
use Rattle.lowering.proofs.fusing.accesses.function_does_omit.Goals as goal

pub returns : goal.returns
returns c = c.function_passes.ensures ∙ function_is_apart (c.args.set ∷ []) (map function_tree c.args.functions.now) c.args.index
