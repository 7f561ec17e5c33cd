-- Proofs of `put_jump`, src/leaves.rt.
use Rattle.std.proofs.Common.{◌≡◌, ◌++◌, ◌∷◌, [], rules}
use Rattle.typed_tree.specs.ProgramTree.{program_tree}
use Rattle.lowering.proofs.Putting.{puts_one}
use Rattle.lowering.proofs.blocks.Lowering.put_jump.Goals as goal

pub returns : goal.returns
returns c =
    let pushed : c.push.new.self.items ≡ c.args.code.now.items ++ c.in_ok-jump.field-0 ∷ [] = search rules in
    puts_one (program_tree c.args.self.program.now) _ _ c.in_ok-jump.field-0 _ pushed c.in_ok-jump.ensures
