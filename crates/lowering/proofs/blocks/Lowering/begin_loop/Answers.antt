-- Proofs of `begin_loop`, src/leaves.rt.
use Rattle.std.proofs.Common.{◌≡◌, ◌++◌, ◌∷◌, [], rules}
use Rattle.typed_tree.specs.ProgramTree.{program_tree}
use Rattle.lowering.proofs.Putting.{puts_one}
use Rattle.lowering.proofs.blocks.Lowering.begin_loop.Goals as goal

pub returns : goal.returns
returns c =
    let pushed : c.push.new.self.items ≡ c.keep_index.new.code.items ++ c.in_ok-turn.field-0 ∷ [] = search rules in
    record {
      test = c.keep_index.new.code.items;
      keeps = c.in_ok-index.ensures;
      turns = puts_one (program_tree c.args.self.program.now) _ _ c.in_ok-turn.field-0 _ pushed c.in_ok-turn.ensures;
    }
