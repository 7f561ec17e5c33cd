-- Proofs of `put_back`, src/leaves.rt.
use Rattle.std.proofs.Common.{◌≡◌, ◌++◌, ◌∷◌, [], rules}
use Rattle.std.proofs.lemmas.Result.{on_ok_weaker}
use Rattle.typed_tree.specs.ProgramTree.{program_tree}
use Rattle.lowering.proofs.Putting.{puts_both, puts_one}
use Rattle.lowering.proofs.blocks.Lowering.put_back.Goals as goal

pub returns : goal.returns
returns c =
    let p = program_tree c.args.self.program.now in
    let pushed : c.push.new.self.items ≡ c.args.code.now.items ++ c.in_ok-advance.field-0 ∷ [] = search rules in
    let advance = puts_one p _ _ c.in_ok-advance.field-0 _ pushed c.in_ok-advance.ensures in
    on_ok_weaker c.put_jump.result (λ jump. puts_both p _ _ _ _ _ advance jump) c.put_jump.ensures
