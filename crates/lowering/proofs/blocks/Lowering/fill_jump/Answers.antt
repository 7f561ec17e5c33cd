-- Proofs of `fill_jump`, src/leaves.rt.
use Rattle.std.proofs.Common.{◌≡◌, ◌∙◌, length, subst}
use Rattle.typed_tree.specs.ProgramTree.{program_tree}
use Rattle.plans.specs.Instruction.{Jump}
use Rattle.plans.specs.Plan.{loop_step}
use Rattle.lowering.specs.Text.{IsWritten}
use Rattle.lowering.proofs.blocks.Lowering.fill_jump.Goals as goal

pub returns : goal.returns
returns c =
    let p = program_tree c.args.self.program.now in
    let to : c.len.result ≡ length c.args.code.now.items = c.len.ensures ∙ c.args.code.now.ok.0 in
    record {
      instruction = c.in_ok-jump.jump;
      is = c.replace.ensures;
      written = subst (λ n. IsWritten p c.in_ok-jump.jump (loop_step c.args.head.number c.args.head.keep c.args.head.shown (Jump n))) to c.in_ok-jump.ensures;
    }
