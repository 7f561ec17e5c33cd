-- Proofs of `fill_unless_below`, src/leaves.rt.
use Rattle.std.proofs.Common.{◌≡◌, ◌∙◌, length, subst}
use Rattle.typed_tree.specs.ProgramTree.{program_tree}
use Rattle.plans.specs.Instruction.{UnlessBelow}
use Rattle.plans.specs.Plan.{loop_step}
use Rattle.lowering.specs.Text.{IsWritten}
use Rattle.lowering.proofs.blocks.Lowering.fill_unless_below.Goals as goal

pub returns : goal.returns
returns c =
    let p = program_tree c.args.self.program.now in
    let to : c.len.result ≡ length c.args.code.now.items = c.len.ensures ∙ c.args.code.now.ok.0 in
    record {
      instruction = c.in_ok-below.below;
      is = c.replace.ensures;
      written = subst (λ n. IsWritten p c.in_ok-below.below (loop_step c.args.head.number c.args.head.keep c.args.head.shown (UnlessBelow c.args.name n))) to c.in_ok-below.ensures;
    }
