-- Proofs of `put_bounds`, src/leaves.rt.
use Rattle.std.proofs.Common.{◌∷◌, [], ◌∙◌, ap, subst}
use Rattle.std.proofs.lemmas.Result.{on_ok_weaker}
use Rattle.typed_tree.specs.BlockTree.{DeclareInt}
use Rattle.typed_tree.specs.IntExpressionTree.{int_expression_tree}
use Rattle.typed_tree.specs.ProgramTree.{program_tree}
use Rattle.plans.specs.Instruction.{Do, Enter}
use Rattle.plans.specs.Plan.{loop_step, plain, depth_with_integer}
use Rattle.lowering.specs.inside.Putting.{Puts}
use Rattle.lowering.specs.inside.Visible.{depth_of}
use Rattle.lowering.proofs.Putting.{puts_both}
use Rattle.lowering.proofs.blocks.Lowering.put_bounds.Goals as goal

pub returns-clause-code : goal.returns-clause-code
returns-clause-code c =
    let p = program_tree c.args.self.program.now in
    let d = depth_of c.args.visible.now in
    let n = c.args.number in
    let name = c.args.range.name in
    let a = c.args.code.now.items in
    let b = c.put_first.new.code.items in
    let e = c.put_enter.new.code.items in
    let first = subst (λ x. Puts p a b (plain n x (Do (DeclareInt name (int_expression_tree c.args.range.first.now))) ∷ [])) c.depth-depth.ensures c.in_ok-put_first.ensures in
    let keep = c.depth.ensures ∙ c.in_ok-declare_int.ensures in
    let enter = subst (λ x. Puts p b e (loop_step n (depth_with_integer d) x (Enter name (int_expression_tree c.args.range.end.now)) ∷ [])) c.depth-depth.ensures
    (subst (λ x. Puts p b e (loop_step n x c.depth-depth.result (Enter name (int_expression_tree c.args.range.end.now)) ∷ [])) keep c.in_ok-put_enter.ensures) in
    on_ok_weaker c.declare_int-2.result (λ more. puts_both p a b e _ _ first enter) c.declare_int-2.ensures

pub returns-clause-visible : goal.returns-clause-visible
returns-clause-visible c = on_ok_weaker c.declare_int-2.result (λ more. more ∙ ap depth_with_integer c.in_ok-declare_int.ensures) c.declare_int-2.ensures
