-- Proofs of the mutually recursive functions of src/accesses.rt.
use Rattle.std.proofs.Common.{ap, ◌∙◌, refl, arith}
use Rattle.typed_tree.specs.declared.function.FunctionStatement.TheViews.{the_lemmas}
use Rattle.typed_tree.specs.FunctionStatementTree.{function_statement_tree}
use Rattle.typed_tree.proofs.Steps.{function_statement_tree-If, function_statement_tree-IfElse}
use Rattle.typed_tree.proofs.accesses.+steps.Goals as goal

pub step_passes-steps_pass-requires-then-condition_passes-2 :
    goal.step_passes-steps_pass-requires-then-condition_passes-2
step_passes-steps_pass-requires-then-condition_passes-2 g t c κs within = (grind (arith, the_lemmas), within)

pub step_passes-steps_pass-requires-then-steps_pass :
    goal.step_passes-steps_pass-requires-then-steps_pass
step_passes-steps_pass-requires-then-steps_pass g t c κs within = (grind (arith, the_lemmas), within)

pub step_passes-returns-then-condition_passes : goal.step_passes-returns-then-condition_passes
step_passes-returns-then-condition_passes g t c =
    let tree = ap function_statement_tree c.in-If.is ∙ function_statement_tree-If c.in-If.c c.in-If.body in
    rw (tree, ← c.condition_passes.ensures, c.if-condition_passes.true, ← c.deref.ensures.value) c.steps_pass.ensures

pub step_passes-returns-then-steps_pass : goal.step_passes-returns-then-steps_pass
step_passes-returns-then-steps_pass g t c =
    let tree = ap function_statement_tree c.in-IfElse.is ∙ function_statement_tree-IfElse c.in-IfElse.c c.in-IfElse.body c.in-IfElse.other in
    rw (
      tree,
      ← c.condition_passes-in-IfElse.ensures,
      c.if-condition_passes-2.true,
      ← c.deref-then-condition_passes-2.ensures.value,
      ← c.steps_pass-then-condition_passes-2.ensures,
      c.if-steps_pass.true,
      ← c.deref-then-steps_pass.ensures.value,
    ) c.steps_pass-then-steps_pass.ensures

pub step_passes-returns-else-steps_pass : goal.step_passes-returns-else-steps_pass
step_passes-returns-else-steps_pass g t c =
    let tree = ap function_statement_tree c.in-IfElse.is ∙ function_statement_tree-IfElse c.in-IfElse.c c.in-IfElse.body c.in-IfElse.other in
    rw (
      tree,
      ← c.condition_passes-in-IfElse.ensures,
      c.if-condition_passes-2.true,
      ← c.deref-then-condition_passes-2.ensures.value,
      ← c.steps_pass-then-condition_passes-2.ensures,
      c.if-steps_pass.false,
    ) refl
