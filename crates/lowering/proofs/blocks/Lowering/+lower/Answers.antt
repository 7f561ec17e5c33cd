-- Proofs of `lower` and its mutually recursive functions, src/plan.rt.
use Rattle.std.proofs.Common.{rules, ◌≡◌, ◌≤◌, ◌+◌, ◌∷◌, [], List, false, length, refl, ap, sym, ◌∙◌, subst, arith}
use Rattle.std.proofs.lemmas.Result.{on_ok_weaker}
use Rattle.typed_tree.specs.IntExpressionTree.{int_expression_tree}
use Rattle.typed_tree.specs.BoolExpressionTree.{bool_expression_tree}
use Rattle.typed_tree.specs.declared.statement.MainStatement.{MainStatement}
use Rattle.typed_tree.specs.BlockTree.{If, IfElse, While, simple_statement_tree, statement_kind_tree, block_tree}
use Rattle.typed_tree.specs.ProgramTree.{program_tree}
use Rattle.typed_tree.proofs.Blocks.{statement_kind_tree-If, statement_kind_tree-IfElse, statement_kind_tree-While, statement_kind_tree-For}
use Rattle.plans.specs.Fusing.{fusion_role_of}
use Rattle.plans.specs.Instruction.{Do, UnlessBelow, Jump, Turn, Advance}
use Rattle.plans.specs.inside.Plan.{IsWithin}
use Rattle.plans.specs.Plan.{chosen, depth_after, depth_after_all, depth_in_loop, loop_step, plain, plan, plan_all}
use Rattle.plans.proofs.Depths.{within_after_all}
use Rattle.lowering.specs.inside.Putting.{BeginsLoop, Fills, Puts}
use Rattle.lowering.specs.inside.Visible.{depth_of}
use Rattle.lowering.proofs.Measures.{action_size, block_size, inner_falls}
use Rattle.lowering.proofs.Putting.{puts_nothing}
use Rattle.lowering.proofs.Statements.{HasPut, after_none, has_put_all, has_put_next, has_put_none, puts_if, puts_apply_schedule, puts_while, puts_for}
use Rattle.lowering.proofs.blocks.Lowering.+lower.Goals as goal

pub put_all-statements-preserved : goal.put_all-statements-preserved
put_all-statements-preserved t c =
    let p = program_tree c.args.self.program.now in
    let s = c.args.self.schedule.now in
    let a = c.args.code.now.items in
    let b = c.statements.code.items in
    let k = c.put_next.new.code.items in
    let d = depth_of c.statements.visible in
    let whole = plan_all p s (length a) (depth_of c.args.visible.now) false (block_tree c.args.statements.now) in
    let here : MainStatement = c.in-Some.statement.now in
    let rest = block_tree c.in-Some.rest.now in
    let company = fusion_role_of p s d c.statements.is_done here.label (statement_kind_tree here.action) rest in
    let left : c.statements.left.now ≡ here ∷ c.in-Some.rest.now = search rules in
    let before = subst (λ (ls : List MainStatement). HasPut p s whole a b d c.statements.is_done (block_tree ls)) left c.statements.invariant.put in
    let put = has_put_next p s whole a b k d c.statements.is_done here.number here.label (statement_kind_tree here.action) rest before c.in_ok-is_done.ensures.code in
    let size : block_size (block_tree (here ∷ c.in-Some.rest.now)) ≤ block_size (block_tree c.args.statements.now) =
    subst (λ (ls : List MainStatement). block_size (block_tree ls) ≤ block_size (block_tree c.args.statements.now)) left c.statements.invariant.size in
    record {
      put = subst (λ e. HasPut p s whole a k e c.in_ok-is_done.is_done rest) (sym c.in_ok-is_done.ensures.visible)
          (subst (λ e. HasPut p s whole a k (depth_after (statement_kind_tree here.action) d) e rest) (sym c.in_ok-is_done.ensures.next) put);
      size = omega (arith, size);
      visible = c.statements.invariant.visible ∙ ap (λ (ls : List MainStatement). depth_after_all (block_tree ls) d) left ∙ ap (λ e. depth_after_all rest e) (sym c.in_ok-is_done.ensures.visible);
    }

pub put_inside-returns-clause-visible : goal.put_inside-returns-clause-visible
put_inside-returns-clause-visible t c =
    let d = depth_of c.args.visible.now in
    let body = block_tree c.args.body.now in
    let within : IsWithin c.depth-depth.result (depth_of c.put_all.new.visible) =
    subst (λ x. IsWithin x (depth_of c.put_all.new.visible)) (sym c.depth-depth.ensures)
    (subst (λ x. IsWithin d x) (sym c.in_ok-put_all.ensures.visible) (within_after_all body d)) in
    c.cut.ensures within ∙ c.depth-depth.ensures

pub put_statement-returns-in_ok-put_simple-in-Simple-clause-code : goal.put_statement-returns-in_ok-put_simple-in-Simple-clause-code
put_statement-returns-in_ok-put_simple-in-Simple-clause-code t c =
    let p = program_tree c.args.self.program.now in
    let s = c.args.self.schedule.now in
    let a = c.args.code.now.items in
    let b = c.put_simple.new.code.items in
    let d = depth_of c.args.visible.now in
    let n = c.args.statement.now.number in
    let label = c.args.statement.now.label in
    let simple = c.in-Simple.simple in
    let steps = ap (λ k. plan p s (length a) d n label k) (ap statement_kind_tree c.in-Simple.is) in
    let put = subst (λ x. Puts p a b (chosen s n label x (Do (simple_statement_tree simple)) ∷ [])) c.depth.ensures c.in_ok-put_simple-in-Simple.ensures in
    on_ok_weaker c.declare_simple.result (λ declared. subst (λ xs. Puts p a b xs) (sym steps) put) c.declare_simple.ensures

pub put_statement-returns-in-If-clause-code : goal.put_statement-returns-in-If-clause-code
put_statement-returns-in-If-clause-code t c =
    let tree = ap statement_kind_tree c.in-If.is ∙ statement_kind_tree-If c.in-If.c c.in-If.body in
    rw (tree, ← c.deref.ensures.value) (c.put_if.ensures.code c.args.statement.now.label)

pub put_statement-returns-in-IfElse-clause-code : goal.put_statement-returns-in-IfElse-clause-code
put_statement-returns-in-IfElse-clause-code t c =
    let tree = ap statement_kind_tree c.in-IfElse.is ∙ statement_kind_tree-IfElse c.in-IfElse.c c.in-IfElse.body c.in-IfElse.other in
    rw (tree, ← c.deref-in-IfElse.ensures.value, ← c.deref-in-IfElse-2.ensures.value) (c.put_apply_schedule.ensures.code c.args.statement.now.label)

pub put_statement-returns-in-While-clause-code : goal.put_statement-returns-in-While-clause-code
put_statement-returns-in-While-clause-code t c =
    let tree = ap statement_kind_tree c.in-While.is ∙ statement_kind_tree-While c.in-While.c c.in-While.body in
    rw (tree, ← c.deref-in-While.ensures.value) (c.put_while.ensures.code c.args.statement.now.label)

pub put_statement-returns-in-For-clause-code : goal.put_statement-returns-in-For-clause-code
put_statement-returns-in-For-clause-code t c =
    let tree = ap statement_kind_tree c.in-For.is ∙ statement_kind_tree-For c.in-For.name c.in-For.first c.in-For.end c.in-For.body in
    rw (tree, ← c.deref-in-For.ensures.value) (c.put_for.ensures.code c.args.statement.now.label)

pub put_statement-put_if-requires : goal.put_statement-put_if-requires
put_statement-put_if-requires t c =
    let tree = ap statement_kind_tree c.in-If.is ∙ statement_kind_tree-If c.in-If.c c.in-If.body in
    let falls = inner_falls _ (block_size (block_tree c.in-If.body.items)) _ (ap action_size tree) (ap (λ (ls : List MainStatement). block_size (block_tree ls)) c.deref.ensures.value) in
    (omega (arith, c.decreases, falls), tt)

pub put_statement-put_apply_schedule-requires : goal.put_statement-put_apply_schedule-requires
put_statement-put_apply_schedule-requires t c =
    let tree = ap statement_kind_tree c.in-IfElse.is ∙ statement_kind_tree-IfElse c.in-IfElse.c c.in-IfElse.body c.in-IfElse.other in
    let body = ap (λ (ls : List MainStatement). block_size (block_tree ls)) c.deref-in-IfElse.ensures.value in
    let other = ap (λ (ls : List MainStatement). block_size (block_tree ls)) c.deref-in-IfElse-2.ensures.value in
    let falls = inner_falls _ (block_size (block_tree c.in-IfElse.body.items) + block_size (block_tree c.in-IfElse.other.items))
    (block_size (block_tree c.deref-in-IfElse.result.now) + block_size (block_tree c.deref-in-IfElse-2.result.now)) (ap action_size tree) (omega (arith, body, other)) in
    (omega (arith, c.decreases, falls), tt)

pub put_statement-put_while-requires : goal.put_statement-put_while-requires
put_statement-put_while-requires t c =
    let tree = ap statement_kind_tree c.in-While.is ∙ statement_kind_tree-While c.in-While.c c.in-While.body in
    let falls = inner_falls _ (block_size (block_tree c.in-While.body.items)) _ (ap action_size tree) (ap (λ (ls : List MainStatement). block_size (block_tree ls)) c.deref-in-While.ensures.value) in
    (omega (arith, c.decreases, falls), tt)

pub put_statement-put_for-requires : goal.put_statement-put_for-requires
put_statement-put_for-requires t c =
    let tree = ap statement_kind_tree c.in-For.is ∙ statement_kind_tree-For c.in-For.name c.in-For.first c.in-For.end c.in-For.body in
    let falls = inner_falls _ (block_size (block_tree c.in-For.body.items)) _ (ap action_size tree) (ap (λ (ls : List MainStatement). block_size (block_tree ls)) c.deref-in-For.ensures.value) in
    (omega (arith, c.decreases, falls), tt)

pub put_if-returns-clause-code : goal.put_if-returns-clause-code
put_if-returns-clause-code t c label =
    let p = program_tree c.args.self.program.now in
    let s = c.args.self.schedule.now in
    let a = c.args.code.now.items in
    let b = c.keep_index.new.code.items in
    let k = c.put_inside.new.code.items in
    let e = c.fill_unless.new.code.items in
    let d = c.depth-depth.result in
    let body = block_tree c.args.body.now in
    let put : Puts p b k (plan_all p s (length b) d false body) = subst (λ x. Puts p b k (plan_all p s (length b) x false body)) (sym c.depth-depth.ensures) c.in_ok-put_inside.ensures.code in
    let depth_after : c.len.result ≡ length k = c.len.ensures ∙ c.put_inside.new.code.ok.0 in
    on_ok_weaker c.fill_unless.result (λ fills.
    subst (λ x. Puts p a e (plan p s (length a) x c.args.number label (If (bool_expression_tree c.args.c.now) body))) c.depth-depth.ensures
    (puts_if p s a b k e c.in_ok-test.test c.len.result d c.args.number label (bool_expression_tree c.args.c.now) body c.in_ok-test.ensures put depth_after fills))
    c.fill_unless.ensures

pub put_if-returns-clause-visible : goal.put_if-returns-clause-visible
put_if-returns-clause-visible t c = on_ok_weaker c.fill_unless.result (λ fills. c.in_ok-put_inside.ensures.visible) c.fill_unless.ensures

pub put_apply_schedule-returns-clause-code : goal.put_apply_schedule-returns-clause-code
put_apply_schedule-returns-clause-code t c label =
    let p = program_tree c.args.self.program.now in
    let s = c.args.self.schedule.now in
    let a = c.args.code.now.items in
    let b = c.keep_index.new.code.items in
    let k = c.put_inside.new.code.items in
    let e = c.fill_unless.new.code.items in
    let m = c.keep_index-2.new.code.items in
    let g = c.put_inside-2.new.code.items in
    let h = c.fill_jump.new.code.items in
    let d = c.depth-depth.result in
    let body = block_tree c.args.branches.body.now in
    let other = block_tree c.args.branches.other.now in
    let put : Puts p b k (plan_all p s (length b) d false body) = subst (λ x. Puts p b k (plan_all p s (length b) x false body)) (sym c.depth-depth.ensures) c.in_ok-put_inside.ensures.code in
    let put_other : Puts p m g (plan_all p s (length m) d false other) = subst (λ x. Puts p m g (plan_all p s (length m) x false other))
    (c.in_ok-put_inside.ensures.visible ∙ sym c.depth-depth.ensures) c.in_ok-put_inside-2.ensures.code in
    let otherwise = ap (λ n. n + 1) (c.len.ensures ∙ c.put_inside.new.code.ok.0) in
    on_ok_weaker c.fill_jump.result (λ fills.
    subst (λ x. Puts p a h (plan p s (length a) x c.args.number label (IfElse (bool_expression_tree c.args.c.now) body other))) c.depth-depth.ensures
    (puts_apply_schedule p s a b k e m g h c.in_ok-test.test (c.len.result + 1) c.in_ok-jump.jump d c.args.number label (bool_expression_tree c.args.c.now) body other
    c.in_ok-test.ensures put otherwise c.in_ok-fill_unless.ensures c.in_ok-jump.ensures put_other fills))
    c.fill_jump.ensures

pub put_apply_schedule-returns-clause-visible : goal.put_apply_schedule-returns-clause-visible
put_apply_schedule-returns-clause-visible t c =
    on_ok_weaker c.fill_jump.result (λ fills. c.in_ok-put_inside-2.ensures.visible ∙ c.in_ok-put_inside.ensures.visible) c.fill_jump.ensures

pub put_while-returns-clause-code : goal.put_while-returns-clause-code
put_while-returns-clause-code t c label =
    let p = program_tree c.args.self.program.now in
    let s = c.args.self.schedule.now in
    let a = c.args.code.now.items in
    let b = c.begin_loop.new.code.items in
    let k = c.put_inside.new.code.items in
    let g = c.put_jump.new.code.items in
    let e = c.fill_unless.new.code.items in
    let d = c.depth-depth.result in
    let body = block_tree c.args.body.now in
    let put : Puts p b k (plan_all p s (length b) d false body) = subst (λ x. Puts p b k (plan_all p s (length b) x false body)) (sym c.depth-depth.ensures) c.in_ok-put_inside.ensures.code in
    let depth_after : c.len.result ≡ length g = c.len.ensures ∙ c.put_jump.new.code.ok.0 in
    on_ok_weaker c.fill_unless.result (λ fills.
    subst (λ x. Puts p a e (plan p s (length a) x c.args.number label (While (bool_expression_tree c.args.c.now) body))) c.depth-depth.ensures
    (puts_while p s a b k g e c.in_ok-test.test c.len.result d c.args.number label (bool_expression_tree c.args.c.now) body c.in_ok-test.ensures put c.in_ok-put_jump.ensures depth_after fills))
    c.fill_unless.ensures

pub put_while-returns-clause-visible : goal.put_while-returns-clause-visible
put_while-returns-clause-visible t c = on_ok_weaker c.fill_unless.result (λ fills. c.in_ok-put_inside.ensures.visible) c.fill_unless.ensures

pub put_for-returns-clause-code : goal.put_for-returns-clause-code
put_for-returns-clause-code t c label =
    let p = program_tree c.args.self.program.now in
    let s = c.args.self.schedule.now in
    let a = c.args.code.now.items in
    let f = c.put_bounds.new.code.items in
    let b = c.begin_loop.new.code.items in
    let k = c.put_inside.new.code.items in
    let g = c.put_back.new.code.items in
    let e = c.fill_unless_below.new.code.items in
    let d = depth_of c.args.visible.now in
    let n = c.args.number in
    let name = c.args.range.name in
    let test = c.in_ok-test.test in
    let body = block_tree c.args.body.now in
    let inside : c.depth-inside.result ≡ depth_in_loop d = c.depth-inside.ensures ∙ c.in_ok-put_bounds.ensures.visible in
    let shown = c.depth-depth.ensures in
    let begins : BeginsLoop p f b test (loop_step n (depth_in_loop d) d Turn) =
    subst (λ x. BeginsLoop p f b test (loop_step n (depth_in_loop d) x Turn)) shown (subst (λ x. BeginsLoop p f b test (loop_step n x c.depth-depth.result Turn)) inside c.in_ok-test.ensures) in
    let put : Puts p b k (plan_all p s (length b) (depth_in_loop d) false body) = subst
    (λ x. Puts p b k (plan_all p s (length b) x false body)) c.in_ok-put_bounds.ensures.visible c.in_ok-put_inside.ensures.code in
    let back : Puts p k g (plain n d (Advance name) ∷ loop_step n (depth_in_loop d) d (Jump test) ∷ []) =
    subst (λ x. Puts p k g (plain n x (Advance name) ∷ loop_step n (depth_in_loop d) x (Jump test) ∷ [])) shown
    (subst (λ x. Puts p k g (plain n c.depth-depth.result (Advance name) ∷ loop_step n x c.depth-depth.result (Jump test) ∷ [])) inside c.in_ok-put_back.ensures) in
    let fills : Fills p g e test (loop_step n (depth_in_loop d) d (UnlessBelow name (length g))) =
    subst (λ x. Fills p g e test (loop_step n (depth_in_loop d) x (UnlessBelow name (length g)))) shown
    (subst (λ x. Fills p g e test (loop_step n x c.depth-depth.result (UnlessBelow name (length g)))) inside c.in_ok-fill_unless_below.ensures) in
    puts_for p s a f b k g e test d n label name (int_expression_tree c.args.range.first.now) (int_expression_tree c.args.range.end.now) body c.in_ok-put_bounds.ensures.code begins put back fills

pub put_all-statements-init : goal.put_all-statements-init
put_all-statements-init t c = record {
  put = has_put_none (program_tree c.args.self.program.now) c.args.self.schedule.now c.args.code.now.items (depth_of c.args.visible.now) false (block_tree c.args.statements.now);
  size = omega arith;
  visible = refl;
}

pub put_all-returns-clause-code : goal.put_all-returns-clause-code
put_all-returns-clause-code t c =
    let p = program_tree c.args.self.program.now in
    let s = c.args.self.schedule.now in
    let a = c.args.code.now.items in
    let b = c.statements.code.items in
    let d = depth_of c.statements.visible in
    let whole = plan_all p s (length a) (depth_of c.args.visible.now) false (block_tree c.args.statements.now) in
    has_put_all p s whole a b d c.statements.is_done c.statements.left.now c.in_default.ensures.cases c.statements.invariant.put

pub put_all-returns-clause-visible : goal.put_all-returns-clause-visible
put_all-returns-clause-visible t c =
    sym (c.statements.invariant.visible ∙ after_none c.statements.left.now (depth_of c.statements.visible) c.in_default.ensures.cases)

pub put_next-returns-then-is_done-clause-next : goal.put_next-returns-then-is_done-clause-next
put_next-returns-then-is_done-clause-next t c = rw c.if-is_done.true

pub put_next-returns-then-is_done-clause-code : goal.put_next-returns-then-is_done-clause-code
put_next-returns-then-is_done-clause-code t c = rw c.if-is_done.true (puts_nothing (program_tree c.args.self.program.now) c.args.code.now.items)

pub put_next-returns-then-is_done-clause-visible : goal.put_next-returns-then-is_done-clause-visible
put_next-returns-then-is_done-clause-visible t c = c.in_ok-declare.ensures
