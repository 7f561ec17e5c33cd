-- Proofs of the mutually recursive functions of src/statement.rt.
use Rattle.std.proofs.Common.{ap, sym, ◌∙◌}
use Rattle.std.proofs.lemmas.Result.{on_ok_weaker}
use Rattle.syntax.specs.declared.statement.ForLoop.{out-ForLoop}
use Rattle.syntax.specs.SourceSpelling.{action_before}
use Rattle.syntax.specs.SourceTrees.{While, For, If, IfElse}
use Rattle.syntax.specs.SourceViews.{statement_kind_tree, block_tree}
use Rattle.parser.proofs.BlockLaws.{statement_kind_tree-While, for_loop_tree-block, statement_kind_tree-If, statement_kind_tree-IfElse}
use Rattle.source_text.proofs.Puts.{completes_same, statement_before, block_before-each, up_to_none, up_to_more, up_to_all}
use Rattle.source_text.proofs.statement.+statements.Goals as goal

pub put_block-block-init : goal.put_block-block-init
put_block-block-init t c = up_to_none _ statement_before c.args.block.now c.args.out.now.items (block_before-each c.args.block.now)

pub put_block-block-preserved : goal.put_block-block-preserved
put_block-block-preserved t c =
    up_to_more _ statement_before c.args.block.now c.block.statement-index c.statement-item.result c.statement-item.result c.args.out.now.items c.block.out.items c.put_statement.new.out.items
    c.block.invariant c.block-test.true c.statement-item.is c.in_ok-put_statement.ensures

pub put_block-returns : goal.put_block-returns
put_block-returns t c =
    up_to_all _ statement_before c.args.block.now c.block.statement-index c.args.out.now.items c.block.out.items c.block.invariant c.block-test.false

pub put_action-returns-in_ok-put_test-in-While : goal.put_action-returns-in_ok-put_test-in-While
put_action-returns-in_ok-put_test-in-While t c =
    let tree = ap statement_kind_tree c.in-While.is ∙ statement_kind_tree-While c.in-While.at c.in-While.test c.in-While.body
    ∙ ap (λ b. While c.in-While.at c.in-While.test (block_tree b)) (sym c.deref.ensures.value) in
    on_ok_weaker c.put_to_end.result (λ puts rest whole h.
    puts rest whole (c.in_ok-put_test-in-While.ensures c.in-While.at _ whole
    (completes_same c.args.out.now.items whole _ _ (ap (λ a. action_before a rest) tree) h)))
    c.put_to_end.ensures

pub put_action-returns-in_ok-put_range-in-For : goal.put_action-returns-in_ok-put_range-in-For
put_action-returns-in_ok-put_range-in-For t c =
    let f = out-ForLoop c.in-For.for_loop in
    let tree = ap statement_kind_tree c.in-For.is ∙ for_loop_tree-block c.in-For.for_loop
    ∙ ap (λ b. For f.at f.name f.first f.limit (block_tree b)) (sym c.deref-in-For.ensures.value) in
    on_ok_weaker c.put_to_end-in-For.result (λ puts rest whole h.
    puts rest whole (c.in_ok-put_range-in-For.ensures f.at _ whole
    (completes_same c.args.out.now.items whole _ _ (ap (λ a. action_before a rest) tree) h)))
    c.put_to_end-in-For.ensures

pub put_action-returns-in_ok-put_test-in-If : goal.put_action-returns-in_ok-put_test-in-If
put_action-returns-in_ok-put_test-in-If t c =
    let tree = ap statement_kind_tree c.in-If.is ∙ statement_kind_tree-If c.in-If.at c.in-If.test c.in-If.body
    ∙ ap (λ b. If c.in-If.at c.in-If.test (block_tree b)) (sym c.deref-in-If.ensures.value) in
    on_ok_weaker c.put_to_end-in-If.result (λ puts rest whole h.
    puts rest whole (c.in_ok-put_test-in-If.ensures c.in-If.at _ whole
    (completes_same c.args.out.now.items whole _ _ (ap (λ a. action_before a rest) tree) h)))
    c.put_to_end-in-If.ensures

pub put_action-returns-in_ok-put_keyword-in-IfElse : goal.put_action-returns-in_ok-put_keyword-in-IfElse
put_action-returns-in_ok-put_keyword-in-IfElse t c =
    let tree = ap statement_kind_tree c.in-IfElse.is ∙ statement_kind_tree-IfElse c.in-IfElse.at c.in-IfElse.test c.in-IfElse.body c.in-IfElse.otherwise
    ∙ ap (λ b. IfElse c.in-IfElse.at c.in-IfElse.test (block_tree b) (block_tree c.in-IfElse.otherwise.items)) (sym c.deref-in-IfElse.ensures.value)
    ∙ ap (λ b. IfElse c.in-IfElse.at c.in-IfElse.test (block_tree c.deref-in-IfElse.result.now) (block_tree b)) (sym c.deref-in-IfElse-2.ensures.value) in
    on_ok_weaker c.put_to_end-in-IfElse.result (λ puts rest whole h.
    puts rest whole (c.in_ok-put_keyword-in-IfElse.ensures.reserved _ whole (c.in_ok-put_block-in-IfElse.ensures _ whole
    (c.in_ok-put_test-in-IfElse.ensures c.in-IfElse.at _ whole
    (completes_same c.args.out.now.items whole _ _ (ap (λ a. action_before a rest) tree) h)))))
    c.put_to_end-in-IfElse.ensures
