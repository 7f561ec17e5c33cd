-- Proofs of the mutually recursive functions of src/site.rt.
use Rattle.std.proofs.Common.{ap, ◌∙◌}
use Rattle.std.proofs.lemmas.List.{append_assoc}
use Rattle.std.proofs.lemmas.Result.{on_ok_weaker}
use Rattle.typed_tree.specs.BlockTree.{statement_kind_tree, block_tree}
use Rattle.schedule.specs.Schedule.{sites_of}
use Rattle.typed_tree.proofs.Blocks.{statement_kind_tree-If, statement_kind_tree-IfElse, statement_kind_tree-While, statement_kind_tree-For}
use Rattle.schedule.proofs.site.+sites.Goals as goal

pub push_inner-returns-in_ok-push_sites-in-IfElse : goal.push_inner-returns-in_ok-push_sites-in-IfElse
push_inner-returns-in_ok-push_sites-in-IfElse t c =
    let tree = ap statement_kind_tree c.in-IfElse.is ∙ statement_kind_tree-IfElse c.in-IfElse.field-0 c.in-IfElse.body c.in-IfElse.other in
    let body = sites_of (block_tree c.in-IfElse.body.items) in
    let other = sites_of (block_tree c.in-IfElse.other.items) in
    on_ok_weaker c.push_sites-in-IfElse-2.result
    (λ e. rw (tree, ← append_assoc c.args.sites.now.items body other, ← c.deref-in-IfElse.ensures.value, ← c.deref-in-IfElse-2.ensures.value, ← c.in_ok-push_sites-in-IfElse.ensures) e)
    c.push_sites-in-IfElse-2.ensures

pub push_inner-returns-in-If : goal.push_inner-returns-in-If
push_inner-returns-in-If t c =
    let tree = ap statement_kind_tree c.in-If.is ∙ statement_kind_tree-If c.in-If.field-0 c.in-If.body in
    rw (tree, ← c.deref.ensures.value) c.push_sites.ensures

pub push_inner-returns-in-While : goal.push_inner-returns-in-While
push_inner-returns-in-While t c =
    let tree = ap statement_kind_tree c.in-While.is ∙ statement_kind_tree-While c.in-While.field-0 c.in-While.body in
    rw (tree, ← c.deref-in-While.ensures.value) c.push_sites-in-While.ensures

pub push_inner-returns-in-For : goal.push_inner-returns-in-For
push_inner-returns-in-For t c =
    let tree = ap statement_kind_tree c.in-For.is ∙ statement_kind_tree-For c.in-For.field-0 c.in-For.field-1 c.in-For.field-2 c.in-For.body in
    rw (tree, ← c.deref-in-For.ensures.value) c.push_sites-in-For.ensures
