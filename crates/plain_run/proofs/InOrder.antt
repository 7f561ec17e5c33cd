-- Statements that run one after another.
use Rattle.std.proofs.Common.{◌≡◌, ◌<◌, ◌≤◌, ℕ, ◌+◌, true, false, Option, Some, None, List, ◌∷◌, length, drop, get_or, sym, ap, ◌∙◌}
use Rattle.std.specs.Option.{is_some}
use Rattle.std.proofs.lemmas.Bool.{false≢true}
use Rattle.std.proofs.lemmas.List.{drop_all, drop_more}
use Rattle.typed_tree.specs.declared.statement.MainStatement.{MainStatement}
use Rattle.typed_tree.specs.BlockTree.{statement_kind_tree, block_tree}
use Rattle.typed_tree.specs.ProgramTree.{ProgramTree}
use Rattle.algorithm_meaning.specs.declared.outcome.End.{End}
use Rattle.algorithm_meaning.specs.State.{GraphValue, StateValue}
use Rattle.algorithm_meaning.specs.Stand.{Stand, Live, then_do}
use Rattle.algorithm_meaning.specs.Meaning.{after, after_all}
use Rattle.plain_run.specs.inside.Seen.{stand}

-- what is left of a block is a statement, and those after it
one_statement : (p : ProgramTree) (g : GraphValue) (statements : List MainStatement) (index : ℕ) (x none : MainStatement) (s : StateValue) → index < length statements
    → x ≡ get_or statements index none
    → after_all p g (block_tree (drop index statements)) s ≡ then_do (after p g x.number (statement_kind_tree x.action) s) (after_all p g (block_tree (drop (index + 1) statements)))
one_statement p g statements index x none s within here =
    ap (λ (xs : List MainStatement). after_all p g (block_tree xs) s) (drop_more statements index none within ∙ ap (λ (y : MainStatement). y ∷ drop (index + 1) statements) (sym here))

-- after a statement after which the run goes on
pub goes_on : (p : ProgramTree) (g : GraphValue) (statements : List MainStatement) (index : ℕ) (x none : MainStatement) (s t : StateValue) (end : Option End) (whole : Stand)
    → index < length statements → x ≡ get_or statements index none → stand end t ≡ after p g x.number (statement_kind_tree x.action) s → is_some end ≡ false
    → after_all p g (block_tree (drop index statements)) s ≡ whole → after_all p g (block_tree (drop (index + 1) statements)) t ≡ whole
goes_on p g statements index x none s t None whole within here ran goes before =
    ap (λ (o : Stand). then_do o (after_all p g (block_tree (drop (index + 1) statements)))) ran ∙ sym (one_statement p g statements index x none s within here) ∙ before
goes_on p g statements index x none s t (Some e) whole within here ran goes before = absurd (false≢true (sym goes))

-- after a statement in which the run has ended
pub ends_in : (p : ProgramTree) (g : GraphValue) (statements : List MainStatement) (index : ℕ) (x none : MainStatement) (s t : StateValue) (end : Option End) (whole : Stand)
    → index < length statements → x ≡ get_or statements index none → stand end t ≡ after p g x.number (statement_kind_tree x.action) s → is_some end ≡ true
    → after_all p g (block_tree (drop index statements)) s ≡ whole → stand end t ≡ whole
ends_in p g statements index x none s t None whole within here ran ends before = absurd (false≢true ends)
ends_in p g statements index x none s t (Some e) whole within here ran ends before =
    ap (λ (o : Stand). then_do o (after_all p g (block_tree (drop (index + 1) statements)))) ran ∙ sym (one_statement p g statements index x none s within here) ∙ before

-- after the last statement
pub all_done : (p : ProgramTree) (g : GraphValue) (statements : List MainStatement) (index : ℕ) (s : StateValue) (whole : Stand)
    → length statements ≤ index → after_all p g (block_tree (drop index statements)) s ≡ whole → Live s ≡ whole
all_done p g statements index s whole past before = sym (ap (λ (xs : List MainStatement). after_all p g (block_tree xs) s) (drop_all index statements past)) ∙ before
