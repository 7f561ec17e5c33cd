-- Proofs of the mutually recursive functions of src/block.rt.
use Rattle.std.proofs.Common.{sym, ◌∙◌, ap, subst, Some, ◌≡◌, false, ◌∷◌}
use Rattle.std.proofs.lemmas.Result.{err_from_is_err_and}
use Rattle.lexer.specs.Tokens.{slice_of}
use Rattle.syntax.specs.Terminals.{keyword_terminal, terminal_of}
use Rattle.parser.specs.inside.Readers.{terminals, Gives}
use Rattle.parser.proofs.Faults.{passed_on}
use Rattle.syntax.specs.inside.SourceViews.{statement_of}
use Rattle.syntax.specs.SourceViews.{statement_kind_tree}
use Rattle.syntax.specs.SourceReading.{begins_statement}
use Rattle.parser.specs.inside.Blocks.{action_at, block_in, statement_keyword_of}
use Rattle.parser.specs.inside.Views.{statements_tree}
use Rattle.parser.proofs.BlockLaws.{block_ends, block_fails, next_is, block_from-map, opened_is}
use Rattle.parser.proofs.Lists.{list_start, list_step}
use Rattle.parser.proofs.block.+read.Goals as goal

pub block-statements-init : goal.block-statements-init
block-statements-init t c = list_start statement_of c.new-statements.result.items (terminals c.args.cursor) c.new-statements.ensures.items

pub block-statements-preserved : goal.block-statements-preserved
block-statements-preserved t c =
    list_step statement_of c.statements.statements.items _ c.in_ok-statement.statement (terminals c.in_ok-statement.behind) c.in_ok-push.ensures.items c.statements.invariant
    (next_is c.args.depth (terminals c.statements.left) (terminals c.in_ok-statement.behind) (statement_of c.in_ok-statement.statement)
    (sym c.begins_statement.ensures ∙ c.statements-test.true) c.in_ok-statement.ensures.reads)
    c.in_ok-statement.ensures.shorter

pub block-returns-in_err-statement-clause-reads : goal.block-returns-in_err-statement-clause-reads
block-returns-in_err-statement-clause-reads t c =
    let p = err_from_is_err_and c.from_residual.result c.from_residual.ensures.1 in
    rw (p.1, p.2) (passed_on statement_of statements_tree c.in_err-statement.field-0.0 _ _ c.in_err-statement.ensures.reads
    (λ none. block_fails c.args.depth c.statements.invariant (sym c.begins_statement.ensures ∙ c.statements-test.true) none))

pub block-returns-clause-reads : goal.block-returns-clause-reads
block-returns-clause-reads t c =
    let begins : begins_statement (terminals c.statements.left) ≡ false = sym c.begins_statement.ensures ∙ c.statements-test.false in
    block_ends c.args.depth c.statements.invariant begins ∙ ap (λ b. Some (b, terminals c.statements.left)) (block_from-map c.statements.statements.items)

pub action-returns-in-Some-begun_by-clause-reads : goal.action-returns-in-Some-begun_by-clause-reads
action-returns-in-Some-begun_by-clause-reads t c =
    let is : terminals c.args.cursor ≡ keyword_terminal c.in-Keyword.keyword c.in-Some.token.span.start ∷ terminals c.in-Some.after =
    c.in-Some.ensures.terminal
    ∙ ap (λ kind. terminal_of kind (slice_of c.args.cursor.text.now c.in-Some.token.span) c.in-Some.token.span.start ∷ terminals c.in-Some.after) c.in-Keyword.is
    in
    let statement_keyword : statement_keyword_of c.in-Keyword.keyword ≡ Some c.in-Some-begun_by.statement_keyword = sym c.in-Some-begun_by.ensures in
    subst (Gives statement_kind_tree c.opened.result)
    (sym (ap (action_at c.args.depth) is
    ∙ opened_is (block_in c.args.depth) c.in-Keyword.keyword c.in-Some.token.span.start c.in-Some-begun_by.statement_keyword (terminals c.in-Some.after) statement_keyword))
    c.opened.ensures.reads
