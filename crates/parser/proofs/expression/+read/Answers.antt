-- Proofs of the mutually recursive functions of src/expression.rt.
use denote.Enum.Bare.{sameb}
use Rattle.lexer.specs.contracts.symbol.Symbol.{the_type}
use Rattle.lexer.specs.declared.symbol.Symbol.TheVariants as symbol
use Rattle.std.proofs.Common.{◌≡◌, true, false, not, Some, ap, sym, ◌∙◌, subst, arith, ◌∷◌}
use Rattle.std.proofs.lemmas.Result.{err_from_is_err_and}
use Rattle.lexer.specs.Tokens.{slice_of}
use Rattle.syntax.specs.Terminals.{Name, terminal_of}
use Rattle.parser.specs.inside.Readers.{terminals, Gives}
use Rattle.syntax.specs.ExpressionViews.{primary_of, unary_of, term_from, sum_from, conjunction_from, expression_from}
use Rattle.syntax.specs.inside.ExpressionViews.{term_of, sum_of, comparison_of, conjunction_of}
use Rattle.syntax.specs.SourceTrees.{Bare}
use Rattle.syntax.specs.Nesting.{◌>>=◌}
use Rattle.syntax.specs.ExpressionReading.{operand_by, after_by, multiplication, addition, after_and, after_or, unary_at, term_at, comparison_at, conjunction_at}
use Rattle.syntax.specs.inside.ExpressionReading.{expression_in}
use Rattle.parser.proofs.Faults.{passed_on, refused}
use Rattle.parser.proofs.Fronts.{none_or, none_and}
use Rattle.syntax.proofs.Loops.{chain_start, chain_step, chain_end, chain_fails, operand_found, operand_fails, after_found, after_fails, signs_start, signs_step, signs_end, with_signs}
use Rattle.syntax.proofs.Loops.{behind_terminal, below}
use Rattle.parser.proofs.Primaries.{in_deeper, primary_name, primary_symbol, primary_literal, named_unindexed}
use Rattle.parser.proofs.expression.+read.Goals as goal

pub sum-more-init : goal.sum-more-init
sum-more-init t c = chain_start (λ m. (m.0, term_of m.1)) c.new-more.result.items _ c.new-more.ensures.items c.in_ok-first.ensures.reads c.in_ok-first.ensures.shorter

pub sum-returns-in_err-summand-clause-reads : goal.sum-returns-in_err-summand-clause-reads
sum-returns-in_err-summand-clause-reads t c =
    let p = err_from_is_err_and c.from_residual-in_err-summand.result c.from_residual-in_err-summand.ensures.1 in
    rw (p.1, p.2) (passed_on term_of sum_of c.in_err-summand.field-0.0 _ _ c.in_err-summand.ensures.reads
    (λ none. chain_fails sum_from c.more.invariant (operand_fails (term_at c.args.depth) c.in-Some.operator (terminals c.in-Some.after)
    (addition (terminals c.more.left)) c.in-Some.ensures.found none)))

pub sum-more-preserved : goal.sum-more-preserved
sum-more-preserved t c =
    chain_step (λ m. (m.0, term_of m.1)) c.more.more.items _ (c.in-Some.operator, c.in_ok-summand.summand) (terminals c.in_ok-summand.behind) c.in_ok-push.ensures.items c.more.invariant
    (operand_found (term_at c.args.depth) c.in-Some.operator (terminals c.in-Some.after) (terminals c.in_ok-summand.behind) (term_of c.in_ok-summand.summand)
    (addition (terminals c.more.left)) c.in-Some.ensures.found c.in_ok-summand.ensures.reads)
    (below _ _ _ c.in_ok-summand.ensures.shorter c.in-Some.ensures.shorter)

pub sum-returns-clause-reads : goal.sum-returns-clause-reads
sum-returns-clause-reads t c = chain_end sum_from c.more.invariant (sym (ap (operand_by (term_at c.args.depth)) c.in_default.ensures.found))

pub term-more-init : goal.term-more-init
term-more-init t c = chain_start (λ m. (m.0, unary_of m.1)) c.new-more.result.items _ c.new-more.ensures.items c.in_ok-first.ensures.reads c.in_ok-first.ensures.shorter

pub term-returns-in_err-operand-clause-reads : goal.term-returns-in_err-operand-clause-reads
term-returns-in_err-operand-clause-reads t c =
    let p = err_from_is_err_and c.from_residual-in_err-operand.result c.from_residual-in_err-operand.ensures.1 in
    rw (p.1, p.2) (passed_on unary_of term_of c.in_err-operand.field-0.0 _ _ c.in_err-operand.ensures.reads
    (λ none. chain_fails term_from c.more.invariant (operand_fails (unary_at c.args.depth) c.in-Some.operator (terminals c.in-Some.after)
    (multiplication (terminals c.more.left)) c.in-Some.ensures.found none)))

pub term-more-preserved : goal.term-more-preserved
term-more-preserved t c =
    chain_step (λ m. (m.0, unary_of m.1)) c.more.more.items _ (c.in-Some.operator, c.in_ok-operand.operand) (terminals c.in_ok-operand.behind) c.in_ok-push.ensures.items c.more.invariant
    (operand_found (unary_at c.args.depth) c.in-Some.operator (terminals c.in-Some.after) (terminals c.in_ok-operand.behind) (unary_of c.in_ok-operand.operand)
    (multiplication (terminals c.more.left)) c.in-Some.ensures.found c.in_ok-operand.ensures.reads)
    (below _ _ _ c.in_ok-operand.ensures.shorter c.in-Some.ensures.shorter)

pub term-returns-clause-reads : goal.term-returns-clause-reads
term-returns-clause-reads t c = chain_end term_from c.more.invariant (sym (ap (operand_by (unary_at c.args.depth)) c.in_default.ensures.found))

pub expression-returns-in_err-operand-clause-reads : goal.expression-returns-in_err-operand-clause-reads
expression-returns-in_err-operand-clause-reads t c =
    let p = err_from_is_err_and c.from_residual-in_err-operand.result c.from_residual-in_err-operand.ensures.1 in
    rw (p.1, p.2) (passed_on conjunction_of (λ e. e) c.in_err-operand.field-0.0 _ _ c.in_err-operand.ensures.reads
    (λ none. chain_fails expression_from c.more.invariant (after_fails (conjunction_at c.args.depth) (terminals c.in-Some.after) (after_or (terminals c.more.left))
    (ap after_or c.in-Some.ensures.is) none)))

pub expression-more-preserved : goal.expression-more-preserved
expression-more-preserved t c =
    chain_step conjunction_of c.more.more.items _ c.in_ok-operand.operand (terminals c.in_ok-operand.behind) c.in_ok-push.ensures.items c.more.invariant
    (after_found (conjunction_at c.args.depth) (terminals c.in-Some.after) (terminals c.in_ok-operand.behind) (conjunction_of c.in_ok-operand.operand) (after_or (terminals c.more.left))
    (ap after_or c.in-Some.ensures.is) c.in_ok-operand.ensures.reads)
    (below _ _ _ c.in_ok-operand.ensures.shorter (behind_terminal _ _ _ c.in-Some.ensures.is))

pub expression-returns-clause-reads : goal.expression-returns-clause-reads
expression-returns-clause-reads t c = chain_end expression_from c.more.invariant (ap (after_by (conjunction_at c.args.depth)) (none_or (terminals c.more.left) c.in_default.ensures.is))

pub conjunction-more-init : goal.conjunction-more-init
conjunction-more-init t c = chain_start comparison_of c.new-more.result.items _ c.new-more.ensures.items c.in_ok-first.ensures.reads c.in_ok-first.ensures.shorter

pub conjunction-returns-in_err-operand-clause-reads : goal.conjunction-returns-in_err-operand-clause-reads
conjunction-returns-in_err-operand-clause-reads t c =
    let p = err_from_is_err_and c.from_residual-in_err-operand.result c.from_residual-in_err-operand.ensures.1 in
    rw (p.1, p.2) (passed_on comparison_of conjunction_of c.in_err-operand.field-0.0 _ _ c.in_err-operand.ensures.reads
    (λ none. chain_fails conjunction_from c.more.invariant (after_fails (comparison_at c.args.depth) (terminals c.in-Some.after) (after_and (terminals c.more.left))
    (ap after_and c.in-Some.ensures.is) none)))

pub conjunction-more-preserved : goal.conjunction-more-preserved
conjunction-more-preserved t c =
    chain_step comparison_of c.more.more.items _ c.in_ok-operand.operand (terminals c.in_ok-operand.behind) c.in_ok-push.ensures.items c.more.invariant
    (after_found (comparison_at c.args.depth) (terminals c.in-Some.after) (terminals c.in_ok-operand.behind) (comparison_of c.in_ok-operand.operand) (after_and (terminals c.more.left))
    (ap after_and c.in-Some.ensures.is) c.in_ok-operand.ensures.reads)
    (below _ _ _ c.in_ok-operand.ensures.shorter (behind_terminal _ _ _ c.in-Some.ensures.is))

pub conjunction-returns-clause-reads : goal.conjunction-returns-clause-reads
conjunction-returns-clause-reads t c = chain_end conjunction_from c.more.invariant (ap (after_by (comparison_at c.args.depth)) (none_and (terminals c.more.left) c.in_default.ensures.is))

pub inner-returns-in-Some-clause-reads : goal.inner-returns-in-Some-clause-reads
inner-returns-in-Some-clause-reads t c =
    subst (Gives (λ e. e) c.expression.result) (sym (in_deeper c.args.depth c.in-Some.inside (terminals c.args.cursor) (omega (arith, c.in-Some.ensures)))) c.expression.ensures.reads

pub primary-returns-in_ok-name-in-Name-clause-reads : goal.primary-returns-in_ok-name-in-Name-clause-reads
primary-returns-in_ok-name-in-Name-clause-reads t c =
    let is : terminals c.args.cursor ≡ Name c.in_ok-name-in-Name.name ∷ terminals c.in-Some.after =
    c.in-Some.ensures.terminal
    ∙ ap (λ kind. terminal_of kind (slice_of c.args.cursor.text.now c.in-Some.token.span) c.in-Some.token.span.start ∷ terminals c.in-Some.after) c.in-Name.is
    ∙ ap (λ bytes. Name (record { bytes = bytes; at = c.in-Some.token.span.start }) ∷ terminals c.in-Some.after) (sym c.bytes.ensures)
    ∙ ap (λ name. Name name ∷ terminals c.in-Some.after) (sym c.in_ok-name-in-Name.ensures)
    in
    subst (Gives primary_of c.named.result) (sym (primary_name c.args.depth (terminals c.args.cursor) c.in_ok-name-in-Name.name (terminals c.in-Some.after) is)) c.named.ensures.reads

pub unary-signs-init : goal.unary-signs-init
unary-signs-init t c = signs_start c.new-signs.result.items (terminals c.args.cursor) c.new-signs.ensures.items

pub unary-signs-preserved : goal.unary-signs-preserved
unary-signs-preserved t c =
    signs_step c.signs.signs.items _ c.in-Some.sign (terminals c.in-Some.after) c.in_ok-push.ensures.items c.signs.invariant (sym c.in-Some.ensures.found) c.in-Some.ensures.shorter

pub unary-returns-clause-reads : goal.unary-returns-clause-reads
unary-returns-clause-reads t c =
    signs_end c.signs.invariant (sym c.in_default.ensures.found)
    ∙ ap (λ r. with_signs c.signs.signs.items (r >>= λ x. Some (Bare x.0, x.1))) c.in_ok-primary.ensures.reads

pub primary-returns-then-ne-clause-reads : goal.primary-returns-then-ne-clause-reads
primary-returns-then-ne-clause-reads t c =
    refused primary_of c.unexpected-then-ne.result _ _ c.unexpected-then-ne.ensures
    (primary_symbol c.args.depth (terminals c.args.cursor) c.in-Symbol.symbol (terminals c.in-Some.after)
    (c.in-Some.ensures.terminal ∙ ap (λ kind. terminal_of kind (slice_of c.args.cursor.text.now c.in-Some.token.span) c.in-Some.token.span.start ∷ terminals c.in-Some.after) c.in-Symbol.is)
    (λ is. let differs : true ≡ false = c.if-ne.ensures ∙ ap (λ mark. not (sameb the_type mark symbol.OpenParenthesis)) is in cc))

pub primary-returns-in_default-kind-clause-reads : goal.primary-returns-in_default-kind-clause-reads
primary-returns-in_default-kind-clause-reads t c =
    subst (Gives primary_of c.literal.result)
    (sym (primary_literal c.args.depth (terminals c.args.cursor) c.in-Some.token.kind (slice_of c.args.cursor.text.now c.in-Some.token.span) c.in-Some.token.span.start (terminals c.in-Some.after)
    c.in-Some.ensures.terminal c.in_default-kind.not-Name c.in_default-kind.not-Symbol))
    c.literal.ensures.reads

pub named-returns-clause-reads : goal.named-returns-clause-reads
named-returns-clause-reads t c =
    subst (Gives primary_of c.unindexed.result)
    (sym (named_unindexed (expression_in c.args.depth) c.args.name (terminals c.args.rest) c.in_default.ensures.is))
    c.unindexed.ensures.reads

pub expression-more-init : goal.expression-more-init
expression-more-init t c = chain_start conjunction_of c.new-more.result.items _ c.new-more.ensures.items c.in_ok-first.ensures.reads c.in_ok-first.ensures.shorter
