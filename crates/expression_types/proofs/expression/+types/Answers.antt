-- Proofs of the mutually recursive functions of src/expression.rt.
use Rattle.std.proofs.Common.{◌≡◌, ◌==◌, ◌<◌, ◌≤◌, ap, sym, subst, ◌∙◌, ℕ, Bool, if◌then◌else◌, length, get_or}
use Rattle.syntax.specs.SourceTrees.{ExpressionTree}
use Rattle.syntax.specs.Terminals.{Identifier}
use Rattle.syntax.specs.ExpressionViews.{unary_of, primary_of}
use Rattle.syntax.specs.inside.ExpressionViews.{term_of, sum_of, comparison_of, comparison_from, conjunction_of}
use Rattle.typed_tree.specs.declared.expression.Connective.TheVariants as connective
use Rattle.expression_types.specs.declared.fault.TypeRule.TheVariants as rule
use Rattle.expression_types.specs.Expression.{value_of, conjunction_value, comparison_value, index_lacks_value, no_vertex, sum_value, term_value, unary_value, primary_value, used_name, entry_of}
use Rattle.expression_types.specs.Faults.{WithFaults, ReportsFaults, sure, outcome, ◌>>=◌}
use Rattle.expression_types.specs.inside.Operands.{conditions_of, integers_of}
use Rattle.expression_types.specs.Operators.{addition_operator, multiplied, given_or_fault, related_value, first_integer, first_condition, beside_integer, beside_condition, grouped_integers}
use Rattle.expression_types.specs.Operators.{grouped_conditions}
use Rattle.expression_types.specs.inside.Signs.{signs_value}
use Rattle.expression_types.specs.ScopeTree.{ScopeTree}
use Rattle.expression_types.specs.ValueTree.{ValueTree, value_tree}
use Rattle.expression_types.proofs.Levels.{sum_step, sum_begins, sum_alone, term_step, term_begins, term_alone, conjunction_step, conjunction_begins, conjunction_alone, expression_step}
use Rattle.expression_types.proofs.Levels.{expression_begins, expression_alone}
use Rattle.expression_types.proofs.SignLaws.{unary_value-behind}
use Rattle.expression_types.proofs.Steps.{row, row_on, row_ends, outcome_then, reports_then}
use Rattle.expression_types.proofs.expression.+types.Goals as goal

pub sum-operands-init : goal.sum-operands-init
sum-operands-init t c =
    let items = c.args.sum.now.more.items in
    sum_begins c.args.scope.now c.args.at (term_of c.args.sum.now.first) items c.args.first_fault.now c.term.new.first_fault (value_tree c.in_ok-first.first)
    (ap (λ n. n == 0) (sym c.args.sum.now.more.ok.0) ∙ sym c.is_empty.ensures ∙ c.if-is_empty.false) c.in_ok-first.ensures
    ∙ ap (λ s. outcome c.term.new.first_fault (row (sum_step c.args.scope.now c.args.at) s items >>= grouped_integers c.args.at)) (sym c.first-operands.ensures)

pub sum-operands-preserved : goal.sum-operands-preserved
sum-operands-preserved t c =
    let items = c.args.sum.now.more.items in
    let m = c.operands-item.result in
    let left = integers_of c.operands.operands in
    let new = c.term-in-operands.new.first_fault in
    let inside : c.operands.operator-index < length items = rw (← c.deref-operator-items.ensures.value) c.operands-test.true in
    let is : m ≡ get_or items c.operands.operator-index m = rw (← c.deref-operator-items.ensures.value) c.operands-item.is in
    c.operands.invariant ∙ row_on (sum_step c.args.scope.now c.args.at) left (integers_of c.in_ok-operands.operands) items c.operands.operator-index m c.operands.first_fault new
    (grouped_integers c.args.at) inside is
    (outcome_then c.operands.first_fault new (term_value c.args.scope.now c.args.at (term_of m.1)) (value_tree c.in_ok-value.value)
    (λ v. sure (beside_integer (addition_operator m.0) left (first_integer v))) c.in_ok-value.ensures
    ∙ ap (λ s. (s, new)) (sym (c.in_ok-operands.ensures ∙ ap (λ o. beside_integer o left (first_integer (value_tree c.in_ok-value.value))) c.addition.ensures)))

pub term-operands-init : goal.term-operands-init
term-operands-init t c =
    let items = c.args.term.now.more.items in
    term_begins c.args.scope.now c.args.at (unary_of c.args.term.now.first) items c.args.first_fault.now c.unary.new.first_fault (value_tree c.in_ok-first.first)
    (ap (λ n. n == 0) (sym c.args.term.now.more.ok.0) ∙ sym c.is_empty.ensures ∙ c.if-is_empty.false) c.in_ok-first.ensures
    ∙ ap (λ s. outcome c.unary.new.first_fault (row (term_step c.args.scope.now c.args.at) s items >>= grouped_integers c.args.at)) (sym c.first-operands.ensures)

pub term-operands-preserved : goal.term-operands-preserved
term-operands-preserved t c =
    let items = c.args.term.now.more.items in
    let m = c.operands-item.result in
    let left = integers_of c.operands.operands in
    let new = c.unary-in-operands.new.first_fault in
    let inside : c.operands.operator-index < length items = rw (← c.deref-operator-items.ensures.value) c.operands-test.true in
    let is : m ≡ get_or items c.operands.operator-index m = rw (← c.deref-operator-items.ensures.value) c.operands-item.is in
    c.operands.invariant ∙ row_on (term_step c.args.scope.now c.args.at) left (integers_of c.in_ok-operands.operands) items c.operands.operator-index m c.operands.first_fault new
    (grouped_integers c.args.at) inside is
    (outcome_then c.operands.first_fault new (unary_value c.args.scope.now c.args.at (unary_of m.1)) (value_tree c.in_ok-value.value)
    (λ v. sure (beside_integer (multiplied m.0) left (first_integer v))) c.in_ok-value.ensures
    ∙ ap (λ s. (s, new)) (sym (c.in_ok-operands.ensures ∙ ap (λ o. beside_integer o left (first_integer (value_tree c.in_ok-value.value))) c.multiplication.ensures)))

pub conjunction-operands-init : goal.conjunction-operands-init
conjunction-operands-init t c =
    let items = c.args.conjunction.now.more.items in
    conjunction_begins c.args.scope.now c.args.at (comparison_of c.args.conjunction.now.first) items c.args.first_fault.now c.comparison.new.first_fault (value_tree c.in_ok-first.first)
    (ap (λ n. n == 0) (sym c.args.conjunction.now.more.ok.0) ∙ sym c.is_empty.ensures ∙ c.if-is_empty.false) c.in_ok-first.ensures
    ∙ ap (λ s. outcome c.comparison.new.first_fault (row (conjunction_step c.args.scope.now c.args.at) s items >>= grouped_conditions c.args.at)) (sym (c.first-operands.ensures connective.And))

pub conjunction-operands-preserved : goal.conjunction-operands-preserved
conjunction-operands-preserved t c =
    let items = c.args.conjunction.now.more.items in
    let m = c.operand-item.result in
    let left = conditions_of connective.And c.operands.operands in
    let new = c.comparison-in-operands.new.first_fault in
    let inside : c.operands.operand-index < length items = rw (← c.deref-operand-items.ensures.value) c.operands-test.true in
    let is : m ≡ get_or items c.operands.operand-index m = rw (← c.deref-operand-items.ensures.value) c.operand-item.is in
    c.operands.invariant ∙ row_on (conjunction_step c.args.scope.now c.args.at) left
    (conditions_of connective.And c.in_ok-operands.operands) items c.operands.operand-index m c.operands.first_fault new
    (grouped_conditions c.args.at) inside is
    (outcome_then c.operands.first_fault new (comparison_value c.args.scope.now c.args.at (comparison_of m)) (value_tree c.in_ok-value.value)
    (λ v. sure (beside_condition connective.And left (first_condition v))) c.in_ok-value.ensures
    ∙ ap (λ s. (s, new)) (sym (c.in_ok-operands.ensures connective.And)))

pub type_expression-operands-init : goal.type_expression-operands-init
type_expression-operands-init t c =
    let items = c.expression.inside.more.items in
    sym (ap (λ e. outcome c.args.first_fault.now (value_of c.args.scope.now c.args.at e)) c.expression.view_is)
    ∙ expression_begins c.args.scope.now c.args.at (conjunction_of c.expression.inside.first) items c.args.first_fault.now c.conjunction.new.first_fault (value_tree c.in_ok-first.first)
    (ap (λ n. n == 0) (sym c.expression.inside.more.ok.0) ∙ sym c.is_empty.ensures ∙ c.if-is_empty.false) c.in_ok-first.ensures
    ∙ ap (λ s. outcome c.conjunction.new.first_fault (row (expression_step c.args.scope.now c.args.at) s items >>= grouped_conditions c.args.at)) (sym (c.first-operands.ensures connective.Or))
    ∙ ap (λ items. outcome c.conjunction.new.first_fault (row (expression_step c.args.scope.now c.args.at)
    (conditions_of connective.Or c.first-operands.result) items >>= grouped_conditions c.args.at)) (sym c.deref-operand-items.ensures.value)

pub type_expression-operands-preserved : goal.type_expression-operands-preserved
type_expression-operands-preserved t c =
    let items = c.deref-operand-items.result.now in
    let m = c.operand-item.result in
    let left = conditions_of connective.Or c.operands.operands in
    let new = c.conjunction-in-operands.new.first_fault in
    let inside : c.operands.operand-index < length items = c.operands-test.true in
    let is : m ≡ get_or items c.operands.operand-index m = c.operand-item.is in
    c.operands.invariant ∙ row_on (expression_step c.args.scope.now c.args.at) left (conditions_of connective.Or c.in_ok-operands.operands) items c.operands.operand-index m c.operands.first_fault new
    (grouped_conditions c.args.at) inside is
    (outcome_then c.operands.first_fault new (conjunction_value c.args.scope.now c.args.at (conjunction_of m)) (value_tree c.in_ok-value.value)
    (λ v. sure (beside_condition connective.Or left (first_condition v))) c.in_ok-value.ensures
    ∙ ap (λ s. (s, new)) (sym (c.in_ok-operands.ensures connective.Or)))

pub comparison-returns-in_ok-right-in-Some : goal.comparison-returns-in_ok-right-in-Some
comparison-returns-in_ok-right-in-Some t c =
    let scope = c.args.scope.now in
    let at = c.args.at in
    let left = sum_of c.args.comparison.now.left in
    let right = sum_of c.in-Some.operand.value in
    let a = value_tree c.in_ok-left.left in
    let b = value_tree c.in_ok-right-in-Some.right in
    subst (λ r. ReportsFaults value_tree c.args.first_fault.now c.relate.new.first_fault c.relate.result (comparison_value scope at (comparison_from left r))) (sym c.in-Some.is)
    (reports_then value_tree c.args.first_fault.now c.sum.new.first_fault c.relate.new.first_fault (sum_value scope at left) a
    (λ a. sum_value scope at right >>= λ b. given_or_fault at rule.WrongType (related_value c.in-Some.relation a b)) c.relate.result c.in_ok-left.ensures
    (reports_then value_tree c.sum.new.first_fault c.sum-in-Some.new.first_fault c.relate.new.first_fault (sum_value scope at right) b
    (λ b. given_or_fault at rule.WrongType (related_value c.in-Some.relation a b)) c.relate.result
    (subst (λ s. outcome c.sum.new.first_fault (sum_value scope at (sum_of s)) ≡ (b, c.sum-in-Some.new.first_fault)) c.deref.ensures c.in_ok-right-in-Some.ensures) c.relate.ensures))

-- an entry at an index that has no value, and at one that has
abbrev entry_at : ScopeTree → ℕ → Identifier → ExpressionTree → Bool → WithFaults ValueTree
entry_at scope at name index lacks =
    used_name scope name >>= λ e. (if lacks then sure no_vertex else value_of scope at index) >>= λ v. entry_of scope.inside at e v

pub primary-returns-then-is_name_without_value : goal.primary-returns-then-is_name_without_value
primary-returns-then-is_name_without_value t c =
    let scope = c.args.scope.now in
    let at = c.args.at in
    let entity = c.entity-entity.result in
    let index = c.in-Entry.index.value in
    subst (λ p. ReportsFaults value_tree c.args.first_fault.now c.entry.new.first_fault c.entry.result (primary_value scope at (primary_of p))) (sym c.in-Entry.is)
    (subst (λ b. ReportsFaults value_tree c.args.first_fault.now c.entry.new.first_fault c.entry.result (entry_at scope at c.in-Entry.name index b))
    (sym c.if-is_name_without_value.true ∙ c.is_name_without_value.ensures ∙ ap (index_lacks_value scope.inside scope) c.deref.ensures)
    (reports_then value_tree c.args.first_fault.now c.entity-entity.new.first_fault c.entry.new.first_fault (used_name scope c.in-Entry.name) entity
    (λ e. sure no_vertex >>= λ v. entry_of scope.inside at e v) c.entry.result c.entity-entity.ensures
    (subst (λ inside. ReportsFaults value_tree c.entity-entity.new.first_fault c.entry.new.first_fault c.entry.result (entry_of inside at entity no_vertex)) c.inside.ensures
    (subst (λ v. ReportsFaults value_tree c.entity-entity.new.first_fault c.entry.new.first_fault c.entry.result (entry_of c.inside.result at entity v)) c.other_index.ensures c.entry.ensures))))

pub primary-returns-in_ok-index-in-Entry : goal.primary-returns-in_ok-index-in-Entry
primary-returns-in_ok-index-in-Entry t c =
    let scope = c.args.scope.now in
    let at = c.args.at in
    let entity = c.entity-entity.result in
    let v = value_tree c.in_ok-index-in-Entry.index in
    let index = c.in-Entry.index.value in
    subst (λ p. ReportsFaults value_tree c.args.first_fault.now c.entry-in-Entry.new.first_fault c.entry-in-Entry.result (primary_value scope at (primary_of p))) (sym c.in-Entry.is)
    (subst (λ b. ReportsFaults value_tree c.args.first_fault.now c.entry-in-Entry.new.first_fault c.entry-in-Entry.result (entry_at scope at c.in-Entry.name index b))
    (sym c.if-is_name_without_value.false ∙ c.is_name_without_value.ensures ∙ ap (index_lacks_value scope.inside scope) c.deref.ensures)
    (reports_then value_tree c.args.first_fault.now c.entity-entity.new.first_fault c.entry-in-Entry.new.first_fault (used_name scope c.in-Entry.name) entity
    (λ e. value_of scope at index >>= λ v. entry_of scope.inside at e v) c.entry-in-Entry.result c.entity-entity.ensures
    (reports_then value_tree c.entity-entity.new.first_fault c.type_expression.new.first_fault c.entry-in-Entry.new.first_fault (value_of scope at index) v
    (λ v. entry_of scope.inside at entity v) c.entry-in-Entry.result
    (subst (λ e. outcome c.entity-entity.new.first_fault (value_of scope at e) ≡ (v, c.type_expression.new.first_fault)) c.deref-in-Entry.ensures c.in_ok-index-in-Entry.ensures)
    (subst (λ inside. ReportsFaults value_tree c.type_expression.new.first_fault c.entry-in-Entry.new.first_fault c.entry-in-Entry.result
    (entry_of inside at entity v)) c.inside-in-Entry.ensures c.entry-in-Entry.ensures))))

pub unary-returns : goal.unary-returns
unary-returns t c =
    let scope = c.args.scope.now in
    let at = c.args.at in
    let signs = c.args.unary.now.signs.items in
    let p = primary_of c.args.unary.now.primary in
    let v = value_tree c.in_ok-value.value in
    subst (λ m. ReportsFaults value_tree c.args.first_fault.now c.after_signs.new.first_fault c.after_signs.result m) (sym (unary_value-behind scope at signs p))
    (reports_then value_tree c.args.first_fault.now c.primary.new.first_fault c.after_signs.new.first_fault (primary_value scope at p) v
    (signs_value at signs) c.after_signs.result c.in_ok-value.ensures
    (subst (λ signs. ReportsFaults value_tree c.primary.new.first_fault c.after_signs.new.first_fault c.after_signs.result (signs_value at signs v)) c.deref.ensures.value c.after_signs.ensures))

pub sum-returns-then-is_empty : goal.sum-returns-then-is_empty
sum-returns-then-is_empty t c =
    sum_alone c.args.scope.now c.args.at (term_of c.args.sum.now.first) c.args.sum.now.more.items c.args.first_fault.now c.term.new.first_fault (value_tree c.in_ok-first.first)
    (ap (λ n. n == 0) (sym c.args.sum.now.more.ok.0) ∙ sym c.is_empty.ensures ∙ c.if-is_empty.true) c.in_ok-first.ensures

pub sum-returns : goal.sum-returns
sum-returns t c =
    let items = c.args.sum.now.more.items in
    let ended : length items ≤ c.operands.operator-index = rw (← c.deref-operator-items.ensures.value) c.operands-test.false in
    row_ends value_tree c.args.first_fault.now c.operands.first_fault c.group.new.first_fault (sum_value c.args.scope.now c.args.at (sum_of c.args.sum.now)) (sum_step c.args.scope.now c.args.at)
    (integers_of c.operands.operands) items c.operands.operator-index (grouped_integers c.args.at) c.group.result ended c.operands.invariant c.group.ensures

pub term-returns-then-is_empty : goal.term-returns-then-is_empty
term-returns-then-is_empty t c =
    term_alone c.args.scope.now c.args.at (unary_of c.args.term.now.first) c.args.term.now.more.items c.args.first_fault.now c.unary.new.first_fault (value_tree c.in_ok-first.first)
    (ap (λ n. n == 0) (sym c.args.term.now.more.ok.0) ∙ sym c.is_empty.ensures ∙ c.if-is_empty.true) c.in_ok-first.ensures

pub term-returns : goal.term-returns
term-returns t c =
    let items = c.args.term.now.more.items in
    let ended : length items ≤ c.operands.operator-index = rw (← c.deref-operator-items.ensures.value) c.operands-test.false in
    row_ends value_tree c.args.first_fault.now c.operands.first_fault c.group.new.first_fault (term_value c.args.scope.now c.args.at (term_of c.args.term.now)) (term_step c.args.scope.now c.args.at)
    (integers_of c.operands.operands) items c.operands.operator-index (grouped_integers c.args.at) c.group.result ended c.operands.invariant c.group.ensures

pub conjunction-returns-then-is_empty : goal.conjunction-returns-then-is_empty
conjunction-returns-then-is_empty t c =
    conjunction_alone c.args.scope.now c.args.at (comparison_of c.args.conjunction.now.first) c.args.conjunction.now.more.items c.args.first_fault.now c.comparison.new.first_fault
    (value_tree c.in_ok-first.first)
    (ap (λ n. n == 0) (sym c.args.conjunction.now.more.ok.0) ∙ sym c.is_empty.ensures ∙ c.if-is_empty.true) c.in_ok-first.ensures

pub conjunction-returns : goal.conjunction-returns
conjunction-returns t c =
    let items = c.args.conjunction.now.more.items in
    let ended : length items ≤ c.operands.operand-index = rw (← c.deref-operand-items.ensures.value) c.operands-test.false in
    row_ends value_tree c.args.first_fault.now c.operands.first_fault c.group.new.first_fault (conjunction_value c.args.scope.now c.args.at (conjunction_of c.args.conjunction.now))
    (conjunction_step c.args.scope.now c.args.at)
    (conditions_of connective.And c.operands.operands) items c.operands.operand-index (grouped_conditions c.args.at) c.group.result ended c.operands.invariant c.group.ensures

pub type_expression-returns-then-is_empty : goal.type_expression-returns-then-is_empty
type_expression-returns-then-is_empty t c =
    sym (ap (λ e. outcome c.args.first_fault.now (value_of c.args.scope.now c.args.at e)) c.expression.view_is)
    ∙ expression_alone c.args.scope.now c.args.at (conjunction_of c.expression.inside.first) c.expression.inside.more.items c.args.first_fault.now c.conjunction.new.first_fault
    (value_tree c.in_ok-first.first)
    (ap (λ n. n == 0) (sym c.expression.inside.more.ok.0) ∙ sym c.is_empty.ensures ∙ c.if-is_empty.true) c.in_ok-first.ensures

pub type_expression-returns : goal.type_expression-returns
type_expression-returns t c =
    row_ends value_tree c.args.first_fault.now c.operands.first_fault c.group.new.first_fault (value_of c.args.scope.now c.args.at c.args.expression.now) (expression_step c.args.scope.now c.args.at)
    (conditions_of connective.Or c.operands.operands) c.deref-operand-items.result.now c.operands.operand-index (grouped_conditions c.args.at) c.group.result c.operands-test.false
    c.operands.invariant c.group.ensures
