-- Proofs of the mutually recursive functions of src/value.rt.
use Rattle.std.proofs.Common.{ap, sym, ◌∙◌, ◌||◌}
use Rattle.typed_tree.specs.IntExpressionTree.{int_expression_tree}
use Rattle.typed_tree.proofs.Chains.{int_expression_tree-Arithmetic}
use Rattle.expression_types.specs.inside.ValueTree.{operands_read_entry}
use Rattle.expression_types.specs.ValueTree.{reads_entry}
use Rattle.expression_types.proofs.Entries.{reads_entry-negated, reads_entry-operands}
use Rattle.expression_types.proofs.value.+entries.Goals as goal

pub reads_entry-returns-in-Negative : goal.reads_entry-returns-in-Negative
reads_entry-returns-in-Negative t c =
    c.reads_entry.ensures ∙ ap (λ e. reads_entry (int_expression_tree e)) c.deref.ensures
    ∙ sym (ap (λ e. reads_entry (int_expression_tree e)) c.in-Negative.is ∙ reads_entry-negated c.in-Negative.field-0 (int_expression_tree c.in-Negative.e.value))

pub reads_entry-returns-then-reads_entry : goal.reads_entry-returns-then-reads_entry
reads_entry-returns-then-reads_entry t c =
    let read = sym c.reads_entry-in-Arithmetic.ensures ∙ c.if-reads_entry.true in
    c.if-reads_entry.true
    ∙ sym (ap (λ e. reads_entry (int_expression_tree e)) c.in-Arithmetic.is
    ∙ ap reads_entry (int_expression_tree-Arithmetic c.in-Arithmetic.first c.in-Arithmetic.more)
    ∙ reads_entry-operands (int_expression_tree c.in-Arithmetic.first.value) c.in-Arithmetic.more.items
    ∙ ap (λ e. reads_entry (int_expression_tree e) || operands_read_entry c.in-Arithmetic.more.items) (sym c.deref-in-Arithmetic.ensures)
    ∙ ap (λ b. b || operands_read_entry c.in-Arithmetic.more.items) read)

pub reads_entry-returns-else-reads_entry : goal.reads_entry-returns-else-reads_entry
reads_entry-returns-else-reads_entry t c =
    let not_read = sym c.reads_entry-in-Arithmetic.ensures ∙ c.if-reads_entry.false in
    c.any_reads_entry.ensures ∙ ap operands_read_entry c.deref-else-reads_entry.ensures.value
    ∙ sym (ap (λ e. reads_entry (int_expression_tree e)) c.in-Arithmetic.is
    ∙ ap reads_entry (int_expression_tree-Arithmetic c.in-Arithmetic.first c.in-Arithmetic.more)
    ∙ reads_entry-operands (int_expression_tree c.in-Arithmetic.first.value) c.in-Arithmetic.more.items
    ∙ ap (λ e. reads_entry (int_expression_tree e) || operands_read_entry c.in-Arithmetic.more.items) (sym c.deref-in-Arithmetic.ensures)
    ∙ ap (λ b. b || operands_read_entry c.in-Arithmetic.more.items) not_read)
