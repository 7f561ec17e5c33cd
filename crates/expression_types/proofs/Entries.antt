-- Entries of vectors in operators in a row.
use Rattle.std.proofs.Common.{◌≡◌, refl, sym, ◌∙◌, Bool, true, false, ◌||◌, ℕ, zero, suc, List, [], ◌∷◌}
use Rattle.typed_tree.specs.declared.expression.Operand.{Operand}
use Rattle.typed_tree.specs.IntExpressionTree.{IntExpressionTree, Arithmetic, int_expression_tree, negated}
use Rattle.typed_tree.specs.inside.IntExpressionTree.{operands_tree}
use Rattle.expression_types.specs.ValueTree.{reads_entry}
use Rattle.expression_types.specs.inside.ValueTree.{operands_read_entry}

or_false : (a : Bool) → (a || false) ≡ a
or_false true = refl
or_false false = refl

or_or : (a b c : Bool) → ((a || b) || c) ≡ (a || (b || c))
or_or true b c = refl
or_or false b c = refl

pub reads_entry-operands : (left : IntExpressionTree) (operands : List Operand)
    → reads_entry (operands_tree left operands) ≡ (reads_entry left || operands_read_entry operands)
reads_entry-operands left [] = sym (or_false (reads_entry left))
reads_entry-operands left (o ∷ others) =
    reads_entry-operands (Arithmetic o.operator left (int_expression_tree o.integer)) others
    ∙ or_or (reads_entry left) (reads_entry (int_expression_tree o.integer)) (operands_read_entry others)

pub reads_entry-negated : (n : ℕ) (e : IntExpressionTree) → reads_entry (negated n e) ≡ reads_entry e
reads_entry-negated zero e = refl
reads_entry-negated (suc n) e = reads_entry-negated n e
