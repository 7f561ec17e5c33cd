-- Proofs of `put_reduction`, src/statements.rt.
use Rattle.std.proofs.Common.{◌∷◌, [], ◌++◌, codes, ap, ◌∙◌}
use Rattle.std.proofs.lemmas.Result.{on_ok_weaker}
use Rattle.typed_tree.specs.IntExpressionTree.{int_expression_tree}
use Rattle.typed_tree.specs.ProgramTree.{program_tree}
use Rattle.plan_text.specs.Expressions.{integer_words, program_name_at, bracketed, spaced}
use Rattle.plan_text.specs.Lines.{reducing_word}
use Rattle.plan_text.proofs.Spaces.{absurd_cons, bracket_closed, put_after}
use Rattle.plan_text.proofs.names.Lines.put_reduction.Goals as goal

pub returns : goal.returns
returns c =
    let p = program_tree c.args.self.program.now in
    let ws = program_name_at p c.args.name ∷ integer_words p (int_expression_tree c.args.e.now) ++ reducing_word c.args.reduction ∷ [] in
    let middle = c.put_target.new.out.items in
    on_ok_weaker c.close_bracket.result (λ closes.
    put_after c.args.out.now.items middle c.close_bracket.new.out.items (codes "set" ∷ program_name_at p c.args.name ∷ []) (bracketed ws ∷ []) c.in_ok-put_target.ensures
    (bracket_closed middle c.close_bracket.new.out.items ws
    (closes (middle ++ 91 ∷ []) ws (absurd_cons _ _)
    (c.in_ok-put_reduced.ensures ∙ ap (λ t. t ++ spaced ws) c.in_ok-open_bracket.ensures))))
    c.close_bracket.ensures
