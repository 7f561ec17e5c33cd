-- Proofs of `put_bracketed_condition`, src/statements.rt.
use Rattle.std.proofs.Common.{◌∷◌, [], ◌++◌, ap, ◌∙◌}
use Rattle.std.proofs.lemmas.Result.{on_ok_weaker}
use Rattle.typed_tree.specs.BoolExpressionTree.{bool_expression_tree}
use Rattle.typed_tree.specs.ProgramTree.{program_tree}
use Rattle.plan_text.specs.Expressions.{condition_words, spaced}
use Rattle.plan_text.proofs.Rows.{condition_words_some}
use Rattle.plan_text.proofs.Spaces.{bracket_closed}
use Rattle.plan_text.proofs.names.Lines.put_bracketed_condition.Goals as goal

pub returns : goal.returns
returns c =
    let p = program_tree c.args.self.program.now in
    let ws = condition_words p (bool_expression_tree c.args.c.now) in
    on_ok_weaker c.close_bracket.result (λ closes.
    bracket_closed c.args.out.now.items c.close_bracket.new.out.items ws
    (closes (c.args.out.now.items ++ 91 ∷ []) ws (condition_words_some p (bool_expression_tree c.args.c.now))
    (c.in_ok-put_condition.ensures ∙ ap (λ t. t ++ spaced ws) c.in_ok-open_bracket.ensures)))
    c.close_bracket.ensures
