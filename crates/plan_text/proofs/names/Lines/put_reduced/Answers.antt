-- Proofs of `put_reduced`, src/statements.rt.
use Rattle.std.proofs.Common.{◌∷◌, [], ◌++◌, ◌∙◌, ap}
use Rattle.std.proofs.lemmas.Result.{on_ok_weaker}
use Rattle.typed_tree.specs.IntExpressionTree.{int_expression_tree}
use Rattle.typed_tree.specs.ProgramTree.{program_tree}
use Rattle.plan_text.specs.Expressions.{integer_words, program_name_at, spaced}
use Rattle.plan_text.specs.Lines.{reducing_word}
use Rattle.plan_text.proofs.Spaces.{put_after}
use Rattle.plan_text.proofs.names.Lines.put_reduced.Goals as goal

pub returns : goal.returns
returns c =
    let p = program_tree c.args.self.program.now in
    let old = c.args.out.now.items in
    let name = program_name_at p c.args.name ∷ [] in
    let value = integer_words p (int_expression_tree c.args.e.now) in
    let named = c.in_ok-put_word.ensures ∙ ap (λ w. old ++ spaced (w ∷ [])) c.name.ensures in
    on_ok_weaker c.put_word-2.result (λ is.
    put_after old c.put_integer.new.out.items c.put_word-2.new.out.items (name ++ value) (reducing_word c.args.reduction ∷ [])
    (put_after old c.put_word.new.out.items c.put_integer.new.out.items name value named c.in_ok-put_integer.ensures)
    (is ∙ ap (λ w. c.put_integer.new.out.items ++ spaced (w ∷ [])) c.reducing_text.ensures))
    c.put_word-2.ensures
