-- Proofs of `compile`, src/passes.rt.
use Rattle.std.proofs.lemmas.Result.{err_from_is_err_and}
use Rattle.parser.specs.SourceViews.{source_tree}
use Rattle.schedule.specs.ProgramTree.{program_tree}
use Rattle.compiler.specs.Outcome.{IsTyped}
use Rattle.compiler.proofs.Reduced.{applies_reduce}
use Rattle.compiler.proofs.Refused.{is_typed, planned, refused}
use Rattle.compiler.proofs.passes.compile.Goals as goal

pub returns-in_err-schedule : goal.returns-in_err-schedule
returns-in_err-schedule c =
    let p = err_from_is_err_and c.from_residual-in_err-schedule.result c.from_residual-in_err-schedule.ensures.1 in
    let typed = is_typed c.args.text.now (source_tree c.in_ok-source.source) c.in_ok-source.source.length
    (program_tree c.in_ok-program.program) c.in_ok-source.ensures.length c.in_ok-source.ensures.answers c.in_ok-program.ensures in
    rw (p.1, p.2) (refused c.args.text.now (program_tree c.in_ok-program.program) c.in_err-schedule.field-0.0 typed c.in_err-schedule.ensures)

pub returns : goal.returns
returns c =
    let p = program_tree c.in_ok-program.program in
    let s = c.in_ok-schedule.schedule in
    let plan = c.in_ok-lower.field-0 in
    let source = source_tree c.in_ok-source.source in
    let length = c.in_ok-source.source.length in
    let typed : IsTyped c.args.text.now p = is_typed c.args.text.now source length p c.in_ok-source.ensures.length c.in_ok-source.ensures.answers c.in_ok-program.ensures in
    planned c.args.text.now plan p s c.in_ok-lower.ensures.program typed c.in_ok-schedule.ensures
    c.in_ok-lower.ensures.plan c.in_ok-lower.ensures.text (applies_reduce source length p s c.in_ok-program.ensures)
