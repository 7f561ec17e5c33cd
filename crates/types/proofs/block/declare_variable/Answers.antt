-- Proofs of `declare_variable`, src/block.rt.
use Rattle.std.proofs.Common.{ap, subst, sym}
use Rattle.std.specs.Prelude.{OnOk}
use Rattle.syntax.specs.SourceViews.{initial_tree, parameter_tree}
use Rattle.expression_types.specs.Faults.{ReportsFaults}
use Rattle.expression_types.specs.ScopeTree.{KeepsNames}
use Rattle.expression_types.proofs.Steps.{reports_then}
use Rattle.initializer_types.specs.Initial.{initializer_of}
use Rattle.types.specs.inside.BlockMeaning.{declared_from}
use Rattle.initializer_types.specs.Views.{checker_of, initializer_tree}
use Rattle.types.proofs.block.declare_variable.Goals as goal

pub returns-clause-typed : goal.returns-clause-typed
returns-clause-typed g c =
    let m = g.K.BlockKind.meaning in
    let checker = checker_of c.args.checker.now in
    let variable = parameter_tree c.args.variable.now in
    let initial = initial_tree c.args.initial.now in
    let initializer = initializer_tree c.in_ok-initializer.initializer in
    let first = c.args.checker.now.first_fault in
    let read = c.read_initial.new.checker in
    let last = c.declare_initialized.new.checker in
    subst (λ m'. ReportsFaults (λ a. (m.action_tree a, checker_of last)) first last.first_fault c.declare_initialized.result m')
    (sym (g.met.K.BlockKind.walked.declares checker c.args.at variable initial))
    (reports_then (λ a. (m.action_tree a, checker_of last)) first read.first_fault last.first_fault (initializer_of checker c.args.at initial) initializer
    (declared_from m checker c.args.at variable) c.declare_initialized.result c.in_ok-initializer.ensures.read
    (subst (λ d. ReportsFaults (λ a. (m.action_tree a, checker_of last)) read.first_fault last.first_fault c.declare_initialized.result
    (declared_from m d c.args.at variable initializer)) c.in_ok-initializer.ensures.kept c.declare_initialized.ensures.typed))

pub returns-clause-kept : goal.returns-clause-kept
returns-clause-kept g c =
    subst (λ scope. OnOk c.declare_initialized.result (KeepsNames scope c.declare_initialized.new.checker.scope)) (ap (λ c. c.scope) c.in_ok-initializer.ensures.kept)
    c.declare_initialized.ensures.kept
