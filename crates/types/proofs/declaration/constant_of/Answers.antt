-- Proofs of `constant_of`, src/declaration.rt.
use Rattle.std.proofs.Common.{subst}
use Rattle.syntax.specs.SourceViews.{initial_tree}
use Rattle.expression_types.specs.Faults.{ReportsFaults}
use Rattle.expression_types.proofs.Steps.{reports_then}
use Rattle.initializer_types.specs.Views.{initializer_tree}
use Rattle.types.specs.Declaration.{declare_constant_as}
use Rattle.types.specs.inside.Declaration.{declared_of}
use Rattle.initializer_types.specs.Initial.{initializer_of}
use Rattle.types.proofs.declaration.constant_of.Goals as goal

pub returns : goal.returns
returns c =
    let written = c.args.written in
    let d = declared_of c.args.declared.now in
    let initial = initial_tree written.initial.now in
    let initializer = initializer_tree c.in_ok-initializer.initializer in
    let read = c.read_initial.new.checker in
    let last = c.constant_from.new.declared in
    reports_then (λ _. declared_of last) c.args.declared.now.checker.first_fault read.first_fault last.checker.first_fault (initializer_of d.checker written.at initial) initializer
    (declare_constant_as d written.at written.constant.now.name initial written.constant.now.declared) c.constant_from.result c.in_ok-initializer.ensures.read
    (subst (λ checker. ReportsFaults (λ _. declared_of last) read.first_fault last.checker.first_fault c.constant_from.result
    (declare_constant_as (record d { checker = checker }) written.at written.constant.now.name initial written.constant.now.declared initializer)) c.in_ok-initializer.ensures.kept
    c.constant_from.ensures)
