-- Proofs of `type_source`, src/program.rt.
use Rattle.std.proofs.Common.{◌≡◌, ap, sym, subst, ◌∙◌, map, None}
use Rattle.syntax.specs.SourceViews.{declaration_tree, source_tree}
use Rattle.typed_tree.specs.BlockTree.{block_tree}
use Rattle.typed_tree.specs.ProgramTree.{call_tree}
use Rattle.expression_types.specs.Faults.{outcome, sure, ◌>>=◌}
use Rattle.expression_types.proofs.Steps.{outcome_then}
use Rattle.types.specs.Declaration.{declarations_typed}
use Rattle.types.specs.inside.Declaration.{declared_of}
use Rattle.types.specs.Program.{main_of, no_declarations, program_tree_of, schedule_calls, set_count}
use Rattle.types.proofs.program.type_source.Goals as goal

pub returns : goal.returns
returns c =
    let source = source_tree c.args.source.now in
    let length = c.args.source.now.length in
    let d = declared_of c.declare_all.new.declared in
    let main = block_tree c.main_in-main.result.items in
    let calls = schedule_calls source.schedule in
    let n = c.declare_all.new.declared.checker.first_fault in
    let m = c.main_in-main.new.declared.checker.first_fault in
    let opened : declared_of c.empty-declared.result ≡ no_declarations (set_count source.declarations) =
    c.empty-declared.ensures.declared ∙ ap no_declarations (c.count_sets.ensures.count ∙ ap (λ xs. set_count (map declaration_tree xs)) c.deref.ensures.value) in
    let declared : outcome None (declarations_typed (no_declarations (set_count source.declarations)) source.declarations) ≡ (d, n) =
    subst (λ o. outcome None (declarations_typed o source.declarations) ≡ (d, n)) opened
    (subst (λ xs. outcome None (declarations_typed (declared_of c.empty-declared.result) (map declaration_tree xs)) ≡ (d, n)) c.deref-2.ensures.value
    (subst (λ f. outcome f (declarations_typed (declared_of c.empty-declared.result) (map declaration_tree c.deref-2.result.now)) ≡ (d, n)) c.empty-declared.ensures.first_fault
    c.in_ok-declare_all.ensures)) in
    outcome_then None n (declarations_typed (no_declarations (set_count source.declarations)) source.declarations) d
    (λ d. main_of length d.main >>= λ main. sure (program_tree_of d main calls)) declared
    ∙ outcome_then n m (main_of length d.main) main (λ main. sure (program_tree_of d main calls)) c.main_in-main.ensures.main
    ∙ ap (λ p. (p, m)) (sym (c.into_program.ensures
    ∙ ap (λ e. program_tree_of e main (map call_tree c.in_ok-schedule.schedule.items)) c.main_in-main.ensures.others ∙ ap (program_tree_of d main) c.in_ok-schedule.ensures))
