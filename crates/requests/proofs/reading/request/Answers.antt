-- Proofs of `request`, src/reading.rt.
use Rattle.std.proofs.Common.{◌≡◌, ◌∙◌, [], ap, subst, refl, sym, true, map, rules}
use Rattle.clap.specs.Kinds.{HasKind}
use Rattle.clap.specs.Words.{App, HasMatchesOf, app_of, fault_of, is_simple_and_free}
use Rattle.requests.specs.Asked.{HasFewWorkers, found_request, command_line}
use Rattle.requests.proofs.Found.{few_workers, told, told_memory}
use Rattle.requests.proofs.reading.request.Goals as goal

pub returns-in_err-command-clause-answers : goal.returns-in_err-command-clause-answers
returns-in_err-command-clause-answers c = told_memory (map (λ w. w.now) c.args.words.now) _ c.from_residual.ensures.1

pub returns-in_err-matches-clause-answers : goal.returns-in_err-matches-clause-answers
returns-in_err-matches-clause-answers c =
    let words = map (λ w. w.now) c.args.words.now in
    let app_is : app_of c.in_ok-command.field-0 ≡ command_line = search rules in
    let kinds = subst (λ (a : App). is_simple_and_free a ≡ true → HasKind (fault_of a words) c.in_err-matches.field-0.0) app_is c.in_err-matches.ensures.kinds refl in
    told words _ c.in_err-matches.field-0.0 kinds c.from_residual-in_err-matches.ensures.1

pub returns-in_err-asked-clause-answers : goal.returns-in_err-asked-clause-answers
returns-in_err-asked-clause-answers c = told_memory (map (λ w. w.now) c.args.words.now) _ c.from_residual-in_err-asked.ensures.1

pub returns-clause-answers : goal.returns-clause-answers
returns-clause-answers c =
    let words = map (λ w. w.now) c.args.words.now in
    let app_is : app_of c.in_ok-command.field-0 ≡ command_line = search rules in
    let quiet = subst (λ (a : App). is_simple_and_free a ≡ true → fault_of a words ≡ []) app_is c.in_ok-matches.ensures.kinds refl in
    let matches = subst (λ (a : App). HasMatchesOf a words c.in_ok-matches.matches) app_is c.in_ok-matches.ensures.matches refl in
    (quiet, c.in_ok-asked.ensures ∙ ap found_request matches.1)

pub returns-clause-workers : goal.returns-clause-workers
returns-clause-workers c =
    let words = map (λ w. w.now) c.args.words.now in
    let app_is : app_of c.in_ok-command.field-0 ≡ command_line = search rules in
    let matches = subst (λ (a : App). HasMatchesOf a words c.in_ok-matches.matches) app_is c.in_ok-matches.ensures.matches refl in
    subst HasFewWorkers (sym (c.in_ok-asked.ensures ∙ ap found_request matches.1)) (few_workers words)
