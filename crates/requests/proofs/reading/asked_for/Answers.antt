-- Proofs of `asked_for`, src/reading.rt.
use Rattle.std.proofs.Common.{◌≡◌, ◌∙◌}
use Rattle.std.proofs.lemmas.Result.{IfOk-weaker}
use Rattle.clap.specs.Words.{found_of, rows_of, subcommand_rows_of}
use Rattle.requests.specs.Asked.{asked_by, command_named, found_request}
use Rattle.requests.proofs.Found.{met_command, met_none, name-rows}
use Rattle.requests.proofs.reading.asked_for.Goals as goal

pub returns-in-Some : goal.returns-in-Some
returns-in-Some c =
    let p = subcommand_rows_of c.args.matches.now in
    let is = met_command p c.in-Some.name.now (rows_of (found_of c.in-Some.found.now)) (c.in-Some.ensures.name ∙ name-rows c.args.matches.now) c.in-Some.ensures.rows in
    IfOk-weaker c.named_request.result (λ r. asked_by r ≡ command_named c.in-Some.name.now (rows_of (found_of c.in-Some.found.now))) (λ r. asked_by r ≡ found_request p)
    (λ r same. same ∙ is) c.named_request.ensures

pub returns-in-None : goal.returns-in-None
returns-in-None c = met_none (subcommand_rows_of c.args.matches.now) (c.in-None.ensures.name ∙ name-rows c.args.matches.now)
