-- Proofs of `script`, src/reading.rt.
use Rattle.std.proofs.Common.{◌≡◌, ◌∙◌, List, ap, map, codes}
use Rattle.std.proofs.lemmas.Result.{IfOk-weaker}
use Rattle.std.specs.Borrow.{Bor}
use Rattle.clap.specs.Words.{Text, found_of, rows_of}
use Rattle.clap.proofs.WalkLemmas.{raw_values-rows}
use Rattle.requests.specs.Asked.{asked_by, files_of, script_with}
use Rattle.requests.proofs.Found.{texts_or}
use Rattle.requests.proofs.reading.script.Goals as goal

pub returns : goal.returns
returns c =
    let files = files_of (codes "FILE") (rows_of (found_of c.args.found.now)) in
    let is = ap (λ (s : Bor (List (Bor Text))). map (λ f. f.now) s.now) c.unwrap_or.ensures
    ∙ texts_or c.get_raw.result _ _ (c.get_raw.ensures ∙ raw_values-rows (found_of c.args.found.now) (codes "FILE")) in
    IfOk-weaker c.first_is_script.result (λ r. asked_by r ≡ script_with (map (λ f. f.now) c.unwrap_or.result.now)) (λ r. asked_by r ≡ script_with files)
    (λ r same. same ∙ ap script_with is) c.first_is_script.ensures
