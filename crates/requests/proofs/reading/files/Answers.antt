-- Proofs of `files`, src/reading.rt.
use Rattle.std.proofs.Common.{◌≡◌, ◌∙◌, List, ap, map}
use Rattle.std.proofs.lemmas.Result.{IfOk-weaker}
use Rattle.std.specs.Borrow.{Bor}
use Rattle.clap.specs.Words.{Text, found_of, rows_of}
use Rattle.clap.proofs.WalkLemmas.{raw_values-rows}
use Rattle.requests.specs.Asked.{files_of}
use Rattle.requests.proofs.Found.{texts_or}
use Rattle.requests.proofs.reading.files.Goals as goal

pub returns : goal.returns
returns c =
    let is = ap (λ (s : Bor (List (Bor Text))). map (λ f. f.now) s.now) c.unwrap_or.ensures
    ∙ texts_or c.get_raw.result _ _ (c.get_raw.ensures ∙ raw_values-rows (found_of c.args.found.now) c.args.name.now) in
    IfOk-weaker c.from_slice.result _ (λ v. map (λ f. f.now) v.items ≡ files_of c.args.name.now (rows_of (found_of c.args.found.now)))
    (λ v same. ap (map (λ (f : Bor Text). f.now)) same ∙ is) c.from_slice.ensures.items
