-- Proofs of `number`, src/reading.rt.
use Rattle.std.proofs.Common.{◌≡◌, ◌∙◌, ℕ, Option, subst}
use Rattle.std.specs.Option.{option_map_or}
use Rattle.std.specs.Str.Parse.{ParsesUnsigned, ExplainsUnsignedError, HasUnsignedDigitsIfOk}
use Rattle.clap.specs.Words.{found_of, one_of, rows_of}
use Rattle.clap.proofs.WalkLemmas.{one_text-rows}
use Rattle.requests.specs.inside.Numbers.{within}
use Rattle.requests.specs.Asked.{number_of}
use Rattle.requests.proofs.Numbers.{number_found}
use Rattle.requests.proofs.reading.number.Goals as goal

pub returns-in-Some : goal.returns-in-Some
returns-in-Some c =
    let least = c.args.range.0 in
    let most = c.args.range.1 in
    let same = one_text-rows (found_of c.args.found.now) c.args.name.now in
    let found = number_found (λ bs r. ParsesUnsigned 64 10 bs r × ExplainsUnsignedError 10 bs r × HasUnsignedDigitsIfOk bs r) (λ t x g. g.0)
    least most c.args.default (one_of c.args.name.now (rows_of (found_of c.args.found.now))) c.get_one.result
    (λ none. c.get_one.ensures.none (same ∙ none)) (λ t some. c.get_one.ensures.value t (same ∙ some)) in
    c.in_range.ensures ∙ subst (λ (o : Option ℕ). option_map_or (within least most c.args.default) o c.args.default
    ≡ number_of c.args.name.now least most c.args.default (rows_of (found_of c.args.found.now))) c.in-Some.is found

pub returns-in-None : goal.returns-in-None
returns-in-None c =
    let least = c.args.range.0 in
    let most = c.args.range.1 in
    let same = one_text-rows (found_of c.args.found.now) c.args.name.now in
    let found = number_found (λ bs r. ParsesUnsigned 64 10 bs r × ExplainsUnsignedError 10 bs r × HasUnsignedDigitsIfOk bs r) (λ t x g. g.0)
    least most c.args.default (one_of c.args.name.now (rows_of (found_of c.args.found.now))) c.get_one.result
    (λ none. c.get_one.ensures.none (same ∙ none)) (λ t some. c.get_one.ensures.value t (same ∙ some)) in
    subst (λ (o : Option ℕ). option_map_or (within least most c.args.default) o c.args.default
    ≡ number_of c.args.name.now least most c.args.default (rows_of (found_of c.args.found.now))) c.in-None.is found
