-- Proofs of `take_number`, src/words.rt.
use Rattle.std.proofs.Common.{◌≡◌, ◌≢◌, ◌+◌, ◌<◌, ◌≤◌, ◌^◌, true, arith, rules, take, length, get_or, ◌∙◌}
use Rattle.std.specs.Str.{all_ascii_digits}
use Rattle.std.proofs.lemmas.Grind.{common_steps}
use Rattle.std.proofs.lemmas.List.{take_all, take_rest}
use Rattle.decimal.specs.Numbers.{digits_number}
use Rattle.scripts.proofs.WordLaws.{first_number-overflow, first_number-other, first_number-space, first_number-alone}
use Rattle.scripts.proofs.words.Words.take_number.Goals as goal

pub returns-in_err-number : goal.returns-in_err-number
returns-in_err-number c =
    let read = first_number-overflow c.in_ok-rest.rest.now c.in_err-number.ensures in
    grind (arith, common_steps)

pub returns-in-Some : goal.returns-in-Some
returns-in-Some c =
    let within : c.in_ok-number.len < length c.in_ok-rest.rest.now = search rules in
    let byte : c.in-Some.field-0.now ≡ get_or c.in_ok-rest.rest.now c.in_ok-number.len 0 = search rules in
    let other : get_or c.in_ok-rest.rest.now c.in_ok-number.len 0 ≢ 32 = λ space. c.in-Some.field-0-test.1 (byte ∙ space) in
    let read = first_number-other (2 ^ 64) c.in_ok-rest.rest.now c.in_ok-number.len c.in_ok-number.ensures.0.1 within (c.in_ok-number.ensures.2 within) other in
    grind (arith, common_steps)

pub returns-in-None : goal.returns-in-None
returns-in-None c =
    let past : length c.in_ok-rest.rest.now ≤ c.in_ok-number.len = search rules in
    let whole : take c.in_ok-number.len c.in_ok-rest.rest.now ≡ c.in_ok-rest.rest.now = take_all c.in_ok-number.len c.in_ok-rest.rest.now past in
    let digits : all_ascii_digits c.in_ok-rest.rest.now ≡ true = rw whole at c.in_ok-number.ensures.0.1 in
    let value : digits_number c.in_ok-rest.rest.now ≡ c.in_ok-number.number = rw whole at c.in_ok-number.ensures.1 in
    let read = first_number-alone (2 ^ 64) c.in_ok-rest.rest.now digits (search rules) (search rules) in
    grind (arith, common_steps)

pub returns-in-Some-eq32 : goal.returns-in-Some-eq32
returns-in-Some-eq32 c =
    let within : c.in_ok-number.len < length c.in_ok-rest.rest.now = search rules in
    let space : get_or c.in_ok-rest.rest.now c.in_ok-number.len 0 ≡ 32 = search rules in
    let small : digits_number (take c.in_ok-number.len c.in_ok-rest.rest.now) < 2 ^ 64 = search rules in
    let read = first_number-space (2 ^ 64) c.in_ok-rest.rest.now c.in_ok-number.len c.in_ok-number.ensures.0.1 (search rules) within space small in
    rw (take_rest c.in_ok-rest.rest.now (c.in_ok-number.len + 1)) (grind (arith, common_steps))
