-- Proofs of `keyword_of`, src/keyword.rt.
use Rattle.std.proofs.Common.{◌≢◌, get_or, None, ap, rules, sym, ◌∙◌}
use Rattle.lexer.specs.declared.keyword.TheConstants.{KEYWORDS}
use Rattle.lexer.specs.Spelling.{keyword_spelling}
use Rattle.lexer.proofs.SpellingLaws.{none_at, other_at}
use Rattle.lexer.proofs.keyword.keyword_of.Goals as goal

pub returns-in_err-keyword-clause-none : goal.returns-in_err-keyword-clause-none
returns-in_err-keyword-clause-none c =
    rw c.from_residual.ensures (none_at c.args.text.now (ap (λ i. get_or KEYWORDS i None) (sym c.place.ensures) ∙ c.in_err-keyword.was))

pub returns-else-eq-clause-none : goal.returns-else-eq-clause-none
returns-else-eq-clause-none c =
    let differs : c.args.text.now ≢ keyword_spelling c.in_ok-keyword.keyword = search rules in
    other_at c.args.text.now c.in_ok-keyword.keyword (ap (λ i. get_or KEYWORDS i None) (sym c.place.ensures) ∙ c.in_ok-keyword.was) differs
