-- Proofs of `keep_in_parts`, src/passing.rt.
use Rattle.std.proofs.Common.{rules, ◌≡◌, ◌++◌, ℕ, List, [], ◌∷◌, length, refl, sym, ap, ◌∙◌, append_assoc, arith}
use Rattle.std.proofs.lemmas.List.{append-nil}
use Rattle.std.proofs.lemmas.List.Elements.{filter-append}
use Rattle.std.specs.List.{filter}
use Rattle.edge_fold.proofs.passing.keep_in_parts.Goals as goal

pub parts-preserved : goal.parts-preserved
parts-preserved c m test vectors sizes is =
    let part = c.split_at.result.0.now in
    let more = c.split_at.result.1.now in
    ap (λ (ks : List ℕ). ks ++ filter test more) (c.in_ok-keep_part.ensures m test vectors sizes is)
    ∙ append_assoc c.parts.kept.items (filter test part) (filter test more)
    ∙ ap (λ (ks : List ℕ). c.parts.kept.items ++ ks) (sym (filter-append test part more) ∙ ap (filter test) (sym c.split_at.ensures.by_index.0))
    ∙ c.parts.invariant m test vectors sizes is

empty : (xs : List ℕ) → length xs ≡ 0 → xs ≡ []
empty [] e = refl
empty (x ∷ xs) e = absurd (omega (arith, e))

pub returns : goal.returns
returns c m test vectors sizes is =
    let none : length c.parts.rest.now ≡ 0 = search rules in
    let kept = c.parts.kept.items in
    sym (append-nil kept) ∙ ap (λ (ks : List ℕ). kept ++ filter test ks) (sym (empty c.parts.rest.now none)) ∙ c.parts.invariant m test vectors sizes is
