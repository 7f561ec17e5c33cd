-- Proofs of `name_vectors`, src/outcome.rt.
use Rattle.std.proofs.Common.{◌≡◌, length, List, ◌++◌, ap, sym, ◌∙◌, rules, append-nil, drop}
use Rattle.algorithm_meaning.specs.declared.outcome.NamedVector.{NamedVector}
use Rattle.algorithm_meaning.proofs.Lists.{nothing_is_named}
use Rattle.run_state.proofs.outcome.name_vectors.Goals as goal

pub returns-in_default : goal.returns-in_default
returns-in_default c =
    let none : length c.vectors.left.rest.items ≡ 0 = search rules in
    let nothing = nothing_is_named c.args.names.now (drop c.vectors.vector-index c.args.declared.now) c.vectors.left.rest.items none in
    sym (append-nil c.vectors.named.items) ∙ ap (λ (xs : List NamedVector). c.vectors.named.items ++ xs) (sym nothing) ∙ c.vectors.invariant
