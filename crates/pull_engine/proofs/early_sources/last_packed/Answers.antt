-- Proofs of `last_packed`, src/early_sources.rt.
use Rattle.std.proofs.Common.{◌≡◌, ◌+◌, ◌-◌, ◌<◌, true, length, take, get_or, sym, ap, ◌∙◌, arith, Some}
use Rattle.std.proofs.lemmas.Map.Entries.{length-keys_of}
use Rattle.std.specs.List.{filter}
use Rattle.std.specs.Map.{keys_of}
use Rattle.edge_apply.specs.Words.{passes_words}
use Rattle.pull_engine.specs.EarlySources.{last_source}
use Rattle.pull_engine.proofs.Deciding.{last_passes}
use Rattle.pull_engine.proofs.early_sources.last_packed.Goals as goal

pub returns-then-passes : goal.returns-then-passes
returns-then-passes c =
    let p = passes_words c.args.from in
    let xs = keys_of c.args.sources in
    let long = length-keys_of c.args.sources in
    let i = c.down.end - 1 in
    let some = c.down-test.true in
    let within = c.down.invariant.within in
    let next : i + 1 ≡ c.down.end = omega (arith, some) in
    let inside : i < length xs = omega (arith, some, within, long) in
    let is : p (get_or xs i 0) ≡ true = ap p (sym c.neighbour-source.ensures) ∙ sym c.passes.ensures ∙ c.if-passes.true in
    ap Some c.neighbour-source.ensures ∙ sym (last_passes p xs i true inside is) ∙ ap (λ k. last_source (filter p (take k xs))) next ∙ c.down.invariant.left
