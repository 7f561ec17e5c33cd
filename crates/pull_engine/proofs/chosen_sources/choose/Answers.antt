-- Proofs of `choose`, src/chosen_sources.rt.
use Rattle.std.proofs.Common.{◌≡◌, ◌+◌, ◌<◌, ◌≤◌, ℕ, ℤ, pos, true, false, inl, inr, length, sym, ap, ◌∙◌, arith}
use Rattle.std.proofs.lemmas.Bool.{cases_Bool}
use Rattle.std.proofs.lemmas.List.{get_or-map, length-set}
use Rattle.edge_apply.specs.Words.{is_set}
use Rattle.pull_engine.specs.inside.Columns.{entry_at}
use Rattle.pull_engine.proofs.Chosen.{chosen_more, inside_more}
use Rattle.pull_engine.proofs.chosen_sources.choose.Goals as goal

pub indices-preserved : goal.indices-preserved
indices-preserved c =
    let p = is_set c.args.words.now in
    let es = c.args.list.now in
    let xs = c.indices.indices in
    let k = c.indices.kept in
    let i = c.indices.index in
    let n = k + c.from-kept.result in
    let b = c.passes.result in
    let before = c.indices.invariant in
    let here : i < length es = omega (arith, c.requires.within) in
    let free : k < length xs = omega (arith, before.room, before.few, before.from, c.requires.room) in
    let passed : p (entry_at es i).0 ≡ b =
    sym (c.passes.ensures ∙ ap p (c.neighbour.ensures ∙ get_or-map (λ (e : ℕ × ℤ). e.0) es i (0, pos 1) 0 here)) in
    let counts : b ≡ true → n ≡ k + 1 = λ e. let one : c.from-kept.result ≡ 1 = rw e at c.from-kept.ensures in omega (arith, one) in
    let stays : b ≡ false → n ≡ k = λ e. let none : c.from-kept.result ≡ 0 = rw e at c.from-kept.ensures in omega (arith, none) in
    let few : n ≤ k + 1 = elim (cases_Bool b) [
      | inl e ↦ omega (arith, counts e)
      | inr e ↦ omega (arith, stays e)
    ] in
    record {
      from = omega (arith, before.from);
      few = omega (arith, few, before.few);
      room = length-set xs k i ∙ before.room;
      inside = inside_more (λ j. j < length es) xs k i n b before.inside here free counts stays;
      chosen = chosen_more p es xs k i c.args.low n b before.chosen free before.from here passed counts stays;
    }
