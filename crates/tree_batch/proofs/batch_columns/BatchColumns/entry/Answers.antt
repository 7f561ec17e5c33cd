-- Proofs of `entry`, src/batch_columns.rt.
use Rattle.std.proofs.Common.{◌≡◌, ◌<◌, ℤ, pos, List, length, get_or, refl, sym, ap, ◌∙◌, arith, rules, w64, to_z, of_z}
use Rattle.std.proofs.lemmas.Int.{to_z-of_z}
use Rattle.tree_batch.specs.declared.batch_columns.EntryKind.{EntryKind}
use Rattle.tree_batch.specs.declared.batch_columns.EntryKind.TheVariants.{Adds, Removes, Grows}
use Rattle.tree_batch.specs.declared.batch_columns.EntryNumbers.{EntryNumbers}
use Rattle.tree_batch.specs.inside.Weights.{weights_in}
use Rattle.tree_batch.proofs.BatchColumns.{columns_length, entry_is}
use Rattle.tree_batch.proofs.batch_columns.BatchColumns.entry.Goals as goal

pub prove-unreachable-requires : goal.prove-unreachable-requires
prove-unreachable-requires c =
    omega (
      arith,
      c.requires,
      c.if-prove.true,
      c.len.ensures,
      columns_length 0 c.self.inside.numbers.items c.self.inside.kinds.items (weights_in c.self.inside.weights),
      ap length c.self.view_is,
    )

pub returns-in-Adds : goal.returns-in-Adds
returns-in-Adds c = λ d.
    let ns : List EntryNumbers = c.self.inside.numbers.items in
    let ks : List EntryKind = c.self.inside.kinds.items in
    let ws : List ℤ = weights_in c.self.inside.weights in
    let i = c.args.index in
    let lt : i < length ns = omega (arith, c.requires, columns_length 0 ns ks ws, ap length c.self.view_is) in
    let weight : to_z w64 (of_z w64 c.at.result) ≡ get_or ws i (pos 1) = to_z-of_z w64 c.at.result (search rules) ∙ c.at.ensures in
    let kind : Adds ≡ get_or ks i Adds = sym c.in-Adds.is ∙ c.kind_at.ensures ∙ ap (λ (zs : List EntryKind). get_or zs i Adds) c.deref.ensures.value in
    entry_is ns ks ws c.args.self.now i d Adds c.index-numbers.result.now _ c.self.view_is lt kind c.index-numbers.ensures weight

pub returns-in-Removes : goal.returns-in-Removes
returns-in-Removes c = λ d.
    let ns : List EntryNumbers = c.self.inside.numbers.items in
    let ks : List EntryKind = c.self.inside.kinds.items in
    let ws : List ℤ = weights_in c.self.inside.weights in
    let i = c.args.index in
    let lt : i < length ns = omega (arith, c.requires, columns_length 0 ns ks ws, ap length c.self.view_is) in
    let kind : Removes ≡ get_or ks i Adds = sym c.in-Removes.is ∙ c.kind_at.ensures ∙ ap (λ (zs : List EntryKind). get_or zs i Adds) c.deref.ensures.value in
    entry_is ns ks ws c.args.self.now i d Removes c.index-numbers.result.now (get_or ws i (pos 1)) c.self.view_is lt kind c.index-numbers.ensures refl

pub returns-in-Grows : goal.returns-in-Grows
returns-in-Grows c = λ d.
    let ns : List EntryNumbers = c.self.inside.numbers.items in
    let ks : List EntryKind = c.self.inside.kinds.items in
    let ws : List ℤ = weights_in c.self.inside.weights in
    let i = c.args.index in
    let lt : i < length ns = omega (arith, c.requires, columns_length 0 ns ks ws, ap length c.self.view_is) in
    let kind : Grows ≡ get_or ks i Adds = sym c.in-Grows.is ∙ c.kind_at.ensures ∙ ap (λ (zs : List EntryKind). get_or zs i Adds) c.deref.ensures.value in
    entry_is ns ks ws c.args.self.now i d Grows c.index-numbers.result.now (get_or ws i (pos 1)) c.self.view_is lt kind c.index-numbers.ensures refl
