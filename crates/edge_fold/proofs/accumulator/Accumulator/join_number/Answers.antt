-- Proofs of `join_number`, src/joins.rt.
use Rattle.std.proofs.Common.{rules, ℤ, FitsSigned, w64, OnOk, sym, subst}
use Rattle.std.proofs.lemmas.Int.{to_z-of_z}
use Rattle.apply_options.specs.declared.reduction.Reduction.{Reduction}
use Rattle.apply_options.specs.declared.reduction.Reduction.TheVariants as reduction
use Rattle.edge_fold.specs.Between.{firsts}
use Rattle.edge_fold.specs.inside.Contributions.{each_given}
use Rattle.edge_fold.specs.inside.Held.{AreJoined}
use Rattle.edge_fold.proofs.accumulator.Accumulator.join_number.Goals as goal

pub returns-in-Min : goal.returns-in-Min
returns-in-Min g c =
    let a = c.args in
    let fits : FitsSigned w64 a.number = search rules in
    let ds = firsts (g.E.NeighbourEntries.entries a.destinations.now) in
    let joined = subst (λ (n : ℤ). OnOk c.join_each.result (AreJoined a.seeds reduction.Min a.self.now c.join_each.new.self (each_given n ds))) (to_z-of_z w64 a.number fits) c.join_each.ensures in
    subst (λ (r : Reduction). OnOk c.join_each.result (AreJoined a.seeds r a.self.now c.join_each.new.self (each_given a.number ds))) (sym c.in-Min.is) joined

pub returns-in-Max : goal.returns-in-Max
returns-in-Max g c =
    let a = c.args in
    let fits : FitsSigned w64 a.number = search rules in
    let ds = firsts (g.E.NeighbourEntries.entries a.destinations.now) in
    let joined = subst (λ (n : ℤ). OnOk c.join_each-in-Max.result (AreJoined a.seeds reduction.Max a.self.now c.join_each-in-Max.new.self (each_given n ds)))
    (to_z-of_z w64 a.number fits) c.join_each-in-Max.ensures in
    subst (λ (r : Reduction). OnOk c.join_each-in-Max.result (AreJoined a.seeds r a.self.now c.join_each-in-Max.new.self (each_given a.number ds))) (sym c.in-Max.is) joined

pub returns-in-Plus : goal.returns-in-Plus
returns-in-Plus g c =
    let a = c.args in
    let fits : FitsSigned w64 a.number = search rules in
    let ds = firsts (g.E.NeighbourEntries.entries a.destinations.now) in
    let joined = subst (λ (n : ℤ). OnOk c.join_each-in-Plus.result (AreJoined a.seeds reduction.Plus a.self.now c.join_each-in-Plus.new.self (each_given n ds)))
    (to_z-of_z w64 a.number fits) c.join_each-in-Plus.ensures in
    subst (λ (r : Reduction). OnOk c.join_each-in-Plus.result (AreJoined a.seeds r a.self.now c.join_each-in-Plus.new.self (each_given a.number ds))) (sym c.in-Plus.is) joined
