-- Proofs of `join_weights`, src/joins.rt.
use Rattle.std.proofs.Common.{OnOk, sym, subst}
use Rattle.apply_options.specs.declared.reduction.Reduction.{Reduction}
use Rattle.edge_fold.specs.inside.EntryNumbers.{each_weighed, number_with}
use Rattle.edge_fold.specs.inside.Held.{AreJoined}
use Rattle.edge_fold.proofs.accumulator.Accumulator.join_weights.Goals as goal

pub returns-in-Min : goal.returns-in-Min
returns-in-Min g c =
    let a = c.args in
    let es = g.E.NeighbourEntries.entries a.destinations.now in
    subst (λ (r : Reduction). OnOk c.join_weights_by.result (AreJoined a.seeds r a.self.now c.join_weights_by.new.self (each_weighed (number_with a.numbers) es)))
    (sym c.in-Min.is) c.join_weights_by.ensures

pub returns-in-Max : goal.returns-in-Max
returns-in-Max g c =
    let a = c.args in
    let es = g.E.NeighbourEntries.entries a.destinations.now in
    subst (λ (r : Reduction). OnOk c.join_weights_by-in-Max.result (AreJoined a.seeds r a.self.now c.join_weights_by-in-Max.new.self (each_weighed (number_with a.numbers) es)))
    (sym c.in-Max.is) c.join_weights_by-in-Max.ensures

pub returns-in-Plus : goal.returns-in-Plus
returns-in-Plus g c =
    let a = c.args in
    let es = g.E.NeighbourEntries.entries a.destinations.now in
    subst (λ (r : Reduction). OnOk c.join_weights_by-in-Plus.result (AreJoined a.seeds r a.self.now c.join_weights_by-in-Plus.new.self (each_weighed (number_with a.numbers) es)))
    (sym c.in-Plus.is) c.join_weights_by-in-Plus.ensures
