-- Proofs of `join_weights_by`, src/joins.rt.
use Rattle.std.proofs.Common.{rules, ℤ, FitsSigned, w64, OnOk, sym, subst}
use Rattle.std.proofs.lemmas.Int.{to_z-of_z}
use Rattle.typed_tree.specs.declared.expression.Operator.{Operator}
use Rattle.typed_tree.specs.declared.expression.Operator.TheVariants as operator
use Rattle.algorithm_meaning.specs.Arithmetic.{arithmetic}
use Rattle.edge_fold.specs.inside.EntryNumbers.{each_weighed}
use Rattle.edge_fold.specs.inside.Held.{AreJoined}
use Rattle.edge_fold.proofs.accumulator.Accumulator.join_weights_by.Goals as goal

pub returns-in-Add : goal.returns-in-Add
returns-in-Add g c =
    let a = c.args in
    let number = a.numbers.number in
    let fits : FitsSigned w64 number = search rules in
    let es = g.E.NeighbourEntries.entries a.destinations.now in
    let joined = subst (λ (n : ℤ). OnOk c.join_each_weight.result (AreJoined a.seeds a.reduction a.self.now c.join_each_weight.new.self (each_weighed (arithmetic operator.Add n) es)))
    (to_z-of_z w64 number fits) c.join_each_weight.ensures in
    subst (λ (o : Operator). OnOk c.join_each_weight.result (AreJoined a.seeds a.reduction a.self.now c.join_each_weight.new.self (each_weighed (arithmetic o number) es))) (sym c.in-Add.is) joined

pub returns-in-Subtract : goal.returns-in-Subtract
returns-in-Subtract g c =
    let a = c.args in
    let number = a.numbers.number in
    let fits : FitsSigned w64 number = search rules in
    let es = g.E.NeighbourEntries.entries a.destinations.now in
    let joined = subst (λ (n : ℤ). OnOk c.join_each_weight-in-Subtract.result (AreJoined a.seeds a.reduction a.self.now c.join_each_weight-in-Subtract.new.self
    (each_weighed (arithmetic operator.Subtract n) es))) (to_z-of_z w64 number fits) c.join_each_weight-in-Subtract.ensures in
    subst (λ (o : Operator). OnOk c.join_each_weight-in-Subtract.result (AreJoined a.seeds a.reduction a.self.now c.join_each_weight-in-Subtract.new.self (each_weighed (arithmetic o number) es)))
    (sym c.in-Subtract.is) joined

pub returns-in-Multiply : goal.returns-in-Multiply
returns-in-Multiply g c =
    let a = c.args in
    let number = a.numbers.number in
    let fits : FitsSigned w64 number = search rules in
    let es = g.E.NeighbourEntries.entries a.destinations.now in
    let joined = subst (λ (n : ℤ). OnOk c.join_each_weight-in-Multiply.result (AreJoined a.seeds a.reduction a.self.now c.join_each_weight-in-Multiply.new.self
    (each_weighed (arithmetic operator.Multiply n) es))) (to_z-of_z w64 number fits) c.join_each_weight-in-Multiply.ensures in
    subst (λ (o : Operator). OnOk c.join_each_weight-in-Multiply.result (AreJoined a.seeds a.reduction a.self.now c.join_each_weight-in-Multiply.new.self (each_weighed (arithmetic o number) es)))
    (sym c.in-Multiply.is) joined

pub returns-in-Divide : goal.returns-in-Divide
returns-in-Divide g c =
    let a = c.args in
    let number = a.numbers.number in
    let fits : FitsSigned w64 number = search rules in
    let es = g.E.NeighbourEntries.entries a.destinations.now in
    let joined = subst (λ (n : ℤ). OnOk c.join_each_weight-in-Divide.result (AreJoined a.seeds a.reduction a.self.now c.join_each_weight-in-Divide.new.self
    (each_weighed (arithmetic operator.Divide n) es))) (to_z-of_z w64 number fits) c.join_each_weight-in-Divide.ensures in
    subst (λ (o : Operator). OnOk c.join_each_weight-in-Divide.result (AreJoined a.seeds a.reduction a.self.now c.join_each_weight-in-Divide.new.self (each_weighed (arithmetic o number) es)))
    (sym c.in-Divide.is) joined

pub returns-in-Remainder : goal.returns-in-Remainder
returns-in-Remainder g c =
    let a = c.args in
    let number = a.numbers.number in
    let fits : FitsSigned w64 number = search rules in
    let es = g.E.NeighbourEntries.entries a.destinations.now in
    let joined = subst (λ (n : ℤ). OnOk c.join_each_weight-in-Remainder.result (AreJoined a.seeds a.reduction a.self.now c.join_each_weight-in-Remainder.new.self
    (each_weighed (arithmetic operator.Remainder n) es))) (to_z-of_z w64 number fits) c.join_each_weight-in-Remainder.ensures in
    subst (λ (o : Operator). OnOk c.join_each_weight-in-Remainder.result (AreJoined a.seeds a.reduction a.self.now c.join_each_weight-in-Remainder.new.self (each_weighed (arithmetic o number) es)))
    (sym c.in-Remainder.is) joined
