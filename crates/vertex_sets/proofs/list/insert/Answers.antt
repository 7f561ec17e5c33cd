-- Proofs of `insert`, src/list.rt.
use Rattle.std.proofs.Common.{◌≡◌, ◌++◌, ◌∷◌, Err, take, drop, sym, subst, arith, rules}
use Rattle.std.specs.List.Sorted.{IsStrictlyIncreasing}
use Rattle.std.proofs.lemmas.List.Sorted.{searched}
use Rattle.vertex_sets.proofs.Ascending.{rises_from_increasing, non_decreasing, increasing_between, between_has}
use Rattle.vertex_sets.proofs.list.insert.Goals as goal

pub returns-in_ok-insert-clause-ascending : goal.returns-in_ok-insert-clause-ascending
returns-in_ok-insert-clause-ascending c =
    let xs = c.args.list.now.items in
    let v = c.args.vertex in
    let index = c.in-Err.index in
    let is : c.insert.new.self.items ≡ take index xs ++ v ∷ drop index xs = search rules in
    let lent = c.deref-2.result.now in
    let same : lent ≡ xs = c.deref-2.ensures.value in
    let up : IsStrictlyIncreasing lent = subst IsStrictlyIncreasing (sym same) c.requires in
    let at = searched lent v (Err index) c.in-Err.ensures.position (non_decreasing 0 lent (rises_from_increasing 0 lent (omega arith) up)) in
    rw is (subst (λ ys. IsStrictlyIncreasing (take index ys ++ v ∷ drop index ys)) same (increasing_between index v lent up at.0 at.1 at.2))

pub returns-in_ok-insert-clause-added : goal.returns-in_ok-insert-clause-added
returns-in_ok-insert-clause-added c =
    let xs = c.args.list.now.items in
    let is : c.insert.new.self.items ≡ take c.in-Err.index xs ++ c.args.vertex ∷ drop c.in-Err.index xs = search rules in
    rw is (between_has c.in-Err.index c.args.vertex xs)
