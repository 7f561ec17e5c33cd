-- Proofs of `append_weights`, src/neighbours.rt.
use Rattle.std.proofs.Common.{◌≡◌, ℕ, ℤ, ◌+◌, ◌-◌, ◌*◌, ◌≤◌, List, ◌++◌, length, take, drop, sym, ◌∙◌, ap, arith, rules, length-append, length-drop}
use Rattle.std.specs.Map.{values_of}
use Rattle.std.proofs.lemmas.List.{length-map, length-take-le}
use Rattle.pages.specs.declared.weights.WeightWidth.TheVariants.{Ones}
use Rattle.pages.specs.inside.Weights.{weight_size, weights_from, column_of}
use Rattle.pages.proofs.Weighing.{column_length, column_whole, column_ones}
use Rattle.pages.proofs.Decoding.{weights_are}
use Rattle.pages.proofs.neighbours.Neighbours.append_weights.Goals as goal

pub returns-then-is_ones : goal.returns-then-is_ones
returns-then-is_ones c =
    let l = c.self.inside in
    let n = c.args.others in
    let count = c.args.count in
    let position : ℕ = l.packed.width * (l.packed.len - 1) + weight_size l.weights * c.args.from in
    let ones : l.weights ≡ Ones = c.is_ones.ensures.0 (search rules) in
    let these : weights_from Ones count (drop position l.packed.offsets.now) ≡ take count (drop c.args.from (values_of c.args.self.now)) =
    ap (λ v. weights_from v count (drop position l.packed.offsets.now)) (sym ones)
    ∙ weights_are l.packed.first l.packed.width l.packed.mask l.packed.len l.weights l.packed.offsets.now c.args.self.now c.self.invariant c.self.view_is c.args.from count c.requires in
    ap (column_of (n + count)) c.truncate.ensures.items ∙ column_ones n count (drop position l.packed.offsets.now) c.args.weights.now.items ∙ ap (λ v. column_of n c.args.weights.now.items ++ v) these

pub returns : goal.returns
returns c =
    let n = c.args.others in
    let count = c.args.count in
    let ws : List ℤ = column_of n c.args.weights.now.items in
    let vs : List ℤ = take count (drop c.args.from (values_of c.args.self.now)) in
    let whole : c.append_column.new.weights.items ≡ ws ++ vs = c.in_ok-append_column.ensures ∙ ap (λ v. v ++ vs) c.in_ok-pad.ensures in
    let room : count ≤ length (drop c.args.from (values_of c.args.self.now)) = omega (arith, c.requires, length-drop c.args.from (values_of c.args.self.now), length-map c.args.self.now (λ e. e.1)) in
    let long : length (ws ++ vs) ≡ n + count = omega (arith, length-append ws vs, column_length n c.args.weights.now.items, length-take-le count (drop c.args.from (values_of c.args.self.now)) room) in
    ap (column_of (n + count)) whole ∙ column_whole (n + count) (ws ++ vs) long
