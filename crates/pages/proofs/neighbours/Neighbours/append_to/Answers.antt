-- Proofs of `append_to`, src/neighbours.rt.
use Rattle.std.proofs.Common.{◌≡◌, ℕ, ℤ, ◌+◌, ◌-◌, List, ◌++◌, length, take, drop, sym, ◌∙◌, ap, arith, ◌≤◌, length-append, length-drop}
use Rattle.std.proofs.lemmas.List.{length-map, length-take-le}
use Rattle.std.specs.Map.{keys_of, values_of}
use Rattle.edge_updates.specs.Weighted.{weighted}
use Rattle.edge_updates.proofs.Weighted.{weighted_append, weighted_parts, take_weighted, drop_weighted}
use Rattle.pages.specs.inside.Weights.{column_of}
use Rattle.pages.proofs.Weighing.{column_length, weighted_column}
use Rattle.pages.proofs.neighbours.Neighbours.append_to.Goals as goal

-- a part of a list comes after others in columns
appended : (keys keys' : List ℕ) (ws ws' : List ℤ) (es : List (ℕ × ℤ)) (from count n : ℕ) → n ≡ length keys → keys' ≡ keys ++ take count (drop from (keys_of es))
    → column_of (n + count) ws' ≡ column_of n ws ++ take count (drop from (values_of es)) → from + count ≤ length es → weighted keys' ws' ≡ weighted keys ws ++ take count (drop from es)
appended keys keys' ws ws' es from count n len more column room =
    let ks : List ℕ = take count (drop from (keys_of es)) in
    let within : count ≤ length (drop from (keys_of es)) = omega (arith, room, length-drop from (keys_of es), length-map es (λ e. e.0)) in
    let long : n + count ≡ length keys' = omega (arith, len, ap length more, length-append keys ks, length-take-le count (drop from (keys_of es)) within) in
    let vs : List ℤ = take count (drop from (values_of es)) in
    let part : weighted ks vs ≡ take count (drop from es) =
    sym (take_weighted count (drop from (keys_of es)) (drop from (values_of es))) ∙ ap (take count) (sym (drop_weighted from (keys_of es) (values_of es)) ∙ ap (drop from) (weighted_parts es)) in
    sym (weighted_column (n + count) keys' ws' long)
    ∙ ap (weighted keys') column ∙ ap (λ v. weighted v (column_of n ws ++ vs)) more
    ∙ weighted_append keys ks (column_of n ws) vs (column_length n ws ∙ len)
    ∙ ap (λ v. v ++ weighted ks vs) (weighted_column n keys ws len)
    ∙ ap (λ v. weighted keys ws ++ v) part

pub returns : goal.returns
returns c =
    let old = c.list.inside in
    let n : ℕ = c.len.result in
    let len : n ≡ length old.keys.items = omega (arith, c.len.ensures) in
    let count : ℕ = c.args.to - c.args.from in
    let es = c.args.self.now in
    appended old.keys.items c.append_keys.new.keys.items old.weights.items c.append_weights.new.weights.items es c.args.from count n len c.in_ok-append_keys.ensures c.in_ok-append_weights.ensures
    (omega (arith, c.requires.order, c.requires.within))
    ∙ ap (λ v. v ++ take count (drop c.args.from es)) c.list.view_is
