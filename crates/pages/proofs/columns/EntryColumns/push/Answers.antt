-- Proofs of `push`, src/columns.rt.
use Rattle.std.proofs.Common.{◌≡◌, pos, w64, [], ◌∷◌, ◌++◌, length, vec_len, sym, ◌∙◌, ap, arith}
use Rattle.std.proofs.lemmas.Bool.{eqb-true}
use Rattle.std.proofs.lemmas.Int.{to_z-of_z}
use Rattle.std.proofs.lemmas.List.{take_all}
use mir.Val.{to_z}
use Rattle.edge_updates.specs.Weighted.{weighted}
use Rattle.edge_updates.proofs.Weighted.{weighted_one}
use Rattle.pages.proofs.columns.EntryColumns.push.Goals as goal

pub returns-then-is_empty : goal.returns-then-is_empty
returns-then-is_empty c =
    let old = c.self.inside in
    let keys = old.keys.items in
    let weights = old.weights.items in
    let n = c.args.neighbour in
    let empty : vec_len old.weights ≡ 0 = eqb-true (vec_len old.weights) 0 (sym c.is_empty.ensures ∙ c.if-is_empty.true) in
    let none : length weights ≡ 0 = omega (arith, empty) in
    let one : pos 1 ≡ c.args.weight = ap (to_z w64) (sym c.if-weight-eq1.true) ∙ to_z-of_z w64 c.args.weight c.ranges.weight in
    ap (λ v. weighted v weights) c.in_ok-push.ensures.items
    ∙ ap (weighted (keys ++ n ∷ [])) (sym (take_all (length keys) weights (omega (arith, none))))
    ∙ weighted_one keys weights n
    ∙ ap (λ v. v ++ (n, pos 1) ∷ []) c.self.view_is
    ∙ ap (λ w. c.args.self.now ++ (n, w) ∷ []) one
