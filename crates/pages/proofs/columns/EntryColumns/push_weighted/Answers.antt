-- Proofs of `push_weighted`, src/columns.rt.
use Rattle.std.proofs.Common.{◌≡◌, ℤ, pos, w64, List, [], ◌∷◌, ◌++◌, length, take, sym, ◌∙◌, ap, arith}
use Rattle.std.proofs.lemmas.Int.{to_z-of_z}
use mir.Val.{to_z, of_z}
use Rattle.edge_updates.specs.Weighted.{weighted}
use Rattle.edge_updates.proofs.Weighted.{weighted_append, weighted_one}
use Rattle.pages.specs.inside.Weights.{column_of}
use Rattle.pages.proofs.Weighing.{column_length, weighted_column}
use Rattle.pages.proofs.columns.EntryColumns.push_weighted.Goals as goal

pub returns-then-weight-eq1 : goal.returns-then-weight-eq1
returns-then-weight-eq1 c =
    let old = c.self.inside in
    let keys = old.keys.items in
    let n = c.args.neighbour in
    let len : c.len-len.result ≡ length keys = omega (arith, c.len-len.ensures) in
    let one : pos 1 ≡ c.args.weight = ap (to_z w64) (sym c.if-weight-eq1.true) ∙ to_z-of_z w64 c.args.weight c.ranges.weight in
    ap (λ v. weighted v c.truncate.new.self.items) c.in_ok-push.ensures.items
    ∙ ap (weighted (keys ++ n ∷ [])) (c.truncate.ensures.items ∙ ap (λ k. take k old.weights.items) len)
    ∙ weighted_one keys old.weights.items n
    ∙ ap (λ v. v ++ (n, pos 1) ∷ []) c.self.view_is
    ∙ ap (λ w. c.args.self.now ++ (n, w) ∷ []) one

pub returns : goal.returns
returns c =
    let old = c.self.inside in
    let keys = old.keys.items in
    let n = c.args.neighbour in
    let len : c.len-len.result ≡ length keys = omega (arith, c.len-len.ensures) in
    let w = c.args.weight in
    let padded : List ℤ = column_of c.len-len.result old.weights.items in
    let weights : c.push-2.new.self.items ≡ padded ++ w ∷ [] = c.in_ok-push-2.ensures.items ∙ ap (λ v. v ++ to_z w64 (of_z w64 w) ∷ []) c.in_ok-pad.ensures
    ∙ ap (λ x. padded ++ x ∷ []) (to_z-of_z w64 w c.ranges.weight) in
    ap (λ v. weighted v c.push-2.new.self.items) c.in_ok-push-3.ensures.items
    ∙ ap (weighted (keys ++ n ∷ [])) weights
    ∙ weighted_append keys (n ∷ []) padded (w ∷ []) (column_length c.len-len.result old.weights.items ∙ len)
    ∙ ap (λ v. v ++ (n, w) ∷ []) (weighted_column c.len-len.result keys old.weights.items len ∙ c.self.view_is)
