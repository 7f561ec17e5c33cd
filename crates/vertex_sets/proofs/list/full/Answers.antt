-- Proofs of `full`, src/list.rt.
use Rattle.std.proofs.Common.{◌≡◌, ◌++◌, ◌∷◌, [], ap, sym, ◌∙◌, arith, rules}
use Rattle.vertex_sets.proofs.Ascending.{range_end}
use Rattle.vertex_sets.proofs.list.full.Goals as goal

pub loop-vertex-preserved : goal.loop-vertex-preserved
loop-vertex-preserved c =
    let n = c.loop-vertex.vertex in
    let pushed : c.push.new.self.items ≡ c.loop-vertex.list.items ++ n ∷ [] = search rules in
    pushed ∙ ap (λ xs. xs ++ n ∷ []) c.loop-vertex.invariant ∙ sym (range_end 0 n n (omega arith))
