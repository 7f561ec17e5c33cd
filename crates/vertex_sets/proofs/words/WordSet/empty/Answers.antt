-- Proofs of `empty`, src/words.rt.
use Rattle.std.proofs.Common.{◌≡◌, [], length, replicate, ap, sym, ◌∙◌, rules}
use Rattle.vertex_sets.specs.VertexSet.{word_count}
use Rattle.vertex_sets.specs.inside.Words.{word_members}
use Rattle.vertex_sets.proofs.WordMembers.{words_none}
use Rattle.vertex_sets.proofs.words.WordSet.empty.Goals as goal

pub invariant_of-result : goal.invariant_of-result
invariant_of-result c =
    let is : c.in_ok-words.words.items ≡ replicate (word_count c.args.vertices) 0 = search rules in
    let none : word_members 0 c.in_ok-words.words.items ≡ [] = ap (word_members 0) is ∙ words_none 0 (word_count c.args.vertices) in
    record { counted = sym (ap length none) }
