-- Proofs of `new`, src/iter.rt.
use Rattle.std.proofs.Common.{◌≡◌, ◌++◌, [], ap₂, ap, sym, ◌∙◌}
use Rattle.vertex_sets.specs.inside.Words.{word_members}
use Rattle.vertex_sets.proofs.BitMembers.{bits_none}
use Rattle.vertex_sets.proofs.WordMembers.{no_words}
use Rattle.vertex_sets.proofs.iter.WordIter.new.Goals as goal

pub returns-in-None : goal.returns-in-None
returns-in-None c =
    let none : c.args.words.now ≡ [] = no_words c.args.words.now c.in-None.ensures.cases in
    ap₂ (λ xs ys. xs ++ ys) (bits_none 64 0) (ap (word_members 64) none) ∙ sym (ap (word_members 0) none)
