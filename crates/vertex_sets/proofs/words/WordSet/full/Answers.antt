-- Proofs of `full`, src/words.rt.
use Rattle.std.proofs.Common.{◌≡◌, ◌/◌, length, set, ap, sym, ◌∙◌, rules}
use Rattle.std.proofs.lemmas.List.FromFn.{length-range_with_len}
use Rattle.vertex_sets.specs.VertexSet.{all_vertices, word_count}
use Rattle.vertex_sets.specs.inside.Words.{word_members}
use Rattle.vertex_sets.proofs.WordMembers.{ones_only, last_word, filled_words, filled_but_last}
use Rattle.vertex_sets.proofs.words.WordSet.full.Goals as goal
use Rattle.vertex_sets.proofs.words.WordSet.full.Goals.{then-beyond-ne0, else-beyond-ne0}

pub invariant_of-result : goal.invariant_of-result
invariant_of-result c =
    let n = c.args.vertices in
    let ones : c.in_ok-words.words.items ≡ ones_only (word_count n) = search rules in
    let all : word_members 0 c.if-beyond-ne0.words.items ≡ all_vertices n =
    elim c.if-beyond-ne0.branch [
      | then-beyond-ne0 w ↦
          ap (λ ws. word_members 0 ws.items) w.words-is
          ∙ ap (λ ws. word_members 0 (set ws (n / 64) (last_word n w.if-beyond-ne0.true))) ones
          ∙ filled_but_last n w.if-beyond-ne0.true
      | else-beyond-ne0 w ↦ ap (λ ws. word_members 0 ws.items) w.words-is ∙ ap (word_members 0) ones ∙ filled_words n w.if-beyond-ne0.false
    ] in
    record { counted = sym (ap length all ∙ length-range_with_len 0 n) }

pub returns-clause-members : goal.returns-clause-members
returns-clause-members c =
    let n = c.args.vertices in
    let ones : c.in_ok-words.words.items ≡ ones_only (word_count n) = search rules in
    elim c.if-beyond-ne0.branch [
      | then-beyond-ne0 w ↦
          ap (λ ws. word_members 0 ws.items) w.words-is
          ∙ ap (λ ws. word_members 0 (set ws (n / 64) (last_word n w.if-beyond-ne0.true))) ones
          ∙ filled_but_last n w.if-beyond-ne0.true
      | else-beyond-ne0 w ↦ ap (λ ws. word_members 0 ws.items) w.words-is ∙ ap (word_members 0) ones ∙ filled_words n w.if-beyond-ne0.false
    ]
