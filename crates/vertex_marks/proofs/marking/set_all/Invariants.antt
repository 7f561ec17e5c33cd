use Rattle.std.proofs.Common.{◌≡◌, ◌<◌, ◌≤◌, ℕ, get_or, vec_len}
use Rattle.vertex_marks.proofs.marking.set_all.Given as goal

-- the words so far have all bits, and the others are as they were
abbrev pub invariant-words : goal.invariant-words
invariant-words l = record {
  len : vec_len l.words ≡ vec_len l.fn.words;
  first : (k : ℕ) → k < l.index → get_or l.words.items k 0 ≡ 18446744073709551615;
  others : (k : ℕ) → l.index ≤ k → get_or l.words.items k 0 ≡ get_or l.fn.words.items k 0;
}
