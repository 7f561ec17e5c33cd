-- A set that is made of entries in order, chunk by chunk.
use Rattle.std.proofs.Common.{◌≡◌, ℕ, ℤ, ◌+◌, ◌^◌, ◌<◌, ◌≤◌, None, Some, List, [], ◌∷◌, ◌++◌, length, sym, ◌∙◌, ap, append_assoc, length-append, arith}
use Rattle.std.specs.Map.{keys_of}
use Rattle.ascending_lists.specs.Maps.{Rises, IsMap}
use Rattle.ascending_lists.specs.Ascending.{AscendsFrom, Ascends}
use Rattle.ascending_lists.proofs.Ascending.{ascends_from, ascends_front, ascends_back}
use Rattle.ascending_lists.proofs.MapKeys.{keys_append}
use Rattle.tail_codec.specs.Spelling.{BasedList, based_list}
use Rattle.c_tree.specs.Chunks.{HeadValue, head_value, before_head, chunks_of}
use Rattle.c_tree.specs.inside.Chunks.{entries_of, together}
use Rattle.c_tree.specs.inside.Parts.{IsPart}
use Rattle.c_tree.specs.inside.Cutting.{from_head}
use Rattle.c_tree.proofs.Chunking.{cut_at_head, none_before_head, before_from_head, chunks_from_head, head_first, chunks_at_head, whole_again, are_chunks}

-- entries in two pieces, of which each ascends where both together do
pub keys_front : (low : ℕ) (es fs : List (ℕ × ℤ)) → AscendsFrom low (keys_of (es ++ fs)) → AscendsFrom low (keys_of es)
keys_front low es fs s = ascends_front low (keys_of es) (keys_of fs) (rw (← keys_append es fs) s)

pub keys_back : (low : ℕ) (es fs : List (ℕ × ℤ)) → AscendsFrom low (keys_of (es ++ fs)) → AscendsFrom low (keys_of fs)
keys_back low es fs s = ascends_back low (keys_of es) (keys_of fs) (rw (← keys_append es fs) s)

-- entries after one of them
pub keys_after : (e : ℕ × ℤ) (r : List (ℕ × ℤ)) (low : ℕ) (l : List (ℕ × ℤ)) → AscendsFrom low (keys_of (l ++ e ∷ r)) → AscendsFrom (e.0 + 1) (keys_of r)
keys_after e r low [] s = s.2
keys_after e r low (x ∷ l) s = keys_after e r (x.0 + 1) l s.2

-- what stands from a head on ascends
pub ascends_from_head : (b low : ℕ) (es : List (ℕ × ℤ)) → AscendsFrom low (keys_of es) → AscendsFrom low (keys_of (from_head b es))
ascends_from_head b low es s = keys_back low (before_head b es) (from_head b es) (rw (cut_at_head b es) s)

pub from_head_shorter : (b : ℕ) (es : List (ℕ × ℤ)) → length (from_head b es) ≤ length es
from_head_shorter b es = omega (arith, ap length (cut_at_head b es), length-append (before_head b es) (from_head b es))

-- so does what stands before the first
pub before_ascends : (b low : ℕ) (es : List (ℕ × ℤ)) → AscendsFrom low (keys_of es) → AscendsFrom low (keys_of (before_head b es))
before_ascends b low es s = keys_front low (before_head b es) (from_head b es) (rw (cut_at_head b es) s)

-- what stands after one chunk of a list
module _ (b : ℕ) (list : List (ℕ × ℤ)) (h : ℕ × ℤ) (after next : List (ℕ × ℤ)) (cells : list ≡ h ∷ after) (is : next ≡ from_head b after) where
  pub next_ascends : Ascends None (keys_of list) → Ascends None (keys_of next)
  next_ascends s =
      let first : AscendsFrom 0 (keys_of (h ∷ after)) = rw cells at s in
      rw is (ascends_from_head b 0 after (ascends_from 0 (h.0 + 1) (keys_of after) (omega arith) first.2))

  pub next_cut : before_head b next ≡ []
  next_cut = rw is (before_from_head b after)

  pub next_shorter : length next < length list
  next_shorter = rw (is, cells) (omega (arith, from_head_shorter b after))

  pub one_chunk : (vs new : List (ℕ × HeadValue)) (v : HeadValue) (es : List (ℕ × ℤ)) → before_head b list ≡ [] → v ≡ head_value h.1 (based_list (Some h.0) (before_head b after))
      → new ≡ vs ++ (h.0, v) ∷ [] → vs ++ chunks_of b list ≡ chunks_of b es → new ++ chunks_of b next ≡ chunks_of b es
  one_chunk vs new v es cut at_head more whole =
      let head = head_first b h after (ap (before_head b) (sym cells) ∙ cut) in
      let rest : chunks_of b next ≡ chunks_of b after = ap (chunks_of b) is ∙ chunks_from_head b after in
      let first : (h.0, v) ∷ chunks_of b next ≡ chunks_of b list =
      ap (λ u. (h.0, u) ∷ chunks_of b next) at_head
      ∙ ap (λ cs. (h.0, head_value h.1 (based_list (Some h.0) (before_head b after))) ∷ cs) rest
      ∙ sym (chunks_at_head b h after head)
      ∙ ap (chunks_of b) (sym cells) in
      ap (λ cs. cs ++ chunks_of b next) more ∙ append_assoc vs ((h.0, v) ∷ []) (chunks_of b next) ∙ ap (λ cs. vs ++ cs) first ∙ whole

-- the heads of chunks ascend
pub heads_rise : (low : ℕ) (cs : List (ℕ × HeadValue)) → low ≤ 2 ^ 32 → AscendsFrom low (keys_of (entries_of cs)) → Rises low (2 ^ 32) cs
heads_rise low [] le s = le
heads_rise low (c ∷ cs) le s =
    let rest = keys_back (c.0 + 1) c.1.tail.entries (entries_of cs) s.2 in
    (s.0, heads_rise (c.0 + 1) cs (omega (arith, s.1)) rest)

pub chunks_map : (b : ℕ) (es : List (ℕ × ℤ)) → Ascends None (keys_of es) → IsMap (chunks_of b es)
chunks_map b es s =
    let whole : AscendsFrom 0 (keys_of (before_head b es ++ entries_of (chunks_of b es))) = rw (whole_again b es) at s in
    heads_rise 0 (chunks_of b es) (omega arith) (keys_back 0 (before_head b es) (entries_of (chunks_of b es)) whole)

-- the prefix and the chunks of a list make its set
module _ (b : ℕ) (es : List (ℕ × ℤ)) (p : BasedList) (cs : List (ℕ × HeadValue)) (e : p.entries ≡ before_head b es) (f : cs ≡ chunks_of b es) where
  pub made_whole : together p cs ≡ es
  made_whole = rw (e, f) (sym (whole_again b es))

  pub made : Ascends None (keys_of es) → IsPart b p cs
  made s = record { ascending = rw made_whole s; front = rw e (none_before_head b es); each = rw f (are_chunks b es) }
