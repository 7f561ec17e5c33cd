-- Sets by the heads at their roots, and parts put together.
use Rattle.std.proofs.Common.{◌≡◌, ℕ, ℤ, ◌+◌, ◌<◌, true, false, Option, Some, None, List, [], ◌∷◌, ◌++◌, length, refl, sym, ◌∙◌, ap, append_assoc, length-append, arith}
use Rattle.std.specs.List.{All}
use Rattle.std.specs.Map.{keys_of}
use Rattle.std.proofs.lemmas.Bool.{both_ways}
use Rattle.std.proofs.lemmas.List.{append-nil}
use Rattle.std.proofs.lemmas.List.Elements.{All-nil, All-cons, All-head, All-tail}
use Rattle.ascending_lists.specs.Ascending.{AscendsFrom, Ascends, least}
use Rattle.ascending_lists.specs.Maps.{IsMap}
use Rattle.ascending_lists.proofs.Ascending.{ascends_from}
use Rattle.ascending_lists.proofs.MapKeys.{keys_append}
use Rattle.tail_codec.specs.Spelling.{BasedList, based_list}
use Rattle.shared_tree.specs.Balanced.{Balanced, empty, IsFork}
use Rattle.c_tree.specs.Heads.{is_head}
use Rattle.c_tree.specs.Chunks.{HeadValue, head_value, ChunkedSet, IsSetOf, HasNoHead}
use Rattle.c_tree.specs.inside.Chunks.{entries_of, together, IsChunk}
use Rattle.c_tree.specs.inside.Parts.{in_chunks, IsPart}
use Rattle.c_tree.specs.Parts.{IsRoot}
use Rattle.c_tree.proofs.Making.{keys_front, keys_back, keys_after, heads_rise}
use Rattle.c_tree.proofs.Turns.{entries_append, together_at, all_left, all_right}

all_append : {X : Type 0} (P : X → Type 0) (xs ys : List X) → All P xs → All P ys → All P (xs ++ ys)
all_append P [] ys p q = q
all_append P (x ∷ xs) ys p q = All-cons P x (xs ++ ys) (All-head P x xs p) (all_append P xs ys (All-tail P x xs p) q)

pub together_more : (loose : BasedList) (l r : List (ℕ × HeadValue)) → together loose (l ++ r) ≡ together loose l ++ entries_of r
together_more loose l r =
    ap (λ es. loose.entries ++ es) (entries_append l r) ∙ sym (append_assoc loose.entries (entries_of l) (entries_of r))

module _ (b : ℕ) (loose : BasedList) (t l : Balanced HeadValue) (k : ℕ) (v : HeadValue) (r : Balanced HeadValue) (part : IsPart b loose t.entries) (fork : IsFork t l k v r) where
  each : All (IsChunk b) (l.entries ++ (k, v) ∷ r.entries)
  each = rw fork.entries at part.each

  pub root_whole : together loose t.entries ≡ together loose l.entries ++ (k, v.weight) ∷ together v.tail r.entries
  root_whole = ap (together loose) fork.entries ∙ together_at loose l.entries k v r.entries

  ascending : AscendsFrom 0 (keys_of (together loose l.entries ++ (k, v.weight) ∷ together v.tail r.entries))
  ascending = rw root_whole at part.ascending

  root : IsChunk b (k, v)
  root = All-head (IsChunk b) (k, v) r.entries (all_right (IsChunk b) l.entries ((k, v) ∷ r.entries) each)

  pub left_part : IsPart b loose l.entries
  left_part = record {
    ascending = keys_front 0 (together loose l.entries) ((k, v.weight) ∷ together v.tail r.entries) ascending;
    front = part.front;
    each = all_left (IsChunk b) l.entries ((k, v) ∷ r.entries) each;
  }

  pub right_part : IsPart b v.tail r.entries
  right_part = record {
    ascending = ascends_from 0 (k + 1) (keys_of (together v.tail r.entries)) (omega arith) (keys_after (k, v.weight) (together v.tail r.entries) 0 (together loose l.entries) ascending);
    front = root.tail;
    each = All-tail (IsChunk b) (k, v) r.entries (all_right (IsChunk b) l.entries ((k, v) ∷ r.entries) each);
  }

  pub is_root : (s p q : ChunkedSet) → s ≡ in_chunks b loose t → p ≡ in_chunks b loose l → q ≡ in_chunks b v.tail r → IsRoot s p k v.weight q
  is_root s p q e f g = rw (e, f, g) (record { entries = root_whole; ascending = part.ascending; head = root.head; left_size = refl; right_size = refl; depth = fork.depth })

-- a part with no chunk has no head
pub no_chunk : (b : ℕ) (loose : BasedList) (t : Balanced HeadValue) → IsPart b loose t.entries → t ≡ empty → HasNoHead b (together loose t.entries)
no_chunk b loose t part e =
    let same : together loose t.entries ≡ loose.entries = ap (λ (d : Balanced HeadValue). together loose d.entries) e ∙ append-nil loose.entries in
    rw same part.front

-- and a part with no head has no chunk
pub only_loose : (b : ℕ) (loose : BasedList) (cs : List (ℕ × HeadValue)) → IsPart b loose cs → HasNoHead b (together loose cs) → loose.entries ≡ together loose cs
only_loose b loose [] part none = sym (append-nil loose.entries)
only_loose b loose (c ∷ cs) part none =
    let later : HasNoHead b (entries_of (c ∷ cs)) = all_right (λ k. is_head b k ≡ false) (keys_of loose.entries) (keys_of (entries_of (c ∷ cs)))
    (rw (← keys_append loose.entries (entries_of (c ∷ cs))) none) in
    let plain : is_head b c.0 ≡ false = All-head (λ k. is_head b k ≡ false) c.0 (keys_of (c.1.tail.entries ++ entries_of cs)) later in
    absurd (both_ways (is_head b c.0) plain (All-head (IsChunk b) c cs part.each).head)

nothing : (xs ys : List (ℕ × ℤ)) → xs ++ ys ≡ [] → (xs ≡ []) × (ys ≡ [])
nothing [] ys e = (refl, e)
nothing (x ∷ xs) ys e = cc

no_entries : (cs : List (ℕ × HeadValue)) → entries_of cs ≡ [] → cs ≡ []
no_entries [] e = refl
no_entries (c ∷ cs) e = cc

pub nothing_together : (loose : BasedList) (cs : List (ℕ × HeadValue)) → together loose cs ≡ [] → (loose.entries ≡ []) × (cs ≡ [])
nothing_together loose cs e =
    let both = nothing loose.entries (entries_of cs) e in
    (both.0, no_entries cs both.1)

pub together_nothing : (loose : BasedList) (cs : List (ℕ × HeadValue)) → loose.entries ≡ [] → cs ≡ [] → together loose cs ≡ []
together_nothing loose cs e f = rw (e, f) refl

-- entries with no chunk
pub loose_part : (b : ℕ) (loose : BasedList) → Ascends None (keys_of loose.entries) → HasNoHead b loose.entries → IsPart b loose []
loose_part b loose s none = record { ascending = rw (append-nil loose.entries) s; front = none; each = All-nil (IsChunk b) }

-- pieces with a head between them
module _ (b : ℕ) (p : BasedList) (ps : List (ℕ × HeadValue)) (k : ℕ) (w : ℤ) (q : BasedList) (qs : List (ℕ × HeadValue)) (left : IsPart b p ps) (right : IsPart b q qs) (head : is_head b k ≡ true)
    (s : Ascends None (keys_of (together p ps ++ (k, w) ∷ together q qs))) where
  abbrev at_head : HeadValue
  at_head = head_value w (based_list (Some k) q.entries)

  pub tail_over : Ascends (Some k) (keys_of q.entries)
  tail_over = keys_front (k + 1) q.entries (entries_of qs) (keys_after (k, w) (together q qs) 0 (together p ps) s)

  pub join_whole : together p (ps ++ (k, at_head) ∷ qs) ≡ together p ps ++ (k, w) ∷ together q qs
  join_whole = together_at p ps k at_head qs

  pub join_map : IsMap (ps ++ (k, at_head) ∷ qs)
  join_map =
      let t : AscendsFrom 0 (keys_of (together p (ps ++ (k, at_head) ∷ qs))) = rw join_whole s in
      heads_rise 0 (ps ++ (k, at_head) ∷ qs) (omega arith) (keys_back 0 p.entries (entries_of (ps ++ (k, at_head) ∷ qs)) t)

  pub join_part : IsPart b p (ps ++ (k, at_head) ∷ qs)
  join_part = record {
    ascending = rw join_whole s;
    front = left.front;
    each =
        let chunk : IsChunk b (k, at_head) = record { head = head; base = refl; tail = right.front } in
        all_append (IsChunk b) ps ((k, at_head) ∷ qs) left.each (All-cons (IsChunk b) (k, at_head) qs chunk right.each);
  }

-- pieces after pieces
module _ (b : ℕ) (p : BasedList) (ps qs : List (ℕ × HeadValue)) (left : IsPart b p ps) (right : All (IsChunk b) qs) (s : Ascends None (keys_of (together p ps ++ entries_of qs))) where
  pub more_map : IsMap (ps ++ qs)
  more_map =
      let t : AscendsFrom 0 (keys_of (together p (ps ++ qs))) = rw (together_more p ps qs) s in
      heads_rise 0 (ps ++ qs) (omega arith) (keys_back 0 p.entries (entries_of (ps ++ qs)) t)

  pub more_part : IsPart b p (ps ++ qs)
  more_part = record { ascending = rw (together_more p ps qs) s; front = left.front; each = all_append (IsChunk b) ps qs left.each right }

-- parts as values, with a head between them
pub over_head : (front : List (ℕ × ℤ)) (k : ℕ) (w : ℤ) (o : ChunkedSet) (b : ℕ) (q : BasedList) (qs : Balanced HeadValue) → in_chunks b q qs ≡ o → Ascends None (keys_of (front ++ (k, w) ∷ o.entries))
    → Ascends (Some k) (keys_of q.entries)
over_head front k w o b q qs e s =
    let t : Ascends None (keys_of (front ++ (k, w) ∷ together q qs.entries)) = rw (ap (λ (v : ChunkedSet). v.entries) e) s in
    keys_front (k + 1) q.entries (entries_of qs.entries) (keys_after (k, w) (together q qs.entries) 0 front t)

module _ (b b' : ℕ) (p : BasedList) (ps : Balanced HeadValue) (k : ℕ) (w : ℤ) (q : BasedList) (qs : Balanced HeadValue) (left : IsPart b p ps.entries) (right : IsPart b' q qs.entries)
    (s o : ChunkedSet) (e : in_chunks b p ps ≡ s) (f : in_chunks b' q qs ≡ o) (sizes : o.chunk_size ≡ s.chunk_size) (head : is_head s.chunk_size k ≡ true)
    (up : Ascends None (keys_of (s.entries ++ (k, w) ∷ o.entries))) (v : HeadValue) (is : v ≡ head_value w (based_list (Some k) q.entries)) where
  same_size : b' ≡ b
  same_size = ap (λ (c : ChunkedSet). c.chunk_size) f ∙ sizes ∙ sym (ap (λ (c : ChunkedSet). c.chunk_size) e)

  right' : IsPart b q qs.entries
  right' = rw same_size at right

  head' : is_head b k ≡ true
  head' = ap (λ (c : ChunkedSet). is_head c.chunk_size k) e ∙ head

  up' : Ascends None (keys_of (together p ps.entries ++ (k, w) ∷ together q qs.entries))
  up' = rw (ap (λ (c : ChunkedSet). c.entries) e, ap (λ (c : ChunkedSet). c.entries) f) up

  pub joined_map : IsMap (ps.entries ++ (k, v) ∷ qs.entries)
  joined_map = rw is (join_map b p ps.entries k w q qs.entries left right' head' up')

  pub joined_part : (cs : List (ℕ × HeadValue)) → cs ≡ ps.entries ++ (k, v) ∷ qs.entries → IsPart b p cs
  joined_part cs d = rw (d, is) (join_part b p ps.entries k w q qs.entries left right' head' up')

  pub joined_whole : (new : ChunkedSet) (cs : Balanced HeadValue) → new ≡ in_chunks b p cs → cs.entries ≡ ps.entries ++ (k, v) ∷ qs.entries → IsSetOf (s.entries ++ (k, w) ∷ o.entries) s.chunk_size new
  joined_whole new cs made d =
      rw made (record {
        entries =
            rw (d, is) (join_whole b p ps.entries k w q qs.entries left right' head' up'
            ∙ ap (λ (c : ChunkedSet). c.entries ++ (k, w) ∷ together q qs.entries) e
            ∙ ap (λ (c : ChunkedSet). s.entries ++ (k, w) ∷ c.entries) f);
        chunk_size = ap (λ (c : ChunkedSet). c.chunk_size) e;
      })

-- parts after parts, of which the first have all that stands before the heads of the second
module _ (b b' : ℕ) (p : BasedList) (ps : Balanced HeadValue) (q : BasedList) (qs : Balanced HeadValue) (left : IsPart b p ps.entries) (right : IsPart b' q qs.entries) (s o front : ChunkedSet)
    (f : in_chunks b' q qs ≡ o) (sizes : o.chunk_size ≡ s.chunk_size) (up : Ascends None (keys_of (s.entries ++ o.entries))) (e : in_chunks b p ps ≡ front)
    (is : IsSetOf (s.entries ++ q.entries) s.chunk_size front) where
  size_one : b ≡ s.chunk_size
  size_one = ap (λ (c : ChunkedSet). c.chunk_size) e ∙ is.chunk_size

  whole_two : together p ps.entries ++ entries_of qs.entries ≡ s.entries ++ o.entries
  whole_two =
      ap (λ es. es ++ entries_of qs.entries) (ap (λ (c : ChunkedSet). c.entries) e ∙ is.entries)
      ∙ append_assoc s.entries q.entries (entries_of qs.entries)
      ∙ ap (λ (c : ChunkedSet). s.entries ++ c.entries) f

  size_two : b' ≡ b
  size_two = ap (λ (c : ChunkedSet). c.chunk_size) f ∙ sizes ∙ sym size_one

  each_two : All (IsChunk b) qs.entries
  each_two = rw size_two at right.each

  pub two_map : IsMap (ps.entries ++ qs.entries)
  two_map = more_map b p ps.entries qs.entries left each_two (rw whole_two up)

  pub two_part : (cs : List (ℕ × HeadValue)) → cs ≡ ps.entries ++ qs.entries → IsPart b p cs
  two_part cs d = rw d (more_part b p ps.entries qs.entries left each_two (rw whole_two up))

  pub two_whole : (new : ChunkedSet) (cs : Balanced HeadValue) → new ≡ in_chunks b p cs → cs.entries ≡ ps.entries ++ qs.entries → IsSetOf (s.entries ++ o.entries) s.chunk_size new
  two_whole new cs made d =
      rw made (record { entries = rw d (together_more p ps.entries qs.entries ∙ whole_two); chunk_size = size_one })

-- more entries may stand before the heads of parts that come after others
pub more_ascends : (es : List (ℕ × ℤ)) (o : ChunkedSet) (b : ℕ) (q : BasedList) (qs : Balanced HeadValue) → in_chunks b q qs ≡ o → Ascends None (keys_of (es ++ o.entries))
    → Ascends None (keys_of (es ++ q.entries))
more_ascends es o b q qs e s =
    let t : Ascends None (keys_of (es ++ together q qs.entries)) = rw (ap (λ (c : ChunkedSet). c.entries) e) s in
    keys_front 0 (es ++ q.entries) (entries_of qs.entries) (rw (append_assoc es q.entries (entries_of qs.entries)) t)

-- a part after the head at the root of another, with more entries after it
module _ (s l : ChunkedSet) (k : ℕ) (w : ℤ) (r : ChunkedSet) (root : IsRoot s l k w r) (base : Option ℕ) (more : List (ℕ × ℤ)) (up : Ascends base (keys_of (s.entries ++ more))) where
  with_root : s.entries ++ more ≡ l.entries ++ (k, w) ∷ (r.entries ++ more)
  with_root = ap (λ v. v ++ more) root.entries ∙ append_assoc l.entries ((k, w) ∷ r.entries) more

  pub more_over : Ascends (Some k) (keys_of (r.entries ++ more))
  more_over = keys_after (k, w) (r.entries ++ more) (least base) l.entries (rw with_root at up)

  pub more_join : Ascends None (keys_of (l.entries ++ (k, w) ∷ (r.entries ++ more)))
  more_join = ascends_from 0 (least base) (keys_of (l.entries ++ (k, w) ∷ (r.entries ++ more))) (omega arith) (rw with_root at up)

  pub more_whole : (right new : ChunkedSet) → IsSetOf (r.entries ++ more) r.chunk_size right → IsSetOf (l.entries ++ (k, w) ∷ right.entries) l.chunk_size new
      → IsSetOf (s.entries ++ more) s.chunk_size new
  more_whole right new e f = record {
    entries = f.entries ∙ ap (λ v. l.entries ++ (k, w) ∷ v) e.entries ∙ sym with_root;
    chunk_size = f.chunk_size ∙ root.left_size;
  }

pub root_smaller : (s l : ChunkedSet) (k : ℕ) (w : ℤ) (r : ChunkedSet) → IsRoot s l k w r → (length l.entries < length s.entries) × (length r.entries < length s.entries)
root_smaller s l k w r root =
    let e = ap length root.entries in
    (omega (arith, e, length-append l.entries ((k, w) ∷ r.entries)), omega (arith, e, length-append l.entries ((k, w) ∷ r.entries)))
