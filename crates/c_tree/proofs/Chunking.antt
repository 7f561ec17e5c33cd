-- Entries cut at their heads, and put together again.
use Rattle.std.proofs.Common.{◌≡◌, ℕ, ℤ, true, false, inl, inr, Some, List, [], ◌∷◌, ◌++◌, refl, sym, ◌∙◌, ap}
use Rattle.std.specs.List.{All}
use Rattle.std.specs.Map.{keys_of}
use Rattle.std.proofs.lemmas.Bool.{cases_Bool}
use Rattle.std.proofs.lemmas.List.{append-nil}
use Rattle.std.proofs.lemmas.List.Elements.{All-nil, All-cons, All-head, All-tail}
use Rattle.tail_codec.specs.Spelling.{BasedList, based_list}
use Rattle.c_tree.specs.Heads.{is_head}
use Rattle.c_tree.specs.Chunks.{HeadValue, head_value, before_head, prefix_of, chunks_of, HasNoHead}
use Rattle.c_tree.specs.inside.Chunks.{entries_of, together, IsChunk, IsChunking}
use Rattle.c_tree.specs.inside.Cutting.{from_head}

module _ (b : ℕ) where
  -- what stands before the first head and what stands from it on
  pub cut_at_head : (es : List (ℕ × ℤ)) → before_head b es ++ from_head b es ≡ es
  cut_at_head [] = refl
  cut_at_head (e ∷ es) = elim (cases_Bool (is_head b e.0)) [ inl h ↦ rw h refl | inr h ↦ rw h (ap (λ v. e ∷ v) (cut_at_head es)) ]

  pub none_before_head : (es : List (ℕ × ℤ)) → HasNoHead b (before_head b es)
  none_before_head [] = All-nil (λ k. is_head b k ≡ false)
  none_before_head (e ∷ es) =
      elim (cases_Bool (is_head b e.0)) [
        | inl h ↦ rw h (All-nil (λ k. is_head b k ≡ false))
        | inr h ↦ rw h (All-cons (λ k. is_head b k ≡ false) e.0 (keys_of (before_head b es)) h (none_before_head es))
      ]

  -- nothing stands before a head
  pub before_from_head : (es : List (ℕ × ℤ)) → before_head b (from_head b es) ≡ []
  before_from_head [] = refl
  before_from_head (e ∷ es) = elim (cases_Bool (is_head b e.0)) [ inl h ↦ rw h (rw h refl) | inr h ↦ rw h (before_from_head es) ]

  pub chunks_from_head : (es : List (ℕ × ℤ)) → chunks_of b (from_head b es) ≡ chunks_of b es
  chunks_from_head [] = refl
  chunks_from_head (e ∷ es) = elim (cases_Bool (is_head b e.0)) [ inl h ↦ rw h (rw h refl) | inr h ↦ rw h (chunks_from_head es) ]

  -- a list before whose first head nothing stands begins with a head
  pub head_first : (e : ℕ × ℤ) (es : List (ℕ × ℤ)) → before_head b (e ∷ es) ≡ [] → is_head b e.0 ≡ true
  head_first e es none = elim (cases_Bool (is_head b e.0)) [ inl h ↦ h | inr h ↦ let f = rw h at none in cc ]

  pub chunks_at_head : (e : ℕ × ℤ) (es : List (ℕ × ℤ)) → is_head b e.0 ≡ true → chunks_of b (e ∷ es) ≡ (e.0, head_value e.1 (based_list (Some e.0) (before_head b es))) ∷ chunks_of b es
  chunks_at_head e es h = rw h refl

  -- prefix, heads and tails put together give the list back
  pub whole_again : (es : List (ℕ × ℤ)) → es ≡ together (prefix_of b es) (chunks_of b es)
  whole_again [] = refl
  whole_again (e ∷ es) = elim (cases_Bool (is_head b e.0)) [ inl h ↦ rw h (ap (λ v. e ∷ v) (whole_again es)) | inr h ↦ rw h (ap (λ v. e ∷ v) (whole_again es)) ]

  pub are_chunks : (es : List (ℕ × ℤ)) → All (IsChunk b) (chunks_of b es)
  are_chunks [] = All-nil (IsChunk b)
  are_chunks (e ∷ es) =
      elim (cases_Bool (is_head b e.0)) [
        | inl h ↦
            let v = head_value e.1 (based_list (Some e.0) (before_head b es)) in
            let chunk : IsChunk b (e.0, v) = record { head = h; base = refl; tail = none_before_head es } in
            rw h (All-cons (IsChunk b) (e.0, v) (chunks_of b es) chunk (are_chunks es))
        | inr h ↦ rw h (are_chunks es)
      ]

  pub chunking : (es : List (ℕ × ℤ)) → IsChunking b es (prefix_of b es) (chunks_of b es)
  chunking es = record { whole = whole_again es; base = refl; front = none_before_head es; each = are_chunks es }

  -- entries whose keys are no heads, before others
  before_more : (p r : List (ℕ × ℤ)) → HasNoHead b p → before_head b (p ++ r) ≡ p ++ before_head b r
  before_more [] r none = refl
  before_more (e ∷ p) r none =
      let h : is_head b e.0 ≡ false = All-head (λ k. is_head b k ≡ false) e.0 (keys_of p) none in
      rw h (ap (λ v. e ∷ v) (before_more p r (All-tail (λ k. is_head b k ≡ false) e.0 (keys_of p) none)))

  chunks_after : (p r : List (ℕ × ℤ)) → HasNoHead b p → chunks_of b (p ++ r) ≡ chunks_of b r
  chunks_after [] r none = refl
  chunks_after (e ∷ p) r none =
      let h : is_head b e.0 ≡ false = All-head (λ k. is_head b k ≡ false) e.0 (keys_of p) none in
      rw h (chunks_after p r (All-tail (λ k. is_head b k ≡ false) e.0 (keys_of p) none))

  -- nothing stands before chunks
  before_chunks : (cs : List (ℕ × HeadValue)) → All (IsChunk b) cs → before_head b (entries_of cs) ≡ []
  before_chunks [] each = refl
  before_chunks (c ∷ cs) each = rw (All-head (IsChunk b) c cs each).head refl

  append_nothing : (p r : List (ℕ × ℤ)) → r ≡ [] → p ++ r ≡ p
  append_nothing p r e = rw e (append-nil p)

  tail_again : (c : ℕ × HeadValue) (cs : List (ℕ × HeadValue)) → IsChunk b c → All (IsChunk b) cs
      → (c.0, head_value c.1.weight (based_list (Some c.0) (before_head b (c.1.tail.entries ++ entries_of cs)))) ≡ c
  tail_again (k, v) cs is each =
      let e : before_head b (v.tail.entries ++ entries_of cs) ≡ v.tail.entries =
      before_more v.tail.entries (entries_of cs) is.tail ∙ append_nothing v.tail.entries _ (before_chunks cs each) in
      rw (e, ← is.base) refl

  chunks_again : (cs : List (ℕ × HeadValue)) → All (IsChunk b) cs → chunks_of b (entries_of cs) ≡ cs
  chunks_again [] each = refl
  chunks_again (c ∷ cs) each =
      let is = All-head (IsChunk b) c cs each in
      let rest = All-tail (IsChunk b) c cs each in
      chunks_at_head (c.0, c.1.weight) (c.1.tail.entries ++ entries_of cs) is.head
      ∙ ap (λ d. d ∷ chunks_of b (c.1.tail.entries ++ entries_of cs)) (tail_again c cs is rest)
      ∙ ap (λ v. c ∷ v) (chunks_after c.1.tail.entries (entries_of cs) is.tail ∙ chunks_again cs rest)

  -- the chunks that stand in a list are those that it was put together from
  pub chunks_together : (p : BasedList) (cs : List (ℕ × HeadValue)) → HasNoHead b p.entries → All (IsChunk b) cs → chunks_of b (together p cs) ≡ cs
  chunks_together p cs front each = chunks_after p.entries (entries_of cs) front ∙ chunks_again cs each

  -- a list has one chunking
  pub one_prefix : (es : List (ℕ × ℤ)) (p : BasedList) (cs : List (ℕ × HeadValue)) → IsChunking b es p cs → p ≡ prefix_of b es
  one_prefix es p cs is =
      let e : before_head b es ≡ p.entries =
      ap (before_head b) is.whole ∙ before_more p.entries (entries_of cs) is.front ∙ append_nothing p.entries _ (before_chunks cs is.each) in
      rw (e, ← is.base) refl

  pub one_chunks : (es : List (ℕ × ℤ)) (p : BasedList) (cs : List (ℕ × HeadValue)) → IsChunking b es p cs → cs ≡ chunks_of b es
  one_chunks es p cs is =
      sym (ap (chunks_of b) is.whole ∙ chunks_together p cs is.front is.each)
