-- Vectors that agree at a vertex agree there after changes that are the same there.
use Rattle.std.proofs.Common.{◌≡◌, ℕ, ◌<◌, ◌≤◌, ◌==◌, ℤ, pos, Bool, true, false, cond, List, [], ◌∷◌, length, slice_index_or, inl, inr, refl, ap, sym, ◌∙◌, arith}
use Rattle.std.proofs.lemmas.Bool.Decides.{leb_tells}
use Rattle.std.proofs.lemmas.List.{get_or_past}
use Rattle.kernels.specs.Value.{entry}
use Rattle.vectors.specs.declared.changes.EntryChange.{EntryChange}
use Rattle.vectors.specs.declared.changes.VectorChanges.{VectorChanges}
use Rattle.vectors.specs.Changes.{with_all_changes}
use Rattle.edge_fold.specs.Changed.{AreApart, changes_of}
use Rattle.follow_engine.specs.Local.{AgreeAt}
use Rattle.follow_engine.specs.Spliced.{changes_at}
use Rattle.runner.proofs.WrittenChanges.{count_after_all, entry_after_all, number_after, rows_after_all}
use Rattle.run_records.specs.inside.Rows.{HaveRows}

-- what changes make of an entry depends on those at its vertex alone
number_one : (c : EntryChange) (cs : List EntryChange) (v : ℕ) (n : ℤ) (b : Bool) → (c.vertex == v) ≡ b
    → ((k : ℤ) → number_after cs v k ≡ number_after (changes_at v cs) v k)
    → number_after cs v (cond b c.number n) ≡ number_after (cond b (c ∷ changes_at v cs) (changes_at v cs)) v n
number_one c cs v n true is more = more c.number ∙ ap (λ (t : Bool). number_after (changes_at v cs) v (cond t c.number n)) (sym is)
number_one c cs v n false is more = more n

number_at : (cs : List EntryChange) (v : ℕ) (n : ℤ) → number_after cs v n ≡ number_after (changes_at v cs) v n
number_at [] v n = refl
number_at (c ∷ cs) v n = number_one c cs v n (c.vertex == v) refl (number_at cs v)

-- a row after changes has as many entries
pub rows_stay : (count n : ℕ) (vectors : List (List ℤ)) (cs : List VectorChanges) → HaveRows count n vectors → HaveRows count n (with_all_changes cs vectors)
rows_stay count n vectors cs has = record {
  count = count_after_all cs vectors ∙ has.count;
  rows = λ x inside. rows_after_all cs vectors x ∙ has.rows x inside;
}

-- there is no entry past the vectors, and none past the rows
no_vector : (vectors : List (List ℤ)) (x v : ℕ) → length vectors ≤ x → entry vectors x v ≡ pos 0
no_vector vectors x v past = ap (λ (xs : List ℤ). slice_index_or xs v (pos 0)) (get_or_past vectors x [] past)

no_entry : (vectors : List (List ℤ)) (x v : ℕ) → length (slice_index_or vectors x []) ≤ v → entry vectors x v ≡ pos 0
no_entry vectors x v past = get_or_past (slice_index_or vectors x []) v (pos 0) past

-- outside the changes that differ, vectors that agree do so after the changes
pub agree_after : (count n : ℕ) (vectors kept : List (List ℤ)) (cs ds : List VectorChanges) (v : ℕ) → HaveRows count n vectors → HaveRows count n kept
    → AreApart cs → AreApart ds → AgreeAt vectors kept v
    → (v < n → (x : ℕ) → changes_at v (changes_of x cs) ≡ changes_at v (changes_of x ds))
    → AgreeAt (with_all_changes cs vectors) (with_all_changes ds kept) v
agree_after count n vectors kept cs ds v rows rows_kept once once_kept agree same x =
    let after = rows_stay count n vectors cs rows in
    let kept_after = rows_stay count n kept ds rows_kept in
    let is = after.count in
    let is_kept = kept_after.count in
    elim (leb_tells count x) [
      | inl h ↦ (let past = h.1 in no_vector (with_all_changes cs vectors) x v (omega (arith, past, is)) ∙ sym (no_vector (with_all_changes ds kept) x v (omega (arith, past, is_kept))))
      | inr h ↦ (let inside = h.1 in
          let long = after.rows x inside in
          let long_kept = kept_after.rows x inside in
          let first = rows.rows x inside in
          let first_kept = rows_kept.rows x inside in
          elim (leb_tells n v) [
            | inl k ↦ (let past = k.1 in no_entry (with_all_changes cs vectors) x v (omega (arith, past, long)) ∙ sym (no_entry (with_all_changes ds kept) x v (omega (arith, past, long_kept))))
            | inr k ↦ (let below = k.1 in
                entry_after_all cs vectors x v once (omega (arith, below, first))
                ∙ number_at (changes_of x cs) v (entry vectors x v)
                ∙ ap (λ (is : List EntryChange). number_after is v (entry vectors x v)) (same below x)
                ∙ ap (λ (n : ℤ). number_after (changes_at v (changes_of x ds)) v n) (agree x)
                ∙ sym (number_at (changes_of x ds) v (entry kept x v))
                ∙ sym (entry_after_all ds kept x v once_kept (omega (arith, below, first_kept))))
          ])
    ]

-- past the rows they agree
pub agree_past : (count n : ℕ) (vectors kept : List (List ℤ)) (v : ℕ) → HaveRows count n vectors → HaveRows count n kept → n ≤ v → AgreeAt vectors kept v
agree_past count n vectors kept v has has_kept past x =
    let is = has.count in
    let is_kept = has_kept.count in
    elim (leb_tells count x) [
      | inl h ↦ (let over = h.1 in no_vector vectors x v (omega (arith, over, is)) ∙ sym (no_vector kept x v (omega (arith, over, is_kept))))
      | inr h ↦ (let inside = h.1 in
          let long = has.rows x inside in
          let long_kept = has_kept.rows x inside in
          no_entry vectors x v (omega (arith, past, long)) ∙ sym (no_entry kept x v (omega (arith, past, long_kept))))
    ]
