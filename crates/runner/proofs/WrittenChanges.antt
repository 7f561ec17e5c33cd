-- Vectors after changes were written, entry by entry.
use Rattle.std.proofs.Common.{◌≡◌, ℕ, zero, suc, ◌+◌, ◌<◌, ◌≤◌, ◌==◌, ℤ, pos, Bool, true, false, cond, ◌||◌, List, [], ◌∷◌, ◌++◌, length, slice_index_or, inl, inr, refl, sym, ap, ◌∙◌, subst, arith}
use Rattle.std.proofs.lemmas.Bool.{false≢true}
use Rattle.std.proofs.lemmas.Bool.Decides.{nat_tests, leb_tells}
use Rattle.std.proofs.lemmas.Int.{ints}
use Rattle.algorithm_meaning.specs.Arithmetic.{int_equal}
use Rattle.algorithm_meaning.specs.Value.{entry, with_entry}
use Rattle.algorithm_meaning.proofs.WrittenEntries.{entry_written, entry_elsewhere, entry_of_other, length_stays}
use Rattle.edge_fold.specs.Changed.{AreApart, change_at, changed, changed_from, changes_of, is_named}
use Rattle.vectors.specs.declared.changes.EntryChange.{EntryChange}
use Rattle.vectors.specs.declared.changes.VectorChanges.{VectorChanges}
use Rattle.vectors.specs.Changes.{with_all_changes, with_changes}
use Rattle.vectors.proofs.Layouts.{same_lists}

-- what changes of a vector make of the entry at a vertex
abbrev pub number_after : List EntryChange → ℕ → ℤ → ℤ
number_after [] v n = n
number_after (c ∷ cs) v n = number_after cs v (cond (c.vertex == v) c.number n)

same_number : (m n : ℕ) → (m == n) ≡ true → m ≡ n
same_number m n h = grind (arith, nat_tests)

apart_numbers : (m n : ℕ) → m < n → (m == n) ≡ false
apart_numbers m n h = grind (arith, nat_tests)

equal_itself : (n : ℕ) → (n == n) ≡ true
equal_itself n = grind (arith, nat_tests)

still_inside : (v m n : ℕ) → m ≡ n → v < n → v < m
still_inside v m n e h = omega (arith, e, h)

rows_after_changes : (vector : ℕ) (cs : List EntryChange) (vectors : List (List ℤ)) (x : ℕ) → length (slice_index_or (with_changes vector cs vectors) x []) ≡ length (slice_index_or vectors x [])
rows_after_changes vector [] vectors x = refl
rows_after_changes vector (c ∷ cs) vectors x =
    rows_after_changes vector cs (with_entry vectors vector c.vertex c.number) x ∙ length_stays vectors vector c.vertex c.number x

pub rows_after_all : (cs : List VectorChanges) (vectors : List (List ℤ)) (x : ℕ) → length (slice_index_or (with_all_changes cs vectors) x []) ≡ length (slice_index_or vectors x [])
rows_after_all [] vectors x = refl
rows_after_all (c ∷ cs) vectors x = rows_after_all cs (with_changes c.vector c.changes.items vectors) x ∙ rows_after_changes c.vector c.changes.items vectors x

pub count_after_entry : (vectors : List (List ℤ)) (vector v : ℕ) (n : ℤ) → length (with_entry vectors vector v n) ≡ length vectors
count_after_entry [] vector v n = refl
count_after_entry (xs ∷ more) zero v n = refl
count_after_entry (xs ∷ more) (suc x) v n = ap suc (count_after_entry more x v n)

count_after_changes : (vector : ℕ) (cs : List EntryChange) (vectors : List (List ℤ)) → length (with_changes vector cs vectors) ≡ length vectors
count_after_changes vector [] vectors = refl
count_after_changes vector (c ∷ cs) vectors =
    count_after_changes vector cs (with_entry vectors vector c.vertex c.number) ∙ count_after_entry vectors vector c.vertex c.number

pub count_after_all : (cs : List VectorChanges) (vectors : List (List ℤ)) → length (with_all_changes cs vectors) ≡ length vectors
count_after_all [] vectors = refl
count_after_all (c ∷ cs) vectors = count_after_all cs (with_changes c.vector c.changes.items vectors) ∙ count_after_changes c.vector c.changes.items vectors

one_entry : (c : EntryChange) (vectors : List (List ℤ)) (x v : ℕ) (b : Bool) → (c.vertex == v) ≡ b → v < length (slice_index_or vectors x [])
    → entry (with_entry vectors x c.vertex c.number) x v ≡ cond (c.vertex == v) c.number (entry vectors x v)
one_entry c vectors x v true e h =
    ap (λ (u : ℕ). entry (with_entry vectors x u c.number) x v) (same_number c.vertex v e)
    ∙ entry_written vectors x v c.number h
    ∙ sym (ap (λ (t : Bool). cond t c.number (entry vectors x v)) e)
one_entry c vectors x v false e h =
    entry_elsewhere vectors x c.vertex c.number x v e ∙ sym (ap (λ (t : Bool). cond t c.number (entry vectors x v)) e)

-- an entry after the changes of its vector
entry_after_changes : (x : ℕ) (cs : List EntryChange) (vectors : List (List ℤ)) (v : ℕ) → v < length (slice_index_or vectors x [])
    → entry (with_changes x cs vectors) x v ≡ number_after cs v (entry vectors x v)
entry_after_changes x [] vectors v h = refl
entry_after_changes x (c ∷ cs) vectors v h =
    let next = with_entry vectors x c.vertex c.number in
    entry_after_changes x cs next v (still_inside v (length (slice_index_or next x [])) (length (slice_index_or vectors x [])) (length_stays vectors x c.vertex c.number x) h)
    ∙ ap (λ (n : ℤ). number_after cs v n) (one_entry c vectors x v (c.vertex == v) refl h)

-- after those of another one
entry_beside : (y : ℕ) (cs : List EntryChange) (vectors : List (List ℤ)) (x v : ℕ) → (y == x) ≡ false → entry (with_changes y cs vectors) x v ≡ entry vectors x v
entry_beside y [] vectors x v apart = refl
entry_beside y (c ∷ cs) vectors x v apart =
    entry_beside y cs (with_entry vectors y c.vertex c.number) x v apart ∙ entry_of_other vectors y c.vertex c.number x v apart

not_first : (a b : Bool) → a || b ≡ false → a ≡ false
not_first true b e = e
not_first false b e = refl

not_second : (a b : Bool) → a || b ≡ false → b ≡ false
not_second true b e = absurd (false≢true (sym e))
not_second false b e = e

-- an entry of a vector without changes
entry_unnamed : (cs : List VectorChanges) (vectors : List (List ℤ)) (x v : ℕ) → is_named x cs ≡ false → entry (with_all_changes cs vectors) x v ≡ entry vectors x v
entry_unnamed [] vectors x v unnamed = refl
entry_unnamed (c ∷ cs) vectors x v unnamed =
    entry_unnamed cs (with_changes c.vector c.changes.items vectors) x v (not_second (c.vector == x) (is_named x cs) unnamed)
    ∙ entry_beside c.vector c.changes.items vectors x v (not_first (c.vector == x) (is_named x cs) unnamed)

after_first : (c : VectorChanges) (cs : List VectorChanges) (vectors : List (List ℤ)) (x v : ℕ) (b : Bool) → (c.vector == x) ≡ b → is_named c.vector cs ≡ false
    → v < length (slice_index_or vectors x [])
    → entry (with_all_changes cs (with_changes c.vector c.changes.items vectors)) x v ≡ number_after (changes_of x cs) v (entry (with_changes c.vector c.changes.items vectors) x v)
    → entry (with_all_changes cs (with_changes c.vector c.changes.items vectors)) x v ≡ number_after (cond (c.vector == x) c.changes.items (changes_of x cs)) v (entry vectors x v)
after_first c cs vectors x v true e once h others =
    let same = same_number c.vector x e in
    entry_unnamed cs (with_changes c.vector c.changes.items vectors) x v (subst (λ (y : ℕ). is_named y cs ≡ false) same once)
    ∙ ap (λ (y : ℕ). entry (with_changes y c.changes.items vectors) x v) same
    ∙ entry_after_changes x c.changes.items vectors v h
    ∙ sym (ap (λ (t : Bool). number_after (cond t c.changes.items (changes_of x cs)) v (entry vectors x v)) e)
after_first c cs vectors x v false e once h others =
    others
    ∙ ap (λ (n : ℤ). number_after (changes_of x cs) v n) (entry_beside c.vector c.changes.items vectors x v e)
    ∙ sym (ap (λ (t : Bool). number_after (cond t c.changes.items (changes_of x cs)) v (entry vectors x v)) e)

-- an entry after all changes, where each vector is there once
pub entry_after_all : (cs : List VectorChanges) (vectors : List (List ℤ)) (x v : ℕ) → AreApart cs → v < length (slice_index_or vectors x [])
    → entry (with_all_changes cs vectors) x v ≡ number_after (changes_of x cs) v (entry vectors x v)
entry_after_all [] vectors x v apart h = refl
entry_after_all (c ∷ cs) vectors x v apart h =
    let next = with_changes c.vector c.changes.items vectors in
    let long = rows_after_changes c.vector c.changes.items vectors x in
    after_first c cs vectors x v (c.vector == x) refl apart.0 h
    (entry_after_all cs next x v apart.1 (still_inside v (length (slice_index_or next x [])) (length (slice_index_or vectors x [])) long h))

number_after-append : (cs ds : List EntryChange) (v : ℕ) (n : ℤ) → number_after (cs ++ ds) v n ≡ number_after ds v (number_after cs v n)
number_after-append [] ds v n = refl
number_after-append (c ∷ cs) ds v n = number_after-append cs ds v (cond (c.vertex == v) c.number n)

change_elsewhere : (u v : ℕ) (x n : ℤ) (b : Bool) → (u == v) ≡ false → number_after (cond b [] (record { vertex = u; number = x } ∷ [])) v n ≡ n
change_elsewhere u v x n true e = refl
change_elsewhere u v x n false e = ap (λ (t : Bool). cond t x n) e

equal_ints : (a b : ℤ) → int_equal a b ≡ true → a ≡ b
equal_ints a b e = grind (arith, ints, nat_tests)

change_here : (v : ℕ) (old new : ℤ) (b : Bool) → int_equal old new ≡ b → number_after (cond b [] (record { vertex = v; number = new } ∷ [])) v old ≡ new
change_here v old new true e = equal_ints old new e
change_here v old new false e = ap (λ (t : Bool). cond t new old) (equal_itself v)

-- the changes of these vertices leave another one alone
number_outside : (old new : ℕ → ℤ) (a count v : ℕ) (n : ℤ) → ((u : ℕ) → a ≤ u → u < a + count → (u == v) ≡ false) → number_after (changed_from old new a count) v n ≡ n
unfolding changed_from
number_outside old new a zero v n apart = refl
number_outside old new a (suc count) v n apart =
    number_after-append (change_at old new a) (changed_from old new (a + 1) count) v n
    ∙ ap (λ (k : ℤ). number_after (changed_from old new (a + 1) count) v k) (change_elsewhere a v (new a) n (int_equal (old a) (new a)) (apart a (omega arith) (omega arith)))
    ∙ number_outside old new (a + 1) count v n (λ u l h. apart u (omega (arith, l)) (omega (arith, h)))

changed_first : (old new : ℕ → ℤ) (a count v : ℕ) (b : Bool) → (a == v) ≡ b → a ≤ v
    → (a + 1 ≤ v → number_after (changed_from old new (a + 1) count) v (old v) ≡ new v)
    → number_after (changed_from old new (a + 1) count) v (number_after (change_at old new a) v (old v)) ≡ new v
changed_first old new a count v true e l later =
    let same = same_number a v e in
    ap (λ (k : ℤ). number_after (changed_from old new (a + 1) count) v k)
    (ap (λ (u : ℕ). number_after (change_at old new u) v (old v)) same ∙ change_here v (old v) (new v) (int_equal (old v) (new v)) refl)
    ∙ number_outside old new (a + 1) count v (new v) (λ u k h. after_it a v u same k)
  where
    after_it : (a v u : ℕ) → a ≡ v → a + 1 ≤ u → (u == v) ≡ false
    after_it a v u same k = grind (arith, nat_tests)
changed_first old new a count v false e l later =
    ap (λ (k : ℤ). number_after (changed_from old new (a + 1) count) v k) (change_elsewhere a v (new a) (old v) (int_equal (old a) (new a)) e)
    ∙ later (after a v e l)
  where
    after : (a v : ℕ) → (a == v) ≡ false → a ≤ v → a + 1 ≤ v
    after a v e l = grind (arith, nat_tests)

-- the changes of these vertices make the old entry of one of them its new one
number_inside : (old new : ℕ → ℤ) (a count v : ℕ) → a ≤ v → v < a + count → number_after (changed_from old new a count) v (old v) ≡ new v
unfolding changed_from
number_inside old new a zero v l h = absurd (omega (arith, l, h))
number_inside old new a (suc count) v l h =
    number_after-append (change_at old new a) (changed_from old new (a + 1) count) v (old v)
    ∙ changed_first old new a count v (a == v) refl l (λ k. number_inside old new (a + 1) count v k (omega (arith, h)))

-- where each vector is there once, the changes that differ make the vectors before into those after
pub changes_make : (n : ℕ) (cs : List VectorChanges) (before after : List (List ℤ)) → AreApart cs → length after ≡ length before
    → ((x : ℕ) → length (slice_index_or after x []) ≡ length (slice_index_or before x []))
    → ((x v : ℕ) → n ≤ v → entry after x v ≡ entry before x v)
    → ((x : ℕ) → x < length before → changes_of x cs ≡ changed n (entry before x) (entry after x))
    → with_all_changes cs before ≡ after
changes_make n cs before after apart count rows beyond differing =
    let written = with_all_changes cs before in
    let same = count_after_all cs before in
    same_lists written after [] (same ∙ sym count) (λ x l.
    let inside : x < length before = omega (arith, same, l) in
    let old = entry before x in
    let new = entry after x in
    let long = rows_after_all cs before x in
    same_lists (slice_index_or written x []) (slice_index_or after x []) (pos 0) (long ∙ sym (rows x)) (λ v k.
    let there : v < length (slice_index_or before x []) = omega (arith, long, k) in
    entry_after_all cs before x v apart there
    ∙ ap (λ (ks : List EntryChange). number_after ks v (old v)) (differing x inside)
    ∙ elim (leb_tells n v) [
      | inl h ↦ (let past = h.1 in number_outside old new 0 n v (old v) (λ u a b. apart_numbers u v (omega (arith, past, b))) ∙ sym (beyond x v past))
      | inr h ↦ (let below = h.1 in number_inside old new 0 n v (omega arith) (omega (arith, below)))
    ]))
