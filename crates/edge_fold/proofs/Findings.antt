-- What is found in slots.
use Rattle.std.proofs.Common.{◌≡◌, ℕ, zero, suc, ◌+◌, ◌<◌, ◌==◌, ℤ, Bool, true, false, cond, ◌||◌, if◌then◌else◌, List, [], ◌∷◌, ◌++◌, length, take, get_or, Contains, refl, sym, ap, ◌∙◌, arith, ◌⊎◌}
use Rattle.std.proofs.Common.{inl, inr, subst, append_assoc, IsTrue, ◌↔◌}
use Rattle.std.proofs.lemmas.Bool.Decides.{nat_tests}
use Rattle.std.proofs.lemmas.Bool.{false≢true}
use Rattle.std.specs.List.{filter}
use Rattle.std.proofs.lemmas.List.Elements.{filter_more}
use Rattle.std.specs.List.Sorted.{IsNonDecreasing, IsStrictlyIncreasing}
use Rattle.std.proofs.lemmas.List.Folds.{Any-from_list_any, list_any_at}
use Rattle.algorithm_meaning.specs.EdgeApply.{is_member}
use Rattle.vertex_sets.proofs.Ascending.{contains_first, contains_later, contains_nothing, first_or_later, non_decreasing, rises_from_increasing}
use Rattle.vectors.specs.declared.changes.EntryChange.{EntryChange}
use Rattle.vectors.specs.declared.changes.VectorChanges.{VectorChanges}
use Rattle.edge_fold.specs.declared.vector_accumulator.VectorAccumulator.{VectorAccumulator}
use Rattle.edge_fold.specs.Changed.{AreApart, change_at, changed, changed_from, changes_or, is_named}
use Rattle.edge_fold.specs.inside.Held.{held}
use Rattle.edge_fold.specs.inside.VectorAccumulators.{held_in}
use Rattle.edge_fold.proofs.ChangedRows.{nothing_changed}

same : (m n : ℕ) → (m == n) ≡ true → m ≡ n
same m n h = grind (arith, nat_tests)

-- changes of entries that agree
pub changed_agree : (a b c d : ℕ → ℤ) → ((v : ℕ) → a v ≡ b v) → (v n : ℕ) → ((u : ℕ) → u < v + n → c u ≡ d u) → changed_from a c v n ≡ changed_from b d v n
unfolding changed_from
changed_agree a b c d old v zero new = refl
changed_agree a b c d old v (suc n) new =
    ap (λ (x : ℤ). change_at (λ _. x) (λ _. c v) v ++ changed_from a c (v + 1) n) (old v)
    ∙ ap (λ (x : ℤ). change_at (λ _. b v) (λ _. x) v ++ changed_from a c (v + 1) n) (new v (omega arith))
    ∙ ap (λ cs. change_at b d v ++ cs) (changed_agree a b c d old (v + 1) n (λ u l. new u (omega (arith, l))))

-- what the slots have for a vector
abbrev pub found_in : (n : ℕ) → (ℕ → ℕ → ℤ) → (ℕ → Bool) → List VectorAccumulator → (vector : ℕ) → List EntryChange
found_in n e test [] x = []
found_in n e test (s ∷ ss) x =
    cond (s.vector == x) (changed n (e s.vector) (λ v. if test v then held s.entries v (e s.vector v) else e s.vector v)) (found_in n e test ss x)

same_either : (b : Bool) (x : ℤ) → cond b x x ≡ x
same_either true x = refl
same_either false x = refl

found_at : (n : ℕ) (e : ℕ → ℕ → ℤ) (test : ℕ → Bool) (s : VectorAccumulator) (ss : List VectorAccumulator) (x : ℕ) (b : Bool) → (s.vector == x) ≡ b
    → found_in n e test ss x ≡ changed n (e x) (λ v. if test v then held_in ss x v (e x v) else e x v)
    → cond b (changed n (e s.vector) (λ v. if test v then held s.entries v (e s.vector v) else e s.vector v)) (found_in n e test ss x)
    ≡ changed n (e x) (λ v. if test v then cond b (held s.entries v (e x v)) (held_in ss x v (e x v)) else e x v)
found_at n e test s ss x true is more = ap (λ (y : ℕ). changed n (e y) (λ v. if test v then held s.entries v (e y v) else e y v)) (same s.vector x is)
found_at n e test s ss x false is more = more

pub found_is : (n : ℕ) (e : ℕ → ℕ → ℤ) (test : ℕ → Bool) (ss : List VectorAccumulator) (x : ℕ)
    → found_in n e test ss x ≡ changed n (e x) (λ v. if test v then held_in ss x v (e x v) else e x v)
found_is n e test [] x = sym (nothing_changed (e x) (λ v. if test v then e x v else e x v) 0 n (λ u a b. same_either (test u) (e x u)))
found_is n e test (s ∷ ss) x = found_at n e test s ss x (s.vector == x) refl (found_is n e test ss x)

-- one more vector
pub changes_or-push : (x : ℕ) (cs : List VectorChanges) (c : VectorChanges) (rest : List EntryChange)
    → changes_or x (cs ++ c ∷ []) rest ≡ changes_or x cs (cond (c.vector == x) c.changes.items rest)
changes_or-push x [] c rest = refl
changes_or-push x (d ∷ ds) c rest = ap (λ (r : List EntryChange). cond (d.vector == x) d.changes.items r) (changes_or-push x ds c rest)

-- a vector that has changes already
named_at : (x y : ℕ) (d : VectorChanges) (new rest now was : List EntryChange) (p q : Bool) → (d.vector == y) ≡ p → (d.vector == x) ≡ q → ((p ≡ false) → now ≡ was)
    → (p ≡ true → q ≡ false → (y == x) ≡ false) → ((y == x) ≡ false → now ≡ was)
    → cond q d.changes.items now ≡ cond q d.changes.items was
named_at x y d new rest now was p true at is more off other = refl
named_at x y d new rest now was true false at is more off other = other (off refl refl)
named_at x y d new rest now was false false at is more off other = more refl

apart_numbers : (k x y : ℕ) → (k == y) ≡ true → (k == x) ≡ false → (y == x) ≡ false
apart_numbers k x y on off = grind (arith, nat_tests)

not_its_own : (x y : ℕ) (cs : List VectorChanges) (new rest : List EntryChange) → (y == x) ≡ false → changes_or x cs (cond (y == x) new rest) ≡ changes_or x cs rest
not_its_own x y cs new rest off = ap (λ (b : Bool). changes_or x cs (cond b new rest)) off

skip_at : (p q : Bool) → p || q ≡ true → p ≡ false → q ≡ true
skip_at true q h e = absurd (false≢true (sym e))
skip_at false q h e = h

pub changes_or-skip : (x y : ℕ) (cs : List VectorChanges) (new rest : List EntryChange) → is_named y cs ≡ true → changes_or x cs (cond (y == x) new rest) ≡ changes_or x cs rest
changes_or-skip x y [] new rest named = absurd (false≢true named)
changes_or-skip x y (d ∷ ds) new rest named =
    named_at x y d new rest (changes_or x ds (cond (y == x) new rest)) (changes_or x ds rest) (d.vector == y) (d.vector == x) refl refl
    (λ e. changes_or-skip x y ds new rest (skip_at (d.vector == y) (is_named y ds) named e))
    (λ on off. apart_numbers d.vector x y on off)
    (λ off. not_its_own x y ds new rest off)

named_push_at : (x : ℕ) (d : VectorChanges) (ds : List VectorChanges) (c : VectorChanges) (b : Bool) → b || is_named x ds ≡ false → (is_named x ds ≡ false → is_named x (ds ++ c ∷ []) ≡ false)
    → b || is_named x (ds ++ c ∷ []) ≡ false
named_push_at x d ds c true none more = absurd (false≢true (sym none))
named_push_at x d ds c false none more = more none

first_off : (p q : Bool) → p || q ≡ false → p ≡ false
first_off true q h = h
first_off false q h = refl

rest_off : (p q : Bool) → p || q ≡ false → q ≡ false
rest_off true q h = absurd (false≢true (sym h))
rest_off false q h = h

turned : (m n : ℕ) → (m == n) ≡ false → (n == m) ≡ false
turned m n h = grind (arith, nat_tests)

named_push : (x : ℕ) (cs : List VectorChanges) (c : VectorChanges) → is_named x cs ≡ false → (c.vector == x) ≡ false → is_named x (cs ++ c ∷ []) ≡ false
named_push x [] c none off = ap (λ (b : Bool). b || false) off
named_push x (d ∷ ds) c none off = named_push_at x d ds c (d.vector == x) none (λ n. named_push x ds c n off)

pub apart_push : (cs : List VectorChanges) (c : VectorChanges) → is_named c.vector cs ≡ false → AreApart cs → AreApart (cs ++ c ∷ [])
apart_push [] c none apart = (refl, tt)
apart_push (d ∷ ds) c none apart = (
  named_push d.vector ds c apart.0 (turned d.vector c.vector (first_off (d.vector == c.vector) (is_named c.vector ds) none)),
  apart_push ds c (rest_off (d.vector == c.vector) (is_named c.vector ds) none) apart.1,
)

-- kept vertices
choose : {A B C : Type 0} → A ⊎ B → (A → C) → (B → C) → C
choose (inl a) f g = f a
choose (inr b) f g = g b

kept_at : (p : ℕ → Bool) (x v : ℕ) (xs : List ℕ) (b : Bool) → p x ≡ b → (Contains (filter p xs) v → p v ≡ true) → Contains (cond b (x ∷ filter p xs) (filter p xs)) v → p v ≡ true
kept_at p x v xs true is more has = choose (first_or_later x v (filter p xs) has) (λ e. ap p e ∙ is) more
kept_at p x v xs false is more has = more has

pub kept_passes : (p : ℕ → Bool) (xs : List ℕ) (v : ℕ) → Contains (filter p xs) v → p v ≡ true
kept_passes p [] v has = absurd (contains_nothing v has)
kept_passes p (x ∷ xs) v has = kept_at p x v xs (p x) refl (kept_passes p xs v) has

among_at : (p : ℕ → Bool) (x v : ℕ) (xs : List ℕ) (b : Bool) → (Contains (filter p xs) v → Contains xs v) → Contains (cond b (x ∷ filter p xs) (filter p xs)) v → Contains (x ∷ xs) v
among_at p x v xs true more has =
    choose (first_or_later x v (filter p xs) has) (λ e. subst (λ (y : ℕ). Contains (x ∷ xs) y) (sym e) (contains_first x xs)) (λ h. contains_later x v xs (more h))
among_at p x v xs false more has = contains_later x v xs (more has)

pub among_kept : (p : ℕ → Bool) (xs : List ℕ) (v : ℕ) → Contains (filter p xs) v → Contains xs v
among_kept p [] v has = has
among_kept p (x ∷ xs) v has = among_at p x v xs (p x) (among_kept p xs v) has

kept_if : (p : ℕ → Bool) (x v : ℕ) (xs : List ℕ) (b : Bool) → p x ≡ b → p v ≡ true → (Contains xs v → Contains (filter p xs) v) → Contains (x ∷ xs) v
    → Contains (cond b (x ∷ filter p xs) (filter p xs)) v
kept_if p x v xs true is on more has =
    choose (first_or_later x v xs has) (λ e. subst (λ (y : ℕ). Contains (x ∷ filter p xs) y) (sym e) (contains_first x (filter p xs))) (λ h. contains_later x v (filter p xs) (more h))
kept_if p x v xs false is on more has = choose (first_or_later x v xs has) (λ e. absurd (false≢true (sym is ∙ sym (ap p e) ∙ on))) more

pub passing_kept : (p : ℕ → Bool) (xs : List ℕ) (v : ℕ) → p v ≡ true → Contains xs v → Contains (filter p xs) v
passing_kept p [] v on has = absurd (contains_nothing v has)
passing_kept p (x ∷ xs) v on has = kept_if p x v xs (p x) refl on (passing_kept p xs v on) has

-- the new entry at a vertex that is not kept
pub not_kept : (p : ℕ → Bool) (xs : List ℕ) (v : ℕ) (b : Bool) (new old : ℤ) → p v ≡ b → ¬ Contains (filter p xs) v → (¬ Contains xs v → new ≡ old) → cond b new old ≡ old
not_kept p xs v true new old is absent stays = stays (λ h. absent (passing_kept p xs v is h))
not_kept p xs v false new old is absent stays = refl

-- one more vertex of those that are kept
pub one_more_kept : (p : ℕ → Bool) (xs : List ℕ) (i : ℕ) (b : Bool) (kept first new : List ℕ) → i < length xs → b ≡ p (get_or xs i 0) → kept ≡ first ++ filter p (take i xs)
    → new ≡ kept ++ cond b (get_or xs i 0 ∷ []) [] → new ≡ first ++ filter p (take (i + 1) xs)
one_more_kept p xs i b kept first new l is so more =
    let item = cond b (get_or xs i 0 ∷ []) [] in
    more ∙ ap (λ ks. ks ++ item) so ∙ append_assoc first (filter p (take i xs)) item
    ∙ ap (λ ks. first ++ (filter p (take i xs) ++ ks)) (ap (λ (c : Bool). cond c (get_or xs i 0 ∷ []) []) is)
    ∙ ap (λ ks. first ++ ks) (sym (filter_more p xs i 0 l))

-- whether a vertex is a member
test_at : (v n : ℕ) → n ≡ v → (n == v) ≡ true
test_at v n e = grind (arith, nat_tests)

member_at : (v : ℕ) (xs : List ℕ) (b c : Bool) → IsTrue b ↔ Contains xs v → is_member v xs ≡ c → b ≡ is_member v xs
member_at v xs true true h e = sym e
member_at v xs true false h e = absurd (let has = h.0 refl in false≢true (sym e ∙ list_any_at (λ m. m == v) xs has.0 v has.1 (test_at v (get_or xs has.0 v) has.2)))
member_at v xs false true h e = absurd (let any = Any-from_list_any (λ m. m == v) xs e in false≢true (h.1 (subst (λ (y : ℕ). Contains xs y) (same any.1 v any.4) (any.0, any.2, any.3))))
member_at v xs false false h e = sym e

pub member_is : (v : ℕ) (xs : List ℕ) (b : Bool) → IsTrue b ↔ Contains xs v → b ≡ is_member v xs
member_is v xs b h = member_at v xs b (is_member v xs) h refl

-- a list that ascends does not fall
pub never_falls : (xs : List ℕ) → IsStrictlyIncreasing xs → IsNonDecreasing xs
never_falls xs up i j d le within =
    omega (arith, get_or_any xs i d (omega (arith, le, within)), get_or_any xs j d within, non_decreasing 0 xs (rises_from_increasing 0 xs (omega arith) up) i j le within)
  where
    get_or_any : (ys : List ℕ) (k d : ℕ) → k < length ys → get_or ys k d ≡ get_or ys k 0
    get_or_any [] k d l = absurd (omega arith)
    get_or_any (y ∷ ys) zero d l = refl
    get_or_any (y ∷ ys) (suc k) d l = get_or_any ys k d (omega arith)
