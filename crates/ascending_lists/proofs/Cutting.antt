-- Lists cut at a number.
use Rattle.std.proofs.Common.{◌≡◌, ◌≢◌, ℕ, zero, suc, ◌+◌, ◌^◌, ◌<◌, ◌≤◌, true, false, inl, inr, List, [], ◌∷◌, ◌++◌, length, take, drop, get_or, refl, sym, ◌∙◌, ap, arith}
use Rattle.std.specs.List.{All}
use Rattle.std.proofs.lemmas.List.{drop_more, take-append-drop}
use Rattle.std.proofs.lemmas.List.Elements.{All-cons, All-head, All-tail}
use Rattle.std.proofs.lemmas.Bool.{cases_lt, cases_eq, lt-ltb, le-ltb, eq-eqb, ne_eqb}
use Rattle.ascending_lists.specs.Ascending.{AscendsFrom}
use Rattle.ascending_lists.proofs.Ascending.{ascends_from}
use Rattle.ascending_lists.specs.Sets.{has, below, above, Cuts}

-- the elements below the lesser of two numbers
pub below_below : (j k : ℕ) (xs : List ℕ) → j ≤ k → below j (below k xs) ≡ below j xs
below_below j k [] le = refl
below_below j k (x ∷ xs) le =
    elim (cases_lt x j) [
      | inl lt ↦ rw (lt-ltb x k (omega arith), lt-ltb x j lt) (ap (λ v. x ∷ v) (below_below j k xs le))
      | inr ge ↦ elim (cases_lt x k) [
        | inl lt ↦ rw (lt-ltb x k lt, le-ltb x j ge) (below_below j k xs le)
        | inr past ↦ rw (le-ltb x k past, le-ltb x j ge) (below_below j k xs le)
      ]
    ]

-- the elements above the greater of two numbers
pub above_above : (j k : ℕ) (xs : List ℕ) → k ≤ j → above j (above k xs) ≡ above j xs
above_above j k [] le = refl
above_above j k (x ∷ xs) le =
    elim (cases_lt j x) [
      | inl lt ↦ rw (lt-ltb k x (omega arith), lt-ltb j x lt) (ap (λ v. x ∷ v) (above_above j k xs le))
      | inr ge ↦ elim (cases_lt k x) [
        | inl lt ↦ rw (lt-ltb k x lt, le-ltb j x ge) (above_above j k xs le)
        | inr past ↦ rw (le-ltb k x past, le-ltb j x ge) (above_above j k xs le)
      ]
    ]

-- the elements between two numbers
pub below_above : (j k : ℕ) (xs : List ℕ) → below k (above j xs) ≡ above j (below k xs)
below_above j k [] = refl
below_above j k (x ∷ xs) =
    elim (cases_lt j x) [
      | inl a ↦ elim (cases_lt x k) [
        | inl b ↦ rw (lt-ltb j x a, lt-ltb x k b) (rw (lt-ltb j x a) (ap (λ v. x ∷ v) (below_above j k xs)))
        | inr b ↦ rw (lt-ltb j x a, le-ltb x k b) (below_above j k xs)
      ]
      | inr a ↦ elim (cases_lt x k) [
        | inl b ↦ rw (le-ltb j x a, lt-ltb x k b) (rw (le-ltb j x a) (below_above j k xs))
        | inr b ↦ rw (le-ltb j x a, le-ltb x k b) (below_above j k xs)
      ]
    ]

-- an ascending list has nothing below what it ascends from
pub below_none : (k low : ℕ) (xs : List ℕ) → k ≤ low → AscendsFrom low xs → below k xs ≡ []
below_none k low [] le s = refl
below_none k low (x ∷ xs) le s = rw (le-ltb x k (omega (arith, s.0))) (below_none k (x + 1) xs (omega (arith, s.0)) s.2)

pub above_all : (k low : ℕ) (xs : List ℕ) → k < low → AscendsFrom low xs → above k xs ≡ xs
above_all k low [] le s = refl
above_all k low (x ∷ xs) le s = rw (lt-ltb k x (omega (arith, s.0))) (ap (λ v. x ∷ v) (above_all k (x + 1) xs (omega (arith, s.0)) s.2))

pub has_none : (k low : ℕ) (xs : List ℕ) → k < low → AscendsFrom low xs → has k xs ≡ false
has_none k low [] lt s = refl
has_none k low (x ∷ xs) lt s = rw (ne_eqb x k (omega (arith, s.0))) (has_none k (x + 1) xs (omega (arith, s.0)) s.2)

-- what stands below a number ascends, and may stand before what ascends from it
pub below_ascends : (k low : ℕ) (xs : List ℕ) → AscendsFrom low xs → AscendsFrom low (below k xs)
below_ascends k low [] s = tt
below_ascends k low (x ∷ xs) s =
    elim (cases_lt x k) [
      | inl lt ↦ rw (lt-ltb x k lt) (s.0, s.1, below_ascends k (x + 1) xs s.2)
      | inr ge ↦ rw (le-ltb x k ge) (ascends_from low (x + 1) (below k xs) (omega (arith, s.0)) (below_ascends k (x + 1) xs s.2))
    ]

pub above_ascends : (k low : ℕ) (xs : List ℕ) → AscendsFrom low xs → AscendsFrom low (above k xs)
above_ascends k low [] s = tt
above_ascends k low (x ∷ xs) s =
    elim (cases_lt k x) [
      | inl lt ↦ rw (lt-ltb k x lt) (s.0, s.1, above_ascends k (x + 1) xs s.2)
      | inr ge ↦ rw (le-ltb k x ge) (ascends_from low (x + 1) (above k xs) (omega (arith, s.0)) (above_ascends k (x + 1) xs s.2))
    ]

pub above_from : (k low : ℕ) (xs : List ℕ) → AscendsFrom low xs → AscendsFrom (k + 1) (above k xs)
above_from k low [] s = tt
above_from k low (x ∷ xs) s =
    elim (cases_lt k x) [
      | inl lt ↦ rw (lt-ltb k x lt) (omega (arith, lt), s.1, above_ascends k (x + 1) xs s.2)
      | inr ge ↦ rw (le-ltb k x ge) (above_from k (x + 1) xs s.2)
    ]

pub below_then : (k low : ℕ) (xs zs : List ℕ) → AscendsFrom low xs → low ≤ k → AscendsFrom k zs → AscendsFrom low (below k xs ++ zs)
below_then k low [] zs s le t = ascends_from low k zs le t
below_then k low (x ∷ xs) zs s le t =
    elim (cases_lt x k) [
      | inl lt ↦ rw (lt-ltb x k lt) (s.0, s.1, below_then k (x + 1) xs zs s.2 (omega arith) t)
      | inr ge ↦ rw (le-ltb x k ge) (below_then k low xs zs (ascends_from low (x + 1) xs (omega (arith, s.0)) s.2) le t)
    ]

-- Elements of a list that stand before an element k.
module _ (k : ℕ) (r : List ℕ) where
  pub before_it : (low : ℕ) (l : List ℕ) → AscendsFrom low (l ++ k ∷ r) → low ≤ k
  before_it low [] s = s.0
  before_it low (x ∷ l) s = omega (arith, s.0, before_it (x + 1) l s.2)

  pub it_is_small : (low : ℕ) (l : List ℕ) → AscendsFrom low (l ++ k ∷ r) → k < 2 ^ 32
  it_is_small low [] s = s.1
  it_is_small low (x ∷ l) s = it_is_small (x + 1) l s.2

  pub after_it : (low : ℕ) (l : List ℕ) → AscendsFrom low (l ++ k ∷ r) → AscendsFrom (k + 1) r
  after_it low [] s = s.2
  after_it low (x ∷ l) s = after_it (x + 1) l s.2

  -- cut at it, or at a number before it or after it
  pub below_it : (low : ℕ) (l : List ℕ) → AscendsFrom low (l ++ k ∷ r) → below k (l ++ k ∷ r) ≡ l
  below_it low [] s = rw (le-ltb k k (omega arith)) (below_none k (k + 1) r (omega arith) s.2)
  below_it low (x ∷ l) s =
      let lt : x < k = omega (arith, before_it (x + 1) l s.2) in
      rw (lt-ltb x k lt) (ap (λ v. x ∷ v) (below_it (x + 1) l s.2))

  pub above_it : (low : ℕ) (l : List ℕ) → AscendsFrom low (l ++ k ∷ r) → above k (l ++ k ∷ r) ≡ r
  above_it low [] s = rw (le-ltb k k (omega arith)) (above_all k (k + 1) r (omega arith) s.2)
  above_it low (x ∷ l) s =
      let lt : x < k = omega (arith, before_it (x + 1) l s.2) in
      rw (le-ltb k x (omega arith)) (above_it (x + 1) l s.2)

  pub has_it : (l : List ℕ) → has k (l ++ k ∷ r) ≡ true
  has_it [] = rw (eq-eqb k k refl) refl
  has_it (x ∷ l) =
      elim (cases_eq x k) [ inl e ↦ rw (eq-eqb x k e) refl | inr ne ↦ rw (ne_eqb x k ne) (has_it l) ]

module _ (j k : ℕ) (r : List ℕ) where
  pub below_before : (low : ℕ) (l : List ℕ) → AscendsFrom low (l ++ k ∷ r) → j ≤ k → below j (l ++ k ∷ r) ≡ below j l
  below_before low [] s le = rw (le-ltb k j le) (below_none j (k + 1) r (omega arith) s.2)
  below_before low (x ∷ l) s le =
      elim (cases_lt x j) [
        | inl lt ↦ rw (lt-ltb x j lt) (ap (λ v. x ∷ v) (below_before (x + 1) l s.2 le))
        | inr ge ↦ rw (le-ltb x j ge) (below_before (x + 1) l s.2 le)
      ]

  pub above_before : (low : ℕ) (l : List ℕ) → AscendsFrom low (l ++ k ∷ r) → j < k → above j (l ++ k ∷ r) ≡ above j l ++ k ∷ r
  above_before low [] s lt = rw (lt-ltb j k lt) (ap (λ v. k ∷ v) (above_all j (k + 1) r (omega arith) s.2))
  above_before low (x ∷ l) s lt =
      elim (cases_lt j x) [
        | inl a ↦ rw (lt-ltb j x a) (ap (λ v. x ∷ v) (above_before (x + 1) l s.2 lt))
        | inr a ↦ rw (le-ltb j x a) (above_before (x + 1) l s.2 lt)
      ]

  pub has_before : (low : ℕ) (l : List ℕ) → AscendsFrom low (l ++ k ∷ r) → j < k → has j (l ++ k ∷ r) ≡ has j l
  has_before low [] s lt = rw (ne_eqb k j (omega arith)) (has_none j (k + 1) r (omega arith) s.2)
  has_before low (x ∷ l) s lt =
      elim (cases_eq x j) [ inl e ↦ rw (eq-eqb x j e) refl | inr ne ↦ rw (ne_eqb x j ne) (has_before (x + 1) l s.2 lt) ]

  pub below_after : (low : ℕ) (l : List ℕ) → AscendsFrom low (l ++ k ∷ r) → k < j → below j (l ++ k ∷ r) ≡ l ++ k ∷ below j r
  below_after low [] s lt = rw (lt-ltb k j lt) refl
  below_after low (x ∷ l) s lt =
      let small : x < j = omega (arith, before_it k r (x + 1) l s.2) in
      rw (lt-ltb x j small) (ap (λ v. x ∷ v) (below_after (x + 1) l s.2 lt))

  pub above_after : (low : ℕ) (l : List ℕ) → AscendsFrom low (l ++ k ∷ r) → k ≤ j → above j (l ++ k ∷ r) ≡ above j r
  above_after low [] s le = rw (le-ltb j k le) refl
  above_after low (x ∷ l) s le =
      let small : x ≤ j = omega (arith, before_it k r (x + 1) l s.2) in
      rw (le-ltb j x small) (above_after (x + 1) l s.2 le)

  pub has_after : (low : ℕ) (l : List ℕ) → AscendsFrom low (l ++ k ∷ r) → k < j → has j (l ++ k ∷ r) ≡ has j r
  has_after low [] s lt = rw (ne_eqb k j (omega arith)) refl
  has_after low (x ∷ l) s lt =
      let ne : x ≢ j = omega (arith, before_it k r (x + 1) l s.2) in
      rw (ne_eqb x j ne) (has_after (x + 1) l s.2 lt)

-- elements that ascend stand in the order of their indices
above_low : (low : ℕ) (xs : List ℕ) → AscendsFrom low xs → (i : ℕ) → i < length xs → low ≤ get_or xs i 0
above_low low [] s i lt = absurd (omega arith)
above_low low (x ∷ xs) s zero lt = s.0
above_low low (x ∷ xs) s (suc i) lt = omega (arith, s.0, above_low (x + 1) xs s.2 i (omega arith))

pub rises : (low : ℕ) (xs : List ℕ) → AscendsFrom low xs → (i j : ℕ) → i ≤ j → j < length xs → get_or xs i 0 ≤ get_or xs j 0
rises low [] s i j le lt = absurd (omega arith)
rises low (x ∷ xs) s zero zero le lt = omega arith
rises low (x ∷ xs) s zero (suc j) le lt = omega (arith, above_low (x + 1) xs s.2 j (omega arith))
rises low (x ∷ xs) s (suc i) zero le lt = absurd (omega arith)
rises low (x ∷ xs) s (suc i) (suc j) le lt = rises (x + 1) xs s.2 i j (omega arith) (omega arith)

-- what a list has on either side of a number that stands at an index, or that would
pub cut_found : (k index : ℕ) (xs : List ℕ) → AscendsFrom 0 xs → index < length xs → get_or xs index 0 ≡ k → Cuts k xs (take index xs) true (drop (index + 1) xs)
cut_found k index xs s within is =
    let whole : xs ≡ take index xs ++ k ∷ drop (index + 1) xs =
    sym (take-append-drop index xs) ∙ ap (λ v. take index xs ++ v) (drop_more xs index 0 within ∙ ap (λ v. v ∷ drop (index + 1) xs) is) in
    let up : AscendsFrom 0 (take index xs ++ k ∷ drop (index + 1) xs) = rw (← whole) s in
    record {
      front = sym (ap (below k) whole ∙ below_it k (drop (index + 1) xs) 0 (take index xs) up);
      there = sym (ap (has k) whole ∙ has_it k (drop (index + 1) xs) (take index xs));
      back = sym (ap (above k) whole ∙ above_it k (drop (index + 1) xs) 0 (take index xs) up);
    }

pub cut_missed : (k low index : ℕ) (xs : List ℕ) → AscendsFrom low xs → index ≤ length xs → ((i : ℕ) → i < index → get_or xs i 0 < k) → ((i : ℕ) → index ≤ i → i < length xs → k < get_or xs i 0)
    → Cuts k xs (take index xs) false (drop index xs)
cut_missed k low zero [] s le under over = record { front = refl; there = refl; back = refl }
cut_missed k low zero (x ∷ xs) s le under over =
    let lt : k < x = over 0 (omega arith) (omega arith) in
    let up : AscendsFrom (k + 1) (x ∷ xs) = (omega (arith, lt), s.1, s.2) in
    record {
      front = sym (below_none k (k + 1) (x ∷ xs) (omega arith) up);
      there = sym (has_none k (k + 1) (x ∷ xs) (omega arith) up);
      back = sym (above_all k (k + 1) (x ∷ xs) (omega arith) up);
    }
cut_missed k low (suc index) [] s le under over = absurd (omega arith)
cut_missed k low (suc index) (x ∷ xs) s le under over =
    let lt : x < k = under 0 (omega arith) in
    let rest = cut_missed k (x + 1) index xs s.2 (omega arith) (λ i small. under (suc i) (omega arith)) (λ i from small. over (suc i) (omega arith) (omega arith)) in
    record {
      front = rw (lt-ltb x k lt) (ap (λ v. x ∷ v) rest.front);
      there = rw (ne_eqb x k (omega (arith, lt))) rest.there;
      back = rw (le-ltb k x (omega (arith, lt))) rest.back;
    }

-- a side that is as long as the list is the list
below_length : (k : ℕ) (xs : List ℕ) → length (below k xs) ≤ length xs
below_length k [] = omega arith
below_length k (x ∷ xs) = elim (cases_lt x k) [ inl lt ↦ rw (lt-ltb x k lt) (omega (arith, below_length k xs)) | inr ge ↦ rw (le-ltb x k ge) (omega (arith, below_length k xs)) ]

pub below_whole : (k : ℕ) (xs : List ℕ) → length (below k xs) ≡ length xs → below k xs ≡ xs
below_whole k [] e = refl
below_whole k (x ∷ xs) e =
    elim (cases_lt x k) [
      | inl lt ↦
          let f : length (x ∷ below k xs) ≡ length (x ∷ xs) = rw (lt-ltb x k lt) at e in
          rw (lt-ltb x k lt) (ap (λ v. x ∷ v) (below_whole k xs (omega arith)))
      | inr ge ↦
          let f : length (below k xs) ≡ length (x ∷ xs) = rw (le-ltb x k ge) at e in
          absurd (omega (arith, below_length k xs))
    ]

above_length : (k : ℕ) (xs : List ℕ) → length (above k xs) ≤ length xs
above_length k [] = omega arith
above_length k (x ∷ xs) = elim (cases_lt k x) [ inl lt ↦ rw (lt-ltb k x lt) (omega (arith, above_length k xs)) | inr ge ↦ rw (le-ltb k x ge) (omega (arith, above_length k xs)) ]

pub above_whole : (k : ℕ) (xs : List ℕ) → length (above k xs) ≡ length xs → above k xs ≡ xs
above_whole k [] e = refl
above_whole k (x ∷ xs) e =
    elim (cases_lt k x) [
      | inl lt ↦
          let f : length (x ∷ above k xs) ≡ length (x ∷ xs) = rw (lt-ltb k x lt) at e in
          rw (lt-ltb k x lt) (ap (λ v. x ∷ v) (above_whole k xs (omega arith)))
      | inr ge ↦
          let f : length (above k xs) ≡ length (x ∷ xs) = rw (le-ltb k x ge) at e in
          absurd (omega (arith, above_length k xs))
    ]

-- what is true of each element stays so on either side
pub all_below : (P : ℕ → Type 0) (k : ℕ) (xs : List ℕ) → All P xs → All P (below k xs)
all_below P k [] p = p
all_below P k (x ∷ xs) p =
    elim (cases_lt x k) [
      | inl lt ↦ rw (lt-ltb x k lt) (All-cons P x (below k xs) (All-head P x xs p) (all_below P k xs (All-tail P x xs p)))
      | inr ge ↦ rw (le-ltb x k ge) (all_below P k xs (All-tail P x xs p))
    ]

pub all_above : (P : ℕ → Type 0) (k : ℕ) (xs : List ℕ) → All P xs → All P (above k xs)
all_above P k [] p = p
all_above P k (x ∷ xs) p =
    elim (cases_lt k x) [
      | inl lt ↦ rw (lt-ltb k x lt) (All-cons P x (above k xs) (All-head P x xs p) (all_above P k xs (All-tail P x xs p)))
      | inr ge ↦ rw (le-ltb k x ge) (all_above P k xs (All-tail P x xs p))
    ]
