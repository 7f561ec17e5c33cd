-- Vectors that are handed over, one after another.
use Rattle.std.proofs.Common.{◌≡◌, ◌≢◌, ◌+◌, ◌<◌, ◌≤◌, ℕ, ℤ, List, [], length, get_or, set, take, ap, sym, ◌∙◌, subst, inl, inr, arith, get_or-set_same, get_or-set_other}
use Rattle.std.proofs.Math.ListN.{length-set}
use Rattle.std.proofs.lemmas.Bool.Decides.{eqb_tells, leb_tells}
use Rattle.std.proofs.lemmas.List.{get_or-take, length-take-le}
use Rattle.vectors.specs.declared.location.Location.{Location}
use Rattle.vectors.specs.inside.Layout.{IsLaidOut, StandsIn, location_at, vector_at, vectors_at}
use Rattle.vectors.proofs.Layouts.{alone_here, length-vectors, same_lists, stands_in, vector_along, vector_here}

-- those before an index stand in the arrays of their own indices, and the other arrays are as they were
pub record AreHome (first : List (List ℤ)) (ls : List Location) (k : ℕ) (now : List (List ℤ)) : Type 0 where
  pub count : length now ≡ length first
  pub done : (i : ℕ) → i < k → get_or now i [] ≡ vector_at first (location_at ls i)
  pub rest : (i : ℕ) → k ≤ i → get_or now i [] ≡ get_or first i []

pub none_home : (first : List (List ℤ)) (ls : List Location) (k : ℕ) → k ≡ 0 → AreHome first ls k first
none_home first ls k is = record { count = (λ i. length first); done = λ i h. absurd (omega (arith, h, is)); rest = λ i h. (λ j. get_or first i []) }

one_home : (first now : List (List ℤ)) (ls : List Location) (k : ℕ) (x : List ℤ) → AreHome first ls k now → k < length now → x ≡ vector_at first (location_at ls k)
    → AreHome first ls (k + 1) (set now k x)
one_home first now ls k x home inside value = record {
  count = length-set now k x ∙ home.count;
  done = λ i h. elim (eqb_tells i k) [
    | inl same ↦ ap (λ (j : ℕ). get_or (set now k x) j []) same.1 ∙ get_or-set_same now k x [] inside ∙ value ∙ ap (λ (j : ℕ). vector_at first (location_at ls j)) (sym same.1)
    | inr other ↦ get_or-set_other now k i x [] other.1 ∙ home.done i (let apart = other.1 in omega arith)
  ];
  rest = λ i h. get_or-set_other now k i x [] (λ e. omega (arith, h, e)) ∙ home.rest i (omega (arith, h));
}

stays_home : (first now : List (List ℤ)) (ls : List Location) (k : ℕ) → AreHome first ls k now → vector_at first (location_at ls k) ≡ get_or first k [] → AreHome first ls (k + 1) now
stays_home first now ls k home value = record {
  count = home.count;
  done = λ i h. elim (eqb_tells i k) [
    | inl same ↦ ap (λ (j : ℕ). get_or now j []) same.1 ∙ home.rest k (omega arith) ∙ sym value ∙ ap (λ (j : ℕ). vector_at first (location_at ls j)) (sym same.1)
    | inr other ↦ home.done i (let apart = other.1 in omega arith)
  ];
  rest = λ i h. home.rest i (omega (arith, h));
}

-- a vector that is still to be moved stands where it stood
beyond : (arrays : List (List ℤ)) (ls : List Location) (groups : List (List ℕ)) → IsLaidOut arrays ls groups → (k : ℕ) → k < length ls → k ≤ (location_at ls k).array
beyond arrays ls groups laid k inside = elim (leb_tells (length ls) (location_at ls k).array) [
  | inl far ↦ (let d = far.1 in omega arith)
  | inr near ↦ (let d = (laid.homes k inside).own near.1 in omega arith)
]

pub still_stands : (arrays now : List (List ℤ)) (ls : List Location) (groups : List (List ℕ)) → IsLaidOut arrays ls groups → (k : ℕ) → k < length ls → AreHome arrays ls k now
    → StandsIn now (location_at ls k)
still_stands arrays now ls groups laid k inside home =
    let stood = stands_in arrays ls groups laid k inside in
    let known = stood.array in
    let many = home.count in
    record {
      array = omega arith;
      row = stood.row;
      whole = stood.whole ∙ ap (λ (xs : List ℤ). length xs) (sym (home.rest (location_at ls k).array (beyond arrays ls groups laid k inside)));
    }

pub next_home : (arrays now next : List (List ℤ)) (ls : List Location) (groups : List (List ℕ)) (l : Location) → IsLaidOut arrays ls groups → (k : ℕ) → k < length ls → AreHome arrays ls k now
    → l ≡ location_at ls k → (l.array ≢ k → next ≡ set now k (vector_at now l)) → (l.array ≡ k → next ≡ now) → AreHome arrays ls (k + 1) next
next_home arrays now next ls groups l laid k inside home at moved stays =
    let all = laid.count in
    let many = home.count in
    let here : k < length now = omega arith in
    elim (eqb_tells l.array k) [
      | inl same ↦ subst (AreHome arrays ls (k + 1)) (sym (stays same.1))
          (stays_home arrays now ls k home (alone_here arrays ls groups laid k inside (ap (λ (m : Location). m.array) (sym at) ∙ same.1)))
      | inr other ↦ subst (AreHome arrays ls (k + 1)) (sym (moved other.1))
          (one_home arrays now ls k (vector_at now l) home here
          (ap (vector_at now) at ∙ vector_along arrays now (location_at ls k) (home.rest (location_at ls k).array (beyond arrays ls groups laid k inside))))
    ]

-- all of them
pub all_home : (arrays now : List (List ℤ)) (ls : List Location) (groups : List (List ℕ)) → IsLaidOut arrays ls groups → (k : ℕ) → k ≡ length ls → AreHome arrays ls k now
    → take k now ≡ vectors_at arrays ls
all_home arrays now ls groups laid k end home =
    let all = laid.count in
    let many = home.count in
    let few : k ≤ length now = omega arith in
    let long = length-take-le k now few in
    let n = length-vectors arrays ls in
    same_lists (take k now) (vectors_at arrays ls) [] (long ∙ end ∙ sym n) (λ i h.
    let inside : i < k = omega arith in
    get_or-take k now i [] inside ∙ home.done i inside ∙ sym (vector_here arrays ls i (omega arith)))
