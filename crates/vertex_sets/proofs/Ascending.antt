-- Ascending lists by recursion, and what their members say of them.
use Rattle.std.proofs.Common.{◌≡◌, ℕ, zero, suc, ◌+◌, ◌<◌, ◌≤◌, ◌⊎◌, inl, inr, ◌↔◌, Bool, true, false, cond, List, [], ◌∷◌, ◌++◌, length, get_or, take, drop, Result, Ok, Err, IsTrue, is_ok}
use Rattle.std.proofs.Common.{MatchResult, refl, sym, ◌∙◌, ap, ap₂, subst, arith, Contains}
use Rattle.std.specs.List.{range_with_len}
use Rattle.std.specs.List.Sorted.{IsStrictlyIncreasing}
use Rattle.std.proofs.lemmas.Bool.{cases_eq, cases_lt}
use Rattle.std.proofs.lemmas.List.Elements.{All-contains, All-from_get_or, Contains-append_left, Contains-append_right, Contains-append_cases, Contains-get_or}
use Rattle.std.proofs.lemmas.List.{get_or_default}
use Rattle.vertex_sets.specs.VertexSet.{IsAscendingBelow, IsAnswer}

-- each number is above the one before it, and the first is low or more
abbrev pub Rises : ℕ → List ℕ → Type 0
Rises low [] = Unit {0}
Rises low (x ∷ xs) = (low ≤ x) × Rises (x + 1) xs

pub contains_first : (x : ℕ) (xs : List ℕ) → Contains (x ∷ xs) x
contains_first x xs = Contains-append_left (x ∷ []) xs x (0, omega arith, refl)

pub contains_later : (x v : ℕ) (xs : List ℕ) → Contains xs v → Contains (x ∷ xs) v
contains_later x v xs is = Contains-append_right (x ∷ []) xs v is

pub contains_nothing : (v : ℕ) → Contains [] v → ⊥
contains_nothing v is = let within = is.1 in omega arith

contains_one : (x v : ℕ) → Contains (x ∷ []) v → v ≡ x
contains_one x v (zero, within, is) = sym is
contains_one x v (suc k, within, is) = absurd (omega arith)

pub first_or_later : (x v : ℕ) (xs : List ℕ) → Contains (x ∷ xs) v → (v ≡ x) ⊎ Contains xs v
first_or_later x v xs is =
    elim (Contains-append_cases (x ∷ []) xs v is) [ inl here ↦ inl (contains_one x v here) | inr there ↦ inr there ]

pub rises_from_lower : (low high : ℕ) (xs : List ℕ) → low ≤ high → Rises high xs → Rises low xs
rises_from_lower low high [] le up = tt
rises_from_lower low high (x ∷ xs) le up = (omega (arith, up.0), up.1)

pub least_member : (low v : ℕ) (xs : List ℕ) → Rises low xs → Contains xs v → low ≤ v
least_member low v [] up is = absurd (contains_nothing v is)
least_member low v (x ∷ xs) up is =
    elim (first_or_later x v xs is) [
      | inl here ↦ omega (arith, up.0)
      | inr there ↦ omega (arith, up.0, least_member (x + 1) v xs up.1 there)
    ]

-- ascending lists with the same members are the same list
pub same_list : (low : ℕ) (xs ys : List ℕ) → Rises low xs → Rises low ys
    → ((v : ℕ) → Contains xs v → Contains ys v) → ((v : ℕ) → Contains ys v → Contains xs v) → xs ≡ ys
same_list low [] [] up vp into back = refl
same_list low [] (y ∷ ys) up vp into back = absurd (contains_nothing y (back y (contains_first y ys)))
same_list low (x ∷ xs) [] up vp into back = absurd (contains_nothing x (into x (contains_first x xs)))
same_list low (x ∷ xs) (y ∷ ys) up vp into back =
    let from_y : Rises y (y ∷ ys) = (omega arith, vp.1) in
    let from_x : Rises x (x ∷ xs) = (omega arith, up.1) in
    let y_le_x : y ≤ x = least_member y x (y ∷ ys) from_y (into x (contains_first x xs)) in
    let x_le_y : x ≤ y = least_member x y (x ∷ xs) from_x (back y (contains_first y ys)) in
    let same : y ≡ x = omega arith in
    let ys_up : Rises (x + 1) ys = subst (λ n. Rises (n + 1) ys) same vp.1 in
    ap₂ (λ n ns. n ∷ ns) (sym same) (same_list (x + 1) xs ys up.1 ys_up (into_later same ys_up) (back_later same ys_up))
  where
    into_later : y ≡ x → Rises (x + 1) ys → (v : ℕ) → Contains xs v → Contains ys v
    into_later same ys_up v is =
        elim (first_or_later y v ys (into v (contains_later x v xs is))) [
          | inl here ↦ absurd (omega (arith, least_member (x + 1) v xs up.1 is))
          | inr there ↦ there
        ]

    back_later : y ≡ x → Rises (x + 1) ys → (v : ℕ) → Contains ys v → Contains xs v
    back_later same ys_up v is =
        elim (first_or_later x v xs (back v (contains_later y v ys is))) [
          | inl here ↦ absurd (omega (arith, least_member (x + 1) v ys ys_up is))
          | inr there ↦ there
        ]

-- ---- between the two ways to say that a list ascends

increasing_later : (x : ℕ) (xs : List ℕ) → IsStrictlyIncreasing (x ∷ xs) → IsStrictlyIncreasing xs
increasing_later x xs up k within =
    let e : suc k + 1 ≡ suc (k + 1) = omega arith in
    subst (λ n. get_or xs k 0 < get_or (x ∷ xs) n 0) e (up (suc k) (omega arith))

increasing_second : (x : ℕ) (xs : List ℕ) → IsStrictlyIncreasing (x ∷ xs) → x + 1 ≤ get_or xs 0 (x + 1)
increasing_second x [] up = omega arith
increasing_second x (y ∷ ys) up = omega (arith, up 0 (omega arith))

pub rises_from_increasing : (low : ℕ) (xs : List ℕ) → low ≤ get_or xs 0 low → IsStrictlyIncreasing xs → Rises low xs
rises_from_increasing low [] le up = tt
rises_from_increasing low (x ∷ xs) le up =
    (le, rises_from_increasing (x + 1) xs (increasing_second x xs up) (increasing_later x xs up))

pub increasing_from_rises : (low : ℕ) (xs : List ℕ) → Rises low xs → (k : ℕ) → k + 1 < length xs → get_or xs k 0 < get_or xs (k + 1) 0
increasing_from_rises low [] up k within = absurd (omega arith)
increasing_from_rises low (x ∷ []) up k within = absurd (omega arith)
increasing_from_rises low (x ∷ y ∷ ys) up zero within = omega (arith, up.1.0)
increasing_from_rises low (x ∷ y ∷ ys) up (suc k) within =
    let e : suc (k + 1) ≡ suc k + 1 = omega arith in
    subst (λ n. get_or (y ∷ ys) k 0 < get_or (x ∷ y ∷ ys) n 0) e (increasing_from_rises (x + 1) (y ∷ ys) up.1 k (omega arith))

pub rises : (n : ℕ) (xs : List ℕ) → IsAscendingBelow n xs → Rises 0 xs
rises n xs is = rises_from_increasing 0 xs (omega arith) is.ascending

pub below : (n v : ℕ) (xs : List ℕ) → IsAscendingBelow n xs → Contains xs v → v < n
below n v xs is member = All-contains (λ u. u < n) xs v is.below member

pub ascending_below : (n : ℕ) (xs : List ℕ) → Rises 0 xs → ((v : ℕ) → Contains xs v → v < n) → IsAscendingBelow n xs
ascending_below n xs up within = record {
  ascending = increasing_from_rises 0 xs up;
  below = All-from_get_or (λ u. u < n) xs 0 (λ i lt. within (get_or xs i 0) (Contains-get_or xs i 0 lt));
}

pub same_sets : (n : ℕ) (xs ys : List ℕ) → IsAscendingBelow n xs → IsAscendingBelow n ys → ((v : ℕ) → Contains xs v ↔ Contains ys v) → xs ≡ ys
same_sets n xs ys p q same = same_list 0 xs ys (rises n xs p) (rises n ys q) (λ v. (same v).0) (λ v. (same v).1)

-- there is room for the members
rises_room : (low n : ℕ) (xs : List ℕ) → low ≤ n → Rises low xs → ((v : ℕ) → Contains xs v → v < n) → low + length xs ≤ n
rises_room low n [] le up within = omega arith
rises_room low n (x ∷ xs) le up within =
    let lt : x < n = within x (contains_first x xs) in
    omega (arith, up.0, rises_room (x + 1) n xs (omega arith) up.1 (λ v is. within v (contains_later x v xs is)))

pub room : (n : ℕ) (xs : List ℕ) → IsAscendingBelow n xs → length xs ≤ n
room n xs is = omega (arith, rises_room 0 n xs (omega arith) (rises n xs is) (λ v. below n v xs is))

-- ---- all vertices

pub rises_range : (a n : ℕ) → Rises a (range_with_len a n)
rises_range a zero = tt
rises_range a (suc n) = (omega arith, rises_range (a + 1) n)

pub range_has : (a n v : ℕ) → a ≤ v → v < a + n → Contains (range_with_len a n) v
range_has a zero v from to = absurd (omega arith)
range_has a (suc n) v from to =
    elim (cases_eq v a) [
      | inl here ↦ subst (λ u. Contains (range_with_len a (suc n)) u) (sym here) (contains_first a (range_with_len (a + 1) n))
      | inr later ↦ contains_later a v (range_with_len (a + 1) n) (range_has (a + 1) n v (omega arith) (omega arith))
    ]

pub range_bound : (a n v : ℕ) → Contains (range_with_len a n) v → v < a + n
range_bound a zero v is = absurd (contains_nothing v is)
range_bound a (suc n) v is =
    elim (first_or_later a v (range_with_len (a + 1) n) is) [
      | inl here ↦ omega arith
      | inr later ↦ omega (arith, range_bound (a + 1) n v later)
    ]

pub range_end : (a n m : ℕ) → m ≡ a + n → range_with_len a (n + 1) ≡ range_with_len a n ++ m ∷ []
range_end a zero m at = let here : a ≡ m = omega arith in ap (λ k. k ∷ []) here
range_end a (suc n) m at =
    let more : suc n + 1 ≡ suc (n + 1) = omega arith in
    ap (range_with_len a) more ∙ ap (λ xs. a ∷ xs) (range_end (a + 1) n m (omega arith))

-- ---- a list that begins with a number or lacks it, by a test

pub rises_choice : (b : Bool) (a : ℕ) (xs : List ℕ) → Rises (a + 1) xs → Rises a (cond b (a ∷ xs) xs)
rises_choice true a xs up = (omega arith, up)
rises_choice false a xs up = rises_from_lower a (a + 1) xs (omega arith) up

pub choice_cases : (b : Bool) (a v : ℕ) (xs : List ℕ) → Contains (cond b (a ∷ xs) xs) v → ((b ≡ true) × (v ≡ a)) ⊎ Contains xs v
choice_cases true a v xs is =
    elim (first_or_later a v xs is) [ inl here ↦ inl (refl, here) | inr later ↦ inr later ]
choice_cases false a v xs is = inr is

pub choice_later : (b : Bool) (a v : ℕ) (xs : List ℕ) → Contains xs v → Contains (cond b (a ∷ xs) xs) v
choice_later true a v xs is = contains_later a v xs is
choice_later false a v xs is = is

pub choice_first : (b : Bool) (a : ℕ) (xs : List ℕ) → b ≡ true → Contains (cond b (a ∷ xs) xs) a
choice_first b a xs set = subst (λ t. Contains (cond t (a ∷ xs) xs) a) (sym set) (contains_first a xs)

-- ---- a list that gets a member

abbrev pub HasOneMore : ℕ → List ℕ → List ℕ → Type 0
HasOneMore v old new = (u : ℕ) → Contains new u ↔ ((u ≡ v) ⊎ Contains old u)

pub one_again : (v : ℕ) (xs : List ℕ) → Contains xs v → HasOneMore v xs xs
one_again v xs member u = (λ is. inr is, λ or. elim or [ inl here ↦ subst (λ w. Contains xs w) (sym here) member | inr there ↦ there ])

-- The members are those that are done and those that are left.
abbrev pub AreDoneOrLeft : List ℕ → List ℕ → List ℕ → Type 0
AreDoneOrLeft whole done left = (u : ℕ) → Contains whole u ↔ (Contains done u ⊎ Contains left u)

pub nothing_done : (xs : List ℕ) → AreDoneOrLeft xs [] xs
nothing_done xs u = (λ is. inr is, λ or. elim or [ inl none ↦ absurd (contains_nothing u none) | inr is ↦ is ])

pub one_done : (v : ℕ) (whole done next left rest : List ℕ) → left ≡ v ∷ rest → AreDoneOrLeft whole done left → HasOneMore v done next → AreDoneOrLeft whole next rest
one_done v whole done next left rest first is more u = (into, back)
  where
    into : Contains whole u → Contains next u ⊎ Contains rest u
    into member =
        elim ((is u).0 member) [
          | inl before ↦ inl ((more u).1 (inr before))
          | inr now ↦
              elim (first_or_later v u rest (subst (λ xs. Contains xs u) first now)) [
                | inl here ↦ inl ((more u).1 (inl here))
                | inr later ↦ inr later
              ]
        ]

    back : Contains next u ⊎ Contains rest u → Contains whole u
    back or =
        elim or [
          | inl now ↦
              elim ((more u).0 now) [
                | inl here ↦ (is u).1 (inr (subst (λ xs. Contains xs u) (sym first) (subst (λ w. Contains (v ∷ rest) w) (sym here) (contains_first v rest))))
                | inr before ↦ (is u).1 (inl before)
              ]
          | inr later ↦ (is u).1 (inr (subst (λ xs. Contains xs u) (sym first) (contains_later v u rest later)))
        ]

pub all_done : (n : ℕ) (whole done left : List ℕ) → left ≡ [] → AreDoneOrLeft whole done left → IsAscendingBelow n whole → Rises 0 done → done ≡ whole
all_done n whole done left none is up done_up =
    same_list 0 done whole done_up (rises n whole up) (λ u member. (is u).1 (inl member))
    (λ u member. elim ((is u).0 member) [ inl now ↦ now | inr later ↦ absurd (contains_nothing u (subst (λ xs. Contains xs u) none later)) ])

-- ---- at the end, and in between

pub ascending_weaker : (n m : ℕ) (xs : List ℕ) → n ≤ m → IsAscendingBelow n xs → IsAscendingBelow m xs
ascending_weaker n m xs le is = ascending_below m xs (rises n xs is) (λ v member. omega (arith, below n v xs is member))

rises_end : (low v : ℕ) (xs : List ℕ) → Rises low xs → low ≤ v → ((u : ℕ) → Contains xs u → u < v) → Rises low (xs ++ v ∷ [])
rises_end low v [] up le above = (le, tt)
rises_end low v (x ∷ xs) up le above =
    let lt : x < v = above x (contains_first x xs) in
    (up.0, rises_end (x + 1) v xs up.1 (omega arith) (λ u is. above u (contains_later x u xs is)))

pub end_has : (v : ℕ) (xs : List ℕ) → HasOneMore v xs (xs ++ v ∷ [])
end_has v xs u = (
  λ is. elim (Contains-append_cases xs (v ∷ []) u is) [ inl before ↦ inr before | inr last ↦ inl (contains_one v u last) ],
  λ or. elim or [
    | inl here ↦ Contains-append_right xs (v ∷ []) u (subst (λ w. Contains (v ∷ []) w) (sym here) (contains_first v []))
    | inr before ↦ Contains-append_left xs (v ∷ []) u before
  ],
)

pub ascending_end : (v n : ℕ) (xs : List ℕ) → IsAscendingBelow v xs → v < n → IsAscendingBelow n (xs ++ v ∷ [])
ascending_end v n xs is lt =
    ascending_below n (xs ++ v ∷ []) (rises_end 0 v xs (rises v xs is) (omega arith) (λ u member. below v u xs is member))
    (λ u member. elim ((end_has v xs u).0 member) [ inl here ↦ omega arith | inr before ↦ omega (arith, below v u xs is before) ])

-- what a test answers for the next number, after those below it
pub next_answer : (gives : ℕ → Bool → Type 0) (n : ℕ) (xs next : List ℕ) (b : Bool) → next ≡ cond b (xs ++ n ∷ []) xs → IsAscendingBelow n xs
    → gives n b → ((v : ℕ) → v < n → IsAnswer gives xs v) → IsAscendingBelow (n + 1) next × ((v : ℕ) → v < n + 1 → IsAnswer gives next v)
next_answer gives n xs next true e is now before =
    rw e (
      ascending_end n (n + 1) xs is (omega arith),
      λ v lt. elim (cases_eq v n) [
        | inl here ↦ inl ((end_has n xs v).1 (inl here), subst (λ u. gives u true) (sym here) now)
        | inr apart ↦
            elim (before v (omega arith)) [
              | inl member ↦ inl ((end_has n xs v).1 (inr member.0), member.1)
              | inr other ↦ inr (λ member. elim ((end_has n xs v).0 member) [ inl here ↦ apart here | inr was ↦ other.0 was ], other.1)
            ]
      ],
    )
next_answer gives n xs next false e is now before =
    rw e (
      ascending_weaker n (n + 1) xs (omega arith) is,
      λ v lt. elim (cases_eq v n) [
        | inl here ↦ inr (λ member. absurd (omega (arith, below n v xs is member)), subst (λ u. gives u false) (sym here) now)
        | inr apart ↦ before v (omega arith)
      ],
    )

rises_higher : (low v : ℕ) (xs : List ℕ) → Rises low xs → v + 1 ≤ get_or xs 0 (v + 1) → Rises (v + 1) xs
rises_higher low v [] up le = tt
rises_higher low v (x ∷ xs) up le = (le, up.1)

first_above : (v : ℕ) (xs : List ℕ) → ((k : ℕ) → 0 ≤ k → k < length xs → v < get_or xs k 0) → v + 1 ≤ get_or xs 0 (v + 1)
first_above v [] above = omega arith
first_above v (x ∷ xs) above = omega (arith, above 0 (omega arith) (omega arith))

-- The list with a number put in at an index, where all before it are lower and all from it on are higher.
rises_between : (low i v : ℕ) (xs : List ℕ) → Rises low xs → low ≤ v → i ≤ length xs → ((k : ℕ) → k < i → get_or xs k 0 < v)
    → ((k : ℕ) → i ≤ k → k < length xs → v < get_or xs k 0) → Rises low (take i xs ++ v ∷ drop i xs)
rises_between low zero v xs up le within lower higher = (le, rises_higher low v xs up (first_above v xs higher))
rises_between low (suc i) v [] up le within lower higher = absurd (omega arith)
rises_between low (suc i) v (x ∷ xs) up le within lower higher =
    let lt : x < v = lower 0 (omega arith) in
    (up.0, rises_between (x + 1) i v xs up.1 (omega arith) (omega arith) (λ k l. lower (suc k) (omega arith)) (λ k l m. higher (suc k) (omega arith) (omega arith)))

first_has : (v : ℕ) (xs : List ℕ) → HasOneMore v xs (v ∷ xs)
first_has v xs u = (
  λ is. first_or_later v u xs is,
  λ or. elim or [
    | inl here ↦ subst (λ w. Contains (v ∷ xs) w) (sym here) (contains_first v xs)
    | inr later ↦ contains_later v u xs later
  ],
)

pub between_has : (i v : ℕ) (xs : List ℕ) → HasOneMore v xs (take i xs ++ v ∷ drop i xs)
between_has zero v xs u = first_has v xs u
between_has (suc i) v [] u = first_has v [] u
between_has (suc i) v (x ∷ xs) u = (
  λ is. elim (first_or_later x u (take i xs ++ v ∷ drop i xs) is) [
    | inl first ↦ inr ((first_has x xs u).1 (inl first))
    | inr after ↦
        elim ((between_has i v xs u).0 after) [
          | inl here ↦ inl here
          | inr later ↦ inr (contains_later x u xs later)
        ]
  ],
  λ or. elim or [
    | inl here ↦ contains_later x u (take i xs ++ v ∷ drop i xs) ((between_has i v xs u).1 (inl here))
    | inr is ↦
        elim (first_or_later x u xs is) [
          | inl first ↦ (first_has x (take i xs ++ v ∷ drop i xs) u).1 (inl first)
          | inr later ↦ contains_later x u (take i xs ++ v ∷ drop i xs) ((between_has i v xs u).1 (inr later))
        ]
  ],
)

pub increasing_between : (i v : ℕ) (xs : List ℕ) → IsStrictlyIncreasing xs → i ≤ length xs → ((k : ℕ) → k < i → get_or xs k 0 < v)
    → ((k : ℕ) → i ≤ k → k < length xs → v < get_or xs k 0) → IsStrictlyIncreasing (take i xs ++ v ∷ drop i xs)
increasing_between i v xs up within lower higher =
    increasing_from_rises 0 (take i xs ++ v ∷ drop i xs) (rises_between 0 i v xs (rises_from_increasing 0 xs (omega arith) up) (omega arith) within lower higher)

-- ---- a binary search

pub non_decreasing : (low : ℕ) (xs : List ℕ) → Rises low xs → (i j : ℕ) → i ≤ j → j < length xs → get_or xs i 0 ≤ get_or xs j 0
non_decreasing low [] up i j le within = absurd (omega arith)
non_decreasing low (x ∷ xs) up zero zero le within = omega arith
non_decreasing low (x ∷ xs) up zero (suc j) le within =
    omega (arith, least_member (x + 1) (get_or xs j 0) xs up.1 (Contains-get_or xs j 0 (omega arith)))
non_decreasing low (x ∷ xs) up (suc i) zero le within = absurd (omega arith)
non_decreasing low (x ∷ xs) up (suc i) (suc j) le within = non_decreasing (x + 1) xs up.1 i j (omega arith) (omega arith)

-- the index v stands at, or the index before which all are lower and from which on all are higher
abbrev pub IsFoundAt : ℕ → List ℕ → Result ℕ ℕ → Type 0
IsFoundAt v xs r =
    MatchResult r (λ i. (i < length xs) × (get_or xs i 0 ≡ v))
    (λ i. (i ≤ length xs) × ((k : ℕ) → k < i → get_or xs k 0 < v) × ((k : ℕ) → i ≤ k → k < length xs → v < get_or xs k 0))

pub found_member : (v : ℕ) (xs : List ℕ) (r : Result ℕ ℕ) → IsFoundAt v xs r → IsTrue (is_ok r) ↔ Contains xs v
found_member v xs (Ok i) at = (λ t. subst (λ u. Contains xs u) at.1 (Contains-get_or xs i 0 at.0), λ member. refl)
found_member v xs (Err i) at = (λ t. absurd (cc t), λ member. absurd (nowhere member))
  where
    nowhere : Contains xs v → ⊥
    nowhere (k, within, is) =
        let here : get_or xs k 0 ≡ v = get_or_default xs k 0 v within ∙ is in
        elim (cases_lt k i) [ inl lt ↦ omega (arith, at.1 k lt) | inr le ↦ omega (arith, at.2 k le within) ]
