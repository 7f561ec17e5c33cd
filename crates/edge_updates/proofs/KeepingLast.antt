-- The last update of each edge, of updates that stand in order.
use Rattle.std.proofs.Common.{◌≡◌, ◌≢◌, ℕ, ℤ, ◌+◌, ◌<◌, ◌≤◌, ◌==◌, true, false, Option, Some, None, inl, inr, List, [], ◌∷◌, ◌++◌, length, map, get_or, take, drop, refl, sym, ap, ◌∙◌, arith}
use Rattle.std.proofs.Common.{length-drop, append_assoc}
use Rattle.std.specs.Option.{option_or}
use Rattle.std.specs.Map.{keys_of}
use Rattle.std.proofs.Math.ListN.{set}
use Rattle.std.proofs.Math.Seq.{take-append_seam}
use Rattle.std.proofs.lemmas.Bool.{false≢true, cases_Bool, eqb-true, eqb-false}
use Rattle.std.proofs.lemmas.List.{append-nil, drop_more, take_more_set, drop-set-lt}
use Rattle.edge_updates.specs.declared.edge_update.EdgeUpdate.{EdgeUpdate}
use Rattle.edge_updates.specs.EdgeUpdate.{key_of, vertex_of, neighbour_of}
use Rattle.edge_updates.specs.Updates.{Edge, names, one_weight_decided, decided_weight, times, NamesOnce, FollowInOrder, AreInOrder, IsBefore, FollowAscending, Ascend}
use Rattle.edge_updates.specs.inside.LastUpdates.{begin_same, last_updates}
use Rattle.edge_updates.proofs.Packing.{key_is, same_vertex, same_neighbour}
use Rattle.edge_updates.proofs.SortedUpdates.{option_or-none, names_parts, names_other}

-- a slice that is written back where it came from
pub written : {A : Type 0} (n : ℕ) (s rest : List A) → length s ≡ n → take n (s ++ rest) ≡ s
written n s rest e = rw (← e) (take-append_seam s rest)

module _ {A : Type 0} (key : A → ℕ) where
  -- what stands first from an index on
  pub begin_same_at : (x : A) (xs : List A) (i : ℕ) (d : A) → i < length xs → begin_same key x (drop i xs) ≡ (key (get_or xs i d) == key x)
  begin_same_at x xs i d lt = rw (drop_more xs i d lt) refl

  drop_past : (xs : List A) (i : ℕ) → length xs ≤ i → drop i xs ≡ []
  drop_past xs i le = none (drop i xs) (omega (arith, length-drop i xs))
    where
      none : (ys : List A) → length ys ≡ 0 → ys ≡ []
      none [] e = refl
      none (y ∷ ys) e = absurd (omega arith)

  pub begin_same_past : (x : A) (xs : List A) (i : ℕ) → length xs ≤ i → begin_same key x (drop i xs) ≡ false
  begin_same_past x xs i le = rw (drop_past xs i le) refl

  -- once all have been looked at, the front is what was looked for
  pub lasts_all : (xs all : List A) (kept i : ℕ) → length xs ≤ i → take kept xs ++ last_updates key (drop i xs) ≡ all → take kept xs ≡ all
  lasts_all xs all kept i le is = sym (append-nil (take kept xs)) ∙ ap (λ zs. take kept xs ++ last_updates key zs) (sym (drop_past xs i le)) ∙ is

module _ {A : Type 0} (key : A → ℕ) (xs all : List A) (kept i : ℕ) (x : A) (lt : i < length xs) (here : x ≡ get_or xs i x) (so_far : take kept xs ++ last_updates key (drop i xs) ≡ all) where
  at_index : take kept xs ++ last_updates key (x ∷ drop (i + 1) xs) ≡ all
  at_index = ap (λ zs. take kept xs ++ last_updates key zs) (ap (λ z. z ∷ drop (i + 1) xs) here ∙ sym (drop_more xs i x lt)) ∙ so_far

  -- an update that a later one supersedes is left out
  pub lasts_skip : begin_same key x (drop (i + 1) xs) ≡ true → take kept xs ++ last_updates key (drop (i + 1) xs) ≡ all
  lasts_skip same = rw same at at_index

  -- any other is moved to the front
  pub lasts_more : begin_same key x (drop (i + 1) xs) ≡ false → kept ≤ i → take (kept + 1) (set xs kept x) ++ last_updates key (drop (i + 1) (set xs kept x)) ≡ all
  lasts_more other le =
      let room : kept < length xs = omega arith in
      let front : take (kept + 1) (set xs kept x) ≡ take kept xs ++ x ∷ [] = take_more_set xs kept x room in
      let back : drop (i + 1) (set xs kept x) ≡ drop (i + 1) xs = drop-set-lt (i + 1) xs kept x (omega arith) in
      let more : take kept xs ++ x ∷ last_updates key (drop (i + 1) xs) ≡ all = rw other at at_index in
      rw (front, back) (append_assoc (take kept xs) (x ∷ []) (last_updates key (drop (i + 1) xs)) ∙ more)

-- the first update, if there is one, stands after another
abbrev BeginAfter : EdgeUpdate → List EdgeUpdate → Type 0
BeginAfter a [] = Unit {0}
BeginAfter a (u ∷ us) = IsBefore a u

in_order_after : (u : EdgeUpdate) (us : List EdgeUpdate) → FollowInOrder u us → AreInOrder us
in_order_after u [] s = tt
in_order_after u (v ∷ vs) s = s.1

module _ {A : Type 0} (pair_of : A → EdgeUpdate × ℤ) (key : A → ℕ) (keyed : (x : A) → key x ≡ key_of (pair_of x).0) where
  -- the updates alone
  abbrev updates_of : List A → List EdgeUpdate
  updates_of xs = keys_of (map pair_of xs)

  one_key : (x y : A) → (key x == key y) ≡ true → key_of (pair_of x).0 ≡ key_of (pair_of y).0
  one_key x y same = sym (keyed x) ∙ eqb-true (key x) (key y) same ∙ keyed y

  -- an edge that the first update names is decided after it if the next one names it too
  next_decides : (x : A) (xs : List A) (e : Edge) → begin_same key x xs ≡ true → names (pair_of x).0 e ≡ true
      → option_or (decided_weight (map pair_of xs) e) (one_weight_decided (pair_of x) e) ≡ decided_weight (map pair_of xs) e
  next_decides x [] e same is = absurd (false≢true same)
  next_decides x (y ∷ ys) e same is =
      let same_key = one_key y x same in
      let next : names (pair_of y).0 e ≡ true = rw (same_vertex (pair_of y).0 (pair_of x).0 same_key, same_neighbour (pair_of y).0 (pair_of x).0 same_key) is in
      some_decides (decided_weight (map pair_of ys) e) (one_weight_decided (pair_of y) e) (one_weight_decided (pair_of x) e) (rw next (λ f. cc))
    where
      some_decides : (a b o : Option (Option ℤ)) → (b ≡ None → ⊥) → option_or (option_or a b) o ≡ option_or a b
      some_decides None None o f = absurd (f refl)
      some_decides None (Some x) o f = refl
      some_decides (Some c) b o f = refl

  -- the last updates decide as all do
  pub decided_lasts : (xs : List A) (e : Edge) → decided_weight (map pair_of (last_updates key xs)) e ≡ decided_weight (map pair_of xs) e
  decided_lasts [] e = refl
  decided_lasts (x ∷ xs) e = elim (cases_Bool (begin_same key x xs)) [
    | inl same ↦ rw same (decided_lasts xs e ∙ elim (cases_Bool (names (pair_of x).0 e)) [
      | inl is ↦ sym (next_decides x xs e same is)
      | inr other ↦ rw other (sym (option_or-none (decided_weight (map pair_of xs) e)))
    ])
    | inr last ↦ rw last (ap (λ o. option_or o (one_weight_decided (pair_of x) e)) (decided_lasts xs e))
  ]

  -- what has another key, and stands no earlier, stands after
  begin_after : (x : A) (xs : List A) → FollowInOrder (pair_of x).0 (updates_of xs) → begin_same key x xs ≡ false → BeginAfter (pair_of x).0 (updates_of xs)
  begin_after x [] s other = tt
  begin_after x (y ∷ ys) s other =
      let apart : key y ≢ key x = eqb-false (key y) (key x) other in
      (s.0.0, λ same. omega (arith, same, s.0.1 same, apart, keyed x, keyed y, key_is (pair_of x).0, key_is (pair_of y).0))

  begin_after_same : (a : EdgeUpdate) (x : A) (xs : List A) → IsBefore a (pair_of x).0 → begin_same key x xs ≡ true → BeginAfter a (updates_of xs)
  begin_after_same a x [] s same = tt
  begin_after_same a x (y ∷ ys) s same =
      let same_key = one_key y x same in
      rw (same_vertex (pair_of y).0 (pair_of x).0 same_key, same_neighbour (pair_of y).0 (pair_of x).0 same_key) s

  lasts_follow : (a : EdgeUpdate) (xs : List A) → AreInOrder (updates_of xs) → BeginAfter a (updates_of xs) → FollowAscending a (updates_of (last_updates key xs))
  lasts_follow a [] order after = tt
  lasts_follow a (x ∷ xs) order after = elim (cases_Bool (begin_same key x xs)) [
    | inl same ↦ rw same (lasts_follow a xs (in_order_after (pair_of x).0 (updates_of xs) order) (begin_after_same a x xs after same))
    | inr last ↦ rw last (after, lasts_follow (pair_of x).0 xs (in_order_after (pair_of x).0 (updates_of xs) order) (begin_after x xs order last))
  ]

  -- the last updates of edges in order ascend
  pub lasts_ascend : (xs : List A) → AreInOrder (updates_of xs) → Ascend (updates_of (last_updates key xs))
  lasts_ascend [] order = tt
  lasts_ascend (x ∷ xs) order = elim (cases_Bool (begin_same key x xs)) [
    | inl same ↦ rw same (lasts_ascend xs (in_order_after (pair_of x).0 (updates_of xs) order))
    | inr last ↦ rw last (lasts_follow (pair_of x).0 xs (in_order_after (pair_of x).0 (updates_of xs) order) (begin_after x xs order last))
  ]

-- an edge that stands no later than an update is not named after it
none_after : (a : EdgeUpdate) (us : List EdgeUpdate) (e : Edge) → FollowAscending a us → e.0 ≤ vertex_of a → (e.0 ≡ vertex_of a → e.1 ≤ neighbour_of a) → times e us ≡ 0
none_after a [] e s le no_later = refl
none_after a (u ∷ us) e s le no_later =
    let other : names u e ≡ false = names_other u e (λ v n.
    let at : e.0 ≡ vertex_of a = omega (arith, v, le, s.0.0) in
    omega (arith, v, n, at, no_later at, s.0.1 (omega (arith, at, v)))) in
    rw other (none_after u us e s.1 (omega (arith, le, s.0.0)) (λ is.
    let at : e.0 ≡ vertex_of a = omega (arith, is, le, s.0.0) in
    omega (arith, no_later at, s.0.1 (omega (arith, at, is)))))

follow_once : (a : EdgeUpdate) (us : List EdgeUpdate) (e : Edge) → FollowAscending a us → times e us ≤ 1 → times e (a ∷ us) ≤ 1
follow_once a us e s rest = elim (cases_Bool (names a e)) [
  | inl is ↦
      let parts = names_parts a e is in
      let none : times e us ≡ 0 = none_after a us e s (omega (arith, parts.0)) (λ same. omega (arith, parts.1)) in
      rw is (omega (arith, none))
  | inr other ↦ rw other rest
]

-- updates whose edges ascend name no edge twice
pub ascend_once : (us : List EdgeUpdate) → Ascend us → NamesOnce us
ascend_once [] s e = omega arith
ascend_once (u ∷ us) s e = follow_once u us e s (ascend_once us (ascend_after u us s) e)
  where
    ascend_after : (a : EdgeUpdate) (xs : List EdgeUpdate) → FollowAscending a xs → Ascend xs
    ascend_after a [] t = tt
    ascend_after a (x ∷ xs) t = t.1
