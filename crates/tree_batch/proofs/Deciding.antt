-- What decides on an edge and its weight when entries are joined, filtered or sorted, and what a batch that fits asks for.
use Rattle.std.proofs.Common.{◌≡◌, ℕ, zero, suc, ◌<◌, ◌≤◌, max, ◌⊎◌, ltb, length, slice_index_or, MatchOption, Bool, true, false, ℤ, ◌||◌, Option, Some, None, inl, inr, List, [], ◌∷◌, ◌++◌, refl, sym}
use Rattle.std.proofs.Common.{ap, ◌∙◌, subst, arith, leb}
use Rattle.std.proofs.lemmas.Bool.{cases_Bool, cases_lt, leb-false, le-leb, ltb-false, or_parts, and_parts, and_from, leb-true}
use Rattle.std.proofs.lemmas.List.Elements.{All-nil, All-cons, All-head, All-tail}
use Rattle.std.specs.Option.{option_or}
use Rattle.std.specs.List.{list_any, All, Contains}
use Rattle.tree_batch.specs.declared.batch.Entry.{Entry}
use Rattle.tree_batch.specs.declared.batch.Entry.TheVariants.{Add, Remove, Grow}
use Rattle.tree_batch.specs.Edge.{Ends, IsWithin, named_by, made_by, has_weight, count_asked, most_asked, vertices_after, entry_misfits, misfits, is_between, entry_decision, decision, NoneNames}
use Rattle.tree_batch.specs.inside.Entry.{NamesWithin}
use Rattle.tree_batch.specs.Digraph.{is_vertex_count}
use Rattle.tree_batch.proofs.Rising.{ends_eq-refl, ends_eq-true}

pub option_or-none : {A : Type 0} (o : Option A) → option_or o None ≡ o
option_or-none None = refl
option_or-none (Some x) = refl

pub option_or-assoc : {A : Type 0} (a b c : Option A) → option_or (option_or a b) c ≡ option_or a (option_or b c)
option_or-assoc None b c = refl
option_or-assoc (Some x) b c = refl

-- an entry at the end decides before the others
pub decision-pushed : (xs : List Entry) (x : Entry) (e : Ends) → decision (xs ++ x ∷ []) e ≡ option_or (entry_decision x e) (decision xs e)
decision-pushed [] x e = sym (option_or-none (entry_decision x e))
decision-pushed (y ∷ ys) x e =
    ap (λ o. option_or o (entry_decision y e)) (decision-pushed ys x e) ∙ option_or-assoc (entry_decision x e) (decision ys e) (entry_decision y e)

-- an entry for another edge says nothing
pub entry_decision-other : (x : Entry) (e : Ends) → is_between (named_by x) e ≡ false → entry_decision x e ≡ None
entry_decision-other x e other = rw (other) refl

-- an entry that fits names an edge within, if it names one
entry_within : (n m : ℕ) (x : Entry) → entry_misfits n m x ≡ false → NamesWithin m x
entry_within n m (Add u v w) fits = let parts = or_parts (leb m u) (leb m v) fits in (leb-false m u parts.0, leb-false m v parts.1)
entry_within n m (Remove u v) fits = let parts = or_parts (leb m u) (leb m v) fits in (leb-false m u parts.0, leb-false m v parts.1)
entry_within n m (Grow k) fits = tt

-- the edge that an entry names is this one
names_this : (P : Ends → Type 0) (x : Entry) (e : Ends) → is_between (named_by x) e ≡ true → MatchOption (named_by x) (Unit {0}) P → P e
names_this P (Add u v w) e names h = subst P (ends_eq-true (u, v) e names) h
names_this P (Remove u v) e names h = subst P (ends_eq-true (u, v) e names) h
names_this P (Grow k) e names h = cc

-- the edges on which a batch decides are within what it names
pub decided_within : (n : ℕ) (xs : List Entry) (e : Ends) (b : Option ℤ) → All (NamesWithin n) xs → decision xs e ≡ Some b → IsWithin n e
decided_within n [] e b inside is = cc
decided_within n (x ∷ xs) e b inside is =
    elim (cases_Bool (is_between (named_by x) e)) [
      | inl names ↦ names_this (IsWithin n) x e names (All-head (NamesWithin n) x xs inside)
      | inr other ↦ decided_within n xs e b (All-tail (NamesWithin n) x xs inside)
          (sym (option_or-none (decision xs e)) ∙ ap (λ o. option_or (decision xs e) o) (sym (entry_decision-other x e other)) ∙ is)
    ]

-- where no entry names the edge none decides
pub none_decides : (xs : List Entry) (e : Ends) → NoneNames e xs → decision xs e ≡ None
none_decides [] e none = refl
none_decides (x ∷ xs) e none = rw (none_decides xs e none.1) (entry_decision-other x e none.0)

-- the last entry that names an edge decides
pub last_decides : (front : List Entry) (x : Entry) (back : List Entry) (e : Ends) → named_by x ≡ Some e → NoneNames e back → decision (front ++ x ∷ back) e ≡ Some (made_by x)
last_decides [] x back e names none = rw (none_decides back e none, names, ends_eq-refl e) refl
last_decides (y ∷ ys) x back e names none = rw (last_decides ys x back e names none) refl

-- entries that fit name edges within
all_within : (n m : ℕ) (xs : List Entry) → list_any (entry_misfits n m) xs ≡ false → All (NamesWithin m) xs
all_within n m [] fit = All-nil (NamesWithin m)
all_within n m (x ∷ xs) fit =
    let parts = or_parts (entry_misfits n m x) (list_any (entry_misfits n m) xs) fit in
    All-cons (NamesWithin m) x xs (entry_within n m x parts.0) (all_within n m xs parts.1)

-- they are within what a batch that fits makes of a graph
pub batch_within : (n : ℕ) (xs : List Entry) → misfits n xs ≡ false → All (NamesWithin (vertices_after n xs)) xs
unfolding misfits
batch_within n xs fit = all_within n (vertices_after n xs) xs fit

within_more : (n m : ℕ) (x : Entry) → n ≤ m → NamesWithin n x → NamesWithin m x
within_more n m (Add u v w) le h = (omega (arith, h.0), omega (arith, h.1))
within_more n m (Remove u v) le h = (omega (arith, h.0), omega (arith, h.1))
within_more n m (Grow k) le h = tt

asked_few : (n m : ℕ) (x : Entry) → entry_misfits n m x ≡ false → count_asked x ≤ 16777216
asked_few n m (Add u v w) fits = omega arith
asked_few n m (Remove u v) fits = omega arith
asked_few n m (Grow k) fits = let parts = or_parts (ltb k n) (ltb 16777216 k) fits in ltb-false 16777216 k parts.1

most_few : (n m : ℕ) (xs : List Entry) → list_any (entry_misfits n m) xs ≡ false → most_asked xs ≤ 16777216
most_few n m [] fit = omega arith
most_few n m (x ∷ xs) fit =
    let parts = or_parts (entry_misfits n m x) (list_any (entry_misfits n m) xs) fit in
    omega (arith, asked_few n m x parts.0, most_few n m xs parts.1)

-- after a batch that fits a graph has as many vertices as a graph may have
pub count_after : (n : ℕ) (xs : List Entry) → is_vertex_count n ≡ true → misfits n xs ≡ false → is_vertex_count (vertices_after n xs) ≡ true
unfolding misfits
count_after n xs count fit =
    let parts = and_parts (leb 1 n) (leb n 16777216) count in
    let some : 1 ≤ vertices_after n xs = omega (arith, leb-true 1 n parts.0) in
    let few : vertices_after n xs ≤ 16777216 = omega (arith, leb-true n 16777216 parts.1, most_few n (vertices_after n xs) xs fit) in
    and_from _ _ (le-leb 1 (vertices_after n xs) some) (le-leb (vertices_after n xs) 16777216 few)

-- entries that fit a graph name edges that some graph has
pub all_inside : (n : ℕ) (xs : List Entry) → n ≤ 16777216 → misfits n xs ≡ false → All (NamesWithin 16777216) xs
unfolding misfits
all_inside n xs le fit k d lt =
    let few : vertices_after n xs ≤ 16777216 = omega (arith, most_few n (vertices_after n xs) xs fit) in
    within_more (vertices_after n xs) 16777216 _ few (batch_within n xs fit k d lt)

-- with an entry at the end the most that is asked for is the greater of both
pub most_pushed : (xs : List Entry) (x : Entry) → most_asked (xs ++ x ∷ []) ≡ max (most_asked xs) (count_asked x)
most_pushed [] x = omega arith
most_pushed (y ∷ ys) x = omega (arith, most_pushed ys x)

-- no entry asks for more than the most
pub asked_most : (xs : List Entry) (n k : ℕ) → k < length xs → slice_index_or xs k (Grow n) ≡ Grow n → n ≤ most_asked xs
asked_most [] n k lt is = absurd (omega arith)
asked_most (x ∷ xs) n zero lt is = let same : count_asked x ≡ n = ap count_asked is in omega (arith, same)
asked_most (x ∷ xs) n (suc k) lt is = omega (arith, asked_most xs n k (omega arith) is)

-- the most is what an entry asks for, if it is some
pub most_is_asked : (xs : List Entry) → (most_asked xs ≡ 0) ⊎ Contains xs (Grow (most_asked xs))
most_is_asked [] = inl refl
most_is_asked (x ∷ xs) = elim (cases_lt (count_asked x) (most_asked xs)) [
  | inl less ↦
      let same : most_asked (x ∷ xs) ≡ most_asked xs = omega arith in
      elim (most_is_asked xs) [
        | inl zero_most ↦ inl (same ∙ zero_most)
        | inr there ↦ inr (subst (λ n. Contains (x ∷ xs) (Grow n)) (sym same) (suc there.0, omega (arith, there.1), there.2))
      ]
  | inr most ↦
      let same : most_asked (x ∷ xs) ≡ count_asked x = omega arith in
      elim (grows x) [
        | inl asks_none ↦ inl (same ∙ asks_none)
        | inr is ↦ inr (subst (λ n. Contains (x ∷ xs) (Grow n)) (sym same) (0, omega arith, is))
      ]
]
  where
    grows : (x : Entry) → (count_asked x ≡ 0) ⊎ (x ≡ Grow (count_asked x))
    grows (Add u v w) = inl refl
    grows (Remove u v) = inl refl
    grows (Grow n) = inr refl

or_false : (b : Bool) → (b || false) ≡ b
or_false true = refl
or_false false = refl

-- with an entry at the end some weight is not 1 where one was, or it has one
pub weighted_pushed : (xs : List Entry) (x : Entry) → list_any has_weight (xs ++ x ∷ []) ≡ (list_any has_weight xs || has_weight x)
weighted_pushed [] (Add u v w) = or_false (has_weight (Add u v w))
weighted_pushed [] (Remove u v) = refl
weighted_pushed [] (Grow n) = refl
weighted_pushed (y ∷ ys) x = elim (cases_Bool (has_weight y)) [
  | inl there ↦ rw (there) refl
  | inr absent ↦ rw (absent) (weighted_pushed ys x)
]
