-- Updates whose ends are swapped.
use Rattle.std.proofs.Common.{◌≡◌, ℕ, zero, suc, ℤ, ◌≤◌, ◌+◌, ◌<◌, ◌==◌, Bool, true, false, ◌&&◌, List, [], ◌∷◌, ◌++◌, length, map, get_or, take, drop, refl, sym, ◌∙◌, arith}
use Rattle.std.proofs.Math.ListN.{set, length-set}
use Rattle.std.proofs.Math.Seq.{take-length}
use Rattle.std.proofs.lemmas.List.{take_more, take_more_set, drop_more, drop-set-lt}
use Rattle.std.specs.List.Sorted.{IsSortedByKey}
use Rattle.std.specs.Map.{keys_of}
use Rattle.std.specs.Ordering.{nat_cmp}
use Rattle.edge_updates.specs.declared.edge_update.EdgeUpdate.{EdgeUpdate}
use Rattle.edge_updates.specs.EdgeUpdate.{vertex_of, neighbour_of, adds}
use Rattle.edge_updates.specs.Updates.{names, decided_weight, times, Ascend, NamesOnce}
use Rattle.edge_updates.proofs.SortedUpdates.{sorted_from}
use Rattle.edge_updates.proofs.KeepingLast.{written}

-- the one update has the ends of the other swapped, and its weight
pub record IsTransposed (x y : EdgeUpdate × ℤ) : Type 0 where
  pub vertex : vertex_of y.0 ≡ neighbour_of x.0
  pub neighbour : neighbour_of y.0 ≡ vertex_of x.0
  pub is_added : adds y.0 ≡ adds x.0
  pub weight : y.1 ≡ x.1

and_swap : (a b : Bool) → (a && b) ≡ (b && a)
and_swap true true = refl
and_swap true false = refl
and_swap false true = refl
and_swap false false = refl

names_transposed : (x y : EdgeUpdate × ℤ) (u v : ℕ) → IsTransposed x y → names y.0 (v, u) ≡ names x.0 (u, v)
names_transposed x y u v t = rw (t.vertex, t.neighbour) (and_swap (neighbour_of x.0 == v) (vertex_of x.0 == u))

module _ {A : Type 0} (pair_of : A → EdgeUpdate × ℤ) where
  -- each has
  abbrev pub AreTransposed : List A → List A → Type 0
  AreTransposed [] [] = Unit {0}
  AreTransposed [] (y ∷ ys) = ⊥
  AreTransposed (x ∷ xs) [] = ⊥
  AreTransposed (x ∷ xs) (y ∷ ys) = IsTransposed (pair_of x) (pair_of y) × AreTransposed xs ys

  transposed_pushed : (xs ys : List A) (x y : A) → AreTransposed xs ys → IsTransposed (pair_of x) (pair_of y) → AreTransposed (xs ++ x ∷ []) (ys ++ y ∷ [])
  transposed_pushed [] [] x y s t = (t, tt)
  transposed_pushed [] (b ∷ ys) x y s t = absurd s
  transposed_pushed (a ∷ xs) [] x y s t = absurd s
  transposed_pushed (a ∷ xs) (b ∷ ys) x y s t = (s.0, transposed_pushed xs ys x y s.1 t)

  -- some are transposed, and the rest are as they were
  pub record AreTransposedSoFar (old now : List A) (i : ℕ) : Type 0 where
    pub transposed : AreTransposed (take i old) (take i now)
    pub rest : drop i now ≡ drop i old
    pub len : length now ≡ length old

  pub transposed_none : (old : List A) → AreTransposedSoFar old old 0
  transposed_none old = record { transposed = tt; rest = refl; len = refl }

  -- one more is transposed
  pub transposed_more : (old now : List A) (i : ℕ) (d y : A) → i < length now → AreTransposedSoFar old now i → IsTransposed (pair_of (get_or now i d)) (pair_of y)
      → AreTransposedSoFar old (set now i y) (i + 1)
  transposed_more old now i d y lt so_far t =
      let len : length now ≡ length old = so_far.len in
      let split : get_or now i d ∷ drop (i + 1) now ≡ get_or old i d ∷ drop (i + 1) old = sym (drop_more now i d lt) ∙ so_far.rest ∙ drop_more old i d (omega arith) in
      let same : get_or now i d ≡ get_or old i d = cc in
      let behind : drop (i + 1) now ≡ drop (i + 1) old = cc in
      record {
        transposed = rw (take_more old i d (omega arith), take_more_set now i y lt, ← same) (transposed_pushed (take i old) (take i now) (get_or now i d) y so_far.transposed t);
        rest = drop-set-lt (i + 1) now i y (omega arith) ∙ behind;
        len = length-set now i y ∙ len;
      }

  -- all are transposed
  pub transposed_all : (old now rest : List A) (i n : ℕ) → AreTransposedSoFar old now i → i ≡ length now → length now ≡ n → AreTransposed old (take n (now ++ rest))
  transposed_all old now rest i n so_far end is =
      let olds : take i old ≡ old = rw (end, so_far.len) (take-length old) in
      let nows : take i now ≡ now = rw end (take-length now) in
      rw (written n now rest is) (rw (olds, nows) at so_far.transposed)

  -- transposed updates decide on the edges the other way round
  pub decided_transposed : (xs ys : List A) (u v : ℕ) → AreTransposed xs ys → decided_weight (map pair_of ys) (v, u) ≡ decided_weight (map pair_of xs) (u, v)
  decided_transposed [] [] u v s = refl
  decided_transposed [] (y ∷ ys) u v s = absurd s
  decided_transposed (x ∷ xs) [] u v s = absurd s
  decided_transposed (x ∷ xs) (y ∷ ys) u v s = rw (decided_transposed xs ys u v s.1, names_transposed (pair_of x) (pair_of y) u v s.0, s.0.is_added, s.0.weight)

  times_transposed : (xs ys : List A) (u v : ℕ) → AreTransposed xs ys → times (v, u) (keys_of (map pair_of ys)) ≡ times (u, v) (keys_of (map pair_of xs))
  times_transposed [] [] u v s = refl
  times_transposed [] (y ∷ ys) u v s = absurd s
  times_transposed (x ∷ xs) [] u v s = absurd s
  times_transposed (x ∷ xs) (y ∷ ys) u v s = rw (times_transposed xs ys u v s.1, names_transposed (pair_of x) (pair_of y) u v s.0)

  -- and name none twice if none was
  pub once_transposed : (xs ys : List A) → AreTransposed xs ys → NamesOnce (keys_of (map pair_of xs)) → NamesOnce (keys_of (map pair_of ys))
  once_transposed xs ys s once e = omega (arith, once (e.1, e.0), times_transposed xs ys e.1 e.0 s)

  -- the new neighbours of updates that ascended do not fall
  transposed_rise : (xs ys : List A) → Ascend (keys_of (map pair_of xs)) → AreTransposed xs ys → (k : ℕ) (d : A) → k + 1 < length ys
      → neighbour_of (pair_of (get_or ys k d)).0 ≤ neighbour_of (pair_of (get_or ys (k + 1) d)).0
  transposed_rise [] [] s t k d lt = absurd (omega arith)
  transposed_rise [] (y ∷ ys) s t k d lt = absurd t
  transposed_rise (x ∷ xs) [] s t k d lt = absurd t
  transposed_rise (x ∷ []) (y ∷ []) s t k d lt = absurd (omega arith)
  transposed_rise (x ∷ []) (y ∷ z ∷ ys) s t k d lt = absurd t.1
  transposed_rise (x ∷ w ∷ xs) (y ∷ []) s t k d lt = absurd t.1
  transposed_rise (x ∷ w ∷ xs) (y ∷ z ∷ ys) s t zero d lt = omega (arith, t.0.neighbour, t.1.0.neighbour, s.0.0)
  transposed_rise (x ∷ w ∷ xs) (y ∷ z ∷ ys) s t (suc k) d lt =
      let next : suc k + 1 ≡ suc (k + 1) = omega arith in
      rw next (transposed_rise (w ∷ xs) (z ∷ ys) s.1 t.1 k d (omega arith))

  pub transposed_sorted : (xs ys : List A) → Ascend (keys_of (map pair_of xs)) → AreTransposed xs ys → IsSortedByKey (λ x. neighbour_of (pair_of x).0) nat_cmp ys
  transposed_sorted xs ys s t = sorted_from (λ x. neighbour_of (pair_of x).0) ys (transposed_rise xs ys s t)
