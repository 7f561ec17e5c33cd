-- Answers for two lists of entries that are cut at one entry of the first.
use Rattle.std.proofs.Common.{◌≡◌, ℕ, ℤ, ◌+◌, ◌^◌, ◌<◌, ◌≤◌, Option, None, Some, List, [], ◌∷◌, ◌++◌, length, refl, sym, ◌∙◌, ap, length-append, arith}
use Rattle.std.specs.Prelude.{Result, Ok, Err, IfOk}
use Rattle.std.specs.Map.{keys_of}
use Rattle.std.specs.declared.alloc.AllocError.{AllocError}
use Rattle.ascending_lists.specs.Operations.{most}
use Rattle.ascending_lists.specs.Ascending.{AscendsFrom, Ascends, least}
use Rattle.ascending_lists.specs.MapOperations.{entries_below, entries_above, union_keeping_first, union_keeping_second}
use Rattle.ascending_lists.proofs.Ascending.{ascends_from}
use Rattle.ascending_lists.proofs.Cutting.{below_ascends, above_from}
use Rattle.ascending_lists.proofs.MapCuts.{keys_below, keys_above}
use Rattle.ascending_lists.proofs.MapKeys.{entries_rise}
use Rattle.ascending_lists.proofs.MapUnions.{exchanged}
use Rattle.tail_codec.specs.EntryCuts.{CutsEntries}
use Rattle.tail_codec.specs.Operations.{combined_maps, on_keys}
use Rattle.tail_codec.specs.declared.operation.MapOperation.{MapOperation}
use Rattle.tail_codec.specs.declared.operation.MapOperation.TheVariants.{Union, UnionKeepingFirst}
use Rattle.c_tree.specs.Chunks.{ChunkedSet}
use Rattle.c_tree.specs.Parts.{IsRoot}
use Rattle.c_tree.specs.declared.cut.Cut.{Cut}
use Rattle.set_ops.specs.declared.combined.Combined.{Combined}
use Rattle.set_ops.specs.declared.combined.Head.{Head}
use Rattle.set_ops.specs.inside.Answers.{kept, around, rejoined, IsCombined, IsRejoined}
use Rattle.set_ops.specs.inside.Halving.{AreHalves, AreHalvesOver, AreAnswers}
use Rattle.set_ops.proofs.Cutting.{front_ascends, back_ascends}
use Rattle.set_ops.proofs.Laws.{combined_cut, combined_count, combined_ascends, most_room, with_no_second, most_no_second}

-- a head of the first list, and what the second has there
abbrev pub head_of : ℕ → ℤ → Option ℤ → Head
head_of k w found = record { key = k; weight = w; found = found }

-- What two answers are when they are put together.
pub record CanRejoin (op : MapOperation) (b : ℕ) (xs ys : List (ℕ × ℤ)) (h : Head) (lo hi : Combined) : Type 0 where
  pub sizes : hi.part.chunk_size ≡ lo.part.chunk_size
  pub size : lo.part.chunk_size ≡ b
  pub ascending : Ascends None (keys_of (rejoined op lo.part.entries h hi.part.entries))
  pub below_room : lo.common ≤ 2 ^ 40
  pub above_room : hi.common ≤ 2 ^ 40
  pub whole : (m : Combined) → IsRejoined op lo h hi m.part m.common → IsCombined op b xs ys m.part m.common

module _ (base : Option ℕ) (k : ℕ) (w : ℤ) (xs l r ys yl yr : List (ℕ × ℤ)) (found : Option ℤ) (is : xs ≡ l ++ (k, w) ∷ r) (cut : CutsEntries k ys yl found yr) (up : Ascends base (keys_of xs))
    (up' : Ascends base (keys_of ys)) where
  rising : AscendsFrom (least base) (keys_of (l ++ (k, w) ∷ r))
  rising = rw is at up

  left_over : Ascends base (keys_of l)
  left_over = front_ascends (k, w) r (least base) l rising

  right_over : Ascends (Some k) (keys_of r)
  right_over = back_ascends (k, w) r (least base) l rising

  below_over : Ascends base (keys_of yl)
  below_over = rw (cut.front, keys_below k ys) (below_ascends k (least base) (keys_of ys) up')

  above_over : Ascends (Some k) (keys_of yr)
  above_over = rw (cut.back, keys_above k ys) (above_from k (least base) (keys_of ys) up')

  left_smaller : length l < length xs
  left_smaller = omega (arith, ap length is, length-append l ((k, w) ∷ r))

  right_smaller : length r < length xs
  right_smaller = omega (arith, ap length is, length-append l ((k, w) ∷ r))

  module _ (op : MapOperation) (b : ℕ) (lo hi : Combined) (lo_is : IsCombined op b l yl lo.part lo.common) (hi_is : IsCombined op b r yr hi.part hi.common) where
    list : rejoined op lo.part.entries (head_of k w found) hi.part.entries ≡ combined_maps op xs ys
    list =
        ap (λ v. around v k (kept op w found) hi.part.entries) lo_is.set.entries
        ∙ ap (λ v. around (combined_maps op l yl) k (kept op w found) v) hi_is.set.entries
        ∙ rw (cut.front, cut.there, cut.back, is) (sym (combined_cut op k w (least base) l r ys rising))

    whole : (m : Combined) → IsRejoined op lo (head_of k w found) hi m.part m.common → IsCombined op b xs ys m.part m.common
    whole m re = record {
      set = record { entries = re.set.entries ∙ list; chunk_size = re.set.chunk_size ∙ lo_is.set.chunk_size };
      count =
          let below_count : lo.common + length (combined_maps op l (entries_below k ys)) ≡ most (on_keys op) (length l) (length (entries_below k ys)) = rw cut.front at lo_is.count in
          let above_count : hi.common + length (combined_maps op r (entries_above k ys)) ≡ most (on_keys op) (length r) (length (entries_above k ys)) = rw cut.back at hi_is.count in
          rw (re.count, cut.there, is) (combined_count op k w (least base) (least base) l r ys rising up' lo.common hi.common below_count above_count);
    }

    can_rejoin : CanRejoin op b xs ys (head_of k w found) lo hi
    can_rejoin = record {
      sizes = hi_is.set.chunk_size ∙ sym lo_is.set.chunk_size;
      size = lo_is.set.chunk_size;
      ascending = rw list (ascends_from 0 (least base) (keys_of (combined_maps op xs ys)) (omega arith) (combined_ascends op (least base) xs ys up up'));
      below_room = omega (arith, lo_is.count, most_room op (least base) l yl left_over below_over);
      above_room = omega (arith, hi_is.count, most_room op (k + 1) r yr right_over above_over);
      whole = whole;
    }

-- where each answer that is put together from two is right, so is the result
pub ok_is : (P Q : Combined → Type 0) → ((m : Combined) → P m → Q m) → (r : Result Combined AllocError) → IfOk r P → IfOk r Q
ok_is P Q f (Ok m) p = f m p
ok_is P Q f (Err e) p = tt

-- a set is the answer for itself and nothing
pub unchanged : (op : MapOperation) (a : ChunkedSet) (ys : List (ℕ × ℤ)) → ys ≡ [] → IsCombined op a.chunk_size a.entries ys a 0
unchanged op a ys none =
    let same = with_no_second op a.entries ys none in
    record {
      set = record { entries = sym same; chunk_size = refl };
      count = omega (arith, ap length same, most_no_second op a.entries ys none);
    }

-- a union that keeps the second's weights is one of the exchanged lists that keeps the first's
module _ (base : Option ℕ) (b : ℕ) (xs ys : List (ℕ × ℤ)) (m : ChunkedSet) (common : ℕ) (up : Ascends base (keys_of xs)) (up' : Ascends base (keys_of ys)) where
  exchange : union_keeping_first xs ys ≡ union_keeping_second ys xs
  exchange =
      exchanged xs ys
      (entries_rise 0 xs (omega arith) (ascends_from 0 (least base) (keys_of xs) (omega arith) up))
      (entries_rise 0 ys (omega arith) (ascends_from 0 (least base) (keys_of ys) (omega arith) up'))

  pub first_from_second : IsCombined Union b ys xs m common → IsCombined UnionKeepingFirst b xs ys m common
  first_from_second is = record {
    set = record { entries = is.set.entries ∙ sym exchange; chunk_size = is.set.chunk_size };
    count = omega (arith, is.count, ap length exchange);
  }

  pub second_from_first : IsCombined UnionKeepingFirst b xs ys m common → IsCombined Union b ys xs m common
  second_from_first is = record {
    set = record { entries = is.set.entries ∙ exchange; chunk_size = is.set.chunk_size };
    count = omega (arith, is.count, ap length exchange);
  }

-- a set that is cut at its root, and a list
module _ (base : Option ℕ) (a l : ChunkedSet) (k : ℕ) (w : ℤ) (r : ChunkedSet) (root : IsRoot a l k w r) (ys yl yr : List (ℕ × ℤ)) (found : Option ℤ) (cut : CutsEntries k ys yl found yr)
    (up : Ascends base (keys_of a.entries)) (up' : Ascends base (keys_of ys)) where
  pub over_left : Ascends base (keys_of l.entries) × Ascends base (keys_of yl)
  over_left = (
    left_over base k w a.entries l.entries r.entries ys yl yr found root.entries cut up up',
    below_over base k w a.entries l.entries r.entries ys yl yr found root.entries cut up up',
  )

  pub over_right : Ascends (Some k) (keys_of r.entries) × Ascends (Some k) (keys_of yr)
  over_right = (
    right_over base k w a.entries l.entries r.entries ys yl yr found root.entries cut up up',
    above_over base k w a.entries l.entries r.entries ys yl yr found root.entries cut up up',
  )

  pub less_left : length l.entries < length a.entries
  less_left = left_smaller base k w a.entries l.entries r.entries ys yl yr found root.entries cut up up'

  pub less_right : length r.entries < length a.entries
  less_right = right_smaller base k w a.entries l.entries r.entries ys yl yr found root.entries cut up up'

  pub root_rejoin : (op : MapOperation) (lo hi : Combined) → IsCombined op l.chunk_size l.entries yl lo.part lo.common → IsCombined op r.chunk_size r.entries yr hi.part hi.common
      → CanRejoin op a.chunk_size a.entries ys (head_of k w found) lo hi
  root_rejoin op lo hi is_lo is_hi =
      let lo_is : IsCombined op a.chunk_size l.entries yl lo.part lo.common = rw root.left_size at is_lo in
      let hi_is : IsCombined op a.chunk_size r.entries yr hi.part hi.common = rw root.right_size at is_hi in
      can_rejoin base k w a.entries l.entries r.entries ys yl yr found root.entries cut up up' op a.chunk_size lo hi lo_is hi_is

-- two sets that are cut at the root of the first
module _ (base : Option ℕ) (a b l : ChunkedSet) (k : ℕ) (w : ℤ) (r : ChunkedSet) (c : Cut) (is : AreHalves a b l k w r c) (up : Ascends base (keys_of a.entries))
    (up' : Ascends base (keys_of b.entries)) where
  pub halves_over : a.chunk_size ≡ b.chunk_size → AreHalvesOver base l k r c
  halves_over sizes =
      let left = over_left base a l k w r is.first b.entries c.below.entries c.above.entries c.found is.second.list up up' in
      let right = over_right base a l k w r is.first b.entries c.below.entries c.above.entries c.found is.second.list up up' in
      record {
        below = record { sizes = is.first.left_size ∙ sizes ∙ sym is.second.left_size; first = left.0; second = left.1 };
        above = record { sizes = is.first.right_size ∙ sizes ∙ sym is.second.right_size; first = right.0; second = right.1 };
      }

  pub halves_less : (length l.entries < length a.entries) × (length r.entries < length a.entries)
  halves_less = (
    less_left base a l k w r is.first b.entries c.below.entries c.above.entries c.found is.second.list up up',
    less_right base a l k w r is.first b.entries c.below.entries c.above.entries c.found is.second.list up up',
  )

  pub halves_rejoin : (op : MapOperation) (lo hi : Combined) → AreAnswers op l r c lo hi → CanRejoin op a.chunk_size a.entries b.entries (head_of k w c.found) lo hi
  halves_rejoin op lo hi are =
      root_rejoin base a l k w r is.first b.entries c.below.entries c.above.entries c.found is.second.list up up' op lo hi are.below are.above

-- a list without entries
pub none_of : (xs : List (ℕ × ℤ)) → length xs ≡ 0 → xs ≡ []
none_of [] e = refl
none_of (x ∷ xs) e = absurd (omega arith)
