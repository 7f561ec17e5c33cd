-- Views cut at a key, by the heads at their roots.
use Rattle.std.proofs.Common.{◌≡◌, ℕ, ℤ, ◌^◌, ◌<◌, false, Option, Some, None, List, ◌∷◌, ◌++◌, sym, ◌∙◌, ap, arith}
use Rattle.std.specs.Map.{keys_of}
use Rattle.ascending_lists.specs.Ascending.{AscendsFrom, Ascends}
use Rattle.ascending_lists.specs.Maps.{IsMap, lookup}
use Rattle.ascending_lists.specs.MapOperations.{entries_below, entries_above}
use Rattle.ascending_lists.proofs.Cutting.{below_ascends, above_ascends, all_below, all_above}
use Rattle.ascending_lists.proofs.MapCuts.{keys_below, keys_above}
use Rattle.ascending_lists.proofs.MapKeys.{entries_rise}
use Rattle.ascending_lists.proofs.MapOrder.{lookup_left, lookup_here, lookup_right}
use Rattle.tail_codec.specs.EntryCuts.{CutsEntries}
use Rattle.c_tree.specs.Heads.{is_head}
use Rattle.c_tree.specs.Chunks.{ChunkedSet, HasNoHead, IsSetOf}
use Rattle.c_tree.specs.Parts.{IsRoot, IsCut}
use Rattle.c_tree.proofs.EntryCuts.{below_it, above_it, below_before, above_before, below_after, above_after}

-- either side of a key ascends
pub below_rises : (k : ℕ) (es : List (ℕ × ℤ)) → Ascends None (keys_of es) → Ascends None (keys_of (entries_below k es))
below_rises k es s = rw (keys_below k es) (below_ascends k 0 (keys_of es) s)

pub above_rises : (k : ℕ) (es : List (ℕ × ℤ)) → Ascends None (keys_of es) → Ascends None (keys_of (entries_above k es))
above_rises k es s = rw (keys_above k es) (above_ascends k 0 (keys_of es) s)

-- a tail that is cut has no head on either side
module _ (b k : ℕ) (s all : List (ℕ × ℤ)) (same : all ≡ s) (none : HasNoHead b s) (up : Ascends None (keys_of s)) (l r : List (ℕ × ℤ)) (found : Option ℤ) (cut : CutsEntries k all l found r) where
  pub front_ascends : Ascends None (keys_of l)
  front_ascends = rw (cut.front, same) (below_rises k s up)

  pub front_plain : HasNoHead b l
  front_plain = rw (cut.front, same, keys_below k s) (all_below (λ k. is_head b k ≡ false) k (keys_of s) none)

  pub back_ascends : Ascends None (keys_of r)
  back_ascends = rw (cut.back, same) (above_rises k s up)

  pub back_plain : HasNoHead b r
  back_plain = rw (cut.back, same, keys_above k s) (all_above (λ k. is_head b k ≡ false) k (keys_of s) none)

module _ (k : ℕ) (s l : ChunkedSet) (h : ℕ) (w : ℤ) (r : ChunkedSet) (root : IsRoot s l h w r) where
  rising : AscendsFrom 0 (keys_of (l.entries ++ (h, w) ∷ r.entries))
  rising = rw root.entries at root.ascending

  map : IsMap (l.entries ++ (h, w) ∷ r.entries)
  map = entries_rise 0 (l.entries ++ (h, w) ∷ r.entries) (omega arith) rising

  module _ (a : ChunkedSet) (found : Option ℤ) (z : ChunkedSet) (lt : k < h) (cut : IsCut k l a found z) where
    back : entries_above k s.entries ≡ z.entries ++ (h, w) ∷ r.entries
    back = ap (entries_above k) root.entries ∙ above_before k h w r.entries 0 l.entries rising lt ∙ ap (λ v. v ++ (h, w) ∷ r.entries) (sym cut.list.back)

    pub left_ascends : Ascends None (keys_of (z.entries ++ (h, w) ∷ r.entries))
    left_ascends = rw (← back) (above_rises k s.entries root.ascending)

    pub cut_left : (new : ChunkedSet) → IsSetOf (z.entries ++ (h, w) ∷ r.entries) z.chunk_size new → IsCut k s a found new
    cut_left new is = record {
      list = record {
        front = cut.list.front ∙ sym (ap (entries_below k) root.entries ∙ below_before k h w r.entries 0 l.entries rising (omega (arith, lt)));
        there = cut.list.there ∙ sym (ap (lookup k) root.entries ∙ lookup_left 0 (2 ^ 32) l.entries h w r.entries k map lt);
        back = is.entries ∙ sym back;
      };
      left_size = cut.left_size ∙ root.left_size;
      right_size = is.chunk_size ∙ cut.right_size ∙ root.left_size;
    }

  module _ (a : ChunkedSet) (found : Option ℤ) (z : ChunkedSet) (lt : h < k) (cut : IsCut k r a found z) where
    front : entries_below k s.entries ≡ l.entries ++ (h, w) ∷ a.entries
    front = ap (entries_below k) root.entries ∙ below_after k h w r.entries 0 l.entries rising lt ∙ ap (λ v. l.entries ++ (h, w) ∷ v) (sym cut.list.front)

    pub right_ascends : Ascends None (keys_of (l.entries ++ (h, w) ∷ a.entries))
    right_ascends = rw (← front) (below_rises k s.entries root.ascending)

    pub cut_right : (new : ChunkedSet) → IsSetOf (l.entries ++ (h, w) ∷ a.entries) l.chunk_size new → IsCut k s new found z
    cut_right new is = record {
      list = record {
        front = is.entries ∙ sym front;
        there = cut.list.there ∙ sym (ap (lookup k) root.entries ∙ lookup_right 0 (2 ^ 32) l.entries h w r.entries k map lt);
        back = cut.list.back ∙ sym (ap (entries_above k) root.entries ∙ above_after k h w r.entries 0 l.entries rising (omega (arith, lt)));
      };
      left_size = is.chunk_size ∙ root.left_size;
      right_size = cut.right_size ∙ root.right_size;
    }

  pub cut_here : k ≡ h → IsCut k s l (Some w) r
  cut_here e =
      let up : AscendsFrom 0 (keys_of (l.entries ++ (k, w) ∷ r.entries)) = rw e rising in
      let rises : IsMap (l.entries ++ (k, w) ∷ r.entries) = rw e map in
      let is : s.entries ≡ l.entries ++ (k, w) ∷ r.entries = root.entries ∙ ap (λ j. l.entries ++ (j, w) ∷ r.entries) (sym e) in
      record {
        list = record {
          front = sym (ap (entries_below k) is ∙ below_it k w r.entries 0 l.entries up);
          there = sym (ap (lookup k) is ∙ lookup_here 0 (2 ^ 32) l.entries k w r.entries rises);
          back = sym (ap (entries_above k) is ∙ above_it k w r.entries 0 l.entries up);
        };
        left_size = root.left_size;
        right_size = root.right_size;
      }
