-- Entries and their lists, as they lie in bytes.
use Rattle.std.proofs.Common.{◌≡◌, ℕ, zero, suc, ◌+◌, ◌-◌, ◌*◌, ◌/◌, ◌^◌, ◌<◌, ◌≤◌, List, [], ◌∷◌, length, get_or, drop, refl, sym, ◌∙◌, ap, subst, arith, length-drop}
use Rattle.std.specs.Map.{keys_of}
use Rattle.std.proofs.lemmas.List.{drop-drop}
use Rattle.ascending_lists.specs.Ascending.{AscendsFrom}
use Rattle.edge_updates.specs.Weighted.{weighted}
use Rattle.edge_updates.proofs.Weighted.{things_of, length_weighted}
use Rattle.pages.specs.declared.entry.ListEntry.{ListEntry}
use Rattle.pages.specs.declared.weights.WeightWidth.TheVariants.{Ones}
use Rattle.pages.specs.Vertices.{IsPacked, ArePacked, IsPage}
use Rattle.pages.specs.inside.Numbers.{number_at}
use Rattle.pages.specs.inside.Weights.{weight_size, weights_from}
use Rattle.pages.specs.inside.Packed.{list_of, entries_of, IsWeightedView}
use Rattle.pages.specs.inside.Entries.{size_of, keys_at, weights_at, list_at, lists_in, IsListed, AreListed, IsStored}
use Rattle.pages.proofs.Decoding.{list_length}

-- an entry for an index that is not there
abbrev pub no_entry : ListEntry
no_entry = record { start = 0; last = 0; width = 0; weights = Ones; vertex = 0 }

-- all bits of n bytes
pub mask_of : (w : ℕ) → 0 < w → w ≤ 4 → 4294967295 / 2 ^ (32 - 8 * w) ≡ 2 ^ (8 * w) - 1
mask_of zero some le = absurd (omega arith)
mask_of (suc zero) some le = refl
mask_of (suc (suc zero)) some le = refl
mask_of (suc (suc (suc zero))) some le = refl
mask_of (suc (suc (suc (suc zero)))) some le = refl
mask_of (suc (suc (suc (suc (suc w))))) some le = absurd (omega arith)

module _ (bytes : List ℕ) (e : ListEntry) (is : IsListed bytes e) where
  one : e.last + 1 - 1 ≡ e.last
  one = omega arith

  -- the list of an entry, by its first element and the bytes after it
  keys_are : list_of (number_at 4 e.start bytes) e.width (e.last + 1) (drop (e.start + 4) bytes) ≡ keys_at bytes e
  keys_are = ap (list_of (number_at 4 e.start bytes) e.width (e.last + 1)) (sym (drop-drop 4 e.start bytes))

  weights_are : weights_from e.weights (e.last + 1) (drop (e.width * (e.last + 1 - 1)) (drop (e.start + 4) bytes)) ≡ weights_at bytes e
  weights_are =
      ap (weights_from e.weights (e.last + 1))
      (ap (drop (e.width * (e.last + 1 - 1))) (sym (drop-drop 4 e.start bytes))
      ∙ drop-drop (e.width * (e.last + 1 - 1)) 4 (drop e.start bytes)
      ∙ ap (λ k. drop (4 + e.width * k) (drop e.start bytes)) one)

  pub list_is : entries_of (number_at 4 e.start bytes) e.width (e.last + 1) e.weights (drop (e.start + 4) bytes) ≡ list_at bytes e
  list_is = ap (λ xs. weighted xs (weights_from e.weights (e.last + 1) (drop (e.width * (e.last + 1 - 1)) (drop (e.start + 4) bytes)))) keys_are ∙ ap (weighted (keys_at bytes e)) weights_are

  pub listed_view : IsWeightedView (number_at 4 e.start bytes) e.width (4294967295 / 2 ^ (32 - 8 * e.width)) (e.last + 1) e.weights (drop (e.start + 4) bytes)
  listed_view =
      let room : e.start + 4 + e.width * (e.last + 1 - 1) + weight_size e.weights * (e.last + 1) + 3 ≤ length bytes = omega (arith, is.within, ap (λ k. e.width * k) one) in
      record {
        view = record {
          some = is.wide;
          width = is.width;
          mask_is = mask_of e.width is.wide is.width;
          few = omega (arith, is.few);
          within = λ some. omega (arith, room, length-drop (e.start + 4) bytes);
          ascends = subst (AscendsFrom 0) (sym keys_are) is.ascends;
        };
        weights = λ some. omega (arith, room, length-drop (e.start + 4) bytes);
      }

  pub keys_listed : keys_of (list_at bytes e) ≡ keys_at bytes e
  keys_listed = things_of (keys_at bytes e) (weights_at bytes e)

  pub listed_length : length (list_at bytes e) ≡ e.last + 1
  listed_length = length_weighted (keys_at bytes e) (weights_at bytes e) ∙ ap length (sym keys_are) ∙ list_length (number_at 4 e.start bytes) e.width (e.last + 1) (drop (e.start + 4) bytes)

  pub listed_packed : IsPacked (list_at bytes e)
  listed_packed = record { some = omega (arith, listed_length); few = omega (arith, listed_length, is.few); ascends = subst (AscendsFrom 0) (sym keys_listed) is.ascends }

module _ (bytes : List ℕ) where
  pub lists_length : (es : List ListEntry) → length (lists_in bytes es) ≡ length es
  lists_length [] = refl
  lists_length (e ∷ es) = omega (arith, lists_length es)

  -- the list of the entry at an index
  pub listed_at : (position : ℕ) (es : List ListEntry) (i : ℕ) (e : ListEntry) → AreListed position bytes es → i < length es → e ≡ get_or es i e → IsListed bytes e
      × (get_or (lists_in bytes es) i (0, []) ≡ (e.vertex, list_at bytes e))
  listed_at position [] i e ok lt is = absurd (omega arith)
  listed_at position (x ∷ es) zero e ok lt is = rw is (ok.1, refl)
  listed_at position (x ∷ es) (suc i) e ok lt is = listed_at (position + size_of x) es i e ok.2 (omega arith) is

  are_packed : (position : ℕ) (es : List ListEntry) → AreListed position bytes es → ArePacked (lists_in bytes es)
  are_packed position [] ok = tt
  are_packed position (e ∷ es) ok = (listed_packed bytes e ok.1, are_packed (position + size_of e) es ok.2)

-- what is stored is a page
pub is_page : (bits : ℕ) (bytes : List ℕ) (es : List ListEntry) → IsStored bits bytes es → IsPage (lists_in bytes es)
is_page bits bytes es ok = record { map = ok.index.map; packed = are_packed bytes 0 es ok.listed }
