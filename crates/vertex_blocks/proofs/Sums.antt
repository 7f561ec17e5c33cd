-- Blocks that are joined of a page and of long lists, and how many neighbours they have.
use Rattle.std.proofs.Common.{◌≡◌, ℕ, zero, suc, ℤ, ◌+◌, ◌*◌, ◌<◌, ◌≤◌, ◌⊎◌, inl, inr, Some, None, List, [], ◌∷◌, ◌++◌, length, refl, sym, ◌∙◌, ap, arith, length-append}
use Rattle.std.proofs.lemmas.Bool.{cases_eq, eq-eqb, ne_eqb}
use Rattle.std.proofs.lemmas.List.{append-nil}
use Rattle.std.specs.Map.{keys_of}
use Rattle.ascending_lists.specs.Ascending.{AscendsFrom}
use Rattle.pages.specs.Vertices.{neighbours_of, ArePacked, IsPage}
use Rattle.pages.specs.inside.Built.{entry_of, built}
use Rattle.pages.proofs.Building.{HaveNeighbours, packed_some, rises_built, neighbours_built, is_built}
use Rattle.vertex_blocks.specs.Blocks.{Block, AreNeighbourLists, IsBlock, edge_total}
use Rattle.vertex_blocks.specs.inside.Joined.{joined, AreApart, IsMadeOf, CanJoin, IsBlockOf}

pub total_append : (xs ys : Block) → edge_total (xs ++ ys) ≡ edge_total xs + edge_total ys
total_append [] ys = omega arith
total_append (x ∷ xs) ys = omega (arith, total_append xs ys)

total_entry : (u : ℕ) (xs : List (ℕ × ℤ)) → edge_total (entry_of u xs) ≡ length xs
total_entry u [] = refl
total_entry u (x ∷ xs) = omega arith

-- of lists in two parts, each part by itself
total_built : (f g : ℕ → List (ℕ × ℤ)) (n : ℕ) → edge_total (built (λ u. f u ++ g u) n) ≡ edge_total (built f n) + edge_total (built g n)
total_built f g zero = refl
total_built f g (suc u) =
    omega (
      arith,
      total_append (built (λ v. f v ++ g v) u) (entry_of u (f u ++ g u)),
      total_append (built f u) (entry_of u (f u)),
      total_append (built g u) (entry_of u (g u)),
      total_entry u (f u ++ g u),
      total_entry u (f u),
      total_entry u (g u),
      length-append (f u) (g u),
      total_built f g u,
    )

pub lists_append : (xs ys : Block) → AreNeighbourLists xs → AreNeighbourLists ys → AreNeighbourLists (xs ++ ys)
lists_append [] ys ok ok' = ok'
lists_append (x ∷ xs) ys ok ok' = (ok.0, lists_append xs ys ok.1 ok')

pub lists_some : (es : Block) → AreNeighbourLists es → HaveNeighbours es
lists_some [] ok i lt = absurd (omega arith)
lists_some (e ∷ es) ok zero lt = ok.0.some
lists_some (e ∷ es) ok (suc i) lt = lists_some es ok.1 i (omega arith)

-- the list of a vertex ascends
pub list_ascends : (u : ℕ) (es : Block) → AreNeighbourLists es → AscendsFrom 0 (keys_of (neighbours_of u es))
list_ascends u [] ok = tt
list_ascends u (e ∷ es) ok = elim (cases_eq e.0 u) [
  | inl at ↦ rw (eq-eqb e.0 u at) ok.0.ascends
  | inr other ↦ rw (ne_eqb e.0 u other) (list_ascends u es ok.1)
]

pub packed_ascends : (u : ℕ) (es : Block) → ArePacked es → AscendsFrom 0 (keys_of (neighbours_of u es))
packed_ascends u [] ok = tt
packed_ascends u (e ∷ es) ok = elim (cases_eq e.0 u) [
  | inl at ↦ rw (eq-eqb e.0 u at) ok.0.ascends
  | inr other ↦ rw (ne_eqb e.0 u other) (packed_ascends u es ok.1)
]

lists_entry : (u : ℕ) (xs : List (ℕ × ℤ)) → AscendsFrom 0 (keys_of xs) → AreNeighbourLists (entry_of u xs)
lists_entry u [] s = tt
lists_entry u (x ∷ xs) s = (record { some = omega arith; ascends = s }, tt)

lists_built : (f : ℕ → List (ℕ × ℤ)) (n : ℕ) → ((u : ℕ) → u < n → AscendsFrom 0 (keys_of (f u))) → AreNeighbourLists (built f n)
lists_built f zero up = tt
lists_built f (suc u) up = lists_append (built f u) (entry_of u (f u)) (lists_built f u (λ v lt. up v (omega arith))) (lists_entry u (f u) (up u (omega arith)))

-- one of two lists that are not both there
pub either_ascends : (xs ys : List (ℕ × ℤ)) → (xs ≡ []) ⊎ (ys ≡ []) → AscendsFrom 0 (keys_of xs) → AscendsFrom 0 (keys_of ys) → AscendsFrom 0 (keys_of (xs ++ ys))
either_ascends xs ys (inl none) s t = rw none t
either_ascends xs ys (inr none) s t = rw (none, append-nil xs) s

module _ (p s : Block) where
  -- each vertex has the lists that it has in both
  pub joined_list : (u : ℕ) → u < 64 → neighbours_of u (joined p s) ≡ neighbours_of u p ++ neighbours_of u s
  unfolding joined
  joined_list u lt = neighbours_built (λ v. neighbours_of v p ++ neighbours_of v s) u 64 lt

  pub joined_block : IsPage p → IsBlock s → AreApart p s → IsBlock (joined p s)
  unfolding joined
  joined_block page long apart = record {
    map = rises_built (λ v. neighbours_of v p ++ neighbours_of v s) 64;
    lists = lists_built (λ v. neighbours_of v p ++ neighbours_of v s) 64 (λ u lt. either_ascends (neighbours_of u p) (neighbours_of u s) (apart u lt) (packed_ascends u p page.packed)
        (list_ascends u s long.lists));
  }

  total_to : (n : ℕ) → n ≡ 64 → IsPage p → IsBlock s → edge_total (built (λ v. neighbours_of v p ++ neighbours_of v s) n) ≡ edge_total p + edge_total s
  total_to n is page long =
      total_built (λ v. neighbours_of v p) (λ v. neighbours_of v s) n
      ∙ rw (← is_built n p is page.map (packed_some p page.packed), ← is_built n s is long.map (lists_some s long.lists)) refl

  pub joined_total : IsPage p → IsBlock s → edge_total (joined p s) ≡ edge_total p + edge_total s
  unfolding joined
  joined_total page long = total_to 64 refl page long

  pub made_of : (n : ℕ) → CanJoin p s n → IsMadeOf (joined p s) p s
  made_of n ok = record { lists = joined_list; block = joined_block ok.page ok.long ok.apart; page = ok.page; long = ok.long; apart = ok.apart }

-- a block with a neighbour has a vertex, and one without has none
pub some_vertex : (es : Block) → 0 < edge_total es → 0 < length es
some_vertex [] some = absurd (omega arith)
some_vertex (e ∷ es) some = omega arith

pub no_vertex : (es : Block) → AreNeighbourLists es → edge_total es ≡ 0 → es ≡ []
no_vertex [] ok none = refl
no_vertex (e ∷ es) ok none = absurd (omega (arith, none, ok.0.some))

-- the list of a vertex that has one of its own is that one, and else it is in the page
pub from_long : (b p s : Block) (u : ℕ) (xs : List (ℕ × ℤ)) → IsMadeOf b p s → u < 64 → xs ≡ neighbours_of u s → 0 < length xs → xs ≡ neighbours_of u b
from_long b p s u xs made lt is some = elim (made.apart u lt) [
  | inl none ↦ is ∙ sym (made.lists u lt ∙ ap (λ ys. ys ++ neighbours_of u s) none)
  | inr none ↦ absurd (omega (arith, some, ap length is, ap length none))
]

-- packed lists are short
pub packed_total : (es : Block) → ArePacked es → edge_total es ≤ 256 * length es
packed_total [] ok = omega arith
packed_total (e ∷ es) ok = omega (arith, ok.0.few, packed_total es ok.1)

-- a page and long lists with no neighbour make no block, and else they make one
module _ (p s : Block) (page : IsPage p) (long : IsBlock s) (apart : AreApart p s) where
  pub no_block : edge_total p + edge_total s ≡ 0 → IsBlockOf p s None
  no_block none =
      let empty : joined p s ≡ [] = no_vertex (joined p s) (joined_block p s page long apart).lists (joined_total p s page long ∙ none) in
      record { lists = λ u lt. sym (ap (neighbours_of u) empty) ∙ joined_list p s u lt; block = tt; some = tt }

  pub one_block : 0 < edge_total p + edge_total s → IsBlockOf p s (Some (joined p s))
  one_block some = record {
    lists = joined_list p s;
    block = joined_block p s page long apart;
    some = some_vertex (joined p s) (omega (arith, some, joined_total p s page long));
  }

  pub can_join : (n : ℕ) → n ≡ edge_total p + edge_total s → CanJoin p s n
  can_join n is = record { page = page; long = long; apart = apart; count = is ∙ sym (joined_total p s page long) }
