-- Blocks of a tree that are put into their places.
use Rattle.std.proofs.Common.{◌≡◌, ◌≢◌, ℕ, ◌+◌, ◌-◌, ◌^◌, ◌<◌, ◌≤◌, inl, inr, Option, Some, None, List, [], ◌∷◌, ◌++◌, length, get_or, slice_set, refl, ◌∙◌, ap, ap₂, arith, length-set}
use Rattle.std.specs.Option.{option_or}
use Rattle.std.proofs.lemmas.Bool.{cases_eq, cases_lt, ne_eqb}
use Rattle.std.proofs.lemmas.List.{get_or-set_same, get_or-set_other}
use Rattle.ascending_lists.specs.Maps.{Rises, lookup}
use Rattle.ascending_lists.proofs.MapOrder.{rises_left, rises_right, rises_room, lookup_below}
use Rattle.shared_tree.specs.Balanced.{Balanced, IsFork}
use Rattle.shared_tree.proofs.Forks.{found_here, found_left, found_right}
use Rattle.vertex_blocks.specs.Blocks.{Block}
use Rattle.flat_snapshot.specs.inside.Chunks.{ArePut}

-- there is none above all keys
lookup_above : (a h : ℕ) (es : List (ℕ × Block)) (k : ℕ) → Rises a h es → h ≤ k → lookup k es ≡ None
lookup_above a h [] k s le = refl
lookup_above a h (e ∷ es) k s le =
    let other : e.0 ≢ k = omega (arith, rises_room (e.0 + 1) h es s.1) in
    rw (ne_eqb e.0 k other) (lookup_above (e.0 + 1) h es k s.1 le)

or_none : (o : Option Block) → option_or o None ≡ o
or_none None = refl
or_none (Some b) = refl

-- into empty places each comes as it is found
pub put_in_empty : (bs : List (ℕ × Block)) (first : ℕ) (old new : List (Option Block)) → ArePut bs first old new → ((i : ℕ) → i < 64 → get_or old i None ≡ None) → (i : ℕ) → i < 64 → get_or new i None ≡ lookup (first + i) bs
put_in_empty bs first old new put none i lt = put.places i lt ∙ ap (option_or (lookup (first + i) bs)) (none i lt) ∙ or_none (lookup (first + i) bs)

module _ (t l : Balanced Block) (k : ℕ) (b : Block) (r : Balanced Block) (f : IsFork t l k b r) (first : ℕ) (old new : List (Option Block)) where
  rises : Rises 0 (2 ^ 32) (l.entries ++ (k, b) ∷ r.entries)
  rises = rw f.entries at f.map

  none_right : (j : ℕ) → j ≤ k → lookup j r.entries ≡ None
  none_right j le = lookup_below (k + 1) (2 ^ 32) r.entries j (rises_right 0 (2 ^ 32) l.entries k b r.entries rises) (omega (arith, le))

  none_left : (j : ℕ) → k ≤ j → lookup j l.entries ≡ None
  none_left j le = lookup_above 0 k l.entries j (rises_left 0 (2 ^ 32) l.entries k b r.entries rises) le

  -- all places are above the root
  pub put_right : k < first → ArePut r.entries first old new → ArePut t.entries first old new
  put_right lt put = record {
    count = put.count;
    places = λ i inside. put.places i inside ∙ ap (λ o. option_or o (get_or old i None)) (found_right t l k b r (first + i) f (omega (arith, lt)));
  }

  -- all places are below the root
  pub put_left : first + 64 ≤ k → ArePut l.entries first old new → ArePut t.entries first old new
  put_left le put = record {
    count = put.count;
    places = λ i inside. put.places i inside ∙ ap (λ o. option_or o (get_or old i None)) (found_left t l k b r (first + i) f (omega (arith, le, inside)));
  }

  module _ (middle : List (Option Block)) (from : first ≤ k) (upto : k < first + 64) (count : length old ≡ 64) (left : ArePut l.entries first old middle)
      (right : ArePut r.entries first (slice_set middle (k - first) (Some b)) new) where
    place : (i : ℕ) → i < 64 → get_or new i None ≡ option_or (lookup (first + i) t.entries) (get_or old i None)
    place i inside = elim (cases_lt (first + i) k) [
      | inl lt ↦
          let other : i ≢ k - first = omega (arith, lt, from) in
          right.places i inside
          ∙ ap₂ option_or (none_right (first + i) (omega (arith, lt))) (get_or-set_other middle (k - first) i (Some b) None other ∙ left.places i inside)
          ∙ ap (λ o. option_or o (get_or old i None)) (found_left t l k b r (first + i) f lt)
      | inr ge ↦ elim (cases_eq (first + i) k) [
        | inl at ↦
            let here : i ≡ k - first = omega (arith, at) in
            let within : k - first < length middle = omega (arith, left.count, count, from, upto) in
            right.places i inside
            ∙ ap₂ option_or (none_right (first + i) (omega (arith, at))) (ap (λ j. get_or (slice_set middle (k - first) (Some b)) j None) here ∙ get_or-set_same middle (k - first) (Some b) None within)
            ∙ ap (λ o. option_or o (get_or old i None)) (found_here t l k b r (first + i) f at)
        | inr other ↦
            let apart : i ≢ k - first = λ is. other (omega (arith, is, from)) in
            right.places i inside
            ∙ ap₂ option_or (found_right t l k b r (first + i) f (omega (arith, ge, other)))
            (get_or-set_other middle (k - first) i (Some b) None apart ∙ left.places i inside ∙ ap (λ o. option_or o (get_or old i None)) (none_left (first + i) ge))
      ]
    ]

    -- the root is among the places
    pub put_between : ArePut t.entries first old new
    put_between = record { count = omega (arith, right.count, length-set middle (k - first) (Some b), left.count); places = place }
