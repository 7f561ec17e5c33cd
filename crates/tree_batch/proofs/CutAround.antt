-- Updates that are cut around a block, and cut by blocks on both sides of it.
use Rattle.std.proofs.Common.{◌≡◌, ◌≢◌, ℕ, ℤ, ◌+◌, ◌/◌, ◌^◌, ◌<◌, ◌≤◌, Option, Some, None, inl, inr, List, [], ◌∷◌, ◌++◌, length, get_or, take, drop, refl, sym, ap, ◌∙◌, subst, arith, length-drop}
use Rattle.std.specs.Option.{option_or}
use Rattle.std.proofs.lemmas.Bool.{cases_lt, cases_order, ne_eqb, eq-eqb}
use Rattle.std.proofs.lemmas.List.{take-append-drop, take_more, drop_more}
use Rattle.ascending_lists.specs.Maps.{Rises, lookup}
use Rattle.shared_tree.specs.Changes.{IsSplit}
use Rattle.ascending_lists.proofs.MapOrder.{rises_to, rises_joined, lookup_below, lookup_here}
use Rattle.shared_tree.proofs.CutMaps.{value_below, value_above}
use Rattle.edge_updates.specs.declared.edge_update.EdgeUpdate.{EdgeUpdate}
use Rattle.edge_updates.specs.EdgeUpdate.{vertex_of, neighbour_of}
use Rattle.edge_updates.specs.Updates.{FollowAscending, Ascend}
use Rattle.edge_updates.specs.Updates.{decided_weight}
use Rattle.std.specs.Map.{keys_of}
use Rattle.pages.specs.Updates.{AreOfBlock, EdgesAscend}
use Rattle.pages.proofs.UpdateRuns.{ascend_in_page}
use Rattle.vertex_blocks.specs.Changes.{BlockChange}
use Rattle.tree_batch.specs.Edge.{Ends}
use Rattle.tree_batch.specs.inside.BlockCuts.{IsCutAt, block_decided, AreCut, BeginsElsewhere, BeginsFrom, AreBelow, AreFrom, IsCutAround}
use Rattle.tree_batch.proofs.Deciding.{option_or-none}
use Rattle.tree_batch.proofs.Listed.{some_none}
use Rattle.tree_batch.proofs.Decided.{decided_append, front_ascends, back_ascends, no_lower, cut_silent, lookup_above, first_cut, same_change}

-- one more update of a block below
below_more : (k : ℕ) (xs : List (EdgeUpdate × ℤ)) (d : EdgeUpdate × ℤ) → AreBelow k xs → vertex_of d.0 / 64 < k → AreBelow k (xs ++ d ∷ [])
below_more k [] d s lt = (lt, tt)
below_more k (x ∷ xs) d s lt = (s.0, below_more k xs d s.1 lt)

pub below_longer : (k v : ℕ) (us : List (EdgeUpdate × ℤ)) (i : ℕ) (d : EdgeUpdate × ℤ) → i < length us → v ≡ vertex_of (get_or us i d).0 → v / 64 < k → AreBelow k (take i us)
    → AreBelow k (take (i + 1) us)
below_longer k v us i d lt is low s = rw (take_more us i d lt) (below_more k (take i us) (get_or us i d) s (omega (arith, low, ap (λ w. w / 64) is)))

-- the updates from one of no lower block on
pub begins_from : (k : ℕ) (us : List (EdgeUpdate × ℤ)) (i : ℕ) (d : EdgeUpdate × ℤ) → i < length us → k ≤ vertex_of (get_or us i d).0 / 64 → BeginsFrom k (drop i us)
begins_from k us i d lt le = rw (drop_more us i d lt) le

-- where none is left
pub begins_from_none : (k : ℕ) (us : List (EdgeUpdate × ℤ)) (i : ℕ) → length us ≤ i → BeginsFrom k (drop i us)
begins_from_none k us i le = none (drop i us) (omega (arith, length-drop i us))
  where
    none : (ys : List (EdgeUpdate × ℤ)) → length ys ≡ 0 → BeginsFrom k ys
    none [] e = tt
    none (y ∷ ys) e = absurd (omega arith)

below_wider : (k m : ℕ) (us : List (EdgeUpdate × ℤ)) → k ≤ m → AreBelow k us → AreBelow m us
below_wider k m [] le s = tt
below_wider k m (u ∷ us) le s = (omega (arith, s.0), below_wider k m us le s.1)

-- updates after one from a block on are from it on
from_first : (k : ℕ) (a : EdgeUpdate × ℤ) (us : List (EdgeUpdate × ℤ)) → FollowAscending a.0 (keys_of us) → k ≤ vertex_of a.0 / 64 → AreFrom k us
from_first k a [] s le = tt
from_first k a (u ∷ us) s le =
    let here : k ≤ vertex_of u.0 / 64 = omega (arith, s.0.0, le) in
    (here, from_first k u us s.1 here)

-- updates on one side of a block do not decide on its vertices
silent_below : (k : ℕ) (us : List (EdgeUpdate × ℤ)) (e : Ends) → AreBelow k us → k ≤ e.0 / 64 → decided_weight us e ≡ None
silent_below k [] e s le = refl
silent_below k (u ∷ us) e s le =
    let apart : vertex_of u.0 ≢ e.0 = λ same. omega (arith, s.0, le, ap (λ v. v / 64) same) in
    rw (silent_below k us e s.1 le, ne_eqb (vertex_of u.0) e.0 apart)

silent_from : (k : ℕ) (us : List (EdgeUpdate × ℤ)) (e : Ends) → AreFrom k us → e.0 / 64 < k → decided_weight us e ≡ None
silent_from k [] e s lt = refl
silent_from k (u ∷ us) e s lt =
    let apart : vertex_of u.0 ≢ e.0 = λ same. omega (arith, s.0, lt, ap (λ v. v / 64) same) in
    rw (silent_from k us e s.1 lt, ne_eqb (vertex_of u.0) e.0 apart)

some_or : (o : Option (Option ℤ)) (b : Option ℤ) → option_or o (Some b) ≡ None → ⊥
some_or None b e = cc
some_or (Some x) b e = cc

-- an update decides on its edge
decides : (u : EdgeUpdate × ℤ) (us : List (EdgeUpdate × ℤ)) → decided_weight (u ∷ us) (vertex_of u.0, neighbour_of u.0) ≡ None → ⊥
decides u us is = some_or (decided_weight us (vertex_of u.0, neighbour_of u.0)) _ (rw (eq-eqb (vertex_of u.0) (vertex_of u.0) refl, eq-eqb (neighbour_of u.0) (neighbour_of u.0) refl) at is)

-- of each block that has updates they decide on an edge
key_decided : (all : List (EdgeUpdate × ℤ)) (cs : List (ℕ × BlockChange)) (j : ℕ) (x : BlockChange) → AreCut all cs → lookup j cs ≡ Some x → (e : Ends) × (e.0 / 64 ≡ j)
    × (decided_weight all e ≡ None → ⊥)
key_decided all cs j x cut is = found x.updates refl
  where
    found : (us : List (EdgeUpdate × ℤ)) → x.updates ≡ us → (e : Ends) × (e.0 / 64 ≡ j) × (decided_weight all e ≡ None → ⊥)
    found [] e = absurd (omega (arith, (cut.cuts j x is).some, ap length e))
    found (u ∷ us) e =
        let edge : Ends = (vertex_of u.0, neighbour_of u.0) in
        let of : AreOfBlock j (u ∷ us) = subst (AreOfBlock j) e (cut.cuts j x is).block in
        let there : lookup (edge.0 / 64) cs ≡ Some x = ap (λ i. lookup i cs) of.0 ∙ is in
        (edge, of.0, λ none. decides u us (ap (λ ds. decided_weight ds edge) (sym e) ∙ ap (λ o. block_decided o edge) (sym there) ∙ cut.same edge ∙ none))

-- entries whose keys are within bounds rise between them
tightened : {V : Type 0} (a b low high : ℕ) (es : List (ℕ × V)) → Rises a b es → ((j : ℕ) (x : V) → lookup j es ≡ Some x → (low ≤ j) × (j < high)) → low ≤ high → Rises low high es
tightened a b low high [] s at le = le
tightened a b low high (e ∷ es) s at le =
    let here = at e.0 e.1 (rw (eq-eqb e.0 e.0 refl) refl) in (
      here.0,
      tightened (e.0 + 1) b (e.0 + 1) high es s.1 (λ j x is. elim (cases_lt e.0 j) [
        | inl lt ↦
            let other : e.0 ≢ j = omega arith in
            (omega arith, (at j x (rw (ne_eqb e.0 j other) is)).1)
        | inr ge ↦ absurd (some_none (lookup j es) x is (lookup_below (e.0 + 1) b es j s.1 (omega arith)))
      ]) (omega (arith, here.1)),
    )

-- updates that ascend do so on both sides of an index
ascend_front : (xs ys : List (EdgeUpdate × ℤ)) → Ascend (keys_of (xs ++ ys)) → Ascend (keys_of xs)
ascend_front [] ys t = tt
ascend_front (x ∷ xs) ys t = front_ascends x xs ys t

ascend_back : (xs ys : List (EdgeUpdate × ℤ)) → Ascend (keys_of (xs ++ ys)) → Ascend (keys_of ys)
ascend_back [] ys t = t
ascend_back (x ∷ xs) ys t = back_ascends x xs ys t

-- what is cut where the first of a block stands
pub cut_around : (us : List (EdgeUpdate × ℤ)) (i j b k : ℕ) (d : EdgeUpdate × ℤ) (ds : List (EdgeUpdate × ℤ)) → Ascend (keys_of us) → AreBelow b (take i us) → BeginsFrom b (drop i us)
    → drop i us ≡ d ∷ ds → k ≡ vertex_of d.0 / 64 → k < 2 ^ 18 → AreOfBlock k (take j (drop i us)) → BeginsElsewhere k (drop j (drop i us))
    → IsCutAround us k (take i us) (take j (drop i us)) (drop j (drop i us))
cut_around us i j b k d ds s low from is at small of elsewhere =
    let rest : List (EdgeUpdate × ℤ) = drop i us in
    let here : List (EdgeUpdate × ℤ) = take j rest in
    let above : List (EdgeUpdate × ℤ) = drop j rest in
    let cut : here ++ above ≡ rest = take-append-drop j rest in
    let whole : us ≡ take i us ++ (here ++ above) = sym (take-append-drop i us) ∙ ap (λ r. take i us ++ r) (sym cut) in
    let first = first_cut k d ds at here above (sym is ∙ sym cut) elsewhere in
    let begins : b ≤ vertex_of d.0 / 64 = subst (BeginsFrom b) is from in
    let order : FollowAscending d.0 (keys_of (first.0 ++ above)) = subst (λ ys. FollowAscending d.0 (keys_of ys)) first.2
    (subst (λ ys. Ascend (keys_of ys)) is (ascend_back (take i us) rest (subst (λ ys. Ascend (keys_of ys)) (sym (take-append-drop i us)) s))) in
    record {
      whole = whole;
      small = small;
      below = below_wider b k (take i us) (omega (arith, begins, at)) low;
      some = rw first.1 (omega arith);
      block = of;
      above = behind first.0 above order elsewhere;
    }
  where
    behind : (r ys : List (EdgeUpdate × ℤ)) → FollowAscending d.0 (keys_of (r ++ ys)) → BeginsElsewhere k ys → AreFrom (k + 1) ys
    behind r [] t o = tt
    behind r (y ∷ ys) t o =
        let next : k + 1 ≤ vertex_of y.0 / 64 = omega (arith, at, no_lower d r y ys t, o) in
        (next, from_first (k + 1) y ys (back_ascends d r (y ∷ ys) t) next)

module _ (all : List (EdgeUpdate × ℤ)) (k : ℕ) (below here above : List (EdgeUpdate × ℤ)) (around : IsCutAround all k below here above) (order : Ascend (keys_of all)) where
  whole_order : Ascend (keys_of (below ++ (here ++ above)))
  whole_order = subst (λ us. Ascend (keys_of us)) around.whole order

  -- the updates on both sides ascend
  pub below_ascends : Ascend (keys_of below)
  below_ascends = ascend_front below (here ++ above) whole_order

  pub above_ascends : Ascend (keys_of above)
  above_ascends = ascend_back here above (ascend_back below (here ++ above) whole_order)

  -- and those of the block ascend in it
  pub here_ascends : EdgesAscend 0 here
  here_ascends = ascend_in_page k here (ascend_front here above (ascend_back below (here ++ above) whole_order)) around.block

  module _ (cs ds : List (ℕ × BlockChange)) (lower : AreCut below cs) (upper : AreCut above ds) (c : BlockChange) (is : c.updates ≡ here) where
    abbrev more : List (ℕ × BlockChange)
    more = cs ++ (k, c) ∷ ds

    lower_rises : Rises 0 k cs
    lower_rises = tightened 0 (2 ^ 18) 0 k cs lower.map (λ j x there.
        let on = key_decided below cs j x lower there in
        (omega arith, elim (cases_lt j k) [ inl lt ↦ lt | inr ge ↦ absurd (on.2 (silent_below k below on.0 around.below (omega (arith, on.1, ge)))) ])) (omega arith)

    upper_rises : Rises (k + 1) (2 ^ 18) ds
    upper_rises = tightened 0 (2 ^ 18) (k + 1) (2 ^ 18) ds upper.map (λ j x there.
        let on = key_decided above ds j x upper there in (
          elim (cases_lt k j) [ inl lt ↦ omega arith | inr ge ↦ absurd (on.2 (silent_from (k + 1) above on.0 around.above (omega (arith, on.1, ge)))) ],
          elim (cases_lt j (2 ^ 18)) [ inl lt ↦ lt | inr ge ↦ absurd (some_none (lookup j ds) x there (lookup_above 0 (2 ^ 18) ds j upper.map ge)) ],
        )) (omega (arith, around.small))

    -- the cuts of all are split at the block
    pub cut_split : IsSplit k more cs (Some c) ds
    cut_split = record { whole = refl; below = lower_rises; above = rises_to (k + 1) (2 ^ 18) (2 ^ 32) ds upper_rises (omega arith) }

    decided_around : (e : Ends) → decided_weight all e ≡ option_or (option_or (decided_weight above e) (decided_weight here e)) (decided_weight below e)
    decided_around e = ap (λ us. decided_weight us e) around.whole ∙ decided_append below (here ++ above) e ∙ ap (λ o. option_or o (decided_weight below e)) (decided_append here above e)

    at_key : (j : ℕ) → j ≡ k → lookup j more ≡ Some c
    at_key j at = rw at (lookup_here 0 (2 ^ 18) cs k c ds (rises_joined 0 (2 ^ 18) cs k c ds lower_rises upper_rises))

    same_at : (e : Ends) → block_decided (lookup (e.0 / 64) more) e ≡ option_or (option_or (decided_weight above e) (decided_weight here e)) (decided_weight below e)
    same_at e = elim (cases_order (e.0 / 64) k) [
      | inl at ↦
          rw (at_key (e.0 / 64) at, is, silent_from (k + 1) above e around.above (omega arith), silent_below k below e around.below (omega arith)) (sym (option_or-none (decided_weight here e)))
      | inr side ↦ elim side [
        | inl lt ↦
            rw (value_below k (e.0 / 64) more cs (Some c) ds cut_split lt, lower.same e, silent_from (k + 1) above e around.above (omega arith), cut_silent k here e around.block (omega arith)) refl
        | inr gt ↦
            rw (value_above k (e.0 / 64) more cs (Some c) ds cut_split gt, upper.same e, cut_silent k here e around.block (omega arith), silent_below k below e around.below (omega arith))
            (sym (option_or-none (option_or (decided_weight above e) None) ∙ option_or-none (decided_weight above e)))
      ]
    ]

    -- and are those of all updates
    pub cut_joined : AreCut all more
    cut_joined = record {
      map = rises_joined 0 (2 ^ 18) cs k c ds lower_rises upper_rises;
      cuts = λ j x there. elim (cases_order j k) [
        | inl at ↦
            let same : c ≡ x = same_change c x (sym (at_key j at) ∙ there) in
            subst (λ (y : BlockChange). IsCutAt j y) same (rw at (record { some = rw is around.some; block = rw is around.block; order = rw is here_ascends }))
        | inr side ↦ elim side [
          | inl lt ↦ lower.cuts j x (sym (value_below k j more cs (Some c) ds cut_split lt) ∙ there)
          | inr gt ↦ upper.cuts j x (sym (value_above k j more cs (Some c) ds cut_split gt) ∙ there)
        ]
      ];
      same = λ e. same_at e ∙ sym (decided_around e);
    }
