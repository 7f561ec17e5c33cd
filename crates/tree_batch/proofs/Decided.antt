-- What decides on edges when updates are made of entries and cut by blocks.
use Rattle.std.proofs.Common.{◌≡◌, ◌≢◌, ℕ, ℤ, ◌+◌, ◌/◌, ◌^◌, ◌<◌, ◌≤◌, Option, option_to_list, Some, None, inl, inr, List, [], ◌∷◌, ◌++◌, length, get_or, take, drop, refl, sym, ap, ◌∙◌, subst, arith}
use Rattle.std.proofs.Common.{length-append, length-drop}
use Rattle.std.specs.Option.{option_or}
use Rattle.std.proofs.lemmas.Bool.{cases_eq, ne_eqb}
use Rattle.std.proofs.lemmas.List.{append-nil, take_more, drop_more}
use Rattle.ascending_lists.specs.Maps.{Rises, lookup}
use Rattle.ascending_lists.proofs.MapOrder.{rises_to, rises_joined, lookup_here}
use Rattle.edge_updates.specs.declared.edge_update.EdgeUpdate.{EdgeUpdate}
use Rattle.edge_updates.specs.EdgeUpdate.{vertex_of}
use Rattle.edge_updates.specs.Updates.{FollowAscending, Ascend}
use Rattle.edge_updates.specs.Updates.{one_weight_decided, decided_weight}
use Rattle.std.specs.Map.{keys_of}
use Rattle.pages.specs.Updates.{AreOfBlock, EdgesAscend}
use Rattle.pages.proofs.UpdateRuns.{ascend_in_page}
use Rattle.vertex_blocks.specs.Changes.{BlockChange}
use Rattle.tree_batch.specs.declared.batch.Entry.{Entry}
use Rattle.tree_batch.specs.Edge.{Ends, entry_decision, decision}
use Rattle.tree_batch.specs.inside.Entry.{IsUpdateOf}
use Rattle.tree_batch.specs.inside.BlockCuts.{IsCutAt, block_decided, AreCut, BeginsElsewhere, BeginsFrom, AreCutSoFar}
use Rattle.tree_batch.proofs.Deciding.{option_or-none, option_or-assoc, decision-pushed}

-- an update says of edges what its entry says
one_says : (u : EdgeUpdate × ℤ) (x : Entry) (e : Ends) → IsUpdateOf x (Some u) → one_weight_decided u e ≡ entry_decision x e
one_says u x e says = rw (says.0, says.1) refl

-- an update at the end decides before the others
decided_pushed : (ds : List (EdgeUpdate × ℤ)) (d : EdgeUpdate × ℤ) (e : Ends) → decided_weight (ds ++ d ∷ []) e ≡ option_or (one_weight_decided d e) (decided_weight ds e)
decided_pushed [] d e = sym (option_or-none (one_weight_decided d e))
decided_pushed (x ∷ xs) d e =
    ap (λ o. option_or o (one_weight_decided x e)) (decided_pushed xs d e) ∙ option_or-assoc (one_weight_decided d e) (decided_weight xs e) (one_weight_decided x e)

-- updates of the first entries, and what one more says
pub decided_more : (xs : List Entry) (i : ℕ) (d : Entry) (us vs : List (EdgeUpdate × ℤ)) (o : Option (EdgeUpdate × ℤ)) → i < length xs → IsUpdateOf (get_or xs i d) o → vs ≡ us ++ option_to_list o
    → ((e : Ends) → decided_weight us e ≡ decision (take i xs) e) → (e : Ends) → decided_weight vs e ≡ decision (take (i + 1) xs) e
decided_more xs i d us vs o lt says is same e =
    let x = get_or xs i d in
    let more : take (i + 1) xs ≡ take i xs ++ x ∷ [] = take_more xs i d lt in
    ap (λ ws. decided_weight ws e) is
    ∙ by_update o says
    ∙ ap (λ r. option_or (entry_decision x e) r) (same e)
    ∙ sym (ap (λ ys. decision ys e) more ∙ decision-pushed (take i xs) x e)
  where
    by_update : (o : Option (EdgeUpdate × ℤ)) → IsUpdateOf (get_or xs i d) o → decided_weight (us ++ option_to_list o) e ≡ option_or (entry_decision (get_or xs i d) e) (decided_weight us e)
    by_update None says = rw (says, append-nil us) refl
    by_update (Some u) says = decided_pushed us u e ∙ ap (λ r. option_or r (decided_weight us e)) (one_says u (get_or xs i d) e says)

-- later updates decide before earlier ones
pub decided_append : (xs ys : List (EdgeUpdate × ℤ)) (e : Ends) → decided_weight (xs ++ ys) e ≡ option_or (decided_weight ys e) (decided_weight xs e)
decided_append [] ys e = sym (option_or-none (decided_weight ys e))
decided_append (x ∷ xs) ys e = ap (λ o. option_or o (one_weight_decided x e)) (decided_append xs ys e) ∙ option_or-assoc (decided_weight ys e) (decided_weight xs e) (one_weight_decided x e)

-- one more update of a block
pub cut_longer : (k : ℕ) (ds : List (EdgeUpdate × ℤ)) (i : ℕ) (d : EdgeUpdate × ℤ) → i < length ds → vertex_of (get_or ds i d).0 / 64 ≡ k → AreOfBlock k (take i ds) → AreOfBlock k (take (i + 1) ds)
cut_longer k ds i d lt on cut = rw (take_more ds i d lt) (pushed (take i ds) cut)
  where
    pushed : (xs : List (EdgeUpdate × ℤ)) → AreOfBlock k xs → AreOfBlock k (xs ++ get_or ds i d ∷ [])
    pushed [] r = (on, tt)
    pushed (x ∷ xs) r = (r.0, pushed xs r.1)

-- the updates from one of another block on
pub begins_elsewhere : (k : ℕ) (ds : List (EdgeUpdate × ℤ)) (i : ℕ) (d : EdgeUpdate × ℤ) → i < length ds → vertex_of (get_or ds i d).0 / 64 ≢ k → BeginsElsewhere k (drop i ds)
begins_elsewhere k ds i d lt other = rw (drop_more ds i d lt) other

pub no_update : (us : List (EdgeUpdate × ℤ)) → length us ≡ 0 → us ≡ []
no_update [] e = refl
no_update (u ∷ us) e = absurd (omega arith)

drop_past : (xs : List (EdgeUpdate × ℤ)) (i : ℕ) → length xs ≤ i → drop i xs ≡ []
drop_past xs i le = no_update (drop i xs) (omega (arith, length-drop i xs))

-- where none is left
pub begins_nowhere : (k : ℕ) (ds : List (EdgeUpdate × ℤ)) (i : ℕ) → length ds ≤ i → BeginsElsewhere k (drop i ds)
begins_nowhere k ds i le = rw (drop_past ds i le) tt

pub front_ascends : (a : EdgeUpdate × ℤ) (xs ys : List (EdgeUpdate × ℤ)) → FollowAscending a.0 (keys_of (xs ++ ys)) → FollowAscending a.0 (keys_of xs)
front_ascends a [] ys s = tt
front_ascends a (x ∷ xs) ys s = (s.0, front_ascends x xs ys s.1)

pub back_ascends : (a : EdgeUpdate × ℤ) (xs ys : List (EdgeUpdate × ℤ)) → FollowAscending a.0 (keys_of (xs ++ ys)) → Ascend (keys_of ys)
back_ascends a [] [] s = tt
back_ascends a [] (y ∷ ys) s = s.1
back_ascends a (x ∷ xs) ys s = back_ascends x xs ys s.1

-- what follows is on no lower vertex
pub no_lower : (a : EdgeUpdate × ℤ) (xs : List (EdgeUpdate × ℤ)) (y : EdgeUpdate × ℤ) (ys : List (EdgeUpdate × ℤ)) → FollowAscending a.0 (keys_of (xs ++ y ∷ ys)) → vertex_of a.0 ≤ vertex_of y.0
no_lower a [] y ys s = s.0.0
no_lower a (x ∷ xs) y ys s = omega (arith, s.0.0, no_lower x xs y ys s.1)

-- the updates of a block decide on no vertex of another
pub cut_silent : (k : ℕ) (ds : List (EdgeUpdate × ℤ)) (e : Ends) → AreOfBlock k ds → e.0 / 64 ≢ k → decided_weight ds e ≡ None
cut_silent k [] e r other = refl
cut_silent k (d ∷ ds) e r other =
    let apart : vertex_of d.0 ≢ e.0 = λ same. other (ap (λ v. v / 64) (sym same) ∙ r.0) in
    rw (cut_silent k ds e r.1 other, ne_eqb (vertex_of d.0) e.0 apart)

module _ {V : Type 0} where
  -- there is no value above all keys
  pub lookup_above : (a h : ℕ) (es : List (ℕ × V)) (k : ℕ) → Rises a h es → h ≤ k → lookup k es ≡ None
  lookup_above a h [] k s le = refl
  lookup_above a h (e ∷ es) k s le =
      let other : e.0 ≢ k = omega (arith, room (e.0 + 1) h es s.1) in
      rw (ne_eqb e.0 k other) (lookup_above (e.0 + 1) h es k s.1 le)
    where
      room : (b t : ℕ) (xs : List (ℕ × V)) → Rises b t xs → b ≤ t
      room b t [] r = r
      room b t (x ∷ xs) r = omega (arith, r.0, room (x.0 + 1) t xs r.1)

  -- an entry at the end has its value
  lookup_last : (a h : ℕ) (es : List (ℕ × V)) (k : ℕ) (v : V) → Rises a h es → h ≤ k → lookup k (es ++ (k, v) ∷ []) ≡ Some v
  lookup_last a h es k v s le =
      let last : k + 1 ≤ k + 1 = omega arith in
      lookup_here a (k + 1) es k v [] (rises_joined a (k + 1) es k v [] (rises_to a h k es s le) last)

  -- and makes no difference at other keys
  lookup_before : (es : List (ℕ × V)) (k : ℕ) (v : V) (j : ℕ) → j ≢ k → lookup j (es ++ (k, v) ∷ []) ≡ lookup j es
  lookup_before [] k v j ne =
      let other : k ≢ j = omega arith in
      rw (ne_eqb k j other)
  lookup_before (e ∷ es) k v j ne = rw (lookup_before es k v j ne)

-- the first update is in what is cut off in front of its block
pub first_cut : (k : ℕ) (d : EdgeUpdate × ℤ) (ds : List (EdgeUpdate × ℤ)) → k ≡ vertex_of d.0 / 64 → (cut after : List (EdgeUpdate × ℤ)) → d ∷ ds ≡ cut ++ after → BeginsElsewhere k after
    → (r : List (EdgeUpdate × ℤ)) × (cut ≡ d ∷ r) × (ds ≡ r ++ after)
first_cut k d ds at [] after w other = absurd (begins after w other)
  where
    begins : (ys : List (EdgeUpdate × ℤ)) → d ∷ ds ≡ ys → BeginsElsewhere k ys → ⊥
    begins [] e o = cc
    begins (y ∷ ys) e o = let same : d ≡ y = cc in o (ap (λ z. vertex_of z.0 / 64) (sym same) ∙ sym at)
first_cut k d ds at (x ∷ xs) after w other = let same : x ≡ d = cc in let rest : ds ≡ xs ++ after = cc in (xs, ap (λ z. z ∷ xs) same, rest)

pub same_change : (a c : BlockChange) → Some a ≡ Some c → a ≡ c
same_change a c e = cc

module _ (all : List (EdgeUpdate × ℤ)) (d : EdgeUpdate × ℤ) (ds cut after : List (EdgeUpdate × ℤ)) (blocks : List (ℕ × BlockChange)) (so_far : AreCutSoFar all (d ∷ ds) blocks)
    (whole : d ∷ ds ≡ cut ++ after) (of_block : AreOfBlock (vertex_of d.0 / 64) cut) (elsewhere : BeginsElsewhere (vertex_of d.0 / 64) after) where
  abbrev k : ℕ
  k = vertex_of d.0 / 64

  -- the first update is in the cut
  cut_first : (r : List (EdgeUpdate × ℤ)) × (cut ≡ d ∷ r) × (ds ≡ r ++ after)
  cut_first = first_cut k d ds refl cut after whole elsewhere

  order : FollowAscending d.0 (keys_of (cut_first.0 ++ after))
  order = subst (λ xs. FollowAscending d.0 (keys_of xs)) cut_first.2 so_far.order

  -- the updates of the block ascend in it
  pub cut_ascends : EdgesAscend 0 cut
  cut_ascends =
      let first = cut_first in
      let ascends : Ascend (keys_of cut) = subst (λ us. Ascend (keys_of us)) (sym first.1) (front_ascends d first.0 after order) in
      ascend_in_page k cut ascends of_block

  -- what is left is shorter
  pub after_shorter : length after < length (d ∷ ds)
  after_shorter = let first = cut_first in omega (arith, ap length first.2, length-append first.0 after)

  begins_after : BeginsFrom (k + 1) after
  begins_after = from after order elsewhere
    where
      from : (ys : List (EdgeUpdate × ℤ)) → FollowAscending d.0 (keys_of (cut_first.0 ++ ys)) → BeginsElsewhere k ys → BeginsFrom (k + 1) ys
      from [] s o = tt
      from (y ∷ ys) s o = omega (arith, no_lower d cut_first.0 y ys s, o)

  -- the blocks after one more
  pub cut_more : (c : BlockChange) → c.updates ≡ cut → vertex_of d.0 < 2 ^ 24 → AreCutSoFar all after (blocks ++ (k, c) ∷ [])
  cut_more c is small = let more = blocks ++ (k, c) ∷ [] in record {
    low = k + 1;
    order = back_ascends d cut_first.0 after order;
    begins = begins_after;
    rise = let last : k + 1 ≤ k + 1 = omega arith in rises_joined 0 (k + 1) blocks k c [] (rises_to 0 so_far.low k blocks so_far.rise so_far.begins) last;
    small = omega arith;
    cuts = λ j x there. elim (cases_eq j k) [
      | inl at ↦
          let here : lookup j more ≡ Some c = rw at (lookup_last 0 so_far.low blocks k c so_far.rise so_far.begins) in
          let same : c ≡ x = same_change c x (sym here ∙ there) in
          subst (λ (y : BlockChange). IsCutAt j y) same (rw at (record { some = rw (is, cut_first.1) (omega arith); block = rw is of_block; order = rw is cut_ascends }))
      | inr other ↦ so_far.cuts j x (sym (lookup_before blocks k c j other) ∙ there)
    ];
    same = λ e.
        let rest : decided_weight (d ∷ ds) e ≡ option_or (decided_weight after e) (decided_weight cut e) = ap (λ xs. decided_weight xs e) whole ∙ decided_append cut after e in
        let said = block_decided (lookup (e.0 / 64) blocks) e in
        let known = so_far.same e ∙ ap (λ o. option_or o said) rest ∙ option_or-assoc (decided_weight after e) (decided_weight cut e) said in
        known ∙ ap (λ o. option_or (decided_weight after e) o) (elim (cases_eq (e.0 / 64) k) [
          | inl at ↦
              let none : lookup (e.0 / 64) blocks ≡ None = rw at (lookup_above 0 so_far.low blocks k so_far.rise so_far.begins) in
              let here : lookup (e.0 / 64) more ≡ Some c = rw at (lookup_last 0 so_far.low blocks k c so_far.rise so_far.begins) in
              rw (none, here, is) (option_or-none (decided_weight cut e))
          | inr other ↦ rw (cut_silent k cut e of_block other, lookup_before blocks k c (e.0 / 64) other)
        ]);
  }

-- no update has been read
pub cut_none : (all : List (EdgeUpdate × ℤ)) → Ascend (keys_of all) → AreCutSoFar all all []
cut_none all s = record {
  low = 0;
  order = s;
  begins = from all;
  rise = omega arith;
  small = omega arith;
  cuts = λ k c is. absurd (cc);
  same = λ e. sym (option_or-none (decided_weight all e));
}
  where
    from : (ds : List (EdgeUpdate × ℤ)) → BeginsFrom 0 ds
    from [] = tt
    from (d ∷ ds) = omega arith

-- all updates have been read
pub cut_all : (all rest : List (EdgeUpdate × ℤ)) (blocks : List (ℕ × BlockChange)) → AreCutSoFar all rest blocks → length rest ≡ 0 → AreCut all blocks
cut_all all rest blocks so_far end = record {
  map = rises_to 0 so_far.low (2 ^ 18) blocks so_far.rise so_far.small;
  cuts = so_far.cuts;
  same = λ e. sym (so_far.same e ∙ ap (λ us. option_or (decided_weight us e) (block_decided (lookup (e.0 / 64) blocks) e)) (no_update rest end));
}
