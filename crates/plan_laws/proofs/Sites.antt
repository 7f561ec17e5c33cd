-- Where the two statements of a fusing stand.
use Rattle.std.proofs.Common.{◌≡◌, refl, ap, sym, subst, ◌∙◌, inl, inr, ◌⊎◌, ℕ, suc, ◌≤◌, nat_eq, cond, Bool, true, false, List, [], ◌∷◌, ◌++◌, map, arith, Option, Some, None}
use Rattle.std.specs.Map.{lookup}
use Rattle.std.proofs.lemmas.Bool.{eqb-true, eqb-false}
use Rattle.std.proofs.lemmas.List.{map-append}
use Rattle.std.proofs.lemmas.Option.{cond_some, none-some, same_Some}
use Rattle.typed_tree.specs.declared.apply.StatementApply.{StatementApply}
use Rattle.typed_tree.specs.BlockTree.{StatementKindTree, If, IfElse, While, For, BlockTree, Empty, Then}
use Rattle.typed_tree.specs.ProgramTree.{ProgramTree}
use Rattle.schedule.specs.declared.site.Site.{Site}
use Rattle.schedule.specs.Calls.{apply_in, is_label, is_next}
use Rattle.schedule.specs.Laws.{IsFusedWell}
use Rattle.schedule.specs.Schedule.{apply_of, label_of, site_at, site_of, sites_in, sites_of}
use Rattle.type_laws.specs.LabelIndices.{inner_indices, label_indices, own_index}
use Rattle.type_laws.specs.Numbers.{InOrder}
use Rattle.plan_laws.specs.Neighbours.{AreNeighbours, AreNeighboursInside, StatementTree}

abbrev Sites : Type 0
Sites = List (ℕ × Site)

-- a label stands before a statement that applies this
abbrev Has : Sites → (label : ℕ) → Option StatementApply → Type 0
Has [] label apply = ⊥
Has (x ∷ others) label apply = ((x.0 ≡ label) × (x.1.apply ≡ apply)) ⊎ Has others label apply

has_left : (xs ys : Sites) (label : ℕ) (apply : Option StatementApply) → Has xs label apply → Has (xs ++ ys) label apply
has_left [] ys label apply has = absurd has
has_left (x ∷ xs) ys label apply (inl here) = inl here
has_left (x ∷ xs) ys label apply (inr has) = inr (has_left xs ys label apply has)

has_right : (xs ys : Sites) (label : ℕ) (apply : Option StatementApply) → Has ys label apply → Has (xs ++ ys) label apply
has_right [] ys label apply has = has
has_right (x ∷ xs) ys label apply has = inr (has_right xs ys label apply has)

first_found : (b : Bool) (x site : Site) (xs ys : Sites) (label : ℕ) → cond b (Some x) (lookup (nat_eq label) (xs ++ ys)) ≡ Some site
    → (lookup (nat_eq label) (xs ++ ys) ≡ Some site → (lookup (nat_eq label) xs ≡ Some site) ⊎ (lookup (nat_eq label) ys ≡ Some site))
    → (cond b (Some x) (lookup (nat_eq label) xs) ≡ Some site) ⊎ (lookup (nat_eq label) ys ≡ Some site)
first_found true x site xs ys label is further = inl is
first_found false x site xs ys label is further = further is

found_in_two : (xs ys : Sites) (label : ℕ) (site : Site) → lookup (nat_eq label) (xs ++ ys) ≡ Some site → (lookup (nat_eq label) xs ≡ Some site) ⊎ (lookup (nat_eq label) ys ≡ Some site)
found_in_two [] ys label site is = inr is
found_in_two (x ∷ xs) ys label site is = first_found (nat_eq label x.0) x.1 site xs ys label is (found_in_two xs ys label site)

-- two neighbours of these labels, the first of which applies this
record Located (Neighbours : StatementTree → StatementTree → Type 0) (sites : Sites) (first second : ℕ) (apply : Option StatementApply) : Type 0 where
  pub one : StatementTree
  pub other : StatementTree
  pub neighbours : Neighbours one other
  pub first_has : one.label ≡ Some first
  pub second_has : other.label ≡ Some second
  pub applies : apply_of one.action ≡ apply
  pub site : Has sites second (apply_of other.action)

wider : (N M : StatementTree → StatementTree → Type 0) (xs ys : Sites) (first second : ℕ) (apply : Option StatementApply) → ((s t : StatementTree) → N s t → M s t)
    → ((a : Option StatementApply) → Has xs second a → Has ys second a) → Located N xs first second apply → Located M ys first second apply
wider N M xs ys first second apply more all x = record {
  one = x.one;
  other = x.other;
  neighbours = more x.one x.other x.neighbours;
  first_has = x.first_has;
  second_has = x.second_has;
  applies = x.applies;
  site = all (apply_of x.other.action) x.site;
}

module _ (first second : ℕ) where
  abbrev InBlock : BlockTree → Site → Type 0
  InBlock b site = Located (λ s t. AreNeighbours s t b) (sites_of b) first second site.apply

  next_here : (number l : ℕ) (action : StatementKindTree) (rest : BlockTree) → first ≡ l → is_label (label_of rest) second ≡ true
      → Located (λ s t. AreNeighbours s t (Then number (Some l) action rest)) (sites_of (Then number (Some l) action rest)) first second (apply_of action)
  next_here number l action Empty same next = cc
  next_here number l action (Then n None a others) same next = cc
  next_here number l action (Then n (Some m) a others) same next =
      let rest = Then n (Some m) a others in
      let is : m ≡ second = eqb-true m second next in
      record {
        one = record { number = number; label = Some l; action = action };
        other = record { number = n; label = Some m; action = a };
        neighbours = inl (refl, refl);
        first_has = ap Some (sym same);
        second_has = ap Some is;
        applies = refl;
        site = has_right (site_at (Some l) action rest) (sites_in action ++ sites_of rest) second (apply_of a) (has_right (sites_in action) (sites_of rest) second (apply_of a) (inl (is, refl)));
      }

  located_here : (number : ℕ) (label : Option ℕ) (action : StatementKindTree) (rest : BlockTree) (site : Site) → lookup (nat_eq first) (site_at label action rest) ≡ Some site
      → is_label site.next second ≡ true → InBlock (Then number label action rest) site
  located_here number None action rest site is next = absurd (none-some site is)
  located_here number (Some l) action rest site is next =
      let own : Site = record { apply = apply_of action; next = label_of rest } in
      let found = cond_some (nat_eq first l) own site is in
      subst (λ (x : Site). InBlock (Then number (Some l) action rest) x) found.1
      (next_here number l action rest (eqb-true first l found.0) (subst (λ (x : Site). is_label x.next second ≡ true) (sym found.1) next))

  mutual
    located_inside : (a : StatementKindTree) (site : Site) → lookup (nat_eq first) (sites_in a) ≡ Some site → is_label site.next second ≡ true
        → Located (λ s t. AreNeighboursInside s t a) (sites_in a) first second site.apply
    located_inside (If c body) site is next = located body site is next
    located_inside (IfElse c body other) site is next =
        elim (found_in_two (sites_of body) (sites_of other) first site is) [
          | inl h ↦
              wider (λ s t. AreNeighbours s t body) (λ s t. AreNeighboursInside s t (IfElse c body other)) (sites_of body) (sites_of body ++ sites_of other) first second site.apply (λ s t n. inl n)
              (λ a has. has_left (sites_of body) (sites_of other) second a has) (located body site h next)
          | inr h ↦
              wider (λ s t. AreNeighbours s t other) (λ s t. AreNeighboursInside s t (IfElse c body other)) (sites_of other) (sites_of body ++ sites_of other) first second site.apply (λ s t n. inr n)
              (λ a has. has_right (sites_of body) (sites_of other) second a has) (located other site h next)
        ]
    located_inside (While c body) site is next = located body site is next
    located_inside (For name start end body) site is next = located body site is next
    located_inside _ site is next = absurd (none-some site is)

    located : (b : BlockTree) (site : Site) → lookup (nat_eq first) (sites_of b) ≡ Some site → is_label site.next second ≡ true → InBlock b site
    located Empty site is next = absurd (none-some site is)
    located (Then number label action rest) site is next =
        let b = Then number label action rest in
        let own = site_at label action rest in
        let inner = sites_in action in
        elim (found_in_two own (inner ++ sites_of rest) first site is) [
          | inl h ↦ located_here number label action rest site h next
          | inr h ↦
              elim (found_in_two inner (sites_of rest) first site h) [
                | inl k ↦
                    wider (λ s t. AreNeighboursInside s t action) (λ s t. AreNeighbours s t b) inner (sites_of b) first second site.apply (λ s t n. inr (inl n))
                    (λ a has. has_right own (inner ++ sites_of rest) second a (has_left inner (sites_of rest) second a has)) (located_inside action site k next)
                | inr k ↦
                    wider (λ s t. AreNeighbours s t rest) (λ s t. AreNeighbours s t b) (sites_of rest) (sites_of b) first second site.apply (λ s t n. inr (inr n))
                    (λ a has. has_right own (inner ++ sites_of rest) second a (has_right inner (sites_of rest) second a has)) (located rest site k next)
              ]
        ]

-- labels in order stand before one statement each
abbrev keys : Sites → List ℕ
keys xs = map (λ x. x.0) xs

has_above : (n : ℕ) (xs : Sites) (label : ℕ) (apply : Option StatementApply) → InOrder n (keys xs) → Has xs label apply → n ≤ label
has_above n [] label apply order has = absurd has
has_above n (x ∷ xs) label apply order (inl here) = let a : x.0 ≡ n = order.0 in let b : x.0 ≡ label = here.0 in omega arith
has_above n (x ∷ xs) label apply order (inr has) = let more : suc n ≤ label = has_above (suc n) xs label apply order.1 has in omega arith

by_test : (n : ℕ) (x : ℕ × Site) (xs : Sites) (label : ℕ) (apply : Option StatementApply) (site : Site) (b : Bool) → nat_eq label x.0 ≡ b → InOrder n (keys (x ∷ xs))
    → cond b (Some x.1) (lookup (nat_eq label) xs) ≡ Some site → Has (x ∷ xs) label apply → (lookup (nat_eq label) xs ≡ Some site → Has xs label apply → apply ≡ site.apply) → apply ≡ site.apply
by_test n x xs label apply site true test order is (inl here) further = sym here.1 ∙ ap (λ (s : Site). s.apply) (same_Some x.1 site is)
by_test n x xs label apply site true test order is (inr has) further =
    let same : label ≡ x.0 = eqb-true label x.0 test in
    let first : x.0 ≡ n = order.0 in
    let more : suc n ≤ label = has_above (suc n) xs label apply order.1 has in
    absurd (omega arith)
by_test n x xs label apply site false test order is (inl here) further = absurd (eqb-false label x.0 test (sym here.0))
by_test n x xs label apply site false test order is (inr has) further = further is has

one_site : (n : ℕ) (xs : Sites) (label : ℕ) (apply : Option StatementApply) (site : Site) → InOrder n (keys xs) → lookup (nat_eq label) xs ≡ Some site → Has xs label apply → apply ≡ site.apply
one_site n [] label apply site order is has = absurd has
one_site n (x ∷ xs) label apply site order is has = by_test n x xs label apply site (nat_eq label x.0) refl order is has (one_site (suc n) xs label apply site order.1)

own_keys : (label : Option ℕ) (action : StatementKindTree) (rest : BlockTree) → keys (site_at label action rest) ≡ own_index label
own_keys None action rest = refl
own_keys (Some l) action rest = refl

keys_of_two : (xs ys : Sites) (ls ms : List ℕ) → keys xs ≡ ls → keys ys ≡ ms → keys (xs ++ ys) ≡ ls ++ ms
keys_of_two xs ys ls ms first second = map-append (λ x. x.0) xs ys ∙ ap (λ ks. ks ++ keys ys) first ∙ ap (λ ks. ls ++ ks) second

mutual
  inner_keys : (a : StatementKindTree) → keys (sites_in a) ≡ inner_indices a
  inner_keys (If c body) = block_keys body
  inner_keys (IfElse c body other) = keys_of_two (sites_of body) (sites_of other) (label_indices body) (label_indices other) (block_keys body) (block_keys other)
  inner_keys (While c body) = block_keys body
  inner_keys (For name start end body) = block_keys body
  inner_keys _ = refl

  block_keys : (b : BlockTree) → keys (sites_of b) ≡ label_indices b
  block_keys Empty = refl
  block_keys (Then number label action rest) =
      keys_of_two (site_at label action rest) (sites_in action ++ sites_of rest) (own_index label) (inner_indices action ++ label_indices rest) (own_keys label action rest)
      (keys_of_two (sites_in action) (sites_of rest) (inner_indices action) (label_indices rest) (inner_keys action) (block_keys rest))

-- the two statements of a fusing, with what they apply
pub record AreFused (main : BlockTree) (first second : ℕ) (x y : StatementApply) : Type 0 where
  pub one : StatementTree
  pub other : StatementTree
  pub neighbours : AreNeighbours one other main
  pub first_has : one.label ≡ Some first
  pub second_has : other.label ≡ Some second
  pub first_applies : apply_of one.action ≡ Some x
  pub second_applies : apply_of other.action ≡ Some y

with_sites : (main : BlockTree) (n first second : ℕ) (x y : StatementApply) (a b : Option Site) → InOrder n (label_indices main) → site_of first main ≡ a → site_of second main ≡ b
    → apply_in a ≡ Some x → apply_in b ≡ Some y → is_next a second ≡ true → AreFused main first second x y
with_sites main n first second x y None b order is_a is_b one other next = absurd (none-some x one)
with_sites main n first second x y (Some a) None order is_a is_b one other next = absurd (none-some y other)
with_sites main n first second x y (Some a) (Some b) order is_a is_b one other next =
    let both = located first second main a is_a next in
    record {
      one = both.one;
      other = both.other;
      neighbours = both.neighbours;
      first_has = both.first_has;
      second_has = both.second_has;
      first_applies = both.applies ∙ one;
      second_applies = one_site n (sites_of main) second (apply_of both.other.action) b (subst (InOrder n) (sym (block_keys main)) order) is_b both.site ∙ other;
    }

pub fused_stand : (p : ProgramTree) (n first second : ℕ) → InOrder n (label_indices p.main) → (well : IsFusedWell p first second) → AreFused p.main first second well.one well.other
fused_stand p n first second order well =
    with_sites p.main n first second well.one well.other (site_of first p.main) (site_of second p.main) order refl refl well.first_applies well.second_applies well.next_in_block
