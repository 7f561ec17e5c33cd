-- The way down a tree of chunks to where a key stands.
use Rattle.std.proofs.Common.{◌≡◌, ℕ, ℤ, ◌+◌, ◌^◌, ◌<◌, Option, Some, None, List, [], ◌∷◌, ◌++◌, refl, sym, ◌∙◌, ap, append_assoc, arith}
use Rattle.std.specs.List.{All}
use Rattle.std.specs.Map.{keys_of}
use Rattle.std.proofs.lemmas.List.{append-nil}
use Rattle.std.proofs.lemmas.List.Elements.{All-nil, All-cons, All-head, All-tail}
use Rattle.ascending_lists.specs.Ascending.{Ascends}
use Rattle.ascending_lists.specs.Maps.{IsMap, lookup}
use Rattle.ascending_lists.proofs.MapKeys.{entries_rise}
use Rattle.ascending_lists.proofs.MapOrder.{rises_from, rises_front, rises_right, lookup_left, lookup_here, lookup_right}
use Rattle.tail_codec.specs.Spelling.{BasedList}
use Rattle.shared_tree.specs.Balanced.{Balanced, empty, IsFork}
use Rattle.c_tree.specs.Chunks.{HeadValue}
use Rattle.c_tree.specs.inside.Chunks.{entries_of, together}

pub entries_append : (xs ys : List (ℕ × HeadValue)) → entries_of (xs ++ ys) ≡ entries_of xs ++ entries_of ys
entries_append [] ys = refl
entries_append (c ∷ xs) ys =
    ap (λ v. (c.0, c.1.weight) ∷ (c.1.tail.entries ++ v)) (entries_append xs ys) ∙ ap (λ v. (c.0, c.1.weight) ∷ v) (sym (append_assoc c.1.tail.entries (entries_of xs) (entries_of ys)))

module _ {X : Type 0} (P : X → Type 0) where
  pub all_left : (xs ys : List X) → All P (xs ++ ys) → All P xs
  all_left [] ys each = All-nil P
  all_left (x ∷ xs) ys each = All-cons P x xs (All-head P x (xs ++ ys) each) (all_left xs ys (All-tail P x (xs ++ ys) each))

  pub all_right : (xs ys : List X) → All P (xs ++ ys) → All P ys
  all_right [] ys each = each
  all_right (x ∷ xs) ys each = all_right xs ys (All-tail P x (xs ++ ys) each)

-- chunks on both sides of one
pub together_at : (prefix : BasedList) (l : List (ℕ × HeadValue)) (k : ℕ) (v : HeadValue) (r : List (ℕ × HeadValue))
    → together prefix (l ++ (k, v) ∷ r) ≡ together prefix l ++ (k, v.weight) ∷ together v.tail r
together_at prefix l k v r =
    ap (λ es. prefix.entries ++ es) (entries_append l ((k, v) ∷ r))
    ∙ sym (append_assoc prefix.entries (entries_of l) ((k, v.weight) ∷ (v.tail.entries ++ entries_of r)))

-- The entries es are those of a map, and what they have at k is what whole has there.
pub record IsWhere (k : ℕ) (whole es : List (ℕ × ℤ)) : Type 0 where
  pub map : IsMap es
  pub same : lookup k es ≡ lookup k whole

pub starts : (k : ℕ) (whole es : List (ℕ × ℤ)) → es ≡ whole → Ascends None (keys_of es) → IsWhere k whole es
starts k whole es same up = record { map = entries_rise 0 es (omega arith) up; same = ap (lookup k) same }

module _ (k : ℕ) (whole : List (ℕ × ℤ)) (tail : BasedList) (t l : Balanced HeadValue) (h : ℕ) (v : HeadValue) (r : Balanced HeadValue) (fork : IsFork t l h v r)
    (is : IsWhere k whole (together tail t.entries)) where
  es : List (ℕ × ℤ)
  es = together tail l.entries

  rs : List (ℕ × ℤ)
  rs = together v.tail r.entries

  cut : together tail t.entries ≡ es ++ (h, v.weight) ∷ rs
  unfolding es rs
  cut = ap (together tail) fork.entries ∙ together_at tail l.entries h v r.entries

  is' : IsWhere k whole (es ++ (h, v.weight) ∷ rs)
  is' = rw cut at is

  pub turn_left : k < h → IsWhere k whole (together tail l.entries)
  unfolding es rs
  turn_left lt = record {
    map = rises_front 0 (2 ^ 32) es ((h, v.weight) ∷ rs) is'.map;
    same = sym (lookup_left 0 (2 ^ 32) es h v.weight rs k is'.map lt) ∙ is'.same;
  }

  pub turn_right : h < k → IsWhere k whole (together v.tail r.entries)
  unfolding es rs
  turn_right lt = record {
    map = rises_from 0 (h + 1) (2 ^ 32) rs (omega arith) (rises_right 0 (2 ^ 32) es h v.weight rs is'.map);
    same = sym (lookup_right 0 (2 ^ 32) es h v.weight rs k is'.map lt) ∙ is'.same;
  }

  pub at_head : k ≡ h → Some v.weight ≡ lookup k whole
  at_head e = sym (ap (λ j. lookup j (es ++ (h, v.weight) ∷ rs)) e ∙ lookup_here 0 (2 ^ 32) es h v.weight rs is'.map) ∙ is'.same

-- where no chunk is left, what is at a key stands in the tail
pub stands_in_tail : (k : ℕ) (whole : List (ℕ × ℤ)) (tail : BasedList) (t : Balanced HeadValue) (found : Option ℤ) → t ≡ empty → IsWhere k whole (together tail t.entries)
    → found ≡ lookup k tail.entries → found ≡ lookup k whole
stands_in_tail k whole tail t found none is held =
    let list : together tail t.entries ≡ tail.entries =
    ap (λ (d : Balanced HeadValue). together tail d.entries) none ∙ append-nil tail.entries in
    held ∙ sym (ap (lookup k) list) ∙ is.same
