-- Members of sets that get more of them.
use Rattle.std.proofs.Common.{◌≡◌, ◌⊎◌, inl, inr, ℕ, ◌+◌, ◌<◌, ◌==◌, Bool, true, false, ◌||◌, List, [], ◌∷◌, length, take, get_or, Contains, refl, sym, ap, ◌∙◌, subst, arith}
use Rattle.std.proofs.lemmas.Bool.{ne_eqb}
use Rattle.std.proofs.lemmas.Bool.Decides.{Decides-eqb}
use Rattle.std.proofs.lemmas.List.{take_more}
use Rattle.std.proofs.lemmas.List.Folds.{Any-from_list_any, list_any-append, list_any_at}
use Rattle.kernels.specs.EdgeApply.{is_member}
use Rattle.vertex_sets.proofs.Ascending.{contains_first, contains_later, first_or_later}
use Rattle.vertex_sets.specs.VertexSet.{Adds, VertexSubset}
use Rattle.edge_fold.proofs.Findings.{member_is}

pub contained : (v : ℕ) (xs : List ℕ) → is_member v xs ≡ true → Contains xs v
contained v xs e = let any = Any-from_list_any (λ m. m == v) xs e in subst (λ (y : ℕ). Contains xs y) ((Decides-eqb any.1 v).0 any.4) (any.0, any.2, any.3)

pub counted : (v : ℕ) (xs : List ℕ) → Contains xs v → is_member v xs ≡ true
counted v xs has = list_any_at (λ m. m == v) xs has.0 v has.1 ((Decides-eqb (get_or xs has.0 v) v).1 has.2)

-- a list with a number in front
first_counts : (u v : ℕ) (xs : List ℕ) → (v ≡ u) ⊎ Contains xs v → Contains (u ∷ xs) v
first_counts u v xs (inl here) = subst (λ (y : ℕ). Contains (u ∷ xs) y) (sym here) (contains_first u xs)
first_counts u v xs (inr there) = contains_later u v xs there

-- a set that got a vertex
pub member_added : (u v : ℕ) (old new : VertexSubset) → Adds u old new → is_member v new.members ≡ (u == v) || is_member v old.members
member_added u v old new adds =
    sym (member_is v new.members (is_member v (u ∷ old.members)) (
      λ e. (adds.members v).1 (first_or_later u v old.members (contained v (u ∷ old.members) e)),
      λ has. let at = first_counts u v old.members ((adds.members v).0 has) in list_any_at (λ m. m == v) (u ∷ old.members) at.0 v at.1 ((Decides-eqb (get_or (u ∷ old.members) at.0 v) v).1 at.2),
    ))

-- the next of some vertices
next_member : (v : ℕ) (us : List ℕ) (i : ℕ) → i < length us → is_member v (take (i + 1) us) ≡ is_member v (take i us) || (get_or us i 0 == v)
next_member v us i l =
    let u = get_or us i 0 in
    ap (is_member v) (take_more us i 0 l) ∙ list_any-append (λ m. m == v) (take i us) (u ∷ []) ∙ or_none (is_member v (take i us)) (u == v)
  where
    or_none : (a b : Bool) → a || (b || false) ≡ a || b
    or_none a true = refl
    or_none a false = refl

in_any_order : (here old before : Bool) → here || (old || before) ≡ old || (before || here)
in_any_order true true before = refl
in_any_order true false true = refl
in_any_order true false false = refl
in_any_order false true before = refl
in_any_order false false true = refl
in_any_order false false false = refl

-- where the next vertex was inserted
pub member_inserted : (v : ℕ) (us : List ℕ) (i : ℕ) (was before now : List ℕ) → i < length us → is_member v before ≡ is_member v was || is_member v (take i us)
    → is_member v now ≡ (get_or us i 0 == v) || is_member v before → is_member v now ≡ is_member v was || is_member v (take (i + 1) us)
member_inserted v us i was before now l so added =
    let here = get_or us i 0 == v in
    added ∙ ap (λ (b : Bool). here || b) so ∙ in_any_order here (is_member v was) (is_member v (take i us)) ∙ ap (λ (b : Bool). is_member v was || b) (sym (next_member v us i l))

-- where the next vertex is none that the set may have
pub member_left_out : (v : ℕ) (us : List ℕ) (i : ℕ) (was now : List ℕ) → i < length us → v < get_or us i 0 → is_member v now ≡ is_member v was || is_member v (take i us)
    → is_member v now ≡ is_member v was || is_member v (take (i + 1) us)
member_left_out v us i was now l above so =
    so ∙ ap (λ (b : Bool). is_member v was || b) (or_nothing (is_member v (take i us)) (get_or us i 0 == v) (ne_eqb (get_or us i 0) v (λ e. omega (arith, e, above))) ∙ sym (next_member v us i l))
  where
    or_nothing : (a b : Bool) → b ≡ false → a ≡ a || b
    or_nothing true b e = refl
    or_nothing false b e = sym e
