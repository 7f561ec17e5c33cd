-- A copy of changes names the same vectors, and writes the same entries.
use Rattle.std.proofs.Common.{◌≡◌, ℕ, ◌+◌, ◌<◌, ℤ, ◌++◌, map, take, length, get_or, ◌==◌, ◌||◌, Bool, cond, List, [], ◌∷◌, refl, ap, ap₂, ◌∙◌, sym}
use Rattle.std.proofs.lemmas.List.{map_push, take_more}
use Rattle.edge_fold.specs.Changed.{AreApart, changes_of, is_named}
use Rattle.vectors.specs.declared.changes.EntryChange.{EntryChange}
use Rattle.vectors.specs.declared.changes.VectorChanges.{VectorChanges}
use Rattle.vectors.specs.Changes.{with_all_changes, with_changes}
use Rattle.run_records.specs.inside.Copies.{AreSameChanges, item_of}

-- the vector and the changes of an item
abbrev Item : Type 0
Item = ℕ × List EntryChange

no_item : (b : Item) (bs : List Item) → [] ≡ b ∷ bs → ⊥
no_item b bs is = cc

one_item : (a : Item) (more : List Item) → a ∷ more ≡ [] → ⊥
one_item a more is = cc

first_item : (a b : Item) (more others : List Item) → a ∷ more ≡ b ∷ others → a ≡ b
first_item a b more others is = cc

other_items : (a b : Item) (more others : List Item) → a ∷ more ≡ b ∷ others → more ≡ others
other_items a b more others is = cc

pub same_changes_of : (cs ds : List VectorChanges) → AreSameChanges cs ds → (x : ℕ) → changes_of x cs ≡ changes_of x ds
same_changes_of [] [] same x = refl
same_changes_of [] (d ∷ ds) same x = absurd (no_item _ _ same)
same_changes_of (c ∷ cs) [] same x = absurd (one_item _ _ same)
same_changes_of (c ∷ cs) (d ∷ ds) same x =
    ap₂ (λ (i : Item) (more : List EntryChange). cond (i.0 == x) i.1 more) (first_item _ _ _ _ same) (same_changes_of cs ds (other_items _ _ _ _ same) x)

pub same_vectors : (cs ds : List VectorChanges) → AreSameChanges cs ds → (vectors : List (List ℤ)) → with_all_changes cs vectors ≡ with_all_changes ds vectors
same_vectors [] [] same vectors = refl
same_vectors [] (d ∷ ds) same vectors = absurd (no_item _ _ same)
same_vectors (c ∷ cs) [] same vectors = absurd (one_item _ _ same)
same_vectors (c ∷ cs) (d ∷ ds) same vectors =
    same_vectors cs ds (other_items _ _ _ _ same) (with_changes c.vector c.changes.items vectors)
    ∙ ap (λ (i : Item). with_all_changes ds (with_changes i.0 i.1 vectors)) (first_item _ _ _ _ same)

same_names : (cs ds : List VectorChanges) → AreSameChanges cs ds → (x : ℕ) → is_named x cs ≡ is_named x ds
same_names [] [] same x = refl
same_names [] (d ∷ ds) same x = absurd (no_item _ _ same)
same_names (c ∷ cs) [] same x = absurd (one_item _ _ same)
same_names (c ∷ cs) (d ∷ ds) same x =
    ap₂ (λ (i : Item) (more : Bool). (i.0 == x) || more) (first_item _ _ _ _ same) (same_names cs ds (other_items _ _ _ _ same) x)

pub same_apart : (cs ds : List VectorChanges) → AreSameChanges cs ds → AreApart ds → AreApart cs
same_apart [] [] same apart = tt
same_apart [] (d ∷ ds) same apart = absurd (no_item _ _ same)
same_apart (c ∷ cs) [] same apart = absurd (one_item _ _ same)
same_apart (c ∷ cs) (d ∷ ds) same apart =
    let more = other_items _ _ _ _ same in
    let here = ap (λ (i : Item). i.0) (first_item (c.vector, c.changes.items) (d.vector, d.changes.items) _ _ same) in
    (same_names cs ds more c.vector ∙ ap (λ (y : ℕ). is_named y ds) here ∙ apart.0, same_apart cs ds more apart.1)

-- one more is copied
pub same_more : (cs ds : List VectorChanges) (i : ℕ) (c d : VectorChanges) → i < length ds → d ≡ get_or ds i d → AreSameChanges cs (take i ds)
    → c.vector ≡ d.vector → c.changes.items ≡ d.changes.items → AreSameChanges (cs ++ c ∷ []) (take (i + 1) ds)
same_more cs ds i c d lt is same vector changes =
    map_push item_of cs c
    ∙ ap₂ (λ (is : List Item) (j : Item). is ++ j ∷ []) same (ap₂ (λ (x : ℕ) (es : List EntryChange). (x, es)) vector changes)
    ∙ sym (map_push item_of (take i ds) d)
    ∙ sym (ap (map item_of) (take_more ds i d lt ∙ ap (λ (e : VectorChanges). take i ds ++ e ∷ []) (sym is)))
