-- Lists that are copied item by item.
use Rattle.std.proofs.Common.{◌≡◌, ◌<◌, ℕ, ◌+◌, List, [], ◌∷◌, ◌++◌, length, take, get_or, sym, ap, ◌∙◌}
use Rattle.std.proofs.lemmas.List.{take_more}

-- one item more is copied
pub copied_more : {A : Type 0} (items copies new : List A) (index : ℕ) (copy item none : A) → index < length items
    → copies ≡ take index items → item ≡ get_or items index none → copy ≡ item → new ≡ copies ++ copy ∷ [] → new ≡ take (index + 1) items
copied_more {A} items copies new index copy item none within before here same is =
    is ∙ ap (λ (xs : List A). xs ++ copy ∷ []) before ∙ ap (λ (x : A). take index items ++ x ∷ []) (same ∙ here) ∙ sym (take_more items index none within)
