-- Lists that have the same members.
use Rattle.std.proofs.Common.{◌≡◌, ℕ, Bool, true, false, List, refl, sym, ◌∙◌, Contains}
use Rattle.kernels.specs.EdgeApply.{is_member}
use Rattle.edge_apply.proofs.Inserted.{contained, counted}

by_second : (v : ℕ) (xs ys : List ℕ) (b : Bool) → (Contains ys v → Contains xs v) → is_member v ys ≡ b → is_member v xs ≡ false → is_member v xs ≡ is_member v ys
by_second v xs ys true back second first = counted v xs (back (contained v ys second)) ∙ sym second
by_second v xs ys false back second first = first ∙ sym second

by_first : (v : ℕ) (xs ys : List ℕ) (b : Bool) → (Contains xs v → Contains ys v) → (Contains ys v → Contains xs v) → is_member v xs ≡ b → is_member v xs ≡ is_member v ys
by_first v xs ys true there back first = first ∙ sym (counted v ys (there (contained v xs first)))
by_first v xs ys false there back first = by_second v xs ys (is_member v ys) back refl first

-- a number is a member of both or of none
pub same_member : (v : ℕ) (xs ys : List ℕ) → (Contains xs v → Contains ys v) → (Contains ys v → Contains xs v) → is_member v xs ≡ is_member v ys
same_member v xs ys there back = by_first v xs ys (is_member v xs) there back refl
