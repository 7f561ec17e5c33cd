-- Names as they are shown.
use Rattle.std.proofs.Common.{◌≡◌, refl, ap, ℕ, zero, suc, List, [], ◌∷◌, ◌++◌, length, take, Some, if◌then◌else◌}
use Rattle.std.specs.Global.{Vec}
use Rattle.std.specs.Str.{bytes_eq}
use Rattle.std.specs.Map.{lookup}
use Rattle.expression_types.specs.ScopeTree.{found}
use Rattle.expression_types.specs.inside.Names.{shown}

pub length-shown : {T : Type 0} (es : List (Vec ℕ × T)) → length (shown es) ≡ length es
length-shown [] = refl
length-shown (e ∷ es) = ap suc (length-shown es)

pub take-shown : {T : Type 0} (n : ℕ) (es : List (Vec ℕ × T)) → shown (take n es) ≡ take n (shown es)
take-shown zero es = refl
take-shown (suc n) [] = refl
take-shown (suc n) (e ∷ es) = ap (λ rest. (e.0.items, e.1) ∷ rest) (take-shown n es)

pub shown-append : {T : Type 0} (es : List (Vec ℕ × T)) (name : Vec ℕ) (item : T) → shown (es ++ (name, item) ∷ []) ≡ shown es ++ (name.items, item) ∷ []
shown-append [] name item = refl
shown-append (e ∷ es) name item = ap (λ rest. (e.0.items, e.1) ∷ rest) (shown-append es name item)

pub found-shown : {T : Type 0} (name : List ℕ) (es : List (Vec ℕ × T)) → lookup (λ k. bytes_eq name k.items) es ≡ found name (shown es)
found-shown name [] = refl
found-shown name (e ∷ es) = ap (λ o. if bytes_eq name e.0.items then Some e.1 else o) (found-shown name es)
