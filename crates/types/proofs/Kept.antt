-- Names that were visible still are.
use Rattle.std.proofs.Common.{◌≡◌, ℕ, ◌≤◌, List, take, length, ap, subst, sym, ◌∙◌, arith}
use Rattle.std.proofs.lemmas.List.{length-take, take-take}
use Rattle.std.proofs.Math.Seq.{take-length}
use Rattle.expression_types.specs.declared.scope.Entity.{Entity}
use Rattle.expression_types.specs.ScopeTree.{ScopeTree, KeepsNames, left, mark_of}

-- after a block the scope is what it was before
pub left_again : (old new : ScopeTree) → KeepsNames old new → left (mark_of old) new ≡ old
left_again old new kept =
    let f : List (List ℕ × Entity) → ScopeTree = λ visible. record { visible = visible; inside = old.inside; integers = old.integers; conditions = old.conditions; sets = old.sets } in
    ap f kept

pub keeps_on : (old new last : ScopeTree) → KeepsNames old new → KeepsNames new last → KeepsNames old last
keeps_on old new last kept on =
    let shorter : length old.visible ≤ length new.visible = omega (arith, sym (ap length kept) ∙ length-take (length old.visible) new.visible) in
    sym (take-take (length old.visible) (length new.visible) last.visible shorter) ∙ ap (take (length old.visible)) on ∙ kept

pub keeps_same : (old new : ScopeTree) → new ≡ old → KeepsNames old new
keeps_same old new is = subst (λ scope. KeepsNames old scope) (sym is) (take-length old.visible)
