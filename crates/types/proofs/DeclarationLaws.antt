-- Declarations, one after the other.
use Rattle.std.proofs.Common.{◌≡◌, ap, sym, ◌∙◌, ℕ, suc, ◌+◌, ◌<◌, List, ◌∷◌, length, map, drop, get_or, drop-cons, add-one, Option}
use Rattle.syntax.specs.declared.declaration.Declaration.{Declaration}
use Rattle.syntax.specs.SourceViews.{declaration_tree}
use Rattle.expression_types.specs.declared.fault.Fault.{Fault}
use Rattle.expression_types.specs.Faults.{outcome}
use Rattle.expression_types.proofs.Steps.{outcome_then}
use Rattle.types.specs.Declaration.{DeclaredTree, declaration_typed, declarations_typed}

pub declaration_on : (d e : DeclaredTree) (items : List Declaration) (i : ℕ) (x : Declaration) (old new : Option Fault)
    → i < length items → x ≡ get_or items i x → outcome old (declaration_typed d (declaration_tree x)) ≡ (e, new)
    → outcome old (declarations_typed d (map declaration_tree (drop i items))) ≡ outcome new (declarations_typed e (map declaration_tree (drop (i + 1) items)))
declaration_on d e items i x old new inside is first_fault =
    ap (λ ys. outcome old (declarations_typed d (map declaration_tree ys))) (drop-cons items i x inside ∙ ap (λ y. y ∷ drop (suc i) items) (sym is))
    ∙ outcome_then old new (declaration_typed d (declaration_tree x)) e (λ e. declarations_typed e (map declaration_tree (drop (suc i) items))) first_fault
    ∙ ap (λ n. outcome new (declarations_typed e (map declaration_tree (drop n items)))) (sym (add-one i))
