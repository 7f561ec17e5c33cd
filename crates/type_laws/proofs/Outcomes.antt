-- A source has a program or a fault.
use Rattle.std.proofs.Common.{◌≡◌, refl, ap, sym, ◌∙◌, ◌⊎◌, inl, inr, ℕ, List, [], ◌∷◌, Some, None}
use Rattle.std.specs.Prelude.{Ok, Err}
use Rattle.std.proofs.lemmas.Option.{none-some}
use Rattle.syntax.specs.SourceTrees.{SourceTree}
use Rattle.typed_tree.specs.ProgramTree.{ProgramTree}
use Rattle.expression_types.specs.declared.fault.Fault.{Fault}
use Rattle.expression_types.specs.Faults.{earlier, least_of}
use Rattle.types.specs.Program.{Checks, program_of}

-- of some faults one is told
one_told : (first : Fault) (others : List Fault) → (f : Fault) × (least_of (Some first) others ≡ Some f)
one_told first [] = (first, refl)
one_told first (e ∷ others) = one_told (earlier (Some first) e) others

abbrev pub Outcome : SourceTree → ℕ → Type 0
Outcome source length = ((program : ProgramTree) × Checks source length (Ok program)) ⊎ ((f : Fault) × Checks source length (Err f))

outcome_of : (source : SourceTree) (length : ℕ) (faults : List Fault) → (program_of source length).faults ≡ faults → Outcome source length
outcome_of source length [] is = inl ((program_of source length).value, (is, refl))
outcome_of source length (e ∷ others) is =
    let told = one_told (earlier None e) others in inr (told.0, ap (least_of None) is ∙ told.1)

pub one_outcome : (source : SourceTree) (length : ℕ) → Outcome source length
one_outcome source length = outcome_of source length (program_of source length).faults refl

pub not_both_outcomes : (source : SourceTree) (length : ℕ) (program : ProgramTree) (f : Fault) → Checks source length (Ok program) → Checks source length (Err f) → ⊥
not_both_outcomes source length program f ok err = none-some f (sym (ap (least_of None) ok.0) ∙ err)
