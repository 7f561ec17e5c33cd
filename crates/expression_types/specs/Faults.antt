-- Faults, which of several is reported, and values with the faults that were found on the way to them.
use Rattle.std.specs.Prelude.{ℕ, Bool, ◌&&◌, ◌||◌, nat_lt, ◌==◌, if◌then◌else◌, List, [], ◌∷◌, Option, Some, None, ◌++◌, ◌≡◌, Result, Ok, Err}
use Rattle.std.specs.declared.alloc.AllocError.{AllocError}
use Rattle.expression_types.specs.declared.fault.Fault.{Fault}
use Rattle.expression_types.specs.declared.fault.TypeRule.{TypeRule}
use Rattle.expression_types.specs.declared.fault.TypeRule.TheVariants as rule

abbrev pub number_of : TypeRule → ℕ
number_of rule.UnknownName = 221
number_of rule.Redeclared = 222
number_of rule.WrongType = 223
number_of rule.NotReduction = 224
number_of rule.MixedReductions = 225
number_of rule.WrongIndex = 226
number_of rule.PrintOutsideMain = 227
number_of rule.NoMain = 228
number_of rule.BadLabel = 229

-- a fault has the lesser offset, or the same and the lesser number
abbrev pub comes_before : Fault → Fault → Bool
comes_before f e = nat_lt f.at e.at || (f.at == e.at && nat_lt (number_of f.rule) (number_of e.rule))

-- of two faults the one that is reported
abbrev pub earlier : Option Fault → Fault → Fault
earlier None f = f
earlier (Some e) f = if comes_before f e then f else e

-- of these faults, and of the one that was found before, the one that is reported
abbrev pub least_of : Option Fault → List Fault → Option Fault
least_of first [] = first
least_of first (f ∷ faults) = least_of (Some (earlier first f)) faults

-- a value with the faults that were found on the way to it, in the order of the text
pub record WithFaults (A : Type 0) : Type 0 where
  pub faults : List Fault
  pub value : A

-- a value without a fault
abbrev pub sure : {A : Type 0} → A → WithFaults A
sure x = record { faults = []; value = x }

-- a fault, and the value to continue with
abbrev pub fault_at : {A : Type 0} → ℕ → TypeRule → A → WithFaults A
fault_at at rule x = record { faults = record { at = at; rule = rule } ∷ []; value = x }

-- checks the next part with the value of the first; the faults of both are listed, in order
infixl 10 ◌>>=◌
abbrev pub ◌>>=◌ : {A B : Type 0} → WithFaults A → (A → WithFaults B) → WithFaults B
m >>= next = record { faults = m.faults ++ (next m.value).faults; value = (next m.value).value }

-- the value, and the fault that is reported if this one was found before
abbrev pub outcome : {A : Type 0} → Option Fault → WithFaults A → A × Option Fault
outcome first m = (m.value, least_of first m.faults)

-- The value of the answer, as view sees it, is the wanted one, and the fault noted in new is the one that is reported if old was
-- found before. If memory runs out, nothing is promised.
abbrev pub ReportsFaults : {T A : Type 0} → (T → A) → Option Fault → Option Fault → Result T AllocError → WithFaults A → Type 0
ReportsFaults view old new (Ok x) wanted = outcome old wanted ≡ (view x, new)
ReportsFaults view old new (Err e) wanted = Unit {0}
