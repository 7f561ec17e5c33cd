-- The fault that is told.
use Rattle.std.proofs.Common.{◌≡◌, refl, ap, sym, ◌∙◌, true, true≢false, is_some, List, [], ◌∷◌, None, Some}
use Rattle.expression_types.specs.declared.fault.Fault.{Fault}
use Rattle.expression_types.specs.Faults.{earlier, least_of}

-- where one was noted one is noted in the end
stays : (first : Fault) (faults : List Fault) → is_some (least_of (Some first) faults) ≡ true
stays first [] = refl
stays first (f ∷ faults) = stays (earlier (Some first) f) faults

-- where none is noted in the end there was none
pub none_told : (faults : List Fault) → least_of None faults ≡ None → faults ≡ []
none_told [] none = refl
none_told (f ∷ faults) none = absurd (true≢false (sym (stays f faults) ∙ ap is_some none))
