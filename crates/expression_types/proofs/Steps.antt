-- Values with the faults on the way to them, one after the other.
use Rattle.std.proofs.Common.{◌≡◌, refl, ap, sym, ◌∙◌, ℕ, suc, ◌+◌, ◌<◌, ◌≤◌, List, [], ◌∷◌, ◌++◌, length, drop, get_or, drop-cons, add-one, Option, Some, Result, Ok, Err}
use Rattle.std.proofs.lemmas.List.{append-nil, append_assoc, at_drop_all}
use Rattle.expression_types.specs.declared.fault.Fault.{Fault}
use Rattle.expression_types.specs.Faults.{earlier, least_of, WithFaults, ReportsFaults, sure, outcome, ◌>>=◌}
use Rattle.std.specs.declared.alloc.AllocError.{AllocError}

pub bind-sure : {A : Type 0} (m : WithFaults A) → (m >>= λ x. sure x) ≡ m
bind-sure m = let make : List Fault → WithFaults _ = λ faults. record { faults = faults; value = m.value } in ap make (append-nil m.faults)

pub bind-bind : {A B C : Type 0} (m : WithFaults A) (f : A → WithFaults B) (g : B → WithFaults C) → ((m >>= f) >>= g) ≡ (m >>= λ x. f x >>= g)
bind-bind m f g =
    let make : List Fault → WithFaults _ = λ faults. record { faults = faults; value = (g (f m.value).value).value } in
    ap make (append_assoc m.faults (f m.value).faults (g (f m.value).value).faults)

least_of-append : (fs gs : List Fault) (first : Option Fault) → least_of first (fs ++ gs) ≡ least_of (least_of first fs) gs
least_of-append [] gs first = refl
least_of-append (f ∷ fs) gs first = least_of-append fs gs (Some (earlier first f))

-- what is noted after a step is noted before the next
pub outcome_then : {A B : Type 0} (old new : Option Fault) (m : WithFaults A) (x : A) (next : A → WithFaults B) → outcome old m ≡ (x, new)
    → outcome old (m >>= next) ≡ outcome new (next x)
outcome_then old new m x next is =
    (λ i. ((next m.value).value, least_of-append m.faults (next m.value).faults old i))
    ∙ ap (λ (p : _ × Option Fault). ((next p.0).value, least_of p.1 (next p.0).faults)) is

-- one step after the other, for each item of a list
abbrev pub row : {S L : Type 0} → (S → L → WithFaults S) → S → List L → WithFaults S
row step s [] = sure s
row step s (x ∷ others) = step s x >>= λ t. row step t others

-- the next item of a row
pub row_on : {S L B : Type 0} (step : S → L → WithFaults S) (s t : S) (items : List L) (i : ℕ) (x : L) (old new : Option Fault) (next : S → WithFaults B)
    → i < length items → x ≡ get_or items i x → outcome old (step s x) ≡ (t, new)
    → outcome old (row step s (drop i items) >>= next) ≡ outcome new (row step t (drop (i + 1) items) >>= next)
row_on step s t items i x old new next inside is first_fault =
    ap (λ xs. outcome old (row step s xs >>= next)) (drop-cons items i x inside ∙ ap (λ y. y ∷ drop (suc i) items) (sym is))
    ∙ ap (outcome old) (bind-bind (step s x) (λ u. row step u (drop (suc i) items)) next)
    ∙ outcome_then old new (step s x) t (λ u. row step u (drop (suc i) items) >>= next) first_fault
    ∙ ap (λ n. outcome new (row step t (drop n items) >>= next)) (sym (add-one i))

-- the first of several steps is one on what it gives
pub row_first : {S L V : Type 0} (m : WithFaults V) (make : V → S) (step : S → L → WithFaults S) (items : List L)
    → (m >>= λ v. row step (make v) items) ≡ ((m >>= λ v. sure (make v)) >>= λ s. row step s items)
row_first m make step items = sym (bind-bind m (λ v. sure (make v)) (λ s. row step s items))

-- an answer that was noted after a step
pub reports_then : {T A B : Type 0} (view : T → B) (old between new : Option Fault) (m : WithFaults A) (x : A) (next : A → WithFaults B) (answer : Result T AllocError)
    → outcome old m ≡ (x, between) → ReportsFaults view between new answer (next x) → ReportsFaults view old new answer (m >>= next)
reports_then view old between new m x next (Ok y) is notes = outcome_then old between m x next is ∙ notes
reports_then view old between new m x next (Err e) is notes = tt

-- the answer after the last item of a row
pub row_ends : {S L T A : Type 0} (view : T → A) (old between new : Option Fault) (m : WithFaults A) (step : S → L → WithFaults S) (s : S) (items : List L) (i : ℕ) (next : S → WithFaults A)
    (answer : Result T AllocError) → length items ≤ i → outcome old m ≡ outcome between (row step s (drop i items) >>= next) → ReportsFaults view between new answer (next s)
    → ReportsFaults view old new answer m
row_ends view old between new m step s items i next (Ok y) all is notes = is ∙ at_drop_all (λ xs. outcome between (row step s xs >>= next)) items i all ∙ notes
row_ends view old between new m step s items i next (Err e) all is notes = tt
