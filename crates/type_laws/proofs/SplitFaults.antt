-- The faults of a part of a source, as those of its parts and those that it has itself; how such lists are put together.
use Rattle.std.proofs.Common.{◌≡◌, ◌⊎◌, inl, inr, refl, sym, subst, ℕ, zero, suc, ◌<◌, length, arith, Bool, true, false, if◌then◌else◌, List, [], ◌∷◌, ◌++◌}
use Rattle.std.specs.List.{AllByRecursion, Contains}
use Rattle.std.proofs.lemmas.List.{append-nil}
use Rattle.std.proofs.lemmas.List.Elements.{Contains-append_cases, Contains-append_left, Contains-append_right}
use Rattle.typed_tree.specs.BlockTree.{Empty}
use Rattle.typed_tree.specs.FunctionStatementTree.{NoStep}
use Rattle.expression_types.specs.declared.fault.Fault.{Fault}
use Rattle.expression_types.specs.declared.fault.TypeRule.{TypeRule}
use Rattle.expression_types.specs.declared.fault.TypeRule.TheVariants as rule
use Rattle.expression_types.specs.declared.scope.Entity.TheVariants as entity
use Rattle.expression_types.specs.Expression.{index_value, value_of, vector_index}
use Rattle.expression_types.specs.ScopeTree.{declared}
use Rattle.expression_types.specs.Faults.{◌>>=◌}
use Rattle.types.specs.Block.{action_typed, statements_typed}
use Rattle.initializer_types.specs.Checker.{with_label, as_index, condition_in, integer_in}
use Rattle.types.specs.Declaration.{declaration_typed, declarations_typed, parameters_declared, result_declared}
use Rattle.initializer_types.specs.Initial.{initializer_of}
use Rattle.types.specs.Program.{program_of}
use Rattle.types.specs.Step.{own_vertex, step_typed, steps_typed, written_at}
use Rattle.type_laws.specs.BrokenRules.{Breaks, InPart, Itself, breaks_itself, place}
use Rattle.type_laws.specs.ExpressionParts.{form_faults}
use Rattle.type_laws.specs.ExpressionRules.{all_rules}
use Rattle.type_laws.specs.SourceParts.{Part, Source, Declarations, Declaration, Parameters, MainBlock, MainStatement, FunctionBlock, FunctionStatement, Label, NewName, Initial, IntWanted, BoolWanted}
use Rattle.type_laws.specs.SourceParts.{VectorWanted, MainIndex, FunctionIndex, InExpression, parts_of}

-- what the checker notes at a part
abbrev pub faults : Part → List Fault
faults (Source s length) = (program_of s length).faults
faults (Declarations d xs) = (declarations_typed d xs).faults
faults (Declaration d x) = (declaration_typed d x).faults
faults (Parameters weighted k c p vs result) = (parameters_declared weighted c p vs >>= λ d. result_declared d k result).faults
faults (MainBlock c block) = (statements_typed c Empty block).faults
faults (MainStatement c action) = (action_typed c action).faults
faults (FunctionBlock c block) = (steps_typed c NoStep block).faults
faults (FunctionStatement c action) = (step_typed c action).faults
faults (Label c label) = (with_label c label).faults
faults (NewName scope name) = (declared name entity.Error scope).faults
faults (Initial c at x) = (initializer_of c at x).faults
faults (IntWanted scope at e) = (integer_in scope at e).faults
faults (BoolWanted scope at e) = (condition_in scope at e).faults
faults (VectorWanted scope at name) = (vector_index scope at name).faults
faults (MainIndex scope at e) = (value_of scope at e >>= as_index at).faults
faults (FunctionIndex scope at e) = (index_value scope at e >>= written_at at (own_vertex scope.inside)).faults
faults (InExpression scope at form) = form_faults scope at form

abbrev pub faults_of_parts : List Part → List Fault
faults_of_parts [] = []
faults_of_parts (part ∷ others) = faults part ++ faults_of_parts others

-- the rules that a part breaks itself, as faults
abbrev pub broken : Part → List TypeRule → List Fault
broken part [] = []
broken part (r ∷ others) = if breaks_itself part r then record { at = place part r; rule = r } ∷ broken part others else broken part others

-- one list has the faults of two
pub record Splits (faults parts own : List Fault) : Type 0 where
  pub there : (f : Fault) → Contains faults f → Contains parts f ⊎ Contains own f
  pub back : (f : Fault) → Contains parts f ⊎ Contains own f → Contains faults f

pub none_contained : (f : Fault) → Contains [] f → ⊥
none_contained f (k, within, is) = omega (arith, within)

pub after : (x faults parts own : List Fault) → Splits faults parts own → Splits (x ++ faults) (x ++ parts) own
after x faults parts own splits = record { there = to; back = from }
  where
    to : (f : Fault) → Contains (x ++ faults) f → Contains (x ++ parts) f ⊎ Contains own f
    to f has = elim (Contains-append_cases x faults f has) [
      | inl first ↦ inl (Contains-append_left x parts f first)
      | inr more ↦ elim (splits.there f more) [ inl behind ↦ inl (Contains-append_right x parts f behind) | inr mine ↦ inr mine ]
    ]

    from : (f : Fault) → Contains (x ++ parts) f ⊎ Contains own f → Contains (x ++ faults) f
    from f (inl has) = elim (Contains-append_cases x parts f has) [
      | inl first ↦ Contains-append_left x faults f first
      | inr behind ↦ Contains-append_right x faults f (splits.back f (inl behind))
    ]
    from f (inr mine) = Contains-append_right x faults f (splits.back f (inr mine))

pub here : (mine parts own : List Fault) → mine ≡ own → Splits (mine ++ parts) parts own
here mine parts own is = subst (λ o. Splits (mine ++ parts) parts o) is split
  where
    split : Splits (mine ++ parts) parts mine
    split = record {
      there = λ f has. elim (Contains-append_cases mine parts f has) [ inl first ↦ inr first | inr behind ↦ inl behind ];
      back = λ f has. elim has [ inl behind ↦ Contains-append_right mine parts f behind | inr first ↦ Contains-append_left mine parts f first ];
    }

pub last : (mine own : List Fault) → mine ≡ own → Splits mine [] own
last mine own is = subst (λ o. Splits mine [] o) is split
  where
    split : Splits mine [] mine
    split = record { there = λ f has. inr has; back = λ f has. elim has [ inl none ↦ absurd (none_contained f none) | inr mine ↦ mine ] }

pub nothing : (faults own : List Fault) → own ≡ [] → Splits faults faults own
nothing faults own is = subst (λ o. Splits faults faults o) (sym is) split
  where
    split : Splits faults faults []
    split = record { there = λ f has. inl has; back = λ f has. elim has [ inl there ↦ there | inr none ↦ absurd (none_contained f none) ] }

-- one that a part has itself, before those of its parts
pub own_before : (mine faults parts : List Fault) → Splits faults parts [] → Splits (mine ++ faults) parts mine
own_before mine faults parts splits = record { there = to; back = from }
  where
    to : (f : Fault) → Contains (mine ++ faults) f → Contains parts f ⊎ Contains mine f
    to f has = elim (Contains-append_cases mine faults f has) [
      | inl first ↦ inr first
      | inr behind ↦ elim (splits.there f behind) [ inl there ↦ inl there | inr none ↦ absurd (none_contained f none) ]
    ]

    from : (f : Fault) → Contains parts f ⊎ Contains mine f → Contains (mine ++ faults) f
    from f (inl there) = Contains-append_right mine faults f (splits.back f (inl there))
    from f (inr first) = Contains-append_left mine faults f first

-- two that a part has itself
pub both_own : (first second parts own : List Fault) → second ++ first ≡ own → Splits (first ++ (second ++ parts)) parts own
both_own first second parts own is = subst (λ o. Splits (first ++ (second ++ parts)) parts o) is split
  where
    to : (f : Fault) → Contains (first ++ (second ++ parts)) f → Contains parts f ⊎ Contains (second ++ first) f
    to f has = elim (Contains-append_cases first (second ++ parts) f has) [
      | inl one ↦ inr (Contains-append_right second first f one)
      | inr more ↦ elim (Contains-append_cases second parts f more) [ inl two ↦ inr (Contains-append_left second first f two) | inr behind ↦ inl behind ]
    ]

    from : (f : Fault) → Contains parts f ⊎ Contains (second ++ first) f → Contains (first ++ (second ++ parts)) f
    from f (inl behind) = Contains-append_right first (second ++ parts) f (Contains-append_right second parts f behind)
    from f (inr mine) = elim (Contains-append_cases second first f mine) [
      | inl two ↦ Contains-append_right first (second ++ parts) f (Contains-append_left second parts f two)
      | inr one ↦ Contains-append_left first (second ++ parts) f one
    ]

    split : Splits (first ++ (second ++ parts)) parts (second ++ first)
    split = record { there = to; back = from }

pub same_faults : (xs ys parts own : List Fault) → xs ≡ ys → Splits ys parts own → Splits xs parts own
same_faults xs ys parts own is splits = subst (λ fs. Splits fs parts own) (sym is) splits

pub same_parts : (faults xs ys own : List Fault) → xs ≡ ys → Splits faults xs own → Splits faults ys own
same_parts faults xs ys own is splits = subst (λ fs. Splits faults fs own) is splits

pub ends : (faults parts own : List Fault) → Splits faults parts own → Splits (faults ++ []) parts own
ends faults parts own splits = same_faults (faults ++ []) faults parts own (append-nil faults) splits

-- elements of lists
pub cons_cases : {A : Type 0} (x : A) (xs : List A) (y : A) → Contains (x ∷ xs) y → (x ≡ y) ⊎ Contains xs y
cons_cases x xs y (zero, within, is) = inl is
cons_cases x xs y (suc k, within, is) = let less : suc k < suc (length xs) = within in inr (k, omega (arith, less), is)

pub first_of_all : {A : Type 0} (x : A) (xs : List A) → Contains (x ∷ xs) x
first_of_all x xs = (0, omega arith, refl)

pub one_of_others : {A : Type 0} (x : A) (xs : List A) (y : A) → Contains xs y → Contains (x ∷ xs) y
one_of_others x xs y there = let within : there.0 < length xs = there.1 in (suc there.0, omega (arith, within), there.2)

-- a broken rule is a fault of the part itself, and the other way round
broken_if : (part : Part) (r : TypeRule) (others : List Fault) (f : Fault) (b : Bool) → breaks_itself part r ≡ b
    → (Contains others f → (breaks_itself part f.rule ≡ true) × (f.at ≡ place part f.rule))
    → Contains (if b then record { at = place part r; rule = r } ∷ others else others) f → (breaks_itself part f.rule ≡ true) × (f.at ≡ place part f.rule)
broken_if part r others f false is rest has = rest has
broken_if part r others f true is rest has = elim (cons_cases (record { at = place part r; rule = r }) others f has) [
  | inl same ↦ subst (λ (f : Fault). (breaks_itself part f.rule ≡ true) × (f.at ≡ place part f.rule)) same (is, refl)
  | inr there ↦ rest there
]

broken_there : (part : Part) (rules : List TypeRule) (f : Fault) → Contains (broken part rules) f → (breaks_itself part f.rule ≡ true) × (f.at ≡ place part f.rule)
broken_there part [] f has = absurd (none_contained f has)
broken_there part (r ∷ others) f has = broken_if part r (broken part others) f (breaks_itself part r) refl (broken_there part others f) has

there_if : (part : Part) (r : TypeRule) (others : List Fault) (b : Bool) → b ≡ true
    → Contains (if b then record { at = place part r; rule = r } ∷ others else others) (record { at = place part r; rule = r })
there_if part r others true is = first_of_all (record { at = place part r; rule = r }) others
there_if part r others false is = absurd cc

after_if : (x : Fault) (others : List Fault) (f : Fault) (b : Bool) → Contains others f → Contains (if b then x ∷ others else others) f
after_if x others f true there = one_of_others x others f there
after_if x others f false there = there

there_broken : (part : Part) (rules : List TypeRule) (r : TypeRule) → Contains rules r → breaks_itself part r ≡ true → Contains (broken part rules) (record { at = place part r; rule = r })
there_broken part [] r (k, within, is) breaks = absurd (omega (arith, within))
there_broken part (x ∷ others) r there breaks = elim (cons_cases x others r there) [
  | inl same ↦ subst (λ s. Contains (broken part (x ∷ others)) (record { at = place part s; rule = s })) same
      (there_if part x (broken part others) (breaks_itself part x) (subst (λ s. breaks_itself part s ≡ true) (sym same) breaks))
  | inr behind ↦ after_if (record { at = place part x; rule = x }) (broken part others) (record { at = place part r; rule = r }) (breaks_itself part x) (there_broken part others r behind breaks)
]

each_rule : (r : TypeRule) → Contains all_rules r
each_rule rule.UnknownName = (0, omega arith, refl)
each_rule rule.Redeclared = (1, omega arith, refl)
each_rule rule.WrongType = (2, omega arith, refl)
each_rule rule.NotReduction = (3, omega arith, refl)
each_rule rule.MixedReductions = (4, omega arith, refl)
each_rule rule.WrongIndex = (5, omega arith, refl)
each_rule rule.PrintOutsideMain = (6, omega arith, refl)
each_rule rule.NoMain = (7, omega arith, refl)
each_rule rule.BadLabel = (8, omega arith, refl)

-- what holds of each of several parts
some_part : (f : Fault) (all : List Part) → AllByRecursion (λ p. Contains (faults p) f → Breaks f.at f.rule p) all → Contains (faults_of_parts all) f
    → (inner : Part) × (Contains all inner × Breaks f.at f.rule inner)
some_part f [] breaks has = absurd (none_contained f has)
some_part f (p ∷ others) breaks has = elim (Contains-append_cases (faults p) (faults_of_parts others) f has) [
  | inl first ↦ (p, (first_of_all p others, breaks.0 first))
  | inr behind ↦ let x = some_part f others breaks.1 behind in (x.0, (one_of_others p others x.0 x.1.0, x.1.1))
]

-- a fault of a part is a broken rule, if one of each of its parts is
pub whole_breaks : (f : Fault) (part : Part) → Splits (faults part) (faults_of_parts (parts_of part)) (broken part all_rules)
    → AllByRecursion (λ p. Contains (faults p) f → Breaks f.at f.rule p) (parts_of part) → Contains (faults part) f → Breaks f.at f.rule part
whole_breaks f part splits breaks has = elim (splits.there f has) [
  | inl there ↦ let x = some_part f (parts_of part) breaks there in InPart part x.0 x.1.0 x.1.1
  | inr mine ↦ let b = broken_there part all_rules f mine in Itself part b.0 b.1
]

in_some_part : (all : List Part) (inner : Part) (f : Fault) → Contains all inner → Contains (faults inner) f → Contains (faults_of_parts all) f
in_some_part [] inner f (k, within, is) has = absurd (omega (arith, within))
in_some_part (p ∷ others) inner f there has = elim (cons_cases p others inner there) [
  | inl same ↦ Contains-append_left (faults p) (faults_of_parts others) f (subst (λ q. Contains (faults q) f) (sym same) has)
  | inr behind ↦ Contains-append_right (faults p) (faults_of_parts others) f (in_some_part others inner f behind has)
]

-- and a broken rule is a fault
pub broken_is_fault : ((part : Part) → Splits (faults part) (faults_of_parts (parts_of part)) (broken part all_rules)) → (at : ℕ) (r : TypeRule) (part : Part)
    → Breaks at r part → Contains (faults part) (record { at = at; rule = r })
broken_is_fault splits at r _ (Itself part breaks is) =
    (splits part).back (record { at = at; rule = r }) (inr (subst (λ (n : ℕ). Contains (broken part all_rules) (record { at = n; rule = r })) (sym is)
    (there_broken part all_rules r (each_rule r) breaks)))
broken_is_fault splits at r _ (InPart part inner there breaks) =
    (splits part).back (record { at = at; rule = r }) (inl (in_some_part (parts_of part) inner (record { at = at; rule = r }) there (broken_is_fault splits at r inner breaks)))
