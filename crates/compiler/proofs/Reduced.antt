-- The edge applies of a checked program give each vector numbers by one reduction.
use Rattle.std.proofs.Common.{◌≡◌, ℕ, zero, suc, ◌==◌, ◌⊎◌, ℤ, Bool, true, false, not, cond, inl, inr, List, [], ◌∷◌, ◌++◌, length, slice_get, ap, sym, ◌∙◌, refl, arith, subst, Ok}
use Rattle.std.proofs.lemmas.Bool.{false≢true, and_parts}
use Rattle.std.proofs.lemmas.Bool.Decides.{nat_tests}
use Rattle.std.proofs.lemmas.List.Elements.{All-nil, All-cons}
use Rattle.std.specs.List.{All, AllByRecursion, list_all}
use Rattle.schedule.specs.Reduction.{Reduction}
use Rattle.schedule.specs.Reduction.TheVariants.{Min}
use Rattle.schedule.specs.FunctionStatementTree.{FunctionTree, FunctionStatementTree, DeclareInt, DeclareBool, SetInt, SetBool, ReduceInt, SetEntry, ReduceEntry, If, IfElse}
use Rattle.schedule.specs.FunctionStatementTree.{FunctionStatementsTree, NoStep, StepThen}
use Rattle.schedule.specs.ProgramTree.{ProgramTree}
use Rattle.types.specs.EdgeWrites.{StepReduces, StepsReduce, ReducesInOneWay, SetsNoEntry}
use Rattle.parser.specs.SourceTrees.{SourceTree}
use Rattle.types.specs.Program.{Checks, program_of}
use Rattle.types.proofs.EdgeWrites.{edge_functions_write_well}
use Rattle.plans.specs.State.{StateValue, edge_scope}
use Rattle.plans.specs.Value.{value, truth}
use Rattle.plans.specs.Function.{WorkValue, first_work, after_set, after_reduce, after_step, after_steps, after_block, steps_of}
use Rattle.plans.specs.EdgeApply.{gives, for_vector}
use Rattle.schedule.specs.Independence.{is_none_of, are_apart}
use Rattle.schedule.specs.Access.{step_writes, steps_write}
use Rattle.schedule.specs.ScheduleTree.{ScheduleTree}
use Rattle.weighted_edges.specs.Edge.{Edge}
use Rattle.plans.specs.Instruction.{OperationTree, Do, ApplyEdgesTogether, ApplyVerticesTogether, Unless, Enter, UnlessBelow, Advance, Turn, Jump, End}
use Rattle.plans.specs.Plan.{plan_of}
use Rattle.plans.specs.Fused.{FitTogether}
use Rattle.plans.specs.Reducing.{AreReduced, OperationReduces, AppliesReduce}
use Rattle.plans.specs.SetBinding.{SetBinding}
use Rattle.plans.specs.Contribution.{Contribution}
use Rattle.plans.proofs.Beside.{both_parts}
use Rattle.plans.proofs.GivenVectors.{each_differs}
use Rattle.plans.proofs.Matching.{writes_of}
use Rattle.plans.proofs.FusedApplies.{fused_fit}

-- each of these numbers is for such a vector, by such a reduction
abbrev AreGiven : (ℕ → Reduction → Type 0) → List Contribution → Type 0
AreGiven P [] = Unit {0}
AreGiven P (c ∷ cs) = P c.vector c.reduction × AreGiven P cs

given_append : (P : ℕ → Reduction → Type 0) (cs ds : List Contribution) → AreGiven P cs → AreGiven P ds → AreGiven P (cs ++ ds)
given_append P [] ds h k = k
given_append P (c ∷ cs) ds h k = (h.0, given_append P cs ds h.1 k)

given_map : (P Q : ℕ → Reduction → Type 0) (cs : List Contribution) → ((vector : ℕ) (by : Reduction) → P vector by → Q vector by) → AreGiven P cs → AreGiven Q cs
given_map P Q [] f h = tt
given_map P Q (c ∷ cs) f h = (f c.vector c.reduction h.0, given_map P Q cs f h.1)

either_given : (P : ℕ → Reduction → Type 0) (b : Bool) (v w : WorkValue) → AreGiven P v.given → AreGiven P w.given → AreGiven P (cond b v w).given
either_given P true v w h k = h
either_given P false v w h k = k

module _ (P : ℕ → Reduction → Type 0) (sets : List SetBinding) (writing : _) (sets_nothing : (vector : ℕ) (n : ℤ) (w : WorkValue) → after_set writing vector n w ≡ w)
    (gives_number : (vector : ℕ) (r : Reduction) (n : ℤ) (w : WorkValue) → after_reduce writing vector r n w ≡ record w {
      given =
          w.given ++ record { vector = vector; reduction = r; number = n } ∷ [];
    }) where
  mutual
    step_gives : (step : FunctionStatementTree) (w : WorkValue) → ((vector : ℕ) (by : Reduction) → StepReduces vector by step → P vector by) → AreGiven P w.given
        → AreGiven P (after_step writing sets step w).given
    step_gives (DeclareInt name e) w such h = h
    step_gives (DeclareBool name c) w such h = h
    step_gives (SetInt slot e) w such h = h
    step_gives (SetBool slot c) w such h = h
    step_gives (ReduceInt slot reduction e) w such h = h
    step_gives (SetEntry vector e) w such h = subst (λ (z : WorkValue). AreGiven P z.given) (sym (sets_nothing vector (value w.vectors sets w.scope e) w)) h
    step_gives (ReduceEntry vector reduction e) w such h =
        let n = value w.vectors sets w.scope e in
        subst (λ (z : WorkValue). AreGiven P z.given) (sym (gives_number vector reduction n w))
        (given_append P w.given (record { vector = vector; reduction = reduction; number = n } ∷ []) h (such vector reduction (refl, refl), tt))
    step_gives (If c body) w such h =
        either_given P (truth w.vectors sets w.scope c) (after_block w (after_steps writing sets body w)) w (steps_give body w such h) h
    step_gives (IfElse c body other) w such h =
        either_given P (truth w.vectors sets w.scope c) (after_block w (after_steps writing sets body w)) (after_block w (after_steps writing sets other w))
        (steps_give body w (λ vector by is. such vector by (inl is)) h) (steps_give other w (λ vector by is. such vector by (inr is)) h)

    steps_give : (steps : FunctionStatementsTree) (w : WorkValue) → ((vector : ℕ) (by : Reduction) → StepsReduce vector by steps → P vector by) → AreGiven P w.given
        → AreGiven P (after_steps writing sets steps w).given
    steps_give NoStep w such h = h
    steps_give (StepThen step rest) w such h =
        steps_give rest (after_step writing sets step w) (λ vector by is. such vector by (inr is)) (step_gives step w (λ vector by is. such vector by (inl is)) h)

-- an edge function gives a vector numbers only as it reduces it
gives_reduced : (steps : FunctionStatementsTree) (sets : List SetBinding) (before : List (List ℤ)) (edge : Edge) → AreGiven (λ vector by. StepsReduce vector by steps) (gives steps sets before edge)
gives_reduced steps sets before edge =
    steps_give (λ vector by. StepsReduce vector by steps) sets _ (λ vector n w. refl) (λ vector r n w. refl) steps (first_work before (edge_scope edge)) (λ vector by is. is) tt

same_number : (m n : ℕ) → (m == n) ≡ true → m ≡ n
same_number m n h = grind (arith, nat_tests)

equal_test : (m n : ℕ) → m ≡ n → (m == n) ≡ true
equal_test m n h = grind (arith, nat_tests)

-- of what is given, that for one vector
all_for : (r : Reduction) (vector : ℕ) (cs : List Contribution) → AreGiven (λ v by. v ≡ vector → by ≡ r) cs → All (λ c. c.reduction ≡ r) (for_vector vector cs)
all_for r vector [] h = All-nil (λ (c : Contribution). c.reduction ≡ r)
all_for r vector (c ∷ cs) h = by_test (c.vector == vector) (for_vector vector cs) (λ is. h.0 (same_number c.vector vector is)) (all_for r vector cs h.1)
  where
    by_test : (b : Bool) (ds : List Contribution) → (b ≡ true → c.reduction ≡ r) → All (λ c. c.reduction ≡ r) ds → All (λ c. c.reduction ≡ r) (cond b (c ∷ ds) ds)
    by_test true ds own all = All-cons (λ (c : Contribution). c.reduction ≡ r) c ds (own refl) all
    by_test false ds own all = all

-- in some way, or in none
abbrev IsDecided : (Reduction → Type 0) → Type 0
IsDecided P = ((by : Reduction) × P by) ⊎ ((by : Reduction) → P by → ⊥)

either_decided : (P Q : Reduction → Type 0) → IsDecided P → IsDecided Q → IsDecided (λ by. P by ⊎ Q by)
either_decided P Q (inl some) h = inl (some.0, inl some.1)
either_decided P Q (inr none) (inl some) = inl (some.0, inr some.1)
either_decided P Q (inr none) (inr no_other) = inr (λ by h. elim h [ inl is ↦ none by is | inr is ↦ no_other by is ])

entry_decided : (index vector : ℕ) (other : Reduction) (b : Bool) → (index == vector) ≡ b → IsDecided (λ by. (index ≡ vector) × (other ≡ by))
entry_decided index vector other true e = inl (other, (same_number index vector e, refl))
entry_decided index vector other false e = inr (λ by h. false≢true (sym e ∙ equal_test index vector h.0))

mutual
  -- a vector is reduced in some way, or in none
  step_decided : (vector : ℕ) (step : FunctionStatementTree) → IsDecided (λ by. StepReduces vector by step)
  step_decided vector (DeclareInt name e) = inr (λ by h. h)
  step_decided vector (DeclareBool name c) = inr (λ by h. h)
  step_decided vector (SetInt slot e) = inr (λ by h. h)
  step_decided vector (SetBool slot c) = inr (λ by h. h)
  step_decided vector (ReduceInt slot other e) = inr (λ by h. h)
  step_decided vector (SetEntry index e) = inr (λ by h. h)
  step_decided vector (ReduceEntry index other e) = entry_decided index vector other (index == vector) refl
  step_decided vector (If c body) = steps_decided vector body
  step_decided vector (IfElse c body other) = either_decided (λ by. StepsReduce vector by body) (λ by. StepsReduce vector by other) (steps_decided vector body) (steps_decided vector other)

  steps_decided : (vector : ℕ) (steps : FunctionStatementsTree) → IsDecided (λ by. StepsReduce vector by steps)
  steps_decided vector NoStep = inr (λ by h. h)
  steps_decided vector (StepThen step rest) = either_decided (λ by. StepReduces vector by step) (λ by. StepsReduce vector by rest) (step_decided vector step) (steps_decided vector rest)

mutual
  -- a vector that is reduced is written
  step_writes_it : (P : ℕ → Bool) (vector : ℕ) (by : Reduction) (step : FunctionStatementTree) → StepReduces vector by step → list_all P (step_writes step) ≡ true → P vector ≡ true
  step_writes_it P vector by (DeclareInt name e) is all = absurd is
  step_writes_it P vector by (DeclareBool name c) is all = absurd is
  step_writes_it P vector by (SetInt slot e) is all = absurd is
  step_writes_it P vector by (SetBool slot c) is all = absurd is
  step_writes_it P vector by (ReduceInt slot other e) is all = absurd is
  step_writes_it P vector by (SetEntry index e) is all = absurd is
  step_writes_it P vector by (ReduceEntry index other e) is all = subst (λ (n : ℕ). P n ≡ true) is.0 (and_parts (P index) true all).0
  step_writes_it P vector by (If c body) is all = steps_write_it P vector by body is all
  step_writes_it P vector by (IfElse c body other) is all =
      let both = both_parts P (steps_write body) (steps_write other) all in
      elim is [ inl h ↦ steps_write_it P vector by body h both.0 | inr h ↦ steps_write_it P vector by other h both.1 ]

  steps_write_it : (P : ℕ → Bool) (vector : ℕ) (by : Reduction) (steps : FunctionStatementsTree) → StepsReduce vector by steps → list_all P (steps_write steps) ≡ true → P vector ≡ true
  steps_write_it P vector by NoStep is all = absurd is
  steps_write_it P vector by (StepThen step rest) is all =
      let both = both_parts P (step_writes step) (steps_write rest) all in
      elim is [ inl h ↦ step_writes_it P vector by step h both.0 | inr h ↦ steps_write_it P vector by rest h both.1 ]

not_itself : (n : ℕ) → not (n == n) ≡ true → ⊥
not_itself n h = let same : (n == n) ≡ true = equal_test n n refl in false≢true (sym (ap not same) ∙ h)

-- no vector is reduced by two functions that write no vector both
reduced_once : (f g : FunctionStatementsTree) (vector : ℕ) (a b : Reduction) → are_apart (steps_write g) (steps_write f) ≡ true → StepsReduce vector a f → StepsReduce vector b g → ⊥
reduced_once f g vector a b apart by_f by_g =
    let none = steps_write_it (λ v. is_none_of v (steps_write f)) vector b g by_g apart in
    not_itself vector (steps_write_it (λ x. not (x == vector)) vector a f by_f (each_differs vector (steps_write f) none))

-- a function reduces a vector by this alone
abbrev IsAlone : FunctionStatementsTree → ℕ → Reduction → Type 0
IsAlone f vector r = (by : Reduction) → StepsReduce vector by f → by ≡ r

alone_by : (f : FunctionStatementsTree) (vector : ℕ) → ReducesInOneWay f → IsDecided (λ by. StepsReduce vector by f) → (r : Reduction) × IsAlone f vector r
alone_by f vector one (inl some) = (some.0, λ by is. one vector by some.0 is some.1)
alone_by f vector one (inr none) = (Min, λ by is. absurd (none by is))

both_alone_by : (f g : FunctionStatementsTree) (vector : ℕ) → ReducesInOneWay f → ReducesInOneWay g → are_apart (steps_write g) (steps_write f) ≡ true → IsDecided (λ by. StepsReduce vector by f)
    → (r : Reduction) × (IsAlone f vector r × IsAlone g vector r)
both_alone_by f g vector one other apart (inl some) = (some.0, (λ by is. one vector by some.0 is some.1, λ by is. absurd (reduced_once f g vector some.0 by apart some.1 is)))
both_alone_by f g vector one other apart (inr none) =
    let second = alone_by g vector other (steps_decided vector g) in
    (second.0, (λ by is. absurd (none by is), second.1))

-- so are the numbers that it gives
gives_alone : (f : FunctionStatementsTree) (vector : ℕ) (r : Reduction) → IsAlone f vector r → (sets : List SetBinding) (before : List (List ℤ)) (edge : Edge)
    → AreGiven (λ v by. v ≡ vector → by ≡ r) (gives f sets before edge)
gives_alone f vector r alone sets before edge =
    given_map (λ v by. StepsReduce v by f) (λ v by. v ≡ vector → by ≡ r) (gives f sets before edge)
    (λ v by is same. alone by (subst (λ (n : ℕ). StepsReduce n by f) same is)) (gives_reduced f sets before edge)

one_reduces : (f : FunctionStatementsTree) → ReducesInOneWay f → (m : StateValue) → AreReduced (f ∷ []) m
one_reduces f one m vector =
    let way = alone_by f vector one (steps_decided vector f) in
    record {
      reduction = way.0;
      alone = λ edge. all_for way.0 vector (gives f m.sets m.vectors edge ++ [])
          (given_append (λ v by. v ≡ vector → by ≡ way.0) (gives f m.sets m.vectors edge) [] (gives_alone f vector way.0 way.1 m.sets m.vectors edge) tt);
    }

two_reduce : (f g : FunctionStatementsTree) → ReducesInOneWay f → ReducesInOneWay g → are_apart (steps_write g) (steps_write f) ≡ true → (m : StateValue) → AreReduced (f ∷ g ∷ []) m
two_reduce f g one other apart m vector =
    let way = both_alone_by f g vector one other apart (steps_decided vector f) in
    record {
      reduction = way.0;
      alone = λ edge.
          let Q : ℕ → Reduction → Type 0 = λ v by. v ≡ vector → by ≡ way.0 in
          let first = gives f m.sets m.vectors edge in
          let second = gives g m.sets m.vectors edge in
          all_for way.0 vector (first ++ (second ++ [])) (given_append Q first (second ++ []) (gives_alone f vector way.0 way.1.0 m.sets m.vectors edge)
          (given_append Q second [] (gives_alone g vector way.0 way.1.1 m.sets m.vectors edge) tt));
    }

-- the function at each index reduces a vector in one way
abbrev EachReducesInOneWay : List FunctionTree → Type 0
EachReducesInOneWay fs = (index : ℕ) → ReducesInOneWay (steps_of (slice_get fs index))

each_one_way : (fs : List FunctionTree) → AllByRecursion (λ f. ReducesInOneWay f.steps × SetsNoEntry f.steps) fs → EachReducesInOneWay fs
each_one_way [] all index = λ vector a b is also. absurd is
each_one_way (f ∷ fs) all zero = all.0.0
each_one_way (f ∷ fs) all (suc n) = each_one_way fs all.1 n

operation_reduces : (p : ProgramTree) (o : OperationTree) → EachReducesInOneWay p.edge_functions → FitTogether p o → OperationReduces p o
operation_reduces p (Do action) each fit = λ x is. one_reduces (steps_of (slice_get p.edge_functions x.part.function)) (each x.part.function)
operation_reduces p (ApplyEdgesTogether ends a b) each fit =
    let f = slice_get p.edge_functions a.function in
    let g = slice_get p.edge_functions b.function in
    two_reduce (steps_of f) (steps_of g) (each a.function) (each b.function) ((λ i. are_apart (writes_of g i) (writes_of f i)) ∙ fit)
operation_reduces p (ApplyVerticesTogether set f g) each fit = tt
operation_reduces p (Unless c to) each fit = tt
operation_reduces p (Enter name e) each fit = tt
operation_reduces p (UnlessBelow name to) each fit = tt
operation_reduces p (Advance name) each fit = tt
operation_reduces p Turn each fit = tt
operation_reduces p (Jump to) each fit = tt
operation_reduces p End each fit = tt

-- a checked program reduces in one way in each apply of its plan
pub applies_reduce : (source : SourceTree) (length : ℕ) (p : ProgramTree) (s : ScheduleTree) → Checks source length (Ok p) → AppliesReduce p (plan_of p s)
applies_reduce source length p s checked index i at =
    let each = subst (λ (q : ProgramTree). EachReducesInOneWay q.edge_functions) checked.1
    (each_one_way (program_of source length).value.edge_functions (edge_functions_write_well source length)) in
    operation_reduces p i.operation each (fused_fit p s index i at)
