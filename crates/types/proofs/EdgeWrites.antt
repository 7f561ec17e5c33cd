-- Edge functions reduce a vector in one way, and set no entry.
use Rattle.std.proofs.Common.{◌≡◌, refl, ap, sym, ◌∙◌, subst, inl, inr, ℕ, nat_eq, Bool, true, false, List, [], ◌∷◌, ◌++◌, length, Option, Some, None}
use Rattle.std.specs.Prelude.{cond}
use Rattle.std.proofs.lemmas.Bool.{eq-eqb}
use Rattle.std.proofs.lemmas.Option.{none-some, same_Some}
use Rattle.std.specs.List.{AllByRecursion}
use Rattle.std.specs.Map.{lookup}
use Rattle.syntax.specs.Terminals.{Identifier}
use Rattle.syntax.specs.SourceTrees.{ExpressionTree, ParameterTree, InitialTree, DeclarationTree, SourceTree}
use Rattle.syntax.specs.declared.declaration.DeclaredType.{DeclaredType}
use Rattle.syntax.specs.declared.declaration.DeclaredType.TheVariants as declared
use Rattle.apply_options.specs.declared.reduction.Reduction.{Reduction}
use Rattle.apply_options.specs.declared.reduction.Reduction.TheVariants as reduction
use Rattle.syntax.specs.SourceTrees as source
use Rattle.typed_tree.specs.declared.expression.Endpoint.{Endpoint}
use Rattle.typed_tree.specs.declared.expression.Endpoint.TheVariants as endpoint
use Rattle.typed_tree.specs.BlockTree.{BlockTree, Empty}
use Rattle.typed_tree.specs.IntExpressionTree.{IntExpressionTree}
use Rattle.typed_tree.specs.FunctionStatementTree.{FunctionTree, FunctionStatementTree, FunctionStatementsTree, DeclareInt, DeclareBool, SetInt, SetBool, ReduceInt, SetEntry}
use Rattle.typed_tree.specs.FunctionStatementTree.{ReduceEntry, If, IfElse, NoStep, StepThen}
use Rattle.expression_types.specs.declared.scope.Entity.{Entity}
use Rattle.expression_types.specs.declared.scope.Entity.TheVariants as entity
use Rattle.expression_types.specs.declared.scope.Inside.{Inside}
use Rattle.expression_types.specs.declared.scope.Inside.TheVariants as inside
use Rattle.expression_types.specs.Expression.{index_value, used_name, value_of, vector_index}
use Rattle.expression_types.specs.ScopeTree.{found, ScopeTree, declared_over, entered}
use Rattle.expression_types.specs.ValueTree.{ValueTree}
use Rattle.initializer_types.specs.Checker.{CheckerTree, integer_slot, condition_slot, declared_in, with_label, new_label, restarted, in_scope, integer_in}
use Rattle.types.specs.Block.{statements_typed}
use Rattle.initializer_types.specs.DeclarationForms.{FunctionKindTree, MainKind, EdgeKind, VertexKind, FilterKind, NoKind, kind}
use Rattle.types.specs.Declaration.{DeclaredTree, declaration_typed, declarations_typed, declare_constant_as, declare_function}
use Rattle.types.specs.Declaration.{declare_name, function_of, inside_of, opened, parameter, parameters_declared, result_declared, result_entity, with_main_block, takes_weight}
use Rattle.types.specs.EdgeWrites.{ReducesInOneWay, SetsNoEntry, StepReduces, StepSetsNoEntry, StepsReduce}
use Rattle.initializer_types.specs.Initial.{InitializerTree, initializer_of}
use Rattle.types.specs.Step.{assigned_step, declare_step_as, entry_step, may_reduce, may_set, one_reduction, own_vertex, reduce_entry_step, reduced_as, reduced_step, reduction_step, same_reduction}
use Rattle.types.specs.Step.{step_after, step_typed, steps_after, steps_typed, with_writes, written_at, written_with}
use Rattle.types.specs.Program.{no_declarations, program_of, set_count}

-- what is written: each vector with its reduction
abbrev pub Writes : Type 0
Writes = List (ℕ × Reduction)

-- what was written so stays so
abbrev pub Extends : Writes → Writes → Type 0
Extends old new = (vector : ℕ) (by : Reduction) → lookup (nat_eq vector) old ≡ Some by → lookup (nat_eq vector) new ≡ Some by

abbrev mutual
  -- no entry is set, and each is reduced as is written
  pub StepAgrees : Writes → FunctionStatementTree → Type 0
  StepAgrees writes (DeclareInt name e) = Unit {0}
  StepAgrees writes (DeclareBool name c) = Unit {0}
  StepAgrees writes (SetInt slot e) = Unit {0}
  StepAgrees writes (SetBool slot c) = Unit {0}
  StepAgrees writes (ReduceInt slot by e) = Unit {0}
  StepAgrees writes (SetEntry vector e) = ⊥
  StepAgrees writes (ReduceEntry vector by e) = lookup (nat_eq vector) writes ≡ Some by
  StepAgrees writes (If c body) = StepsAgree writes body
  StepAgrees writes (IfElse c body other) = StepsAgree writes body × StepsAgree writes other

  pub StepsAgree : Writes → FunctionStatementsTree → Type 0
  StepsAgree writes NoStep = Unit {0}
  StepsAgree writes (StepThen step others) = StepAgrees writes step × StepsAgree writes others

mutual
  step_extends : (old new : Writes) (step : FunctionStatementTree) → Extends old new → StepAgrees old step → StepAgrees new step
  step_extends old new (DeclareInt name e) more agrees = tt
  step_extends old new (DeclareBool name c) more agrees = tt
  step_extends old new (SetInt slot e) more agrees = tt
  step_extends old new (SetBool slot c) more agrees = tt
  step_extends old new (ReduceInt slot by e) more agrees = tt
  step_extends old new (SetEntry vector e) more agrees = agrees
  step_extends old new (ReduceEntry vector by e) more agrees = more vector by agrees
  step_extends old new (If c body) more agrees = steps_extend old new body more agrees
  step_extends old new (IfElse c body other) more agrees = (steps_extend old new body more agrees.0, steps_extend old new other more agrees.1)

  steps_extend : (old new : Writes) (steps : FunctionStatementsTree) → Extends old new → StepsAgree old steps → StepsAgree new steps
  steps_extend old new NoStep more agree = tt
  steps_extend old new (StepThen step others) more agree = (step_extends old new step more agree.0, steps_extend old new others more agree.1)

agree_after : (writes : Writes) (steps : FunctionStatementsTree) (step : FunctionStatementTree) → StepsAgree writes steps → StepAgrees writes step → StepsAgree writes (step_after steps step)
agree_after writes NoStep step agree agrees = (agrees, tt)
agree_after writes (StepThen s others) step agree agrees = (agree.0, agree_after writes others step agree.1 agrees)

-- a checker after a statement: in the same function, where what was written stays so
abbrev pub GoesOn : CheckerTree → CheckerTree → Type 0
GoesOn c d = (d.scope.inside ≡ c.scope.inside) × Extends c.writes d.writes

stays : (c : CheckerTree) → GoesOn c c
stays c = (refl, λ vector by is. is)

goes_further : (c d e : CheckerTree) → GoesOn c d → GoesOn d e → GoesOn c e
goes_further c d e first then = (then.0 ∙ first.0, λ vector by is. then.1 vector by (first.1 vector by is))

declared_inside : (old : Option Entity) (name : Identifier) (e : Entity) (scope : ScopeTree) → (declared_over old name e scope).value.inside ≡ scope.inside
declared_inside None name e scope = refl
declared_inside (Some old) name e scope = refl

pub declared_goes : (c : CheckerTree) (name : Identifier) (e : Entity) → GoesOn c (declared_in c name e).value
declared_goes c name e = (declared_inside (found name.bytes c.scope.visible) name e c.scope, λ vector by is. is)

new_label_goes : (c : CheckerTree) (label : Identifier) (index : Option ℕ) → GoesOn c (new_label c label index).value.1
new_label_goes c label None = stays c
new_label_goes c label (Some index) = stays c

labelled_goes : (c : CheckerTree) (label : Option Identifier) → GoesOn c (with_label c label).value.1
labelled_goes c None = stays c
labelled_goes c (Some label) = new_label_goes c label (found label.bytes c.labels)

-- what a statement is, and the checker after it
abbrev pub Fits : CheckerTree → FunctionStatementTree × CheckerTree → Type 0
Fits c r = GoesOn c r.1 × StepAgrees r.1.writes r.0

declare_fits : (c : CheckerTree) (at : ℕ) (name : Identifier) (initializer : InitializerTree) (type : DeclaredType) → Fits c (declare_step_as c at name initializer type).value
declare_fits c at name initializer declared.Int = (declared_goes c name (entity.IntVariable (integer_slot c)), tt)
declare_fits c at name initializer declared.Bool = (declared_goes c name (entity.BoolVariable (condition_slot c)), tt)
declare_fits c at name initializer declared.Vertex = (declared_goes c name entity.Error, tt)
declare_fits c at name initializer declared.VertexSet = (declared_goes c name entity.Error, tt)
declare_fits c at name initializer declared.Vector = (declared_goes c name entity.Error, tt)
declare_fits c at name initializer declared.EdgeSet = (declared_goes c name entity.Error, tt)
declare_fits c at name initializer declared.WeightedEdgeSet = (declared_goes c name entity.Error, tt)

assigned_agrees : (writes : Writes) (at : ℕ) (initializer : InitializerTree) (e : Entity) → StepAgrees writes (assigned_step at initializer e).value
assigned_agrees writes at initializer (entity.Edges weights) = tt
assigned_agrees writes at initializer _ = tt

reduced_agrees : (writes : Writes) (at : ℕ) (by : Reduction) (v : ValueTree) (e : Entity) → StepAgrees writes (reduced_step at by v e).value
reduced_agrees writes at by v (entity.Edges weights) = tt
reduced_agrees writes at by v _ = tt

no_entry_set : (writes : Writes) (own : Bool) (vector : Option ℕ) (e : IntExpressionTree) → StepAgrees writes (entry_step false own vector e)
no_entry_set writes own None e = tt
no_entry_set writes own (Some vector) e = tt

set_agrees : (writes : Writes) (at : ℕ) (own : Bool) (vector : Option ℕ) (e : IntExpressionTree) (i : Inside) → i ≡ inside.EdgeFunction
    → StepAgrees writes (entry_step (may_set at i).value own vector e)
set_agrees writes at own vector e i is = subst (λ i. StepAgrees writes (entry_step (may_set at i).value own vector e)) (sym is) (no_entry_set writes own vector e)

cond_keeps : {A : Type 0} (b : Bool) (x y z w : A) → (y ≡ w → z ≡ w) → cond b x y ≡ w → cond b x z ≡ w
cond_keeps true x y z w then is = is
cond_keeps false x y z w then is = then is

cond_none : {A : Type 0} (b : Bool) (x : A) (y z w : Option A) → (y ≡ None → z ≡ w) → cond b (Some x) y ≡ None → cond b (Some x) z ≡ w
cond_none true x y z w then is = absurd (none-some x (sym is))
cond_none false x y z w then is = then is

lookup_first : (test : ℕ → Bool) (old more : Writes) (by : Reduction) → lookup test old ≡ Some by → lookup test (old ++ more) ≡ Some by
lookup_first test [] more by is = absurd (none-some by is)
lookup_first test (e ∷ others) more by is =
    cond_keeps (test e.0) (Some e.1) (lookup test others) (lookup test (others ++ more)) (Some by) (lookup_first test others more by) is

lookup_last : (test : ℕ → Bool) (old more : Writes) → lookup test old ≡ None → lookup test (old ++ more) ≡ lookup test more
lookup_last test [] more is = refl
lookup_last test (e ∷ others) more is =
    cond_none (test e.0) e.1 (lookup test others) (lookup test (others ++ more)) (lookup test more) (lookup_last test others more) is

lookup_one : (vector : ℕ) (by : Reduction) → lookup (nat_eq vector) ((vector, by) ∷ []) ≡ Some by
lookup_one vector by = ap (λ b. cond b (Some by) None) (eq-eqb vector vector refl)

may_reduce_so : (writes : Writes) (vector : ℕ) (by : Reduction) (x : IntExpressionTree) (own : Bool) → lookup (nat_eq vector) writes ≡ Some by
    → StepAgrees writes (reduction_step true own (Some vector) by x)
may_reduce_so writes vector by x true is = is
may_reduce_so writes vector by x false is = tt

may_not_reduce : (writes : Writes) (vector : Option ℕ) (by : Reduction) (x : IntExpressionTree) (own : Bool)
    → StepAgrees writes (reduction_step false own vector by x)
may_not_reduce writes None by x own = tt
may_not_reduce writes (Some vector) by x own = tt

-- what a reduction adds to what is written, and what it is
abbrev pub Reduces : Writes → Bool → Option ℕ → Reduction → IntExpressionTree → Bool × Writes → Type 0
Reduces writes own vector by x may = Extends writes may.1 × StepAgrees may.1 (reduction_step may.0 own vector by x)

reduced_again : (at : ℕ) (writes : Writes) (vector : ℕ) (x : IntExpressionTree) (own : Bool) (first by : Reduction) → lookup (nat_eq vector) writes ≡ Some first
    → Reduces writes own (Some vector) by x (reduced_as at (same_reduction first by) writes).value
reduced_again at writes vector x own reduction.Min reduction.Min is = (λ v b known. known, may_reduce_so writes vector reduction.Min x own is)
reduced_again at writes vector x own reduction.Min reduction.Max is = (λ v b known. known, may_not_reduce writes (Some vector) reduction.Max x own)
reduced_again at writes vector x own reduction.Min reduction.Plus is = (λ v b known. known, may_not_reduce writes (Some vector) reduction.Plus x own)
reduced_again at writes vector x own reduction.Max reduction.Min is = (λ v b known. known, may_not_reduce writes (Some vector) reduction.Min x own)
reduced_again at writes vector x own reduction.Max reduction.Max is = (λ v b known. known, may_reduce_so writes vector reduction.Max x own is)
reduced_again at writes vector x own reduction.Max reduction.Plus is = (λ v b known. known, may_not_reduce writes (Some vector) reduction.Plus x own)
reduced_again at writes vector x own reduction.Plus reduction.Min is = (λ v b known. known, may_not_reduce writes (Some vector) reduction.Min x own)
reduced_again at writes vector x own reduction.Plus reduction.Max is = (λ v b known. known, may_not_reduce writes (Some vector) reduction.Max x own)
reduced_again at writes vector x own reduction.Plus reduction.Plus is = (λ v b known. known, may_reduce_so writes vector reduction.Plus x own is)

reduced_with : (at : ℕ) (writes : Writes) (vector : ℕ) (by : Reduction) (x : IntExpressionTree) (own : Bool) (old : Option Reduction) → lookup (nat_eq vector) writes ≡ old
    → Reduces writes own (Some vector) by x (written_with at vector by writes old).value
reduced_with at writes vector by x own None is = (
  λ v b known. lookup_first (nat_eq v) writes ((vector, by) ∷ []) b known,
  may_reduce_so (writes ++ (vector, by) ∷ []) vector by x own (lookup_last (nat_eq vector) writes ((vector, by) ∷ []) is ∙ lookup_one vector by),
)
reduced_with at writes vector by x own (Some first) is = reduced_again at writes vector x own first by is

reduced_once : (at : ℕ) (writes : Writes) (vector : Option ℕ) (by : Reduction) (x : IntExpressionTree) (own : Bool)
    → Reduces writes own vector by x (one_reduction at vector by writes).value
reduced_once at writes None by x own = (λ v b known. known, may_not_reduce writes None by x own)
reduced_once at writes (Some vector) by x own = reduced_with at writes vector by x own (lookup (nat_eq vector) writes) refl

entry_reduced : (at : ℕ) (writes : Writes) (vector : Option ℕ) (by : Reduction) (x : IntExpressionTree) (own : Bool) (i : Inside) → i ≡ inside.EdgeFunction
    → Reduces writes own vector by x (may_reduce at i vector by writes).value
entry_reduced at writes vector by x own i is =
    subst (λ i. Reduces writes own vector by x (may_reduce at i vector by writes).value) (sym is) (reduced_once at writes vector by x own)

reduce_fits : (c : CheckerTree) (at : ℕ) (name : Identifier) (index : ExpressionTree) (by : Reduction) (e : ExpressionTree) → c.scope.inside ≡ inside.EdgeFunction
    → Fits c (reduce_entry_step c at name index by e).value
reduce_fits c at name index by e is =
    let own = (written_at at (own_vertex c.scope.inside) (index_value c.scope at index).value).value in
    let all = entry_reduced at c.writes (vector_index c.scope at name).value by (integer_in c.scope at e).value own c.scope.inside is in
    ((refl, all.0), all.1)

-- statements, and the checker after them
abbrev pub AllFit : CheckerTree → FunctionStatementsTree × CheckerTree → Type 0
AllFit c r = GoesOn c r.1 × StepsAgree r.1.writes r.0

-- after a block the old scope stands again
block_goes : (c d : CheckerTree) → GoesOn c d → GoesOn c (steps_after c d)
block_goes c d goes = (refl, goes.1)

mutual
  step_fits : (c : CheckerTree) (action : source.StatementKindTree) → c.scope.inside ≡ inside.EdgeFunction → Fits c (step_typed c action).value
  step_fits c (source.Declare at p initial) is = declare_fits c at p.name (initializer_of c at initial).value p.declared
  step_fits c (source.While at test body) is = (block_goes c (steps_typed c NoStep body).value.1 (steps_fit c NoStep body is tt).0, tt)
  step_fits c (source.For at name first limit body) is =
      let d = (declared_in c name (entity.LoopVariable (integer_slot c))).value in
      let goes = declared_goes c name (entity.LoopVariable (integer_slot c)) in
      let all = steps_fit d NoStep body (goes.0 ∙ is) tt in
      (block_goes c (steps_typed d NoStep body).value.1 (goes_further c d (steps_typed d NoStep body).value.1 goes all.0), tt)
  step_fits c (source.If at test body) is =
      let all = steps_fit c NoStep body is tt in (block_goes c (steps_typed c NoStep body).value.1 all.0, all.1)
  step_fits c (source.IfElse at test body otherwise) is =
      let b = (steps_typed c NoStep body).value in
      let d = steps_after c b.1 in
      let o = (steps_typed d NoStep otherwise).value in
      let all = steps_fit c NoStep body is tt in
      let others = steps_fit d NoStep otherwise is tt in
      let behind = block_goes d o.1 others.0 in
      (goes_further c d (steps_after d o.1) (block_goes c b.1 all.0) behind, (steps_extend b.1.writes o.1.writes b.0 others.0.1 all.1, others.1))
  step_fits c (source.Print at e) is = (stays c, tt)
  step_fits c (source.Assign name initial) is =
      (stays c, assigned_agrees c.writes name.at (initializer_of c name.at initial).value (used_name c.scope name).value)
  step_fits c (source.Reduce name by e) is = (stays c, reduced_agrees c.writes name.at by (value_of c.scope name.at e).value (used_name c.scope name).value)
  step_fits c (source.SetEntry vector index e) is =
      let own = (written_at vector.at (own_vertex c.scope.inside) (index_value c.scope vector.at index).value).value in
      (stays c, set_agrees c.writes vector.at own (vector_index c.scope vector.at vector).value (integer_in c.scope vector.at e).value c.scope.inside is)
  step_fits c (source.ReduceEntry vector index by e) is = reduce_fits c vector.at vector index by e is
  step_fits c (source.AddVertex set e) is = (stays c, tt)
  step_fits c (source.Apply target ends function) is = (stays c, tt)

  steps_fit : (c : CheckerTree) (so_far : FunctionStatementsTree) (block : source.BlockTree) → c.scope.inside ≡ inside.EdgeFunction → StepsAgree c.writes so_far
      → AllFit c (steps_typed c so_far block).value
  steps_fit c so_far source.Empty is agree = (stays c, agree)
  steps_fit c so_far (source.Then label action others) is agree =
      let l = (with_label c label).value in
      let s = (step_typed l.1 action).value in
      let labels = labelled_goes c label in
      let first = step_fits l.1 action (labels.0 ∙ is) in
      let goes = goes_further c l.1 s.1 labels first.0 in
      let rest = steps_fit s.1 (step_after so_far s.0) others (goes.0 ∙ is) (agree_after s.1.writes so_far s.0 (steps_extend c.writes s.1.writes so_far goes.1 agree) first.1) in
      (goes_further c s.1 (steps_typed s.1 (step_after so_far s.0) others).value.1 goes rest.0, rest.1)

-- what agrees with what is written
mutual
  reduced_as_written : (writes : Writes) (vector : ℕ) (by : Reduction) (step : FunctionStatementTree) → StepAgrees writes step → StepReduces vector by step
      → lookup (nat_eq vector) writes ≡ Some by
  reduced_as_written writes vector by (DeclareInt name e) agrees reduces = absurd reduces
  reduced_as_written writes vector by (DeclareBool name c) agrees reduces = absurd reduces
  reduced_as_written writes vector by (SetInt slot e) agrees reduces = absurd reduces
  reduced_as_written writes vector by (SetBool slot c) agrees reduces = absurd reduces
  reduced_as_written writes vector by (ReduceInt slot other e) agrees reduces = absurd reduces
  reduced_as_written writes vector by (SetEntry index e) agrees reduces = absurd reduces
  reduced_as_written writes vector by (ReduceEntry index other e) agrees reduces =
      ap (λ v. lookup (nat_eq v) writes) (sym reduces.0) ∙ agrees ∙ ap Some reduces.1
  reduced_as_written writes vector by (If c body) agrees reduces = one_reduced_as_written writes vector by body agrees reduces
  reduced_as_written writes vector by (IfElse c body other) agrees (inl reduces) = one_reduced_as_written writes vector by body agrees.0 reduces
  reduced_as_written writes vector by (IfElse c body other) agrees (inr reduces) = one_reduced_as_written writes vector by other agrees.1 reduces

  one_reduced_as_written : (writes : Writes) (vector : ℕ) (by : Reduction) (steps : FunctionStatementsTree) → StepsAgree writes steps → StepsReduce vector by steps
      → lookup (nat_eq vector) writes ≡ Some by
  one_reduced_as_written writes vector by NoStep agree reduce = absurd reduce
  one_reduced_as_written writes vector by (StepThen step others) agree (inl reduces) = reduced_as_written writes vector by step agree.0 reduces
  one_reduced_as_written writes vector by (StepThen step others) agree (inr reduce) = one_reduced_as_written writes vector by others agree.1 reduce

mutual
  step_sets_none : (writes : Writes) (step : FunctionStatementTree) → StepAgrees writes step → StepSetsNoEntry step
  step_sets_none writes (DeclareInt name e) agrees = tt
  step_sets_none writes (DeclareBool name c) agrees = tt
  step_sets_none writes (SetInt slot e) agrees = tt
  step_sets_none writes (SetBool slot c) agrees = tt
  step_sets_none writes (ReduceInt slot by e) agrees = tt
  step_sets_none writes (SetEntry vector e) agrees = agrees
  step_sets_none writes (ReduceEntry vector by e) agrees = tt
  step_sets_none writes (If c body) agrees = steps_set_none writes body agrees
  step_sets_none writes (IfElse c body other) agrees = (steps_set_none writes body agrees.0, steps_set_none writes other agrees.1)

  steps_set_none : (writes : Writes) (steps : FunctionStatementsTree) → StepsAgree writes steps → SetsNoEntry steps
  steps_set_none writes NoStep agree = tt
  steps_set_none writes (StepThen step others) agree = (step_sets_none writes step agree.0, steps_set_none writes others agree.1)

-- an edge function
abbrev pub WritesWell : FunctionTree → Type 0
WritesWell f = ReducesInOneWay f.steps × SetsNoEntry f.steps

writes_well : (f : FunctionTree) (writes : Writes) → StepsAgree writes f.steps → WritesWell f
writes_well f writes agree = (
  λ vector a b one other. same_Some a b (sym (one_reduced_as_written writes vector a f.steps agree one) ∙ one_reduced_as_written writes vector b f.steps agree other),
  steps_set_none writes f.steps agree,
)

all_after : (fs : List FunctionTree) (f : FunctionTree) → AllByRecursion WritesWell fs → WritesWell f → AllByRecursion WritesWell (fs ++ f ∷ [])
all_after [] f all well = (well, tt)
all_after (g ∷ fs) f all well = (all.0, all_after fs f all.1 well)

-- declarations
abbrev pub AllWriteWell : DeclaredTree → Type 0
AllWriteWell d = AllByRecursion WritesWell d.edge_functions

constant_well : (d : DeclaredTree) (at : ℕ) (name : Identifier) (initial : InitialTree) (type : DeclaredType) (initializer : InitializerTree) → AllWriteWell d
    → AllWriteWell (declare_constant_as d at name initial type initializer).value
constant_well d at name initial declared.Int initializer all = all
constant_well d at name initial declared.Bool initializer all = all
constant_well d at name initial declared.Vertex initializer all = all
constant_well d at name initial declared.VertexSet initializer all = all
constant_well d at name initial declared.Vector initializer all = all
constant_well d at name initial declared.EdgeSet initializer all = all
constant_well d at name initial declared.WeightedEdgeSet initializer all = all

main_well : (d : DeclaredTree) (fits : Bool) (main : BlockTree) → AllWriteWell d → AllWriteWell (with_main_block d fits main)
main_well d true main all = all
main_well d false main all = all

parameters_go : (w : Bool) (c : CheckerTree) (p : Endpoint) (parameters : List ParameterTree) → GoesOn c (parameters_declared w c p parameters).value
parameters_go w c p [] = stays c
parameters_go w c p (v ∷ others) =
    let d = (declared_in c v.name (parameter w p v.declared)).value in
    goes_further c d (parameters_declared w d endpoint.Destination others).value (declared_goes c v.name (parameter w p v.declared)) (parameters_go w d endpoint.Destination others)

result_goes : (c : CheckerTree) (kind : FunctionKindTree) (result : Option ParameterTree) → GoesOn c (result_declared c kind result).value
result_goes c kind None = stays c
result_goes c kind (Some result) = declared_goes c result.name (result_entity c kind)

pub opened_inside : (c : CheckerTree) (kind : FunctionKindTree) (parameters : List ParameterTree) (result : Option ParameterTree)
    → (opened c kind parameters result).value.scope.inside ≡ inside_of kind
opened_inside c kind parameters result =
    let e = with_writes (in_scope c (entered (inside_of kind) c.scope)) [] in
    let d = (parameters_declared (takes_weight kind) e endpoint.Source parameters).value in
    (result_goes d kind result).0 ∙ (parameters_go (takes_weight kind) e endpoint.Source parameters).0

edge_well : (weighted : Bool) (c : CheckerTree) (name : ℕ) (parameters : List ParameterTree) (result : Option ParameterTree) (body : source.BlockTree)
    → WritesWell (record { name = name; steps = (steps_typed (opened c (EdgeKind weighted) parameters result).value NoStep body).value.0 })
edge_well weighted c name parameters result body =
    let d = (opened c (EdgeKind weighted) parameters result).value in
    let b = (steps_typed d NoStep body).value in
    writes_well (record { name = name; steps = b.0 }) b.1.writes (steps_fit d NoStep body (opened_inside c (EdgeKind weighted) parameters result) tt).1

function_well : (d : DeclaredTree) (at : ℕ) (name : Identifier) (parameters : List ParameterTree) (result : Option ParameterTree) (body : source.BlockTree) (kind : FunctionKindTree)
    → AllWriteWell d → AllWriteWell (declare_function d at name parameters result body kind).value
function_well d at name parameters result body (MainKind fits) all =
    let b = (statements_typed (opened (restarted d.checker) (MainKind fits) parameters result).value Empty body).value in
    main_well (declare_name (record d { checker = in_scope b.1 d.checker.scope }) name entity.Main).value fits b.0 all
function_well d at name parameters result body (EdgeKind weighted) all =
    let b = (steps_typed (opened d.checker (EdgeKind weighted) parameters result).value NoStep body).value in
    all_after d.edge_functions (function_of (record d { checker = in_scope b.1 d.checker.scope }) b.0) all
    (edge_well weighted d.checker (length b.1.names) parameters result body)
function_well d at name parameters result body VertexKind all = all
function_well d at name parameters result body FilterKind all = all
function_well d at name parameters result body NoKind all = all

declaration_well : (d : DeclaredTree) (x : DeclarationTree) → AllWriteWell d → AllWriteWell (declaration_typed d x).value
declaration_well d (source.Constant at p initial) all = constant_well d at p.name initial p.declared (initializer_of d.checker at initial).value all
declaration_well d (source.Function at name parameters result body) all =
    function_well d at name parameters result body (kind name.bytes parameters result) all

declarations_well : (d : DeclaredTree) (xs : List DeclarationTree) → AllWriteWell d → AllWriteWell (declarations_typed d xs).value
declarations_well d [] all = all
declarations_well d (x ∷ others) all = declarations_well (declaration_typed d x).value others (declaration_well d x all)

pub edge_functions_write_well : (source : SourceTree) (length : ℕ) → AllByRecursion WritesWell (program_of source length).value.edge_functions
edge_functions_write_well source length = declarations_well (no_declarations (set_count source.declarations)) source.declarations tt
