-- What an edge function is known to write, its statements write.
use Rattle.std.proofs.Common.{◌≡◌, refl, sym, subst, inl, inr, ◌⊎◌, ℕ, nat_eq, cond, Bool, true, false, List, [], ◌∷◌, ◌++◌, arith, Option, Some, None}
use Rattle.std.specs.Prelude.{is_some}
use Rattle.std.specs.List.{Contains}
use Rattle.std.specs.Map.{lookup}
use Rattle.std.proofs.lemmas.Bool.{eqb-true}
use Rattle.std.proofs.lemmas.List.Elements.{Contains-append_cases, Contains-append_left, Contains-append_right}
use Rattle.syntax.specs.Terminals.{Identifier}
use Rattle.syntax.specs.SourceTrees.{ExpressionTree}
use Rattle.syntax.specs.declared.declaration.DeclaredType.{DeclaredType}
use Rattle.syntax.specs.declared.declaration.DeclaredType.TheVariants as declared
use Rattle.apply_options.specs.declared.reduction.Reduction.{Reduction}
use Rattle.syntax.specs.SourceTrees as source
use Rattle.typed_tree.specs.declared.expression.Endpoint.{Endpoint}
use Rattle.typed_tree.specs.inside.Access.{step_writes, steps_write}
use Rattle.typed_tree.specs.IntExpressionTree.{IntExpressionTree}
use Rattle.typed_tree.specs.FunctionStatementTree.{FunctionStatementTree, FunctionStatementsTree, NoStep, StepThen}
use Rattle.expression_types.specs.declared.scope.Inside.TheVariants as inside
use Rattle.expression_types.specs.Expression.{index_value, value_of, vector_index}
use Rattle.expression_types.specs.ScopeTree.{found}
use Rattle.expression_types.specs.ValueTree.{ValueTree, Integer, Condition, Vertex, Set, ErrorValue}
use Rattle.initializer_types.specs.Checker.{CheckerTree, with_label, new_label, condition_in, integer_in}
use Rattle.initializer_types.specs.Initial.{InitializerTree, initializer_of}
use Rattle.types.specs.Step.{at_own, declare_step_as, may_reduce, one_reduction, own_vertex, reduce_entry_step, reduced_as, reduction_step, same_endpoint, same_reduction, step_after, step_typed}
use Rattle.types.specs.Step.{steps_after, steps_typed, written_at, written_with}
use Rattle.type_laws.proofs.ClearValues.{IsClear}
use Rattle.type_laws.proofs.EntryAccess.{Body}
use Rattle.type_laws.proofs.EntryReads.{expression_reads, index_clear}
use Rattle.type_laws.proofs.Faultless.{no_left, no_right, not_empty}
use Rattle.type_laws.proofs.KnownScopes.{IsKnown, Vertices, labelled_scope, step_known}

abbrev pub Writes : Type 0
Writes = List (ℕ × Reduction)

abbrev pub is_written : Writes → ℕ → Bool
is_written writes vector = is_some (lookup (nat_eq vector) writes)

-- each vector that is written now was written before, or is one of these
abbrev pub Adds : (old new : Writes) → List ℕ → Type 0
Adds old new vectors = (vector : ℕ) → is_written new vector ≡ true → (is_written old vector ≡ true) ⊎ Contains vectors vector

pub adds_none : (writes : Writes) → Adds writes writes []
adds_none writes vector is = inl is

-- the vector of a list with one more
last_is : (b : Bool) (by : Reduction) → is_some (cond b (Some by) None) ≡ true → b ≡ true
last_is true by is = refl
last_is false by is = cc

first_or_last : (b : Bool) (first by : Reduction) (vector index : ℕ) (writes : Writes) → is_some (cond b (Some first) (lookup (nat_eq vector) (writes ++ (index, by) ∷ []))) ≡ true
    → (is_written (writes ++ (index, by) ∷ []) vector ≡ true → (is_written writes vector ≡ true) ⊎ (vector ≡ index))
    → (is_some (cond b (Some first) (lookup (nat_eq vector) writes)) ≡ true) ⊎ (vector ≡ index)
first_or_last true first by vector index writes is further = inl refl
first_or_last false first by vector index writes is further = further is

one_more : (vector index : ℕ) (by : Reduction) (writes : Writes) → is_written (writes ++ (index, by) ∷ []) vector ≡ true → (is_written writes vector ≡ true) ⊎ (vector ≡ index)
one_more vector index by [] is = inr (eqb-true vector index (last_is (nat_eq vector index) by is))
one_more vector index by (w ∷ writes) is = first_or_last (nat_eq vector w.0) w.1 by vector index writes is (one_more vector index by writes)

reduced_adds : (at vector : ℕ) (by : Reduction) (writes : Writes) (b : Bool) (x : IntExpressionTree) → (reduced_as at b writes).faults ≡ []
    → Adds writes (reduced_as at b writes).value.1 (step_writes (reduction_step (reduced_as at b writes).value.0 true (Some vector) by x))
reduced_adds at vector by writes true x none v is = inl is
reduced_adds at vector by writes false x none v is = absurd (not_empty _ _ none)

with_adds : (at vector : ℕ) (by : Reduction) (writes : Writes) (before : Option Reduction) (x : IntExpressionTree) → (written_with at vector by writes before).faults ≡ []
    → Adds writes (written_with at vector by writes before).value.1 (step_writes (reduction_step (written_with at vector by writes before).value.0 true (Some vector) by x))
with_adds at vector by writes None x none v is =
    elim (one_more v vector by writes is) [ inl old ↦ inl old | inr same ↦ inr (0, omega arith, sym same) ]
with_adds at vector by writes (Some first) x none v is = reduced_adds at vector by writes (same_reduction first by) x none v is

one_adds : (at : ℕ) (vector : Option ℕ) (by : Reduction) (writes : Writes) (own : Bool) (x : IntExpressionTree) → own ≡ true → (one_reduction at vector by writes).faults ≡ []
    → Adds writes (one_reduction at vector by writes).value.1 (step_writes (reduction_step (one_reduction at vector by writes).value.0 own vector by x))
one_adds at None by writes own x is_own none v is = inl is
one_adds at (Some vector) by writes true x is_own none v is = with_adds at vector by writes (lookup (nat_eq vector) writes) x none v is
one_adds at (Some vector) by writes false x is_own none v is = absurd cc

-- an entry without a fault is written at the own vertex
at_own_vertex : (at : ℕ) (b : Bool) → (at_own at b).faults ≡ [] → (at_own at b).value ≡ true
at_own_vertex at true none = refl
at_own_vertex at false none = absurd (not_empty _ _ none)

written_own : (at : ℕ) (own : Endpoint) (v : ValueTree) → IsClear v → (written_at at own v).faults ≡ [] → (written_at at own v).value ≡ true
written_own at own (Integer e) clear none = absurd (not_empty _ _ none)
written_own at own (Condition c) clear none = absurd (not_empty _ _ none)
written_own at own (Vertex p) clear none = at_own_vertex at (same_endpoint p own) none
written_own at own (Set slot) clear none = absurd (not_empty _ _ none)
written_own at own ErrorValue clear none = absurd clear

new_label_writes : (c : CheckerTree) (label : Identifier) (index : Option ℕ) → (new_label c label index).value.1.writes ≡ c.writes
new_label_writes c label None = refl
new_label_writes c label (Some index) = refl

labelled_writes : (c : CheckerTree) (label : Option Identifier) → (with_label c label).value.1.writes ≡ c.writes
labelled_writes c None = refl
labelled_writes c (Some label) = new_label_writes c label (found label.bytes c.labels)

declare_adds : (c : CheckerTree) (at : ℕ) (name : Identifier) (initializer : InitializerTree) (type : DeclaredType)
    → (declare_step_as c at name initializer type).value.1.writes ≡ c.writes
declare_adds c at name initializer declared.Int = refl
declare_adds c at name initializer declared.Bool = refl
declare_adds c at name initializer declared.Vertex = refl
declare_adds c at name initializer declared.VertexSet = refl
declare_adds c at name initializer declared.Vector = refl
declare_adds c at name initializer declared.EdgeSet = refl
declare_adds c at name initializer declared.WeightedEdgeSet = refl

same_adds : (old new : Writes) (vectors : List ℕ) → new ≡ old → Adds old new vectors
same_adds old new vectors same vector is = inl (subst (λ writes. is_written writes vector ≡ true) same is)

after_writes : (so_far : FunctionStatementsTree) (step : FunctionStatementTree) (vector : ℕ) → Contains (steps_write so_far) vector ⊎ Contains (step_writes step) vector
    → Contains (steps_write (step_after so_far step)) vector
after_writes NoStep step vector (inl (k, within, is)) = absurd (omega (arith, within))
after_writes NoStep step vector (inr is) = Contains-append_left (step_writes step) [] vector is
after_writes (StepThen s others) step vector (inl is) =
    elim (Contains-append_cases (step_writes s) (steps_write others) vector is) [
      | inl first ↦ Contains-append_left (step_writes s) (steps_write (step_after others step)) vector first
      | inr second ↦ Contains-append_right (step_writes s) (steps_write (step_after others step)) vector (after_writes others step vector (inl second))
    ]
after_writes (StepThen s others) step vector (inr is) = Contains-append_right (step_writes s) (steps_write (step_after others step)) vector (after_writes others step vector (inr is))

module _ {At : Vertices} {Read Write : ExpressionTree → Type 0} (body : Body At inside.EdgeFunction Read Write) where
  entry_adds : (c : CheckerTree) (vector : Identifier) (subscript : ExpressionTree) (by : Reduction) (e : ExpressionTree) → IsKnown At inside.EdgeFunction c.scope
      → (reduce_entry_step c vector.at vector subscript by e).faults ≡ []
      → Adds c.writes (reduce_entry_step c vector.at vector subscript by e).value.1.writes (step_writes (reduce_entry_step c vector.at vector subscript by e).value.0)
  entry_adds c vector subscript by e known none =
      let at = vector.at in
      let index = vector_index c.scope at vector in
      let may = may_reduce at c.scope.inside index.value by c.writes in
      let v = index_value c.scope at subscript in
      let w = written_at at (own_vertex c.scope.inside) v.value in
      let x = (integer_in c.scope at e).value in
      let after_vector = no_right index.faults _ none in
      let after_may = no_right may.faults _ after_vector in
      let behind_index = no_right v.faults _ after_may in
      let clear = index_clear c.scope subscript (value_of c.scope at subscript) (λ fine. (expression_reads c.scope at (body.reads c.scope at known) subscript fine).1) (no_left v.faults _ after_may) in
      let own = written_own at (own_vertex c.scope.inside) v.value clear (no_left w.faults _ behind_index) in
      subst (λ i. (may_reduce at i index.value by c.writes).faults ≡ [] → Adds c.writes (may_reduce at i index.value by c.writes).value.1
      (step_writes (reduction_step (may_reduce at i index.value by c.writes).value.0 w.value index.value by x)))
      (sym known.0) (one_adds at index.value by c.writes w.value x own) (no_left may.faults _ after_vector)

  mutual
    step_adds : (c : CheckerTree) (action : source.StatementKindTree) → IsKnown At inside.EdgeFunction c.scope → (step_typed c action).faults ≡ []
        → Adds c.writes (step_typed c action).value.1.writes (step_writes (step_typed c action).value.0)
    step_adds c (source.Declare at x initial) known none = same_adds _ _ _ (declare_adds c at x.name (initializer_of c at initial).value x.declared)
    step_adds c (source.While at test inner) known none = absurd (not_empty _ _ none)
    step_adds c (source.For at name first limit inner) known none = absurd (not_empty _ _ none)
    step_adds c (source.If at test inner) known none =
        let b = steps_typed c NoStep inner in
        steps_add c.writes c NoStep inner known (no_left b.faults [] (no_right (condition_in c.scope at test).faults _ none)) (adds_none c.writes)
    step_adds c (source.IfElse at test inner otherwise) known none =
        let b = steps_typed c NoStep inner in
        let d = steps_after c b.value.1 in
        let o = steps_typed d NoStep otherwise in
        let both = no_right (condition_in c.scope at test).faults (b.faults ++ (o.faults ++ [])) none in
        let first = steps_add c.writes c NoStep inner known (no_left b.faults (o.faults ++ []) both) (adds_none c.writes) in
        let second = steps_add d.writes d NoStep otherwise known (no_left o.faults [] (no_right b.faults (o.faults ++ []) both)) (adds_none d.writes) in
        λ vector is.
        elim (second vector is) [
          | inl old ↦
              elim (first vector old) [
                | inl older ↦ inl older
                | inr new ↦ inr (Contains-append_left (steps_write b.value.0) (steps_write o.value.0) vector new)
              ]
          | inr new ↦ inr (Contains-append_right (steps_write b.value.0) (steps_write o.value.0) vector new)
        ]
    step_adds c (source.Print at e) known none = absurd (not_empty _ _ none)
    step_adds c (source.Assign name initial) known none = same_adds _ _ _ refl
    step_adds c (source.Reduce name by e) known none = same_adds _ _ _ refl
    step_adds c (source.SetEntry vector subscript e) known none = same_adds _ _ _ refl
    step_adds c (source.ReduceEntry vector subscript by e) known none = entry_adds c vector subscript by e known none
    step_adds c (source.AddVertex set e) known none = absurd (not_empty _ _ none)
    step_adds c (source.Apply target ends function) known none = absurd (not_empty _ _ none)

    pub steps_add : (start : Writes) (c : CheckerTree) (so_far : FunctionStatementsTree) (block : source.BlockTree) → IsKnown At inside.EdgeFunction c.scope → (steps_typed c so_far block).faults ≡ []
        → Adds start c.writes (steps_write so_far) → Adds start (steps_typed c so_far block).value.1.writes (steps_write (steps_typed c so_far block).value.0)
    steps_add start c so_far source.Empty known none adds = adds
    steps_add start c so_far (source.Then label action others) known none adds =
        let l = with_label c label in
        let s = step_typed l.value.1 action in
        let rest = steps_typed s.value.1 (step_after so_far s.value.0) others in
        let both = no_right l.faults (s.faults ++ rest.faults) none in
        let here = subst (λ scope. IsKnown At inside.EdgeFunction scope) (sym (labelled_scope c label)) known in
        let clear = no_left s.faults rest.faults both in
        let one = step_adds l.value.1 action here clear in
        let all : Adds start s.value.1.writes (steps_write (step_after so_far s.value.0)) =
        (λ vector is.
        elim (one vector is) [
          | inl old ↦
              elim (adds vector (subst (λ writes. is_written writes vector ≡ true) (labelled_writes c label) old)) [
                | inl older ↦ inl older
                | inr has ↦ inr (after_writes so_far s.value.0 vector (inl has))
              ]
          | inr new ↦ inr (after_writes so_far s.value.0 vector (inr new))
        ]) in
        steps_add start s.value.1 (step_after so_far s.value.0) others (step_known At inside.EdgeFunction l.value.1 action here clear) (no_right s.faults rest.faults both) all
