-- A source without a fault has no label twice.
use Rattle.std.proofs.Common.{◌≡◌, refl, ap, sym, subst, ◌∙◌, ℕ, suc, Bool, true, false, if◌then◌else◌, List, [], ◌∷◌, ◌++◌, length, map, Option, Some, None}
use Rattle.std.specs.Bool.{Decides}
use Rattle.std.specs.Str.{bytes_eq}
use Rattle.std.specs.List.{AllByRecursion, IsDistinct}
use Rattle.std.proofs.lemmas.Bool.Decides.{not_from_Decides}
use Rattle.std.proofs.lemmas.List.{append_assoc, append-nil, map-append}
use Rattle.std.proofs.lemmas.Option.{none-some}
use Rattle.std.proofs.lemmas.Slice.Eq.{bytes_eq-Decides}
use Rattle.syntax.specs.Terminals.{Identifier}
use Rattle.syntax.specs.declared.declaration.DeclaredType.{DeclaredType}
use Rattle.syntax.specs.declared.declaration.DeclaredType.TheVariants as declared
use Rattle.syntax.specs.SourceTrees as source
use Rattle.syntax.specs.SourceTrees.{ParameterTree, InitialTree, DeclarationTree, SourceTree}
use Rattle.typed_tree.specs.declared.expression.Endpoint.{Endpoint}
use Rattle.typed_tree.specs.declared.expression.Endpoint.TheVariants as endpoint
use Rattle.typed_tree.specs.BlockTree.{BlockTree, Empty}
use Rattle.typed_tree.specs.FunctionStatementTree.{FunctionStatementsTree, NoStep}
use Rattle.expression_types.specs.declared.scope.Entity.TheVariants as entity
use Rattle.expression_types.specs.ScopeTree.{found, entered}
use Rattle.types.specs.Block.{action_typed, then_statement, closed, statements_typed}
use Rattle.initializer_types.specs.Checker.{CheckerTree, counted, declared_in, integer_slot, with_label, new_label, restarted, in_scope, without_ends, condition_in, integer_in}
use Rattle.initializer_types.specs.DeclarationForms.{FunctionKindTree, MainKind, EdgeKind, VertexKind, FilterKind, NoKind, kind}
use Rattle.types.specs.Declaration.{DeclaredTree, declaration_typed, declarations_typed, declare_constant_as, declare_function}
use Rattle.types.specs.Declaration.{declare_name, function_declared, inside_of, kind_fits, main_declared, opened, parameter, parameters_declared, result_declared, steps_declared}
use Rattle.types.specs.Declaration.{with_main_block, takes_weight}
use Rattle.initializer_types.specs.Initial.{InitializerTree, initializer_of}
use Rattle.type_laws.specs.Labels.{block_labels, inner_labels, labels_of, own_label}
use Rattle.types.specs.Program.{no_declarations, program_of, set_count}
use Rattle.types.specs.Statement.{declare_as}
use Rattle.types.specs.Step.{declare_step_as, step_after, step_typed, steps_after, steps_typed, with_writes}
use Rattle.type_laws.proofs.Faultless.{no_left, no_right, not_empty}
use Rattle.type_laws.proofs.ResolvedScopes.{all_then}

-- the labels that were met, with `#` at both ends
abbrev met : CheckerTree → List (List ℕ)
met c = map (λ x. x.0) c.labels

false_if : (b : Bool) (P : Type 0) → Decides b P → (P → ⊥) → b ≡ false
false_if true P decides not = absurd (not (decides.0 refl))
false_if false P decides not = refl

differs : (x y : List ℕ) → bytes_eq x y ≡ false → bytes_eq y x ≡ false
differs x y is = false_if (bytes_eq y x) (y ≡ x) (bytes_eq-Decides y x) (λ same. not_from_Decides (bytes_eq x y) (bytes_eq-Decides x y) is (sym same))

one_differs : (name other : List ℕ) (b : Bool) (e : ℕ) (o : Option ℕ) → bytes_eq name other ≡ b → (if b then Some e else o) ≡ None → (bytes_eq other name ≡ false) × (o ≡ None)
one_differs name other true e o test none = absurd (none-some e (sym none))
one_differs name other false e o test none = (differs name other test, none)

all_differ : (name : List ℕ) (labels : List (List ℕ × ℕ)) → found name labels ≡ None → AllByRecursion (λ other. bytes_eq other name ≡ false) (map (λ x. x.0) labels)
all_differ name [] none = tt
all_differ name (x ∷ others) none =
    let first = one_differs name x.0 (bytes_eq name x.0) x.1 (found name others) refl none in (first.0, all_differ name others first.1)

distinct_end : (xs : List (List ℕ)) (x : List ℕ) → IsDistinct bytes_eq xs → AllByRecursion (λ other. bytes_eq other x ≡ false) xs → IsDistinct bytes_eq (xs ++ x ∷ [])
unfolding IsDistinct
distinct_end [] x distinct others = (tt, tt)
distinct_end (y ∷ xs) x distinct others =
    (all_then (λ other. bytes_eq y other ≡ false) xs x distinct.0 others.0, distinct_end xs x distinct.1 others.1)

-- from one point of a source to a later one, with these labels between them
record Meets (c d : CheckerTree) (labels : List (List ℕ)) : Type 0 where
  pub all : met d ≡ met c ++ labels
  pub names : d.label_names ≡ c.label_names ++ map without_ends labels
  pub distinct : IsDistinct bytes_eq (met c) → IsDistinct bytes_eq (met d)

meets_none : (c : CheckerTree) → Meets c c []
meets_none c = record { all = sym (append-nil (met c)); names = sym (append-nil c.label_names); distinct = λ distinct. distinct }

meets_then : (c d e : CheckerTree) (xs ys : List (List ℕ)) → Meets c d xs → Meets d e ys → Meets c e (xs ++ ys)
meets_then c d e xs ys first second = record {
  all = second.all ∙ ap (λ ls. ls ++ ys) first.all ∙ append_assoc (met c) xs ys;
  names = second.names ∙ ap (λ ls. ls ++ map without_ends ys) first.names
      ∙ append_assoc c.label_names (map without_ends xs) (map without_ends ys) ∙ ap (λ ls. c.label_names ++ ls) (sym (map-append without_ends xs ys));
  distinct = λ distinct. second.distinct (first.distinct distinct);
}

-- the same, where the scopes differ
meets_like : (c d b e : CheckerTree) (xs : List (List ℕ)) → b.labels ≡ c.labels → b.label_names ≡ c.label_names → e.labels ≡ d.labels → e.label_names ≡ d.label_names
    → Meets c d xs → Meets b e xs
meets_like c d b e xs before before_names then_statement after_names all = record {
  all = ap (λ ls. map (λ x. x.0) ls) then_statement ∙ all.all ∙ ap (λ ls. map (λ x. x.0) ls ++ xs) (sym before);
  names = after_names ∙ all.names ∙ ap (λ ls. ls ++ map without_ends xs) (sym before_names);
  distinct = λ distinct. subst (λ ls. IsDistinct bytes_eq (map (λ x. x.0) ls)) (sym then_statement)
      (all.distinct (subst (λ ls. IsDistinct bytes_eq (map (λ x. x.0) ls)) before distinct));
}

new_label_meets : (c : CheckerTree) (label : Identifier) (index : Option ℕ) → found label.bytes c.labels ≡ index → (new_label c label index).faults ≡ []
    → Meets c (new_label c label index).value.1 (label.bytes ∷ [])
new_label_meets c label None is none = record {
  all = map-append (λ x. x.0) c.labels ((label.bytes, length c.labels) ∷ []);
  names = refl;
  distinct = λ distinct. subst (λ ls. IsDistinct bytes_eq ls) (sym (map-append (λ x. x.0) c.labels ((label.bytes, length c.labels) ∷ [])))
      (distinct_end (met c) label.bytes distinct (all_differ label.bytes c.labels is));
}
new_label_meets c label (Some index) is none = absurd (not_empty _ _ none)

labelled_meets : (c : CheckerTree) (label : Option Identifier) → (with_label c label).faults ≡ [] → Meets c (with_label c label).value.1 (own_label label)
labelled_meets c None none = meets_none c
labelled_meets c (Some label) none = new_label_meets c label (found label.bytes c.labels) refl none

-- where no label is met
meets_nothing : (c d : CheckerTree) → d.labels ≡ c.labels → d.label_names ≡ c.label_names → Meets c d []
meets_nothing c d same names = meets_like c c c d [] refl refl same names (meets_none c)

declare_step_meets : (c : CheckerTree) (at : ℕ) (name : Identifier) (initializer : InitializerTree) (type : DeclaredType) → Meets c (declare_step_as c at name initializer type).value.1 []
declare_step_meets c at name initializer declared.Int = meets_nothing c _ refl refl
declare_step_meets c at name initializer declared.Bool = meets_nothing c _ refl refl
declare_step_meets c at name initializer declared.Vertex = meets_nothing c _ refl refl
declare_step_meets c at name initializer declared.VertexSet = meets_nothing c _ refl refl
declare_step_meets c at name initializer declared.Vector = meets_nothing c _ refl refl
declare_step_meets c at name initializer declared.EdgeSet = meets_nothing c _ refl refl
declare_step_meets c at name initializer declared.WeightedEdgeSet = meets_nothing c _ refl refl

declare_meets : (c : CheckerTree) (at : ℕ) (name : Identifier) (initializer : InitializerTree) (type : DeclaredType) → Meets c (declare_as c at name initializer type).value.1 []
declare_meets c at name initializer declared.Int = meets_nothing c _ refl refl
declare_meets c at name initializer declared.Bool = meets_nothing c _ refl refl
declare_meets c at name initializer declared.Vertex = meets_nothing c _ refl refl
declare_meets c at name initializer declared.VertexSet = meets_nothing c _ refl refl
declare_meets c at name initializer declared.Vector = meets_nothing c _ refl refl
declare_meets c at name initializer declared.EdgeSet = meets_nothing c _ refl refl
declare_meets c at name initializer declared.WeightedEdgeSet = meets_nothing c _ refl refl

-- after a block
meets_inside : (c d : CheckerTree) (xs : List (List ℕ)) → Meets c d xs → Meets c (in_scope d c.scope) xs
meets_inside c d xs all = meets_like c d c (in_scope d c.scope) xs refl refl refl refl all

mutual
  step_meets : (c : CheckerTree) (action : source.StatementKindTree) → (step_typed c action).faults ≡ [] → Meets c (step_typed c action).value.1 (inner_labels action)
  step_meets c (source.Declare at x initial) none = declare_step_meets c at x.name (initializer_of c at initial).value x.declared
  step_meets c (source.While at test body) none = absurd (not_empty _ _ none)
  step_meets c (source.For at name first limit body) none = absurd (not_empty _ _ none)
  step_meets c (source.If at test body) none =
      let b = steps_typed c NoStep body in
      meets_inside c b.value.1 (block_labels body) (steps_meet c NoStep body (no_left b.faults [] (no_right (condition_in c.scope at test).faults _ none)))
  step_meets c (source.IfElse at test body otherwise) none =
      let b = steps_typed c NoStep body in
      let d = steps_after c b.value.1 in
      let o = steps_typed d NoStep otherwise in
      let both = no_right (condition_in c.scope at test).faults (b.faults ++ (o.faults ++ [])) none in
      let first = meets_inside c b.value.1 (block_labels body) (steps_meet c NoStep body (no_left b.faults (o.faults ++ []) both)) in
      let second = meets_inside d o.value.1 (block_labels otherwise) (steps_meet d NoStep otherwise (no_left o.faults [] (no_right b.faults (o.faults ++ []) both))) in
      meets_then c d (steps_after d o.value.1) (block_labels body) (block_labels otherwise) first second
  step_meets c (source.Print at e) none = meets_none c
  step_meets c (source.Assign name initial) none = meets_none c
  step_meets c (source.Reduce name by e) none = meets_none c
  step_meets c (source.SetEntry vector index e) none = meets_none c
  step_meets c (source.ReduceEntry vector index by e) none = meets_nothing c _ refl refl
  step_meets c (source.AddVertex set e) none = meets_none c
  step_meets c (source.Apply target ends function) none = meets_none c

  steps_meet : (c : CheckerTree) (so_far : FunctionStatementsTree) (block : source.BlockTree) → (steps_typed c so_far block).faults ≡ []
      → Meets c (steps_typed c so_far block).value.1 (block_labels block)
  steps_meet c so_far source.Empty none = meets_none c
  steps_meet c so_far (source.Then label action others) none =
      let l = with_label c label in
      let s = step_typed l.value.1 action in
      let rest = steps_typed s.value.1 (step_after so_far s.value.0) others in
      let both = no_right l.faults (s.faults ++ rest.faults) none in
      let last = meets_then l.value.1 s.value.1 rest.value.1 (inner_labels action) (block_labels others) (step_meets l.value.1 action (no_left s.faults rest.faults both))
      (steps_meet s.value.1 (step_after so_far s.value.0) others (no_right s.faults rest.faults both)) in
      meets_then c l.value.1 rest.value.1 (own_label label) (inner_labels action ++ block_labels others) (labelled_meets c label (no_left l.faults (s.faults ++ rest.faults) none)) last

mutual
  action_meets : (c : CheckerTree) (action : source.StatementKindTree) → (action_typed c action).faults ≡ [] → Meets c (action_typed c action).value.1 (inner_labels action)
  action_meets c (source.Declare at x initial) none = declare_meets c at x.name (initializer_of c at initial).value x.declared
  action_meets c (source.While at test body) none =
      let b = statements_typed c Empty body in
      meets_inside c b.value.1 (block_labels body) (statements_meet c Empty body (no_left b.faults [] (no_right (condition_in c.scope at test).faults _ none)))
  action_meets c (source.For at name first limit body) none =
      let d = declared_in c name (entity.LoopVariable (integer_slot c)) in
      let b = statements_typed d.value Empty body in
      let both = no_right (integer_in c.scope at limit).faults (d.faults ++ (b.faults ++ [])) (no_right (integer_in c.scope at first).faults _ none) in
      let all = statements_meet d.value Empty body (no_left b.faults [] (no_right d.faults (b.faults ++ []) both)) in
      meets_like d.value b.value.1 c (closed c b.value.1) (block_labels body) refl refl refl refl all
  action_meets c (source.If at test body) none =
      let b = statements_typed c Empty body in
      meets_inside c b.value.1 (block_labels body) (statements_meet c Empty body (no_left b.faults [] (no_right (condition_in c.scope at test).faults _ none)))
  action_meets c (source.IfElse at test body otherwise) none =
      let b = statements_typed c Empty body in
      let d = closed c b.value.1 in
      let o = statements_typed d Empty otherwise in
      let both = no_right (condition_in c.scope at test).faults (b.faults ++ (o.faults ++ [])) none in
      let first = meets_inside c b.value.1 (block_labels body) (statements_meet c Empty body (no_left b.faults (o.faults ++ []) both)) in
      let second = meets_inside d o.value.1 (block_labels otherwise) (statements_meet d Empty otherwise (no_left o.faults [] (no_right b.faults (o.faults ++ []) both))) in
      meets_then c d (closed d o.value.1) (block_labels body) (block_labels otherwise) first second
  action_meets c (source.Print at e) none = meets_none c
  action_meets c (source.Assign name initial) none = meets_none c
  action_meets c (source.Reduce name by e) none = meets_none c
  action_meets c (source.SetEntry vector index e) none = meets_none c
  action_meets c (source.ReduceEntry vector index by e) none = meets_none c
  action_meets c (source.AddVertex set e) none = meets_none c
  action_meets c (source.Apply target ends function) none = meets_none c

  statements_meet : (c : CheckerTree) (so_far : BlockTree) (block : source.BlockTree) → (statements_typed c so_far block).faults ≡ []
      → Meets c (statements_typed c so_far block).value.1 (block_labels block)
  statements_meet c so_far source.Empty none = meets_none c
  statements_meet c so_far (source.Then label action others) none =
      let l = with_label c label in
      let d = counted l.value.1 in
      let a = action_typed d action in
      let more = then_statement so_far (suc l.value.1.statements) l.value.0 a.value.0 in
      let rest = statements_typed a.value.1 more others in
      let both = no_right l.faults (a.faults ++ rest.faults) none in
      let first = meets_like c l.value.1 c d (own_label label) refl refl refl refl (labelled_meets c label (no_left l.faults (a.faults ++ rest.faults) none)) in
      let last = meets_then d a.value.1 rest.value.1 (inner_labels action) (block_labels others) (action_meets d action (no_left a.faults rest.faults both))
      (statements_meet a.value.1 more others (no_right a.faults rest.faults both)) in
      meets_then c d rest.value.1 (own_label label) (inner_labels action ++ block_labels others) first last

-- functions
parameters_meet : (w : Bool) (c : CheckerTree) (at : Endpoint) (parameters : List ParameterTree) → Meets c (parameters_declared w c at parameters).value []
parameters_meet w c at [] = meets_none c
parameters_meet w c at (x ∷ others) =
    let d = (declared_in c x.name (parameter w at x.declared)).value in
    meets_then c d (parameters_declared w d endpoint.Destination others).value [] [] (meets_nothing c d refl refl) (parameters_meet w d endpoint.Destination others)

result_meets : (c : CheckerTree) (kind : FunctionKindTree) (result : Option ParameterTree) → Meets c (result_declared c kind result).value []
result_meets c kind None = meets_none c
result_meets c kind (Some result) = meets_nothing c _ refl refl

opened_meets : (c : CheckerTree) (kind : FunctionKindTree) (parameters : List ParameterTree) (result : Option ParameterTree) → Meets c (opened c kind parameters result).value []
opened_meets c kind parameters result =
    let e = with_writes (in_scope c (entered (inside_of kind) c.scope)) [] in
    let d = (parameters_declared (takes_weight kind) e endpoint.Source parameters).value in
    let all = meets_then e d (result_declared d kind result).value [] [] (parameters_meet (takes_weight kind) e endpoint.Source parameters) (result_meets d kind result) in
    meets_like e (result_declared d kind result).value c (result_declared d kind result).value [] refl refl refl refl all

function_meets : (d : DeclaredTree) (kind : FunctionKindTree) (name : Identifier) (steps : FunctionStatementsTree) → Meets d.checker (function_declared d kind name steps).value.checker []
function_meets d (MainKind fits) name steps = meets_nothing d.checker _ refl refl
function_meets d (EdgeKind weighted) name steps = meets_nothing d.checker _ refl refl
function_meets d VertexKind name steps = meets_nothing d.checker _ refl refl
function_meets d FilterKind name steps = meets_nothing d.checker _ refl refl
function_meets d NoKind name steps = meets_nothing d.checker _ refl refl

steps_declared_meet : (d : DeclaredTree) (at : ℕ) (kind : FunctionKindTree) (name : Identifier) (parameters : List ParameterTree) (result : Option ParameterTree) (body : source.BlockTree)
    → (steps_declared d at kind name parameters result body).faults ≡ [] → Meets d.checker (steps_declared d at kind name parameters result body).value.checker (block_labels body)
steps_declared_meet d at kind name parameters result body none =
    let c = opened d.checker kind parameters result in
    let b = steps_typed c.value NoStep body in
    let around = record d { checker = in_scope b.value.1 d.checker.scope } in
    let f = function_declared around kind name b.value.0 in
    let inside = no_right (kind_fits at kind).faults (c.faults ++ (b.faults ++ f.faults)) none in
    let clear = no_left b.faults f.faults (no_right c.faults (b.faults ++ f.faults) inside) in
    let first = meets_then d.checker c.value b.value.1 [] (block_labels body) (opened_meets d.checker kind parameters result) (steps_meet c.value NoStep body clear) in
    let last = meets_like around.checker f.value.checker b.value.1 f.value.checker [] refl refl refl refl (function_meets around kind name b.value.0) in
    subst (λ ls. Meets d.checker f.value.checker ls) (append-nil (block_labels body)) (meets_then d.checker b.value.1 f.value.checker (block_labels body) [] first last)

with_main_meets : (e : DeclaredTree) (fits : Bool) (main : BlockTree) → Meets e.checker (with_main_block e fits main).checker []
with_main_meets e true main = meets_none e.checker
with_main_meets e false main = meets_none e.checker

main_meets : (d : DeclaredTree) (fits : Bool) (name : Identifier) (parameters : List ParameterTree) (result : Option ParameterTree) (body : source.BlockTree)
    → (main_declared d fits name parameters result body).faults ≡ [] → Meets d.checker (main_declared d fits name parameters result body).value.checker (block_labels body)
main_meets d fits name parameters result body none =
    let c = opened (restarted d.checker) (MainKind fits) parameters result in
    let b = statements_typed c.value Empty body in
    let around = record d { checker = in_scope b.value.1 d.checker.scope } in
    let e = declare_name around name entity.Main in
    let clear = no_left b.faults (e.faults ++ []) (no_right c.faults (b.faults ++ (e.faults ++ [])) none) in
    let start = meets_like (restarted d.checker) c.value d.checker c.value [] refl refl refl refl (opened_meets (restarted d.checker) (MainKind fits) parameters result) in
    let first = meets_then d.checker c.value b.value.1 [] (block_labels body) start (statements_meet c.value Empty body clear) in
    let named = meets_like d.checker b.value.1 d.checker e.value.checker (block_labels body) refl refl refl refl first in
    subst (λ ls. Meets d.checker (with_main_block e.value fits b.value.0).checker ls) (append-nil (block_labels body))
    (meets_then d.checker e.value.checker (with_main_block e.value fits b.value.0).checker (block_labels body) [] named (with_main_meets e.value fits b.value.0))

each_function_meets : (d : DeclaredTree) (at : ℕ) (name : Identifier) (parameters : List ParameterTree) (result : Option ParameterTree) (body : source.BlockTree) (kind : FunctionKindTree)
    → (declare_function d at name parameters result body kind).faults ≡ [] → Meets d.checker (declare_function d at name parameters result body kind).value.checker (block_labels body)
each_function_meets d at name parameters result body (MainKind fits) none = main_meets d fits name parameters result body none
each_function_meets d at name parameters result body (EdgeKind weighted) none = steps_declared_meet d at (EdgeKind weighted) name parameters result body none
each_function_meets d at name parameters result body VertexKind none = steps_declared_meet d at VertexKind name parameters result body none
each_function_meets d at name parameters result body FilterKind none = steps_declared_meet d at FilterKind name parameters result body none
each_function_meets d at name parameters result body NoKind none = steps_declared_meet d at NoKind name parameters result body none

constant_meets : (d : DeclaredTree) (at : ℕ) (name : Identifier) (initial : InitialTree) (type : DeclaredType) (initializer : InitializerTree)
    → Meets d.checker (declare_constant_as d at name initial type initializer).value.checker []
constant_meets d at name initial declared.Int initializer = meets_nothing d.checker _ refl refl
constant_meets d at name initial declared.Bool initializer = meets_nothing d.checker _ refl refl
constant_meets d at name initial declared.Vertex initializer = meets_nothing d.checker _ refl refl
constant_meets d at name initial declared.VertexSet initializer = meets_nothing d.checker _ refl refl
constant_meets d at name initial declared.Vector initializer = meets_nothing d.checker _ refl refl
constant_meets d at name initial declared.EdgeSet initializer = meets_nothing d.checker _ refl refl
constant_meets d at name initial declared.WeightedEdgeSet initializer = meets_nothing d.checker _ refl refl

declarations_meet : (d : DeclaredTree) (xs : List DeclarationTree) → (declarations_typed d xs).faults ≡ [] → Meets d.checker (declarations_typed d xs).value.checker (labels_of xs)
declarations_meet d [] none = meets_none d.checker
declarations_meet d (source.Constant at x initial ∷ others) none =
    let e = declaration_typed d (source.Constant at x initial) in
    let rest = declarations_typed e.value others in
    meets_then d.checker e.value.checker rest.value.checker [] (labels_of others) (constant_meets d at x.name initial x.declared (initializer_of d.checker at initial).value)
    (declarations_meet e.value others (no_right e.faults rest.faults none))
declarations_meet d (source.Function at name parameters result body ∷ others) none =
    let e = declaration_typed d (source.Function at name parameters result body) in
    let rest = declarations_typed e.value others in
    meets_then d.checker e.value.checker rest.value.checker (block_labels body) (labels_of others)
    (each_function_meets d at name parameters result body (kind name.bytes parameters result) (no_left e.faults rest.faults none))
    (declarations_meet e.value others (no_right e.faults rest.faults none))

program_meets : (source : SourceTree) (length : ℕ) → (program_of source length).faults ≡ []
    → Meets (no_declarations (set_count source.declarations)).checker (declarations_typed (no_declarations (set_count source.declarations)) source.declarations).value.checker
    (labels_of source.declarations)
program_meets source length none =
    let start = no_declarations (set_count source.declarations) in
    declarations_meet start source.declarations (no_left (declarations_typed start source.declarations).faults _ none)

pub labels_are_distinct : (source : SourceTree) (length : ℕ) → (program_of source length).faults ≡ [] → IsDistinct bytes_eq (labels_of source.declarations)
unfolding IsDistinct
labels_are_distinct source length none =
    let all = program_meets source length none in subst (λ ls. IsDistinct bytes_eq ls) all.all (all.distinct tt)

pub labels_are_kept : (source : SourceTree) (length : ℕ) → (program_of source length).faults ≡ [] → (program_of source length).value.labels ≡ map without_ends (labels_of source.declarations)
labels_are_kept source length none = (program_meets source length none).names
