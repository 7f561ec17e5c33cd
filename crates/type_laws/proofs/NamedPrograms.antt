-- A program without a fault names visible vertex sets apart, and asks for written vectors.
use Rattle.std.proofs.Common.{◌≡◌, refl, ap, sym, subst, ◌∙◌, inl, inr, ◌⊎◌, ℕ, zero, suc, ◌+◌, ◌<◌, pos, Bool, true, false, ◌&&◌, if◌then◌else◌, List, [], ◌∷◌, ◌++◌, length, length-append, arith}
use Rattle.std.proofs.Common.{nat_eq, Option, Some, None}
use Rattle.std.specs.Prelude.{slice_get, slice_index_or, is_some}
use Rattle.std.specs.Str.{bytes_eq}
use Rattle.std.specs.List.{Contains}
use Rattle.std.specs.Map.{lookup}
use Rattle.std.proofs.lemmas.Bool.{and_parts}
use Rattle.std.proofs.lemmas.Option.{none-some, same_Some, slice_get_within}
use Rattle.syntax.specs.Terminals.{Identifier}
use Rattle.syntax.specs.declared.declaration.DeclaredType.{DeclaredType}
use Rattle.syntax.specs.declared.declaration.DeclaredType.TheVariants as declared
use Rattle.syntax.specs.SourceTrees as source
use Rattle.syntax.specs.SourceTrees.{ParameterTree, InitialTree, DeclarationTree, SourceTree}
use Rattle.typed_tree.specs.declared.expression.Endpoint.{Endpoint}
use Rattle.typed_tree.specs.declared.expression.Endpoint.TheVariants as endpoint
use Rattle.typed_tree.specs.Independence.{function_writes}
use Rattle.typed_tree.specs.inside.Access.{steps_write, steps_write_where}
use Rattle.typed_tree.specs.BlockTree.{StatementKindTree, BlockTree, Empty, Then, If, IfElse, While, For}
use Rattle.typed_tree.specs.FunctionStatementTree.{FunctionTree, FunctionStatementsTree, NoStep}
use Rattle.typed_tree.specs.ProgramTree.{ProgramTree}
use Rattle.expression_types.specs.declared.scope.Entity.{Entity}
use Rattle.expression_types.specs.declared.scope.Entity.TheVariants as entity
use Rattle.expression_types.specs.declared.scope.Inside.TheVariants as inside
use Rattle.expression_types.specs.ScopeTree.{entered, sets_of}
use Rattle.types.specs.Block.{statements_typed}
use Rattle.initializer_types.specs.Checker.{CheckerTree, declared_in, integer_slot, with_label, restarted, in_scope}
use Rattle.initializer_types.specs.DeclarationForms.{FunctionKindTree, MainKind, EdgeKind, VertexKind, FilterKind, NoKind, is_bool_type, is_vertex_type, kind, kind_of, main_bytes, takes_nothing}
use Rattle.types.specs.Declaration.{DeclaredTree, begins, declaration_typed, declarations_typed, declare_constant_as}
use Rattle.types.specs.Declaration.{declare_function, declare_name, function_declared, function_of, has_all, inside_of, kind_fits, literal_or_fault, loads}
use Rattle.types.specs.Declaration.{main_declared, next_name, only_edges, opened, parameter, parameters_declared, result_declared, steps_declared, with_main_block, takes_weight}
use Rattle.initializer_types.specs.DeclarationForms.{is_int_type, literal_condition, literal_integer}
use Rattle.initializer_types.specs.Initial.{InitializerTree, initializer_of, is_sound, writes_vector}
use Rattle.types.specs.Program.{main_of, no_declarations, program_of, set_count}
use Rattle.types.specs.Step.{declare_step_as, step_after, step_typed, steps_after, steps_typed, with_writes}
use Rattle.type_laws.specs.AskedVectors.{AskForWritten, AsksForWritten}
use Rattle.type_laws.specs.EachStatement.{HoldsInside, HoldsOfEach, SetNames, names_before, names_after}
use Rattle.type_laws.specs.VisibleSets.{NamesSets, NamesSetsApart}
use Rattle.type_laws.proofs.EdgeAdds.{Adds, adds_none, is_written, steps_add}
use Rattle.type_laws.proofs.EntryAccess.{edge_body, named}
use Rattle.type_laws.proofs.Faultless.{no_left, no_right, not_empty}
use Rattle.type_laws.proofs.KnownDeclarations.{AllKnown, declaration_known, opened_known, ParametersFit}
use Rattle.type_laws.proofs.NamedSets.{EntityStands, Holds, InNames, MainFits, SetsFit, Visible, WrittenFits, all_stand, declared_count, declared_sets, get_cases, labelled_written, other_declared}
use Rattle.type_laws.proofs.NamedSets.{statements_fit}
use Rattle.type_laws.proofs.NamesGrow.{Begins, declared_grow, opened_grow, statements_grow, steps_grow}
use Rattle.type_laws.proofs.ResolvedPrograms.{sets_counted}
use Rattle.type_laws.proofs.ResolvedScopes.{get_before, get_last}

-- the statements of a function change nothing that edge functions before it write
declare_written : (c : CheckerTree) (at : ℕ) (name : Identifier) (initializer : InitializerTree) (type : DeclaredType) → (declare_step_as c at name initializer type).value.1.written ≡ c.written
declare_written c at name initializer declared.Int = refl
declare_written c at name initializer declared.Bool = refl
declare_written c at name initializer declared.Vertex = refl
declare_written c at name initializer declared.VertexSet = refl
declare_written c at name initializer declared.Vector = refl
declare_written c at name initializer declared.EdgeSet = refl
declare_written c at name initializer declared.WeightedEdgeSet = refl

mutual
  step_written : (c : CheckerTree) (action : source.StatementKindTree) → (step_typed c action).value.1.written ≡ c.written
  step_written c (source.Declare at x initial) = declare_written c at x.name (initializer_of c at initial).value x.declared
  step_written c (source.While at test body) = steps_written c NoStep body
  step_written c (source.For at name first limit body) = steps_written (declared_in c name (entity.LoopVariable (integer_slot c))).value NoStep body
  step_written c (source.If at test body) = steps_written c NoStep body
  step_written c (source.IfElse at test body otherwise) =
      let b = (steps_typed c NoStep body).value in steps_written (steps_after c b.1) NoStep otherwise ∙ steps_written c NoStep body
  step_written c (source.Print at e) = refl
  step_written c (source.Assign name initial) = refl
  step_written c (source.Reduce name by e) = refl
  step_written c (source.SetEntry vector index e) = refl
  step_written c (source.ReduceEntry vector index by e) = refl
  step_written c (source.AddVertex set e) = refl
  step_written c (source.Apply target ends function) = refl

  steps_written : (c : CheckerTree) (so_far : FunctionStatementsTree) (block : source.BlockTree) → (steps_typed c so_far block).value.1.written ≡ c.written
  steps_written c so_far source.Empty = refl
  steps_written c so_far (source.Then label action others) =
      let l = (with_label c label).value in
      let s = (step_typed l.1 action).value in
      steps_written s.1 (step_after so_far s.0) others ∙ step_written l.1 action ∙ labelled_written c label

parameters_written : (w : Bool) (c : CheckerTree) (at : Endpoint) (parameters : List ParameterTree) → (parameters_declared w c at parameters).value.written ≡ c.written
parameters_written w c at [] = refl
parameters_written w c at (x ∷ others) = parameters_written w (declared_in c x.name (parameter w at x.declared)).value endpoint.Destination others

result_written : (c : CheckerTree) (kind : FunctionKindTree) (result : Option ParameterTree) → (result_declared c kind result).value.written ≡ c.written
result_written c kind None = refl
result_written c kind (Some result) = refl

opened_written : (c : CheckerTree) (kind : FunctionKindTree) (parameters : List ParameterTree) (result : Option ParameterTree) → (opened c kind parameters result).value.written ≡ c.written
opened_written c kind parameters result =
    let e = with_writes (in_scope c (entered (inside_of kind) c.scope)) [] in
    result_written (parameters_declared (takes_weight kind) e endpoint.Source parameters).value kind result ∙ parameters_written (takes_weight kind) e endpoint.Source parameters

-- an edge function has two vertices as parameters, and the weight or not, and no result
abbrev IsEdge : Bool → List ParameterTree → Option ParameterTree → Type 0
IsEdge weighted [] result = ⊥
IsEdge weighted (src ∷ []) result = ⊥
IsEdge false (src ∷ dst ∷ []) None = (is_vertex_type src.declared ≡ true) × (is_vertex_type dst.declared ≡ true)
IsEdge true (src ∷ dst ∷ []) None = ⊥
IsEdge weighted (src ∷ dst ∷ []) (Some result) = ⊥
IsEdge false (src ∷ dst ∷ w ∷ []) None = ⊥
IsEdge true (src ∷ dst ∷ w ∷ []) None = (is_vertex_type src.declared ≡ true) × (is_vertex_type dst.declared ≡ true) × (is_int_type w.declared ≡ true)
IsEdge weighted (src ∷ dst ∷ w ∷ []) (Some result) = ⊥
IsEdge weighted (src ∷ dst ∷ w ∷ u ∷ others) result = ⊥

abbrev HasShape : FunctionKindTree → List ParameterTree → Option ParameterTree → Type 0
HasShape (EdgeKind weighted) parameters result = IsEdge weighted parameters result
HasShape _ parameters result = Unit {0}

if_shape : (b : Bool) (k l : FunctionKindTree) (parameters : List ParameterTree) (result : Option ParameterTree) → (b ≡ true → HasShape k parameters result) → HasShape l parameters result
    → HasShape (if b then k else l) parameters result
if_shape true k l parameters result first other = first refl
if_shape false k l parameters result first other = other

other_shape : (parameters : List ParameterTree) (result : Option ParameterTree) → HasShape (kind_of parameters result) parameters result
other_shape [] result = tt
other_shape (x ∷ []) None = if_shape (is_vertex_type x.declared) VertexKind NoKind (x ∷ []) None (λ b. tt) tt
other_shape (x ∷ []) (Some result) = if_shape (is_vertex_type x.declared && is_bool_type result.declared) FilterKind NoKind (x ∷ []) (Some result) (λ b. tt) tt
other_shape (x ∷ y ∷ []) None =
    if_shape (is_vertex_type x.declared && is_vertex_type y.declared) (EdgeKind false) NoKind (x ∷ y ∷ []) None (λ b. and_parts (is_vertex_type x.declared) (is_vertex_type y.declared) b) tt
other_shape (x ∷ y ∷ []) (Some result) = tt
other_shape (x ∷ y ∷ z ∷ []) None =
    if_shape (is_vertex_type x.declared && is_vertex_type y.declared && is_int_type z.declared) (EdgeKind true) NoKind (x ∷ y ∷ z ∷ []) None
    (λ b. three_parts (is_vertex_type x.declared) (is_vertex_type y.declared) (is_int_type z.declared) b) tt
  where
    three_parts : (a b c : Bool) → (a && b && c) ≡ true → (a ≡ true) × (b ≡ true) × (c ≡ true)
    three_parts a b c is = let all = and_parts (a && b) c is in let both = and_parts a b all.0 in (both.0, both.1, all.1)
other_shape (x ∷ y ∷ z ∷ []) (Some result) = tt
other_shape (x ∷ y ∷ z ∷ u ∷ others) result = tt

each_shape : (name : List ℕ) (parameters : List ParameterTree) (result : Option ParameterTree) → HasShape (kind name parameters result) parameters result
each_shape name parameters result =
    if_shape (bytes_eq name main_bytes) (MainKind (takes_nothing parameters result)) (kind_of parameters result) parameters result (λ b. tt) (other_shape parameters result)

parameters_write_nothing : (w : Bool) (c : CheckerTree) (at : Endpoint) (parameters : List ParameterTree) → (parameters_declared w c at parameters).value.writes ≡ c.writes
parameters_write_nothing w c at [] = refl
parameters_write_nothing w c at (x ∷ others) = parameters_write_nothing w (declared_in c x.name (parameter w at x.declared)).value endpoint.Destination others

-- what the statements of an edge function add, where nothing was written before
edge_adds : (d : DeclaredTree) (weighted : Bool) (parameters : List ParameterTree) (src dst : List ℕ) (body : source.BlockTree) → ParametersFit weighted (named src dst) endpoint.Source parameters
    → AllKnown d
    → (opened d.checker (EdgeKind weighted) parameters None).faults ≡ [] → (steps_typed (opened d.checker (EdgeKind weighted) parameters None).value NoStep body).faults ≡ []
    → Adds [] (steps_typed (opened d.checker (EdgeKind weighted) parameters None).value NoStep body).value.1.writes
    (steps_write (steps_typed (opened d.checker (EdgeKind weighted) parameters None).value NoStep body).value.0)
edge_adds d weighted parameters src dst body fits known first none =
    let c = opened d.checker (EdgeKind weighted) parameters None in
    let inner = opened_known (named src dst) d.checker (EdgeKind weighted) parameters None fits tt known first in
    let e = with_writes (in_scope d.checker (entered inside.EdgeFunction d.checker.scope)) [] in
    let nothing = parameters_write_nothing weighted e endpoint.Source parameters in
    steps_add (edge_body src dst) [] c.value NoStep body inner none (subst (λ writes. Adds [] writes []) (sym nothing) (adds_none []))

-- a list with one more, at an index
index_cases : {A : Type 0} (xs : List A) (last other : A) (k : ℕ) → (slice_index_or (xs ++ last ∷ []) k other ≡ slice_index_or xs k other)
    ⊎ ((k ≡ length xs) × (slice_index_or (xs ++ last ∷ []) k other ≡ last))
index_cases [] last other zero = inr (refl, refl)
index_cases [] last other (suc k) = inl refl
index_cases (x ∷ xs) last other zero = inl refl
index_cases (x ∷ xs) last other (suc k) =
    elim (index_cases xs last other k) [ inl h ↦ inl h | inr h ↦ (let same : k ≡ length xs = h.0 in inr (omega (arith, same), h.1)) ]

-- the first names of a list
names_length : (count : ℕ) (sets : List ℕ) → length (names_before count sets) ≡ length sets
names_length count [] = refl
names_length zero (x ∷ sets) = ap suc (names_length zero sets)
names_length (suc count) (x ∷ sets) = ap suc (names_length count sets)

name_before : (count : ℕ) (sets : List ℕ) (k a : ℕ) → slice_get (names_before count sets) k ≡ Some (Some a) → (k < count) × (slice_get sets k ≡ Some a)
name_before count [] k a is = absurd (none-some (Some a) is)
name_before zero (x ∷ sets) zero a is = absurd cc
name_before zero (x ∷ sets) (suc k) a is = let further = name_before zero sets k a is in let below : k < 0 = further.0 in absurd (omega arith)
name_before (suc count) (x ∷ sets) zero a is = (omega arith, same_Some (Some x) (Some a) is)
name_before (suc count) (x ∷ sets) (suc k) a is = let further = name_before count sets k a is in let below : k < count = further.0 in (omega arith, further.1)

before_name : (count : ℕ) (sets : List ℕ) (k a : ℕ) → k < count → slice_get sets k ≡ Some a → slice_get (names_before count sets) k ≡ Some (Some a)
before_name count [] k a below is = absurd (none-some a is)
before_name zero (x ∷ sets) k a below is = absurd (omega (arith, below))
before_name (suc count) (x ∷ sets) zero a below is = ap Some is
before_name (suc count) (x ∷ sets) (suc k) a below is = before_name count sets k a (omega (arith, below)) is

-- indices within a list have an element there
within_list : {A : Type 0} (xs : List A) (k : ℕ) → k < length xs → (x : A) × (slice_get xs k ≡ Some x)
within_list [] k below = absurd (omega (arith, below))
within_list (x ∷ xs) zero below = (x, refl)
within_list (x ∷ xs) (suc k) below = within_list xs k (omega (arith, below))

abbrev InSets : List ℕ → Visible
InSets sets index name = slice_get sets index ≡ Some name

module _ (p : ProgramTree) where
  -- the program has all that was declared
  record IsWithin (d : DeclaredTree) : Type 0 where
    pub names : Begins d.checker.names p.names
    pub sets : Begins d.sets p.sets
    pub functions : Begins d.edge_functions p.edge_functions

  name_within : (c : CheckerTree) (name : Identifier) (e : Entity) → Begins (declared_in c name e).value.names p.names → Begins c.names p.names
  name_within c name e within k x is = within k x (declared_grow c name e k x is)

  constant_within : (d : DeclaredTree) (at : ℕ) (name : Identifier) (initial : InitialTree) (type : DeclaredType) (initializer : InitializerTree)
      → IsWithin (declare_constant_as d at name initial type initializer).value → IsWithin d
  constant_within d at name initial declared.Int initializer x = record { names = λ k n is. x.names k n (get_before d.checker.names (name.bytes ∷ []) k n is); sets = x.sets; functions = x.functions }
  constant_within d at name initial declared.Bool initializer x = record { names = λ k n is. x.names k n (get_before d.checker.names (name.bytes ∷ []) k n is); sets = x.sets; functions = x.functions }
  constant_within d at name initial declared.Vertex initializer x = record {
    names = λ k n is. x.names k n (get_before d.checker.names (name.bytes ∷ []) k n is);
    sets = x.sets;
    functions =
        x.functions;
  }
  constant_within d at name initial declared.VertexSet initializer x = record {
    names = λ k n is. x.names k n (get_before d.checker.names (name.bytes ∷ []) k n is);
    sets = λ k n is. x.sets k n (get_before d.sets (next_name d ∷ []) k n is);
    functions = x.functions;
  }
  constant_within d at name initial declared.Vector initializer x = record {
    names = λ k n is. x.names k n (get_before d.checker.names (name.bytes ∷ []) k n is);
    sets = x.sets;
    functions =
        x.functions;
  }
  constant_within d at name initial declared.EdgeSet initializer x = record {
    names = λ k n is. x.names k n (get_before d.checker.names (name.bytes ∷ []) k n is);
    sets = x.sets;
    functions =
        x.functions;
  }
  constant_within d at name initial declared.WeightedEdgeSet initializer x = record {
    names = λ k n is. x.names k n (get_before d.checker.names (name.bytes ∷ []) k n is);
    sets = x.sets;
    functions =
        x.functions;
  }

  function_within : (d : DeclaredTree) (kind : FunctionKindTree) (name : Identifier) (steps : FunctionStatementsTree) → IsWithin (function_declared d kind name steps).value → IsWithin d
  function_within d (MainKind fits) name steps x = record { names = λ k n is. x.names k n (get_before d.checker.names (name.bytes ∷ []) k n is); sets = x.sets; functions = x.functions }
  function_within d (EdgeKind weighted) name steps x = record {
    names = λ k n is. x.names k n (get_before d.checker.names (name.bytes ∷ []) k n is);
    sets = x.sets;
    functions = λ k f is. x.functions k f (get_before d.edge_functions (function_of d steps ∷ []) k f is);
  }
  function_within d VertexKind name steps x = record { names = λ k n is. x.names k n (get_before d.checker.names (name.bytes ∷ []) k n is); sets = x.sets; functions = x.functions }
  function_within d FilterKind name steps x = record { names = λ k n is. x.names k n (get_before d.checker.names (name.bytes ∷ []) k n is); sets = x.sets; functions = x.functions }
  function_within d NoKind name steps x = record { names = λ k n is. x.names k n (get_before d.checker.names (name.bytes ∷ []) k n is); sets = x.sets; functions = x.functions }

  abbrev around : DeclaredTree → CheckerTree → DeclaredTree
  around d c = record d { checker = in_scope c d.checker.scope }

  steps_within : (d : DeclaredTree) (at : ℕ) (kind : FunctionKindTree) (name : Identifier) (parameters : List ParameterTree) (result : Option ParameterTree) (body : source.BlockTree)
      → IsWithin (steps_declared d at kind name parameters result body).value → IsWithin d
  steps_within d at kind name parameters result body x =
      let c = (opened d.checker kind parameters result).value in
      let b = (steps_typed c NoStep body).value in
      let inner = function_within (around d b.1) kind name b.0 x in
      record {
        names = λ k n is. inner.names k n (steps_grow c NoStep body k n (opened_grow d.checker kind parameters result k n is));
        sets = inner.sets;
        functions = inner.functions;
      }

  with_main_within : (e : DeclaredTree) (fits : Bool) (main : BlockTree) → IsWithin (with_main_block e fits main) → IsWithin e
  with_main_within e true main x = record { names = x.names; sets = x.sets; functions = x.functions }
  with_main_within e false main x = x

  -- at the end of main
  main_end_within : (d : DeclaredTree) (fits : Bool) (name : Identifier) (parameters : List ParameterTree) (result : Option ParameterTree) (body : source.BlockTree)
      → IsWithin (main_declared d fits name parameters result body).value
      → IsWithin (around d (statements_typed (opened (restarted d.checker) (MainKind fits) parameters result).value Empty body).value.1)
  main_end_within d fits name parameters result body x =
      let c = (opened (restarted d.checker) (MainKind fits) parameters result).value in
      let b = (statements_typed c Empty body).value in
      let e = (declare_name (around d b.1) name entity.Main).value in
      let inner = with_main_within e fits b.0 x in
      record { names = λ k n is. inner.names k n (get_before b.1.names (name.bytes ∷ []) k n is); sets = inner.sets; functions = inner.functions }

  main_within : (d : DeclaredTree) (fits : Bool) (name : Identifier) (parameters : List ParameterTree) (result : Option ParameterTree) (body : source.BlockTree)
      → IsWithin (main_declared d fits name parameters result body).value → IsWithin d
  main_within d fits name parameters result body x =
      let c = (opened (restarted d.checker) (MainKind fits) parameters result).value in
      let inner = main_end_within d fits name parameters result body x in
      record {
        names = λ k n is. inner.names k n (statements_grow c Empty body k n (opened_grow (restarted d.checker) (MainKind fits) parameters result k n is));
        sets = inner.sets;
        functions = inner.functions;
      }

  declared_function_within : (d : DeclaredTree) (at : ℕ) (name : Identifier) (parameters : List ParameterTree) (result : Option ParameterTree) (body : source.BlockTree) (kind : FunctionKindTree)
      → IsWithin (declare_function d at name parameters result body kind).value → IsWithin d
  declared_function_within d at name parameters result body (MainKind fits) x = main_within d fits name parameters result body x
  declared_function_within d at name parameters result body (EdgeKind weighted) x = steps_within d at (EdgeKind weighted) name parameters result body x
  declared_function_within d at name parameters result body VertexKind x = steps_within d at VertexKind name parameters result body x
  declared_function_within d at name parameters result body FilterKind x = steps_within d at FilterKind name parameters result body x
  declared_function_within d at name parameters result body NoKind x = steps_within d at NoKind name parameters result body x

  declaration_within : (d : DeclaredTree) (x : DeclarationTree) → IsWithin (declaration_typed d x).value → IsWithin d
  declaration_within d (source.Constant at x initial) within = constant_within d at x.name initial x.declared (initializer_of d.checker at initial).value within
  declaration_within d (source.Function at name parameters result body) within = declared_function_within d at name parameters result body (kind name.bytes parameters result) within

  declarations_within : (d : DeclaredTree) (xs : List DeclarationTree) → IsWithin (declarations_typed d xs).value → IsWithin d
  declarations_within d [] within = within
  declarations_within d (x ∷ others) within = declaration_within d x (declarations_within (declaration_typed d x).value others within)

  -- what is known of main
  abbrev MainHolds : Option BlockTree → Type 0
  MainHolds None = Unit {0}
  MainHolds (Some main) = (count : ℕ) × HoldsOfEach (Holds p) (names_before count p.sets) main

  record DeclaredFits (d : DeclaredTree) : Type 0 where
    pub sets : SetsFit p (InSets d.sets) d.checker.scope
    pub count : d.checker.scope.sets ≡ length p.sets
    pub written : WrittenFits p (length d.edge_functions) d.checker.written
    pub known : AllKnown d
    pub main : MainHolds d.main

  -- what is known of the checker but the names of vertices
  record CheckerFits (constants : List ℕ) (functions : ℕ) (c : CheckerTree) : Type 0 where
    pub sets : SetsFit p (InSets constants) c.scope
    pub count : c.scope.sets ≡ length p.sets
    pub written : WrittenFits p functions c.written

  checker_of : (d : DeclaredTree) → DeclaredFits d → CheckerFits d.sets (length d.edge_functions) d.checker
  checker_of d fits = record { sets = fits.sets; count = fits.count; written = fits.written }

  no_set : (sets : List ℕ) (functions : ℕ) (c : CheckerTree) (name : Identifier) (e : Entity) → (declared_in c name e).faults ≡ [] → Begins (declared_in c name e).value.names p.names
      → EntityStands p (InSets sets) e → sets_of e ≡ 0 → CheckerFits sets functions c → CheckerFits sets functions (declared_in c name e).value
  no_set sets functions c name e none within stands nothing fits =
      let V = InSets sets in
      let there = within (length c.names) name.bytes (get_last c.names name.bytes []) in
      let count : (declared_in c name e).value.scope.sets ≡ c.scope.sets + sets_of e = declared_count p V V c name e none there fits.sets (λ k a is. is) 0 (λ k a is. inl is) stands in
      let was : c.scope.sets ≡ length p.sets = fits.count in
      record {
        sets = declared_sets p V V c name e none there fits.sets (λ k a is. is) 0 (λ k a is. inl is) stands;
        count = omega (arith, count, was, nothing);
        written = fits.written;
      }

  new_set : (sets : List ℕ) (functions : ℕ) (c : CheckerTree) (name : Identifier) → (declared_in c name (entity.ConstantSet (record { index = length sets; name = length c.names }))).faults ≡ []
      → Begins (declared_in c name (entity.ConstantSet (record { index = length sets; name = length c.names }))).value.names p.names → CheckerFits sets functions c
      → CheckerFits (sets ++ length c.names ∷ []) functions (declared_in c name (entity.ConstantSet (record { index = length sets; name = length c.names }))).value
  new_set sets functions c name none within fits =
      let new = length c.names in
      let e = entity.ConstantSet (record { index = length sets; name = new }) in
      let V = InSets sets in
      let W = InSets (sets ++ new ∷ []) in
      let there = within (length c.names) name.bytes (get_last c.names name.bytes []) in
      let more = λ (k a : ℕ) (is : V k a). get_before sets (new ∷ []) k a is in
      let less = λ (k a : ℕ) (is : W k a). get_cases sets new k a is in
      let stands : EntityStands p W e = get_last sets new [] in
      let count : (declared_in c name e).value.scope.sets ≡ c.scope.sets + 0 = declared_count p V W c name e none there fits.sets more (length sets) less stands in
      let was : c.scope.sets ≡ length p.sets = fits.count in
      record {
        sets = declared_sets p V W c name e none there fits.sets more (length sets) less stands;
        count = omega (arith, count, was);
        written = fits.written;
      }

  as_declared : (d : DeclaredTree) → CheckerFits d.sets (length d.edge_functions) d.checker → AllKnown d → MainHolds d.main → DeclaredFits d
  as_declared d fits known main = record { sets = fits.sets; count = fits.count; written = fits.written; known = known; main = main }

  -- constants
  constant_fits : (d : DeclaredTree) (at : ℕ) (name : Identifier) (initial : InitialTree) (type : DeclaredType) (initializer : InitializerTree)
      → (declare_constant_as d at name initial type initializer).faults ≡ [] → IsWithin (declare_constant_as d at name initial type initializer).value
      → AllKnown (declare_constant_as d at name initial type initializer).value → DeclaredFits d → DeclaredFits (declare_constant_as d at name initial type initializer).value
  constant_fits d at name initial declared.Int initializer none within known fits =
      let n = literal_or_fault at (is_sound initializer) (pos 0) (literal_integer initial) in
      let e = entity.IntConstant (next_name d) n.value in
      let left = no_left (declared_in d.checker name e).faults [] (no_right n.faults _ none) in
      as_declared _ (no_set d.sets (length d.edge_functions) d.checker name e left within.names tt refl (checker_of d fits)) known fits.main
  constant_fits d at name initial declared.Bool initializer none within known fits =
      let b = literal_or_fault at (is_sound initializer) false (literal_condition initial) in
      let e = entity.BoolConstant (next_name d) b.value in
      let left = no_left (declared_in d.checker name e).faults [] (no_right b.faults _ none) in
      as_declared _ (no_set d.sets (length d.edge_functions) d.checker name e left within.names tt refl (checker_of d fits)) known fits.main
  constant_fits d at name initial declared.Vertex initializer none within known fits = absurd (not_empty _ _ none)
  constant_fits d at name initial declared.VertexSet initializer none within known fits =
      let e = entity.ConstantSet (record { index = length d.sets; name = next_name d }) in
      let named = no_left (declare_name d name e).faults [] (no_right (has_all at initializer).faults _ none) in
      let left = no_left (declared_in d.checker name e).faults [] named in
      as_declared _ (new_set d.sets (length d.edge_functions) d.checker name left within.names (checker_of d fits)) known fits.main
  constant_fits d at name initial declared.Vector initializer none within known fits =
      let e = entity.Vector (length d.vectors) in
      let named = no_left (declare_name d name e).faults [] (no_right (begins at initializer initial).faults _ none) in
      let left = no_left (declared_in d.checker name e).faults [] named in
      as_declared _ (no_set d.sets (length d.edge_functions) d.checker name e left within.names tt refl (checker_of d fits)) known fits.main
  constant_fits d at name initial declared.EdgeSet initializer none within known fits =
      let only = only_edges name (next_name d) d.edges in
      let named = no_right only.faults ((declare_name d name (entity.Edges false)).faults ++ []) (no_right (loads at initializer).faults _ none) in
      let left = no_left (declared_in d.checker name (entity.Edges false)).faults [] (no_left (declare_name d name (entity.Edges false)).faults [] named) in
      as_declared _ (no_set d.sets (length d.edge_functions) d.checker name (entity.Edges false) left within.names tt refl (checker_of d fits)) known fits.main
  constant_fits d at name initial declared.WeightedEdgeSet initializer none within known fits =
      let only = only_edges name (next_name d) d.edges in
      let named = no_right only.faults ((declare_name d name (entity.Edges true)).faults ++ []) (no_right (loads at initializer).faults _ none) in
      let left = no_left (declared_in d.checker name (entity.Edges true)).faults [] (no_left (declare_name d name (entity.Edges true)).faults [] named) in
      as_declared _ (no_set d.sets (length d.edge_functions) d.checker name (entity.Edges true) left within.names tt refl (checker_of d fits)) known fits.main

  abbrev IsEdgeKind : FunctionKindTree → Type 0
  IsEdgeKind (MainKind fits) = ⊥
  IsEdgeKind (EdgeKind weighted) = Unit {0}
  IsEdgeKind VertexKind = ⊥
  IsEdgeKind FilterKind = ⊥
  IsEdgeKind NoKind = ⊥

  -- functions, after their statements
  function_fits : (d : DeclaredTree) (kind : FunctionKindTree) (name : Identifier) (steps : FunctionStatementsTree) → (function_declared d kind name steps).faults ≡ []
      → IsWithin (function_declared d kind name steps).value → AllKnown (function_declared d kind name steps).value → CheckerFits d.sets (length d.edge_functions) d.checker → MainHolds d.main
      → (IsEdgeKind kind → Adds [] d.checker.writes (steps_write steps)) → DeclaredFits (function_declared d kind name steps).value
  function_fits d (MainKind fits) name steps none within known all main adds =
      let left = no_left (declared_in d.checker name entity.Error).faults [] none in
      as_declared _ (no_set d.sets (length d.edge_functions) d.checker name entity.Error left within.names tt refl all) known main
  function_fits d (EdgeKind weighted) name steps none within known all main adds =
      let e = entity.EdgeFunction (length d.edge_functions) weighted in
      let f = function_of d steps in
      let left = no_left (declared_in d.checker name e).faults [] (no_left (declare_name d name e).faults [] none) in
      let inner = no_set d.sets (length d.edge_functions) d.checker name e left within.names tt refl all in
      let there : slice_get p.edge_functions (length d.edge_functions) ≡ Some f = within.functions (length d.edge_functions) f (get_last d.edge_functions f []) in
      let same : length d.checker.written ≡ length d.edge_functions = all.written.0 in
      record {
        sets = inner.sets;
        count = inner.count;
        written = (
          omega (arith, same, length-append d.checker.written (d.checker.writes ∷ []), length-append d.edge_functions (f ∷ [])),
          λ function vector is.
              elim (index_cases d.checker.written d.checker.writes [] function) [
                | inl old ↦ all.written.1 function vector (subst (λ writes. is_some (lookup (nat_eq vector) writes) ≡ true) old is)
                | inr new ↦ own_writes function vector f there (new.0 ∙ same) (steps_write_of steps vector (adds tt) (subst (λ writes. is_some (lookup (nat_eq vector) writes) ≡ true) new.1 is))
              ],
        );
        known = known;
        main = main;
      }
    where
      own_writes : (function vector : ℕ) (f : FunctionTree) → slice_get p.edge_functions (length d.edge_functions) ≡ Some f → function ≡ length d.edge_functions → Contains (steps_write f.steps) vector
          → Contains (function_writes p.edge_functions function) vector
      own_writes function vector f there same has =
          subst (λ (vectors : List ℕ). Contains vectors vector) (sym (ap (λ k. function_writes p.edge_functions k) same ∙ ap steps_write_where there)) has

      steps_write_of : (steps : FunctionStatementsTree) (vector : ℕ) → Adds [] d.checker.writes (steps_write steps) → is_written d.checker.writes vector ≡ true → Contains (steps_write steps) vector
      steps_write_of steps vector adds is = elim (adds vector is) [ inl old ↦ absurd cc | inr new ↦ new ]
  function_fits d VertexKind name steps none within known all main adds =
      let e = entity.VertexFunction (length d.vertex_functions) in
      let left = no_left (declared_in d.checker name e).faults [] (no_left (declare_name d name e).faults [] none) in
      as_declared _ (no_set d.sets (length d.edge_functions) d.checker name e left within.names tt refl all) known main
  function_fits d FilterKind name steps none within known all main adds =
      let e = entity.Filter (length d.filters) in
      let left = no_left (declared_in d.checker name e).faults [] (no_left (declare_name d name e).faults [] none) in
      as_declared _ (no_set d.sets (length d.edge_functions) d.checker name e left within.names tt refl all) known main
  function_fits d NoKind name steps none within known all main adds =
      let left = no_left (declared_in d.checker name entity.Error).faults [] none in
      as_declared _ (no_set d.sets (length d.edge_functions) d.checker name entity.Error left within.names tt refl all) known main

  -- the vectors that an edge function is known to write
  adds_of : (d : DeclaredTree) (kind : FunctionKindTree) (parameters : List ParameterTree) (result : Option ParameterTree) (body : source.BlockTree) → HasShape kind parameters result → AllKnown d
      → (opened d.checker kind parameters result).faults ≡ [] → (steps_typed (opened d.checker kind parameters result).value NoStep body).faults ≡ [] → IsEdgeKind kind
      → Adds [] (steps_typed (opened d.checker kind parameters result).value NoStep body).value.1.writes (steps_write (steps_typed (opened d.checker kind parameters result).value NoStep body).value.0)
  adds_of d (MainKind fits) parameters result body shape known first none is = absurd is
  adds_of d (EdgeKind false) (src ∷ dst ∷ []) None body shape known first none is =
      edge_adds d false (src ∷ dst ∷ []) src.name.bytes dst.name.bytes body (inl (shape.0, refl), (inl (shape.1, refl), tt)) known first none
  adds_of d (EdgeKind true) (src ∷ dst ∷ w ∷ []) None body shape known first none is =
      edge_adds d true (src ∷ dst ∷ w ∷ []) src.name.bytes dst.name.bytes body (inl (shape.0, refl), (inl (shape.1, refl), (inr (refl, shape.2), tt))) known first none
  adds_of d (EdgeKind weighted) [] result body shape known first none is = absurd shape
  adds_of d (EdgeKind weighted) (x ∷ []) result body shape known first none is = absurd shape
  adds_of d (EdgeKind true) (x ∷ y ∷ []) None body shape known first none is = absurd shape
  adds_of d (EdgeKind weighted) (x ∷ y ∷ []) (Some result) body shape known first none is = absurd shape
  adds_of d (EdgeKind false) (x ∷ y ∷ z ∷ []) None body shape known first none is = absurd shape
  adds_of d (EdgeKind weighted) (x ∷ y ∷ z ∷ []) (Some result) body shape known first none is = absurd shape
  adds_of d (EdgeKind weighted) (x ∷ y ∷ z ∷ u ∷ others) result body shape known first none is = absurd shape
  adds_of d VertexKind parameters result body shape known first none is = absurd is
  adds_of d FilterKind parameters result body shape known first none is = absurd is
  adds_of d NoKind parameters result body shape known first none is = absurd is

  steps_fits : (d : DeclaredTree) (at : ℕ) (kind : FunctionKindTree) (name : Identifier) (parameters : List ParameterTree) (result : Option ParameterTree) (body : source.BlockTree)
      → HasShape kind parameters result → (steps_declared d at kind name parameters result body).faults ≡ [] → IsWithin (steps_declared d at kind name parameters result body).value
      → AllKnown (steps_declared d at kind name parameters result body).value → DeclaredFits d → DeclaredFits (steps_declared d at kind name parameters result body).value
  steps_fits d at kind name parameters result body shape none within known fits =
      let c = opened d.checker kind parameters result in
      let b = steps_typed c.value NoStep body in
      let f = function_declared (around d b.value.1) kind name b.value.0 in
      let inner = no_right (kind_fits at kind).faults _ none in
      let both = no_right c.faults (b.faults ++ f.faults) inner in
      let written = subst (λ ws. WrittenFits p (length d.edge_functions) ws) (sym (steps_written c.value NoStep body ∙ opened_written d.checker kind parameters result)) fits.written in
      function_fits (around d b.value.1) kind name b.value.0 (no_right b.faults f.faults both) within known (record { sets = fits.sets; count = fits.count; written = written }) fits.main
      (adds_of d kind parameters result body shape fits.known (no_left c.faults (b.faults ++ f.faults) inner) (no_left b.faults f.faults both))

  -- main
  parameter_stands : (V : Visible) (at : Endpoint) (vertex weight : Bool) → EntityStands p V (if vertex then entity.Parameter at else (if weight then entity.Weight else entity.Error))
  parameter_stands V at true weight = tt
  parameter_stands V at false true = tt
  parameter_stands V at false false = tt

  parameter_sets : (at : Endpoint) (vertex weight : Bool) → sets_of (if vertex then entity.Parameter at else (if weight then entity.Weight else entity.Error)) ≡ 0
  parameter_sets at true weight = refl
  parameter_sets at false true = refl
  parameter_sets at false false = refl

  parameters_fit : (w : Bool) (functions : ℕ) (names : SetNames) (c : CheckerTree) (at : Endpoint) (parameters : List ParameterTree) → (parameters_declared w c at parameters).faults ≡ []
      → Begins (parameters_declared w c at parameters).value.names p.names → MainFits p functions names c → MainFits p functions names (parameters_declared w c at parameters).value
  parameters_fit w functions names c at [] none within fits = fits
  parameters_fit w functions names c at (x ∷ others) none within fits =
      let e = parameter w at x.declared in
      let d = declared_in c x.name e in
      let rest = parameters_declared w d.value endpoint.Destination others in
      let between : Begins d.value.names p.names = λ k n is. within k n (parameters_keep w d.value endpoint.Destination others k n is) in
      parameters_fit w functions names d.value endpoint.Destination others (no_right d.faults rest.faults none) within
      (other_declared p functions names c x.name e (no_left d.faults rest.faults none) between (parameter_stands (InNames names) at (is_vertex_type x.declared) (w && is_int_type x.declared))
      (parameter_sets at (is_vertex_type x.declared) (w && is_int_type x.declared)) fits)
    where
      parameters_keep : (w : Bool) (c : CheckerTree) (at : Endpoint) (parameters : List ParameterTree) → Begins c.names (parameters_declared w c at parameters).value.names
      parameters_keep w c at [] k n is = is
      parameters_keep w c at (x ∷ others) k n is =
          let e = parameter w at x.declared in parameters_keep w (declared_in c x.name e).value endpoint.Destination others k n (declared_grow c x.name e k n is)

  result_fits : (functions : ℕ) (names : SetNames) (c : CheckerTree) (fits : Bool) (result : Option ParameterTree) → (result_declared c (MainKind fits) result).faults ≡ []
      → Begins (result_declared c (MainKind fits) result).value.names p.names → MainFits p functions names c → MainFits p functions names (result_declared c (MainKind fits) result).value
  result_fits functions names c fits None none within all = all
  result_fits functions names c fits (Some result) none within all = other_declared p functions names c result.name entity.Error none within tt refl all

  main_opened : (functions : ℕ) (names : SetNames) (c : CheckerTree) (fits : Bool) (parameters : List ParameterTree) (result : Option ParameterTree)
      → (opened c (MainKind fits) parameters result).faults ≡ []
      → Begins (opened c (MainKind fits) parameters result).value.names p.names → MainFits p functions names c → MainFits p functions names (opened c (MainKind fits) parameters result).value
  main_opened functions names c fits parameters result none within all =
      let e = with_writes (in_scope c (entered inside.Main c.scope)) [] in
      let d = parameters_declared false e endpoint.Source parameters in
      let r = result_declared d.value (MainKind fits) result in
      let sets : SetsFit p (InNames names) e.scope = record { known = all.sets.known; named = all.sets.named; apart = all.sets.apart } in
      let start : MainFits p functions names e = record { sets = sets; count = all.count; low = all.low; written = all.written } in
      let between : Begins d.value.names p.names = λ k n is. within k n (result_keeps d.value fits result k n is) in
      result_fits functions names d.value fits result (no_right d.faults r.faults none) within
      (parameters_fit false functions names e endpoint.Source parameters (no_left d.faults r.faults none) between start)
    where
      result_keeps : (c : CheckerTree) (fits : Bool) (result : Option ParameterTree) → Begins c.names (result_declared c (MainKind fits) result).value.names
      result_keeps c fits None k n is = is
      result_keeps c fits (Some result) k n is = declared_grow c result.name entity.Error k n is

  -- the constant sets that stand before main, by their names
  main_start : (d : DeclaredTree) → IsWithin d → DeclaredFits d → MainFits p (length d.edge_functions) (names_before (length d.sets) p.sets) (restarted d.checker)
  main_start d within fits =
      let names = names_before (length d.sets) p.sets in
      let V = InSets d.sets in
      let W = InNames names in
      let more = λ (k a : ℕ) (is : V k a). before_name (length d.sets) p.sets k a (slice_get_within d.sets k a is) (within.sets k a is) in
      let size : length names ≡ length p.sets = names_length (length d.sets) p.sets in
      record {
        sets = record {
          known = all_stand p V W more d.checker.scope.visible fits.sets.known;
          named = λ k a is. fits.sets.named k a (less k a is);
          apart = λ i j a b first second same. fits.sets.apart i j a b (less i a first) (less j b second) same;
        };
        count = fits.count ∙ sym size;
        low = omega (arith, size);
        written = fits.written;
      }
    where
      less : (k a : ℕ) → InNames (names_before (length d.sets) p.sets) k a → InSets d.sets k a
      less k a is =
          let h = name_before (length d.sets) p.sets k a is in
          let x = within_list d.sets k h.0 in
          let same : Some x.0 ≡ Some a = sym (within.sets k x.0 x.1) ∙ h.1 in
          x.1 ∙ same

  with_main_fits : (e : DeclaredTree) (fits : Bool) (main : BlockTree) → CheckerFits e.sets (length e.edge_functions) e.checker → AllKnown (with_main_block e fits main) → MainHolds e.main
      → ((count : ℕ) × HoldsOfEach (Holds p) (names_before count p.sets) main) → DeclaredFits (with_main_block e fits main)
  with_main_fits e true main all known old new = record { sets = all.sets; count = all.count; written = all.written; known = known; main = new }
  with_main_fits e false main all known old new = record { sets = all.sets; count = all.count; written = all.written; known = known; main = old }

  main_fits : (d : DeclaredTree) (fits : Bool) (name : Identifier) (parameters : List ParameterTree) (result : Option ParameterTree) (body : source.BlockTree)
      → (main_declared d fits name parameters result body).faults ≡ [] → IsWithin (main_declared d fits name parameters result body).value
      → AllKnown (main_declared d fits name parameters result body).value → DeclaredFits d → DeclaredFits (main_declared d fits name parameters result body).value
  main_fits d fits name parameters result body none within known all =
      let c = opened (restarted d.checker) (MainKind fits) parameters result in
      let b = statements_typed c.value Empty body in
      let e = declare_name (around d b.value.1) name entity.Main in
      let functions = length d.edge_functions in
      let names = names_before (length d.sets) p.sets in
      let both = no_right c.faults (b.faults ++ (e.faults ++ [])) none in
      let end = main_end_within d fits name parameters result body within in
      let between : Begins c.value.names p.names = λ k n is. end.names k n (statements_grow c.value Empty body k n is) in
      let first = main_opened functions names (restarted d.checker) fits parameters result (no_left c.faults (b.faults ++ (e.faults ++ [])) none) between
      (main_start d (main_within d fits name parameters result body within) all) in
      let inner = statements_fit p functions names c.value Empty body (no_left b.faults (e.faults ++ []) both) end.names tt first in
      let named = no_left e.faults [] (no_right b.faults (e.faults ++ []) both) in
      let left = no_left (declared_in (in_scope b.value.1 d.checker.scope) name entity.Main).faults [] named in
      let again : CheckerFits d.sets functions (in_scope b.value.1 d.checker.scope) = record { sets = all.sets; count = all.count; written = inner.1.written } in
      with_main_fits e.value fits b.value.0
      (no_set d.sets functions (in_scope b.value.1 d.checker.scope) name entity.Main left (with_main_within e.value fits b.value.0 within).names tt refl again) known all.main
      (length d.sets, inner.0)

  -- declarations
  declared_function_fits : (d : DeclaredTree) (at : ℕ) (name : Identifier) (parameters : List ParameterTree) (result : Option ParameterTree) (body : source.BlockTree) (kind : FunctionKindTree)
      → HasShape kind parameters result → (declare_function d at name parameters result body kind).faults ≡ [] → IsWithin (declare_function d at name parameters result body kind).value
      → AllKnown (declare_function d at name parameters result body kind).value → DeclaredFits d → DeclaredFits (declare_function d at name parameters result body kind).value
  declared_function_fits d at name parameters result body (MainKind fits) shape none within known all = main_fits d fits name parameters result body none within known all
  declared_function_fits d at name parameters result body (EdgeKind weighted) shape none within known all = steps_fits d at (EdgeKind weighted) name parameters result body shape none within known all
  declared_function_fits d at name parameters result body VertexKind shape none within known all = steps_fits d at VertexKind name parameters result body tt none within known all
  declared_function_fits d at name parameters result body FilterKind shape none within known all = steps_fits d at FilterKind name parameters result body tt none within known all
  declared_function_fits d at name parameters result body NoKind shape none within known all = steps_fits d at NoKind name parameters result body tt none within known all

  declaration_fits : (d : DeclaredTree) (x : DeclarationTree) → (declaration_typed d x).faults ≡ [] → IsWithin (declaration_typed d x).value → DeclaredFits d
      → DeclaredFits (declaration_typed d x).value
  declaration_fits d (source.Constant at x initial) none within all =
      let initializer = initializer_of d.checker at initial in
      constant_fits d at x.name initial x.declared initializer.value (no_right initializer.faults _ none) within (declaration_known d (source.Constant at x initial) all.known none) all
  declaration_fits d (source.Function at name parameters result body) none within all =
      declared_function_fits d at name parameters result body (kind name.bytes parameters result) (each_shape name.bytes parameters result) none within
      (declaration_known d (source.Function at name parameters result body) all.known none) all

  declarations_fit : (d : DeclaredTree) (xs : List DeclarationTree) → (declarations_typed d xs).faults ≡ [] → IsWithin (declarations_typed d xs).value → DeclaredFits d
      → DeclaredFits (declarations_typed d xs).value
  declarations_fit d [] none within all = all
  declarations_fit d (x ∷ others) none within all =
      let e = declaration_typed d x in
      let rest = declarations_typed e.value others in
      declarations_fit e.value others (no_right e.faults rest.faults none) within
      (declaration_fits d x (no_left e.faults rest.faults none) (declarations_within e.value others within) all)

  no_declarations_fit : (n : ℕ) → n ≡ length p.sets → DeclaredFits (no_declarations n)
  no_declarations_fit n counted = record {
    sets = record {
      known = tt;
      named = λ index name is. absurd (none-some name is);
      apart = λ i j a b first second same. absurd (none-some a first);
    };
    count = counted;
    written = (refl, λ function vector is. absurd (nothing function vector is));
    known = (refl, tt);
    main = tt;
  }
    where
      nothing : (function vector : ℕ) → writes_vector [] function vector ≡ true → ⊥
      nothing zero vector is = cc
      nothing (suc function) vector is = cc

  main_holds : (length : ℕ) (main : Option BlockTree) → MainHolds main → MainHolds (Some (main_of length main).value)
  main_holds length None holds = (0, tt)
  main_holds length (Some main) holds = holds

-- what holds of each statement, with less said
module _ (P : SetNames → StatementKindTree → Type 0) (Q : SetNames → StatementKindTree → Type 0) (less : (names : SetNames) (a : StatementKindTree) → P names a → Q names a) where
  mutual
    inside_less : (a : StatementKindTree) (names : SetNames) → HoldsInside P names a → HoldsInside Q names a
    inside_less (If c body) names all = each_less body names all
    inside_less (IfElse c body other) names all = (each_less body names all.0, each_less other names all.1)
    inside_less (While c body) names all = each_less body names all
    inside_less (For name first end body) names all = each_less body names all
    inside_less _ names all = tt

    each_less : (b : BlockTree) (names : SetNames) → HoldsOfEach P names b → HoldsOfEach Q names b
    each_less Empty names all = tt
    each_less (Then number label a others) names all = (less names a all.0, inside_less a names all.1, each_less others (names_after a names) all.2)

program_holds : (source : SourceTree) (length : ℕ) → (program_of source length).faults ≡ [] → MainHolds (program_of source length).value (Some (program_of source length).value.main)
program_holds source length none =
    let p = (program_of source length).value in
    let start = no_declarations (set_count source.declarations) in
    let d = declarations_typed start source.declarations in
    let counted = sets_counted start source.declarations in
    let within : IsWithin p d.value = record { names = λ k x is. is; sets = λ k x is. is; functions = λ k x is. is } in
    main_holds p length d.value.main (declarations_fit p start source.declarations (no_left d.faults _ none) within (no_declarations_fit p (set_count source.declarations) (omega
    (arith, counted)))).main

pub names_sets_apart : (source : SourceTree) (length : ℕ) → (program_of source length).faults ≡ [] → NamesSetsApart (program_of source length).value
names_sets_apart source length none =
    let p = (program_of source length).value in
    let all = program_holds source length none in
    record { constants_before = all.0; each = each_less (Holds p) (NamesSets p) (λ names a holds. holds.0) p.main (names_before all.0 p.sets) all.1 }

pub asks_for_written : (source : SourceTree) (length : ℕ) → (program_of source length).faults ≡ [] → AskForWritten (program_of source length).value
asks_for_written source length none =
    let p = (program_of source length).value in
    let all = program_holds source length none in
    record { names = names_before all.0 p.sets; each = each_less (Holds p) (λ names a. AsksForWritten p a) (λ names a holds. holds.1) p.main (names_before all.0 p.sets) all.1 }
