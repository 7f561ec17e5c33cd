-- A function that keeps the rules has no fault, and so has a source that does.
use Rattle.std.proofs.Common.{◌≡◌, refl, sym, subst, ap, ◌∙◌, ℕ, Bool, true, false, if◌then◌else◌, ◌&&◌, List, [], ◌∷◌, ◌++◌, length, Option, Some, None}
use Rattle.std.specs.Prelude.{is_some}
use Rattle.std.specs.Str.{bytes_eq}
use Rattle.std.proofs.lemmas.Slice.Eq.{bytes_eq-Decides}
use Rattle.syntax.specs.Terminals.{Identifier}
use Rattle.syntax.specs.SourceTrees as source
use Rattle.syntax.specs.SourceTrees.{DeclarationTree, ParameterTree, SourceTree}
use Rattle.syntax.specs.declared.declaration.DeclaredType.{DeclaredType}
use Rattle.syntax.specs.declared.declaration.DeclaredType.TheVariants as declared
use Rattle.typed_tree.specs.declared.expression.Endpoint.{Endpoint}
use Rattle.typed_tree.specs.declared.expression.Endpoint.TheVariants as endpoint
use Rattle.typed_tree.specs.BlockTree.{BlockTree, Empty}
use Rattle.typed_tree.specs.FunctionStatementTree.{NoStep}
use Rattle.expression_types.specs.declared.scope.Entity.{Entity}
use Rattle.expression_types.specs.declared.scope.Entity.TheVariants as entity
use Rattle.expression_types.specs.declared.scope.Inside.{Inside}
use Rattle.expression_types.specs.declared.scope.Inside.TheVariants as inside
use Rattle.expression_types.specs.ScopeTree.{entered}
use Rattle.expression_types.specs.Faults.{WithFaults}
use Rattle.types.specs.Block.{statements_typed}
use Rattle.initializer_types.specs.Checker.{CheckerTree, condition_slot, declared_in, restarted, in_scope}
use Rattle.initializer_types.specs.DeclarationForms.{EdgeKind, FilterKind, MainKind, NoKind, VertexKind, is_bool_type, is_vertex_type, kind_of, main_bytes, takes_nothing, is_int_type}
use Rattle.types.specs.Declaration.{DeclaredTree, declaration_typed, declarations_typed, declare_function, declare_name, main_declared, opened, parameter, steps_declared}
use Rattle.types.specs.Program.{main_of, no_declarations, program_of, set_count}
use Rattle.types.specs.Step.{steps_typed, with_writes}
use Rattle.type_laws.specs.KeptRules.{BlockKeeps, DeclarationKeeps, Declarations, DeclarationsKeep, FunctionKeeps, KeepsRules, MainKeeps, after_declaration, after_function, after_main}
use Rattle.type_laws.specs.KeptRules.{known_at_vertex, known_in_filter, known_in_main, known_on_edge, nothing_declared, known_on_weighted_edge, edge_function_after}
use Rattle.type_laws.specs.Meanings as meaning
use Rattle.type_laws.specs.ScopeMeanings.{meaning_of}
use Rattle.type_laws.specs.Meanings.{IsNew, Known, closed_known, known_after, known_behind, labelled_known, reduced_in, with_meaning}
use Rattle.type_laws.proofs.KeptNames.{Matches, declared_kept}
use Rattle.type_laws.proofs.KeptStatements.{statements_kept}
use Rattle.type_laws.proofs.KeptSteps.{steps_kept}
use Rattle.type_laws.proofs.KeptDeclarations.{Agrees, CheckerAgrees, Fits, constant_kept, checker_declared, one_more}
use Rattle.type_laws.proofs.Faultless.{both_none}

label_written : (k : Known) (label : Option Identifier) → (labelled_known k label).written ≡ k.written
label_written k None = refl
label_written k (Some label) = refl

-- what edge functions before it do stands after a statement as it was
mutual
  behind_written : (i : Inside) (k : Known) (action : source.StatementKindTree) → (known_behind i k action).written ≡ k.written
  behind_written i k (source.Declare at p initial) = refl
  behind_written i k (source.While at test body) = after_written i k body
  behind_written i k (source.For at name first limit body) = after_written i (with_meaning k name meaning.LoopName) body
  behind_written i k (source.If at test body) = after_written i k body
  behind_written i k (source.IfElse at test body otherwise) = after_written i (closed_known k (known_after i k body)) otherwise ∙ after_written i k body
  behind_written i k (source.Print at e) = refl
  behind_written i k (source.Assign name initial) = refl
  behind_written i k (source.Reduce name by e) = refl
  behind_written i k (source.SetEntry vector index e) = refl
  behind_written inside.Main k (source.ReduceEntry vector index by e) = refl
  behind_written inside.EdgeFunction k (source.ReduceEntry vector index by e) = refl
  behind_written inside.VertexFunction k (source.ReduceEntry vector index by e) = refl
  behind_written inside.Filter k (source.ReduceEntry vector index by e) = refl
  behind_written i k (source.AddVertex set e) = refl
  behind_written i k (source.Apply target ends function) = refl

  after_written : (i : Inside) (k : Known) (block : source.BlockTree) → (known_after i k block).written ≡ k.written
  after_written i k source.Empty = refl
  after_written i k (source.Then label action others) =
      after_written i (known_behind i (labelled_known k label) action) others ∙ behind_written i (labelled_known k label) action ∙ label_written k label

-- at the first parameter of a function nothing is reduced
abbrev pub begun : CheckerTree → Inside → CheckerTree
begun c i = with_writes (in_scope c (entered i c.scope)) []

pub begun_matches : (c : CheckerTree) (k : Known) (i : Inside) → CheckerAgrees c k → Matches i (begun c i) (known_in_main k)
begun_matches c k i a = record { names = a.names; labels = a.labels; reduced = refl; written = a.written; inside = refl }

-- after a function the scope before it stands again
pub left_agrees : (i : Inside) (c d : CheckerTree) (k after : Known) → CheckerAgrees c k → Matches i d after → CheckerAgrees (in_scope d c.scope) (closed_known k after)
left_agrees i c d k after a m = record { names = a.names; labels = m.labels; written = m.written; inside = a.inside }

-- parameters are vertices
parameter_is : (weighted : Bool) (p : Endpoint) (type : DeclaredType) → type ≡ declared.Vertex → meaning_of (parameter weighted p type) ≡ meaning.Parameter p
parameter_is weighted p type is = subst (λ t. meaning_of (parameter weighted p t) ≡ meaning.Parameter p) (sym is) refl

weight_is : (p : Endpoint) (type : DeclaredType) → type ≡ declared.Int → meaning_of (parameter true p type) ≡ meaning.Weight
weight_is p type is = subst (λ t. meaning_of (parameter true p t) ≡ meaning.Weight) (sym is) refl

abbrev pub Opens : Inside → WithFaults CheckerTree → Known → Type 0
Opens i m k = (m.faults ≡ []) × Matches i m.value k

pub parameter_opens : (weighted : Bool) (i : Inside) (c : CheckerTree) (k : Known) → Matches i c k → (p : Endpoint) (v : ParameterTree) → v.declared ≡ declared.Vertex → IsNew k v.name
    → Opens i (declared_in c v.name (parameter weighted p v.declared)) (with_meaning k v.name (meaning.Parameter p))
parameter_opens weighted i c k m p v is new = declared_kept i c k m v.name (parameter weighted p v.declared) (meaning.Parameter p) (parameter_is weighted p v.declared is) new

pub vertex_opens : (c : CheckerTree) (k : Known) → CheckerAgrees c k → (v : ParameterTree) → v.declared ≡ declared.Vertex → IsNew k v.name
    → Opens inside.VertexFunction (opened c VertexKind (v ∷ []) None) (known_at_vertex k v)
vertex_opens c k a v is new =
    let s = begun c inside.VertexFunction in
    let d = declared_in s v.name (parameter false endpoint.Source v.declared) in
    let one = parameter_opens false inside.VertexFunction s (known_in_main k) (begun_matches c k inside.VertexFunction a) endpoint.Source v is new in
    (both_none (d.faults ++ []) [] (both_none d.faults [] one.0 refl) refl, one.1)

pub filter_opens : (c : CheckerTree) (k : Known) → CheckerAgrees c k → (v test : ParameterTree) → v.declared ≡ declared.Vertex → IsNew k v.name → IsNew (known_at_vertex k v) test.name
    → Opens inside.Filter (opened c FilterKind (v ∷ []) (Some test)) (known_in_filter k v test)
filter_opens c k a v test is new also =
    let s = begun c inside.Filter in
    let d = declared_in s v.name (parameter false endpoint.Source v.declared) in
    let one = parameter_opens false inside.Filter s (known_in_main k) (begun_matches c k inside.Filter a) endpoint.Source v is new in
    let r = declared_in d.value test.name (entity.BoolVariable (condition_slot d.value)) in
    let two = declared_kept inside.Filter d.value (known_at_vertex k v) one.1 test.name (entity.BoolVariable (condition_slot d.value)) meaning.TruthVariable refl also in
    (both_none (d.faults ++ []) r.faults (both_none d.faults [] one.0 refl) two.0, two.1)

pub edge_opens : (c : CheckerTree) (k : Known) → CheckerAgrees c k → (src dst : ParameterTree) → src.declared ≡ declared.Vertex → dst.declared ≡ declared.Vertex → IsNew k src.name
    → IsNew (known_at_vertex k src) dst.name → Opens inside.EdgeFunction (opened c (EdgeKind false) (src ∷ dst ∷ []) None) (known_on_edge k src dst)
edge_opens c k a src dst is also new further =
    let s = begun c inside.EdgeFunction in
    let d = declared_in s src.name (parameter false endpoint.Source src.declared) in
    let one = parameter_opens false inside.EdgeFunction s (known_in_main k) (begun_matches c k inside.EdgeFunction a) endpoint.Source src is new in
    let e = declared_in d.value dst.name (parameter false endpoint.Destination dst.declared) in
    let two = parameter_opens false inside.EdgeFunction d.value (known_at_vertex k src) one.1 endpoint.Destination dst also further in
    (both_none (d.faults ++ (e.faults ++ [])) [] (both_none d.faults _ one.0 (both_none e.faults [] two.0 refl)) refl, two.1)

pub weighted_edge_opens : (c : CheckerTree) (k : Known) → CheckerAgrees c k → (src dst w : ParameterTree) → src.declared ≡ declared.Vertex → dst.declared ≡ declared.Vertex
    → w.declared ≡ declared.Int → IsNew k src.name → IsNew (known_at_vertex k src) dst.name → IsNew (known_on_edge k src dst) w.name
    → Opens inside.EdgeFunction (opened c (EdgeKind true) (src ∷ dst ∷ w ∷ []) None) (known_on_weighted_edge k src dst w)
weighted_edge_opens c k a src dst w is also int new further last =
    let s = begun c inside.EdgeFunction in
    let d = declared_in s src.name (parameter true endpoint.Source src.declared) in
    let one = parameter_opens true inside.EdgeFunction s (known_in_main k) (begun_matches c k inside.EdgeFunction a) endpoint.Source src is new in
    let e = declared_in d.value dst.name (parameter true endpoint.Destination dst.declared) in
    let two = parameter_opens true inside.EdgeFunction d.value (known_at_vertex k src) one.1 endpoint.Destination dst also further in
    let g = declared_in e.value w.name (parameter true endpoint.Destination w.declared) in
    let three = declared_kept inside.EdgeFunction e.value (known_on_edge k src dst) two.1 w.name (parameter true endpoint.Destination w.declared) meaning.Weight
    (weight_is endpoint.Destination w.declared int) last in
    (both_none (d.faults ++ (e.faults ++ (g.faults ++ []))) [] (both_none d.faults _ one.0 (both_none e.faults _ two.0 (both_none g.faults [] three.0 refl))) refl, three.1)

-- the name of a function, after what is in it
name_declared : (d : DeclaredTree) (k : Known) → CheckerAgrees d.checker k → (name : Identifier) (e : Entity) (n : meaning.Meaning) → meaning_of e ≡ n → IsNew k name
    → ((declare_name d name e).faults ≡ []) × CheckerAgrees (declare_name d name e).value.checker (with_meaning k name n)
name_declared d k a name e n is new = let c = checker_declared d.checker k a name e n is new in (both_none (declared_in d.checker name e).faults [] c.0 refl, c.1)

vertex_function_kept : (d : DeclaredTree) (k : Declarations) → Agrees d k → (at : ℕ) (name : Identifier) (v : ParameterTree) (body : source.BlockTree) → IsNew k.known name
    → FunctionKeeps k.known (v ∷ []) None body → Fits (steps_declared d at VertexKind name (v ∷ []) None body) (after_function k name (v ∷ []) None body)
vertex_function_kept d k a at name v body new keeps =
    let o = opened d.checker VertexKind (v ∷ []) None in
    let opens = vertex_opens d.checker k.known a.checker v keeps.0 keeps.1 in
    let b = steps_typed o.value NoStep body in
    let inner = steps_kept inside.VertexFunction o.value (known_at_vertex k.known v) tt opens.1 NoStep body keeps.2 in
    let after = known_after inside.VertexFunction (known_at_vertex k.known v) body in
    let e = record d { checker = in_scope b.value.1 d.checker.scope } in
    let f = entity.VertexFunction (length d.vertex_functions) in
    let named = name_declared e (closed_known k.known after) (left_agrees inside.VertexFunction d.checker b.value.1 k.known after a.checker inner.1) name f meaning.VertexFunction refl new in (
      both_none o.faults _ opens.0 (both_none b.faults _ inner.0 (both_none (declare_name e name f).faults [] named.0 refl)),
      record {
        checker = named.1;
        vectors = a.vectors;
        functions = a.functions ∙ ap length (sym (after_written inside.VertexFunction (known_at_vertex k.known v) body));
        edges = a.edges;
        main =
            a.main;
      },
    )

filter_kept : (d : DeclaredTree) (k : Declarations) → Agrees d k → (at : ℕ) (name : Identifier) (v test : ParameterTree) (body : source.BlockTree) → IsNew k.known name
    → FunctionKeeps k.known (v ∷ []) (Some test) body → Fits (steps_declared d at FilterKind name (v ∷ []) (Some test) body) (after_function k name (v ∷ []) (Some test) body)
filter_kept d k a at name v test body new keeps =
    let o = opened d.checker FilterKind (v ∷ []) (Some test) in
    let opens = filter_opens d.checker k.known a.checker v test keeps.0 keeps.2 keeps.3 in
    let b = steps_typed o.value NoStep body in
    let inner = steps_kept inside.Filter o.value (known_in_filter k.known v test) tt opens.1 NoStep body keeps.4 in
    let after = known_after inside.Filter (known_in_filter k.known v test) body in
    let e = record d { checker = in_scope b.value.1 d.checker.scope } in
    let f = entity.Filter (length d.filters) in
    let named = name_declared e (closed_known k.known after) (left_agrees inside.Filter d.checker b.value.1 k.known after a.checker inner.1) name f meaning.Filter refl new in (
      both_none o.faults _ opens.0 (both_none b.faults _ inner.0 (both_none (declare_name e name f).faults [] named.0 refl)),
      record { checker = named.1; vectors = a.vectors; functions = a.functions ∙ ap length (sym (after_written inside.Filter (known_in_filter k.known v test) body)); edges = a.edges; main = a.main },
    )

-- an edge function, of which this is known at its first statement
edge_function_fits : (d : DeclaredTree) (k : Declarations) → Agrees d k → (at : ℕ) (name : Identifier) (weighted : Bool) (parameters : List ParameterTree) (start : Known) (body : source.BlockTree)
    → Opens inside.EdgeFunction (opened d.checker (EdgeKind weighted) parameters None) start → start.written ≡ k.known.written → IsNew k.known name → BlockKeeps inside.EdgeFunction start body
    → Fits (steps_declared d at (EdgeKind weighted) name parameters None body) (edge_function_after k name weighted (known_after inside.EdgeFunction start body))
edge_function_fits d k a at name weighted parameters start body opens written new keeps =
    let o = opened d.checker (EdgeKind weighted) parameters None in
    let b = steps_typed o.value NoStep body in
    let inner = steps_kept inside.EdgeFunction o.value start tt opens.1 NoStep body keeps in
    let after = known_after inside.EdgeFunction start body in
    let e = record d { checker = in_scope b.value.1 d.checker.scope } in
    let f = entity.EdgeFunction (length d.edge_functions) weighted in
    let named = name_declared e (closed_known k.known after) (left_agrees inside.EdgeFunction d.checker b.value.1 k.known after a.checker inner.1) name f
    (meaning.EdgeFunction (length k.known.written) weighted) (ap (λ n. meaning.EdgeFunction n weighted) a.functions) new in (
      both_none o.faults _ opens.0 (both_none b.faults _ inner.0 (both_none (declare_name e name f).faults [] named.0 refl)),
      record {
        checker = record {
          names = named.1.names;
          labels = named.1.labels;
          written = ap (λ ws. ws ++ b.value.1.writes ∷ []) named.1.written ∙ ap (λ r. after.written ++ r ∷ []) inner.1.reduced;
          inside = named.1.inside;
        };
        vectors = a.vectors;
        functions = one_more d.edge_functions _ (length k.known.written) a.functions
            ∙ sym (one_more after.written after.reduced (length k.known.written) (ap length (after_written inside.EdgeFunction start body ∙ written)));
        edges = a.edges;
        main = a.main;
      },
    )

edge_function_kept : (d : DeclaredTree) (k : Declarations) → Agrees d k → (at : ℕ) (name : Identifier) (src dst : ParameterTree) (body : source.BlockTree) → IsNew k.known name
    → FunctionKeeps k.known (src ∷ dst ∷ []) None body → Fits (steps_declared d at (EdgeKind false) name (src ∷ dst ∷ []) None body) (after_function k name (src ∷ dst ∷ []) None body)
edge_function_kept d k a at name src dst body new keeps =
    edge_function_fits d k a at name false (src ∷ dst ∷ []) (known_on_edge k.known src dst) body
    (edge_opens d.checker k.known a.checker src dst keeps.0 keeps.1 keeps.2 keeps.3) refl new keeps.4

weighted_function_kept : (d : DeclaredTree) (k : Declarations) → Agrees d k → (at : ℕ) (name : Identifier) (src dst w : ParameterTree) (body : source.BlockTree) → IsNew k.known name
    → FunctionKeeps k.known (src ∷ dst ∷ w ∷ []) None body
    → Fits (steps_declared d at (EdgeKind true) name (src ∷ dst ∷ w ∷ []) None body) (after_function k name (src ∷ dst ∷ w ∷ []) None body)
weighted_function_kept d k a at name src dst w body new keeps =
    edge_function_fits d k a at name true (src ∷ dst ∷ w ∷ []) (known_on_weighted_edge k.known src dst w) body
    (weighted_edge_opens d.checker k.known a.checker src dst w keeps.0 keeps.1 keeps.2 keeps.3 keeps.4 keeps.5) refl new keeps.6

main_kept : (d : DeclaredTree) (k : Declarations) → Agrees d k → (name : Identifier) (parameters : List ParameterTree) (result : Option ParameterTree) (body : source.BlockTree) → IsNew k.known name
    → MainKeeps k.known parameters result body → Fits (main_declared d (takes_nothing parameters result) name parameters result body) (after_main k name body)
main_kept d k a name parameters result body new keeps =
    subst (λ ps. Fits (main_declared d (takes_nothing ps result) name ps result body) (after_main k name body)) (sym keeps.0)
    (subst (λ r. Fits (main_declared d (takes_nothing [] r) name [] r body) (after_main k name body)) (sym keeps.1) (plain_main keeps.2))
  where
    plain_main : BlockKeeps inside.Main (known_in_main k.known) body → Fits (main_declared d true name [] None body) (after_main k name body)
    plain_main within =
        let s = begun (restarted d.checker) inside.Main in
        let b = statements_typed s Empty body in
        let inner = statements_kept s (known_in_main k.known) (record {
          names = a.checker.names;
          labels = a.checker.labels;
          reduced = refl;
          written = a.checker.written;
          inside =
              refl;
        }) Empty body within in
        let after = known_after inside.Main (known_in_main k.known) body in
        let e = record d { checker = in_scope b.value.1 d.checker.scope } in
        let named = name_declared e (closed_known k.known after) (left_agrees inside.Main d.checker b.value.1 k.known after a.checker inner.1) name entity.Main meaning.Main refl new in (
          both_none b.faults _ inner.0 (both_none (declare_name e name entity.Main).faults [] named.0 refl),
          record { checker = named.1; vectors = a.vectors; functions = a.functions ∙ ap length (sym (after_written inside.Main (known_in_main k.known) body)); edges = a.edges; main = refl },
        )

-- the kind of a function that keeps the rules
pub vertex_kind : (v : DeclaredType) → v ≡ declared.Vertex → (if is_vertex_type v then VertexKind else NoKind) ≡ VertexKind
vertex_kind v is = subst (λ t. (if is_vertex_type t then VertexKind else NoKind) ≡ VertexKind) (sym is) refl

pub filter_kind : (v test : DeclaredType) → v ≡ declared.Vertex → test ≡ declared.Bool → (if is_vertex_type v && is_bool_type test then FilterKind else NoKind) ≡ FilterKind
filter_kind v test is also =
    subst (λ t. (if is_vertex_type t && is_bool_type test then FilterKind else NoKind) ≡ FilterKind) (sym is)
    (subst (λ t. (if is_bool_type t then FilterKind else NoKind) ≡ FilterKind) (sym also) refl)

pub edge_kind : (src dst : DeclaredType) → src ≡ declared.Vertex → dst ≡ declared.Vertex → (if is_vertex_type src && is_vertex_type dst then EdgeKind false else NoKind) ≡ EdgeKind false
edge_kind src dst is also =
    subst (λ t. (if is_vertex_type t && is_vertex_type dst then EdgeKind false else NoKind) ≡ EdgeKind false) (sym is)
    (subst (λ t. (if is_vertex_type t then EdgeKind false else NoKind) ≡ EdgeKind false) (sym also) refl)

pub weighted_kind : (src dst w : DeclaredType) → src ≡ declared.Vertex → dst ≡ declared.Vertex → w ≡ declared.Int
    → (if is_vertex_type src && is_vertex_type dst && is_int_type w then EdgeKind true else NoKind) ≡ EdgeKind true
weighted_kind src dst w is also int =
    subst (λ t. (if is_vertex_type t && is_vertex_type dst && is_int_type w then EdgeKind true else NoKind) ≡ EdgeKind true) (sym is)
    (subst (λ t. (if is_vertex_type t && is_int_type w then EdgeKind true else NoKind) ≡ EdgeKind true) (sym also)
    (subst (λ t. (if is_int_type t then EdgeKind true else NoKind) ≡ EdgeKind true) (sym int) refl))

user_function_kept : (d : DeclaredTree) (k : Declarations) → Agrees d k → (at : ℕ) (name : Identifier) (parameters : List ParameterTree) (result : Option ParameterTree) (body : source.BlockTree)
    → IsNew k.known name → FunctionKeeps k.known parameters result body
    → Fits (declare_function d at name parameters result body (kind_of parameters result)) (after_function k name parameters result body)
user_function_kept d k a at name [] result body new keeps = absurd keeps
user_function_kept d k a at name (v ∷ []) None body new keeps =
    subst (λ f. Fits (declare_function d at name (v ∷ []) None body f) (after_function k name (v ∷ []) None body)) (sym (vertex_kind v.declared keeps.0))
    (vertex_function_kept d k a at name v body new keeps)
user_function_kept d k a at name (v ∷ []) (Some test) body new keeps =
    subst (λ f. Fits (declare_function d at name (v ∷ []) (Some test) body f) (after_function k name (v ∷ []) (Some test) body)) (sym (filter_kind v.declared test.declared keeps.0 keeps.1))
    (filter_kept d k a at name v test body new keeps)
user_function_kept d k a at name (src ∷ dst ∷ []) None body new keeps =
    subst (λ f. Fits (declare_function d at name (src ∷ dst ∷ []) None body f) (after_function k name (src ∷ dst ∷ []) None body)) (sym (edge_kind src.declared dst.declared keeps.0 keeps.1))
    (edge_function_kept d k a at name src dst body new keeps)
user_function_kept d k a at name (src ∷ dst ∷ []) (Some result) body new keeps = absurd keeps
user_function_kept d k a at name (src ∷ dst ∷ w ∷ []) None body new keeps =
    subst (λ f. Fits (declare_function d at name (src ∷ dst ∷ w ∷ []) None body f) (after_function k name (src ∷ dst ∷ w ∷ []) None body))
    (sym (weighted_kind src.declared dst.declared w.declared keeps.0 keeps.1 keeps.2)) (weighted_function_kept d k a at name src dst w body new keeps)
user_function_kept d k a at name (src ∷ dst ∷ w ∷ []) (Some result) body new keeps = absurd keeps
user_function_kept d k a at name (x ∷ y ∷ z ∷ u ∷ others) result body new keeps = absurd keeps

function_kept : (d : DeclaredTree) (k : Declarations) → Agrees d k → (at : ℕ) (name : Identifier) (parameters : List ParameterTree) (result : Option ParameterTree) (body : source.BlockTree)
    → (b : Bool) → bytes_eq name.bytes main_bytes ≡ b → DeclarationKeeps k (source.Function at name parameters result body)
    → Fits (declare_function d at name parameters result body (if b then MainKind (takes_nothing parameters result) else kind_of parameters result))
    (if b then after_main k name body else after_function k name parameters result body)
function_kept d k a at name parameters result body true is keeps = main_kept d k a name parameters result body keeps.0 (keeps.1 ((bytes_eq-Decides name.bytes main_bytes).0 is))
function_kept d k a at name parameters result body false is keeps =
    user_function_kept d k a at name parameters result body keeps.0 (keeps.2 (λ same. differs ((bytes_eq-Decides name.bytes main_bytes).1 same)))
  where
    differs : bytes_eq name.bytes main_bytes ≡ true → ⊥
    differs same = cc

pub declaration_kept : (d : DeclaredTree) (k : Declarations) → Agrees d k → (x : DeclarationTree) → DeclarationKeeps k x → Fits (declaration_typed d x) (after_declaration k x)
declaration_kept d k a (source.Constant at p initial) keeps = constant_kept d k a at p p.declared initial refl keeps.0 keeps.1
declaration_kept d k a (source.Function at name parameters result body) keeps = function_kept d k a at name parameters result body (bytes_eq name.bytes main_bytes) refl keeps

declarations_kept : (d : DeclaredTree) (k : Declarations) → Agrees d k → (declarations : List DeclarationTree) → DeclarationsKeep k declarations
    → ((declarations_typed d declarations).faults ≡ []) × (is_some (declarations_typed d declarations).value.main ≡ true)
declarations_kept d k a [] keeps = (refl, a.main ∙ keeps)
declarations_kept d k a (x ∷ others) keeps =
    let here = declaration_kept d k a x keeps.0 in
    let rest = declarations_kept (declaration_typed d x).value (after_declaration k x) here.1 others keeps.1 in
    (both_none (declaration_typed d x).faults _ here.0 rest.0, rest.1)

main_there : (length : ℕ) (main : Option BlockTree) → is_some main ≡ true → (main_of length main).faults ≡ []
main_there length None is = cc
main_there length (Some main) is = refl

pub source_kept : (source : SourceTree) (length : ℕ) → KeepsRules source → (program_of source length).faults ≡ []
source_kept source length keeps =
    let begins = no_declarations (set_count source.declarations) in
    let all = declarations_kept begins nothing_declared (record {
      checker = record { names = refl; labels = refl; written = refl; inside = refl };
      vectors = refl;
      functions = refl;
      edges =
          refl;
      main = refl;
    })
    source.declarations keeps in
    let d = declarations_typed begins source.declarations in
    both_none d.faults _ all.0 (both_none (main_of length d.value.main).faults [] (main_there length d.value.main all.1) refl)
