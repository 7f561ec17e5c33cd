-- The declarations of a source without a fault, one after the other, and which kind each function is.
use Rattle.std.proofs.Common.{◌≡◌, ◌≢◌, subst, Bool, true, false, ◌&&◌, if◌then◌else◌, ℕ, List, [], ◌∷◌, Option, Some, None}
use Rattle.std.specs.Str.{bytes_eq}
use Rattle.std.specs.List.{AllByRecursion}
use Rattle.std.proofs.lemmas.Slice.Eq.{bytes_eq-Decides}
use Rattle.syntax.specs.Terminals.{Identifier}
use Rattle.syntax.specs.SourceTrees as source
use Rattle.syntax.specs.SourceTrees.{ParameterTree, DeclarationTree}
use Rattle.initializer_types.specs.DeclarationForms.{FunctionKindTree, MainKind, EdgeKind, VertexKind, FilterKind, NoKind, is_bool_type}
use Rattle.types.specs.Declaration.{DeclaredTree, declaration_typed, declarations_typed, declare_function, main_declared, steps_declared}
use Rattle.initializer_types.specs.DeclarationForms.{is_vertex_type, kind_of, main_bytes, takes_nothing, is_int_type}
use Rattle.type_laws.proofs.Faultless.{no_left, no_right}

-- what holds of each declaration, where something is known before it and after it
pub each_declaration : (Known : DeclaredTree → Type 0) (P : DeclarationTree → Type 0)
    → ((d : DeclaredTree) (x : DeclarationTree) → Known d → (declaration_typed d x).faults ≡ [] → P x × Known (declaration_typed d x).value)
    → (d : DeclaredTree) (xs : List DeclarationTree) → Known d → (declarations_typed d xs).faults ≡ [] → AllByRecursion P xs
each_declaration Known P one d [] known none = tt
each_declaration Known P one d (x ∷ others) known none =
    let e = declaration_typed d x in
    let rest = declarations_typed e.value others in
    let first = one d x known (no_left e.faults rest.faults none) in
    (first.0, each_declaration Known P one e.value others first.1 (no_right e.faults rest.faults none))

-- a function of a user
abbrev pub IsUserKind : FunctionKindTree → Type 0
IsUserKind (MainKind fits) = ⊥
IsUserKind (EdgeKind weighted) = Unit {0}
IsUserKind VertexKind = Unit {0}
IsUserKind FilterKind = Unit {0}
IsUserKind NoKind = Unit {0}

if_user : (b : Bool) (k : FunctionKindTree) → IsUserKind k → IsUserKind (if b then k else NoKind)
if_user true k is = is
if_user false k is = tt

pub user_kind : (parameters : List ParameterTree) (result : Option ParameterTree) → IsUserKind (kind_of parameters result)
user_kind [] result = tt
user_kind (v ∷ []) None = if_user (is_vertex_type v.declared) VertexKind tt
user_kind (v ∷ []) (Some result) = if_user (is_vertex_type v.declared && is_bool_type result.declared) FilterKind tt
user_kind (src ∷ dst ∷ []) None = if_user (is_vertex_type src.declared && is_vertex_type dst.declared) (EdgeKind false) tt
user_kind (src ∷ dst ∷ []) (Some result) = tt
user_kind (src ∷ dst ∷ w ∷ []) None = if_user (is_vertex_type src.declared && is_vertex_type dst.declared && is_int_type w.declared) (EdgeKind true) tt
user_kind (src ∷ dst ∷ w ∷ []) (Some result) = tt
user_kind (a ∷ b ∷ c ∷ d ∷ others) result = tt

is_not_main : (name : List ℕ) (b : Bool) → bytes_eq name main_bytes ≡ b → name ≢ main_bytes → b ≡ false
is_not_main name true test other = absurd (other ((bytes_eq-Decides name main_bytes).0 test))
is_not_main name false test other = λ i. false

user_steps : (d : DeclaredTree) (at : ℕ) (name : Identifier) (parameters : List ParameterTree) (result : Option ParameterTree) (body : source.BlockTree) (kind : FunctionKindTree) → IsUserKind kind
    → (declare_function d at name parameters result body kind).faults ≡ [] → (steps_declared d at kind name parameters result body).faults ≡ []
user_steps d at name parameters result body (MainKind fits) user none = absurd user
user_steps d at name parameters result body (EdgeKind weighted) user none = none
user_steps d at name parameters result body VertexKind user none = none
user_steps d at name parameters result body FilterKind user none = none
user_steps d at name parameters result body NoKind user none = none

-- a function with another name than `main` is a function of a user
pub user_declared : (d : DeclaredTree) (at : ℕ) (name : Identifier) (parameters : List ParameterTree) (result : Option ParameterTree) (body : source.BlockTree) → name.bytes ≢ main_bytes
    → (declaration_typed d (source.Function at name parameters result body)).faults ≡ []
    → (steps_declared d at (kind_of parameters result) name parameters result body).faults ≡ []
user_declared d at name parameters result body other none =
    let test = is_not_main name.bytes (bytes_eq name.bytes main_bytes) (λ i. bytes_eq name.bytes main_bytes) other in
    user_steps d at name parameters result body (kind_of parameters result) (user_kind parameters result)
    (subst (λ b. (declare_function d at name parameters result body (if b then MainKind (takes_nothing parameters result) else kind_of parameters result)).faults ≡ []) test none)

-- and one of that name is the function that is run
pub main_is_declared : (d : DeclaredTree) (at : ℕ) (name : Identifier) (parameters : List ParameterTree) (result : Option ParameterTree) (body : source.BlockTree) → name.bytes ≡ main_bytes
    → (declaration_typed d (source.Function at name parameters result body)).faults ≡ []
    → (main_declared d (takes_nothing parameters result) name parameters result body).faults ≡ []
main_is_declared d at name parameters result body is none =
    subst (λ b. (declare_function d at name parameters result body (if b then MainKind (takes_nothing parameters result) else kind_of parameters result)).faults ≡ [])
    ((bytes_eq-Decides name.bytes main_bytes).1 is) none
