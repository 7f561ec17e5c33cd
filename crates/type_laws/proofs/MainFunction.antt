-- A source without a fault declares main once.
use Rattle.std.proofs.Common.{◌≡◌, ◌≢◌, refl, sym, subst, ◌∙◌, inl, inr, ◌⊎◌, ℕ, suc, ◌≤◌, arith, Bool, true, false, if◌then◌else◌, List, [], ◌∷◌, ◌++◌, Option, Some, None}
use Rattle.std.specs.Str.{bytes_eq}
use Rattle.std.specs.List.{AllByRecursion}
use Rattle.std.proofs.lemmas.Slice.Eq.{bytes_eq-Decides}
use Rattle.syntax.specs.Terminals.{Identifier}
use Rattle.syntax.specs.declared.declaration.DeclaredType.{DeclaredType}
use Rattle.syntax.specs.declared.declaration.DeclaredType.TheVariants as declared
use Rattle.syntax.specs.SourceTrees as source
use Rattle.syntax.specs.SourceTrees.{ParameterTree, InitialTree, DeclarationTree, SourceTree}
use Rattle.typed_tree.specs.BlockTree.{BlockTree, Empty}
use Rattle.expression_types.specs.declared.scope.Entity.TheVariants as entity
use Rattle.types.specs.Block.{statements_typed}
use Rattle.initializer_types.specs.Checker.{restarted, in_scope}
use Rattle.initializer_types.specs.DeclarationForms.{FunctionKindTree, MainKind, EdgeKind, VertexKind, FilterKind, NoKind, kind_of, main_bytes, takes_nothing}
use Rattle.types.specs.Declaration.{DeclaredTree, declaration_typed, declarations_typed, declare_constant_as, declare_function, declare_name, opened, with_main_block}
use Rattle.initializer_types.specs.Initial.{InitializerTree, initializer_of}
use Rattle.type_laws.specs.MainFunction.{DeclaresMain, IsMain, functions_named}
use Rattle.type_laws.specs.NewNames.{DeclarationsDeclareNew, IsNew}
use Rattle.types.specs.Program.{main_of, no_declarations, program_of, set_count}
use Rattle.type_laws.proofs.EachDeclaration.{IsUserKind, user_kind}
use Rattle.type_laws.proofs.Faultless.{no_left, no_right, not_empty}
use Rattle.type_laws.proofs.NewNames.{names_are_new}

-- main was declared, or is none
abbrev IsThere : Option BlockTree → Type 0
IsThere None = ⊥
IsThere (Some main) = Unit {0}

constant_main : (d : DeclaredTree) (at : ℕ) (name : Identifier) (initial : InitialTree) (type : DeclaredType) (initializer : InitializerTree)
    → (declare_constant_as d at name initial type initializer).value.main ≡ d.main
constant_main d at name initial declared.Int initializer = refl
constant_main d at name initial declared.Bool initializer = refl
constant_main d at name initial declared.Vertex initializer = refl
constant_main d at name initial declared.VertexSet initializer = refl
constant_main d at name initial declared.Vector initializer = refl
constant_main d at name initial declared.EdgeSet initializer = refl
constant_main d at name initial declared.WeightedEdgeSet initializer = refl

-- main stands, or was there before
taken : (d : DeclaredTree) (fits : Bool) (main : BlockTree) → IsThere (with_main_block d fits main).main → (fits ≡ true) ⊎ IsThere d.main
taken d true main there = inl refl
taken d false main there = inr there

kept_main : (d : DeclaredTree) (at : ℕ) (name : Identifier) (parameters : List ParameterTree) (result : Option ParameterTree) (body : source.BlockTree) (kind : FunctionKindTree) → IsUserKind kind
    → (declare_function d at name parameters result body kind).value.main ≡ d.main
kept_main d at name parameters result body (MainKind fits) user = absurd user
kept_main d at name parameters result body (EdgeKind weighted) user = refl
kept_main d at name parameters result body VertexKind user = refl
kept_main d at name parameters result body FilterKind user = refl
kept_main d at name parameters result body NoKind user = refl

nothing_taken : (parameters : List ParameterTree) (result : Option ParameterTree) → takes_nothing parameters result ≡ true → (parameters ≡ []) × (result ≡ None)
nothing_taken [] None is = (refl, refl)
nothing_taken [] (Some result) is = absurd cc
nothing_taken (p ∷ others) result is = absurd cc

function_main : (d : DeclaredTree) (at : ℕ) (name : Identifier) (parameters : List ParameterTree) (result : Option ParameterTree) (body : source.BlockTree) (b : Bool)
    → bytes_eq name.bytes main_bytes ≡ b
    → IsThere (declare_function d at name parameters result body (if b then MainKind (takes_nothing parameters result) else kind_of parameters result)).value.main
    → IsMain name parameters result ⊎ IsThere d.main
function_main d at name parameters result body true test there =
    let fits = takes_nothing parameters result in
    let b = (statements_typed (opened (restarted d.checker) (MainKind fits) parameters result).value Empty body).value in
    let e = (declare_name (record d { checker = in_scope b.1 d.checker.scope }) name entity.Main).value in
    elim (taken e fits b.0 there) [
      | inl is ↦ let all = nothing_taken parameters result is in inl ((bytes_eq-Decides name.bytes main_bytes).0 test, all.0, all.1)
      | inr before ↦ inr before
    ]
function_main d at name parameters result body false test there =
    inr (subst IsThere (kept_main d at name parameters result body (kind_of parameters result) (user_kind parameters result)) there)

main_is_among : (d : DeclaredTree) (xs : List DeclarationTree) → IsThere (declarations_typed d xs).value.main → DeclaresMain xs ⊎ IsThere d.main
main_is_among d [] there = inr there
main_is_among d (source.Constant at x initial ∷ others) there =
    elim (main_is_among (declaration_typed d (source.Constant at x initial)).value others there) [
      | inl among ↦ inl among
      | inr before ↦ inr (subst IsThere (constant_main d at x.name initial x.declared (initializer_of d.checker at initial).value) before)
    ]
main_is_among d (source.Function at name parameters result body ∷ others) there =
    elim (main_is_among (declaration_typed d (source.Function at name parameters result body)).value others there) [
      | inl among ↦ inl (inr among)
      | inr behind ↦ elim (function_main d at name parameters result body (bytes_eq name.bytes main_bytes) refl behind) [
        | inl is ↦ inl (inl is)
        | inr before ↦ inr before
      ]
    ]

main_is_met : (length : ℕ) (main : Option BlockTree) → (main_of length main).faults ≡ [] → IsThere main
main_is_met length None none = not_empty _ _ none
main_is_met length (Some main) none = tt

not_before : (xs : List DeclarationTree) → DeclaresMain xs ⊎ ⊥ → DeclaresMain xs
not_before xs (inl among) = among
not_before xs (inr before) = absurd before

pub main_is_declared_somewhere : (source : SourceTree) (length : ℕ) → (program_of source length).faults ≡ [] → DeclaresMain source.declarations
main_is_declared_somewhere source length none =
    let start = no_declarations (set_count source.declarations) in
    let d = declarations_typed start source.declarations in
    let there = main_is_met length d.value.main (no_left (main_of length d.value.main).faults [] (no_right d.faults _ none)) in
    not_before source.declarations (main_is_among start source.declarations there)

-- a name that is visible
abbrev Has : List (List ℕ) → List ℕ → Type 0
Has [] name = ⊥
Has (other ∷ others) name = (name ≡ other) ⊎ Has others name

has_more : (visible more : List (List ℕ)) (name : List ℕ) → Has visible name → Has (visible ++ more) name
has_more [] more name has = absurd has
has_more (other ∷ others) more name (inl is) = inl is
has_more (other ∷ others) more name (inr has) = inr (has_more others more name has)

has_last : (visible : List (List ℕ)) (name last : List ℕ) → name ≡ last → Has (visible ++ last ∷ []) name
has_last [] name last is = inl is
has_last (other ∷ others) name last is = inr (has_last others name last is)

has_is_not_new : (visible : List (List ℕ)) (name : List ℕ) → Has visible name → AllByRecursion (λ other. name ≢ other) visible → ⊥
has_is_not_new [] name has new = has
has_is_not_new (other ∷ others) name (inl is) new = new.0 is
has_is_not_new (other ∷ others) name (inr has) new = has_is_not_new others name has new.1

-- where the name is visible no function has it
first_not_named : (visible : List (List ℕ)) (name : List ℕ) (own : Identifier) (b : Bool) (n : ℕ) → bytes_eq own.bytes name ≡ b → Has visible name → IsNew visible own → n ≡ 0
    → (if b then suc n else n) ≡ 0
first_not_named visible name own true n test has new rest =
    absurd (has_is_not_new visible own.bytes (subst (Has visible) (sym ((bytes_eq-Decides own.bytes name).0 test)) has) new)
first_not_named visible name own false n test has new rest = rest

none_named : (visible : List (List ℕ)) (name : List ℕ) (xs : List DeclarationTree) → Has visible name → DeclarationsDeclareNew visible xs → functions_named name xs ≡ 0
none_named visible name [] has new = refl
none_named visible name (source.Constant at x initial ∷ others) has new =
    none_named (visible ++ x.name.bytes ∷ []) name others (has_more visible (x.name.bytes ∷ []) name has) new.1
none_named visible name (source.Function at own parameters result body ∷ others) has new =
    let rest = none_named (visible ++ own.bytes ∷ []) name others (has_more visible (own.bytes ∷ []) name has) new.1 in
    first_not_named visible name own (bytes_eq own.bytes name) (functions_named name others) refl has new.0.1 rest

first_named : (visible : List (List ℕ)) (name : List ℕ) (own : Identifier) (b : Bool) (others : List DeclarationTree) → bytes_eq own.bytes name ≡ b
    → DeclarationsDeclareNew (visible ++ own.bytes ∷ []) others → functions_named name others ≤ 1
    → (if b then suc (functions_named name others) else functions_named name others) ≤ 1
first_named visible name own true others test new few =
    let is = (bytes_eq-Decides own.bytes name).0 test in
    let no_more = none_named (visible ++ own.bytes ∷ []) name others (has_last visible name own.bytes (sym is)) new in
    omega (arith, no_more)
first_named visible name own false others test new few = few

few_named : (visible : List (List ℕ)) (name : List ℕ) (xs : List DeclarationTree) → DeclarationsDeclareNew visible xs → functions_named name xs ≤ 1
few_named visible name [] new = omega arith
few_named visible name (source.Constant at x initial ∷ others) new = few_named (visible ++ x.name.bytes ∷ []) name others new.1
few_named visible name (source.Function at own parameters result body ∷ others) new =
    first_named visible name own (bytes_eq own.bytes name) others refl new.1 (few_named (visible ++ own.bytes ∷ []) name others new.1)

some_named : (b : Bool) (n : ℕ) → (b ≡ true) ⊎ (1 ≤ n) → 1 ≤ (if b then suc n else n)
some_named true n is = omega arith
some_named false n (inl is) = absurd cc
some_named false n (inr more) = more

at_least_one : (xs : List DeclarationTree) → DeclaresMain xs → 1 ≤ functions_named main_bytes xs
at_least_one [] among = absurd among
at_least_one (source.Constant at x initial ∷ others) among = at_least_one others among
at_least_one (source.Function at name parameters result body ∷ others) (inl is) =
    some_named (bytes_eq name.bytes main_bytes) (functions_named main_bytes others) (inl ((bytes_eq-Decides name.bytes main_bytes).1 is.0))
at_least_one (source.Function at name parameters result body ∷ others) (inr among) =
    some_named (bytes_eq name.bytes main_bytes) (functions_named main_bytes others) (inr (at_least_one others among))

pub main_is_declared_once : (source : SourceTree) (length : ℕ) → (program_of source length).faults ≡ [] → functions_named main_bytes source.declarations ≡ 1
main_is_declared_once source length none =
    let few = few_named [] main_bytes source.declarations (names_are_new source length none) in
    let some = at_least_one source.declarations (main_is_declared_somewhere source length none) in
    omega (arith, few, some)

-- a function named main has neither parameters nor a result
abbrev pub MainTakesNothing : DeclarationTree → Type 0
MainTakesNothing (source.Constant at x initial) = Unit {0}
MainTakesNothing (source.Function at name parameters result body) = name.bytes ≡ main_bytes → (parameters ≡ []) × (result ≡ None)

is_main_or_not : (name : Identifier) (b : Bool) → bytes_eq name.bytes main_bytes ≡ b → b ≡ false → name.bytes ≢ main_bytes
is_main_or_not name true test is main = absurd cc
is_main_or_not name false test is main =
    let named = (bytes_eq-Decides name.bytes main_bytes).1 main in let clash : false ≡ true = sym test ∙ named in absurd cc

first_takes_nothing : (name : Identifier) (parameters : List ParameterTree) (result : Option ParameterTree) (b : Bool) (others : List DeclarationTree) → bytes_eq name.bytes main_bytes ≡ b
    → IsMain name parameters result ⊎ DeclaresMain others → (if b then suc (functions_named main_bytes others) else functions_named main_bytes others) ≤ 1
    → name.bytes ≡ main_bytes → (parameters ≡ []) × (result ≡ None)
first_takes_nothing name parameters result b others test (inl is) few main = (is.1, is.2)
first_takes_nothing name parameters result true others test (inr among) few main = let more = at_least_one others among in absurd (omega (arith, more, few))
first_takes_nothing name parameters result false others test (inr among) few main = absurd (is_main_or_not name false test refl main)

not_counted : (b : Bool) (n : ℕ) → (if b then suc n else n) ≡ 0 → (b ≡ false) × (n ≡ 0)
not_counted true n none = absurd (omega (arith, none))
not_counted false n none = (refl, none)

none_takes_something : (xs : List DeclarationTree) → functions_named main_bytes xs ≡ 0 → AllByRecursion MainTakesNothing xs
none_takes_something [] none = tt
none_takes_something (source.Constant at x initial ∷ others) none = (tt, none_takes_something others none)
none_takes_something (source.Function at name parameters result body ∷ others) none =
    let first = not_counted (bytes_eq name.bytes main_bytes) (functions_named main_bytes others) none in
    (λ main. absurd (is_main_or_not name (bytes_eq name.bytes main_bytes) refl first.0 main), none_takes_something others first.1)

others_take_nothing : (name : Identifier) (parameters : List ParameterTree) (result : Option ParameterTree) (b : Bool) (others : List DeclarationTree) → bytes_eq name.bytes main_bytes ≡ b
    → IsMain name parameters result ⊎ DeclaresMain others → (if b then suc (functions_named main_bytes others) else functions_named main_bytes others) ≤ 1
    → (DeclaresMain others → functions_named main_bytes others ≤ 1 → AllByRecursion MainTakesNothing others) → AllByRecursion MainTakesNothing others
others_take_nothing name parameters result true others test among few further = none_takes_something others (omega (arith, few))
others_take_nothing name parameters result false others test (inl is) few further = absurd (is_main_or_not name false test refl is.0)
others_take_nothing name parameters result false others test (inr among) few further = further among few

each_takes_nothing : (xs : List DeclarationTree) → DeclaresMain xs → functions_named main_bytes xs ≤ 1 → AllByRecursion MainTakesNothing xs
each_takes_nothing [] among few = tt
each_takes_nothing (source.Constant at x initial ∷ others) among few = (tt, each_takes_nothing others among few)
each_takes_nothing (source.Function at name parameters result body ∷ others) among few = (
  first_takes_nothing name parameters result (bytes_eq name.bytes main_bytes) others refl among few,
  others_take_nothing name parameters result (bytes_eq name.bytes main_bytes) others refl among few (each_takes_nothing others),
)

pub mains_take_nothing : (source : SourceTree) (length : ℕ) → (program_of source length).faults ≡ [] → AllByRecursion MainTakesNothing source.declarations
mains_take_nothing source length none =
    each_takes_nothing source.declarations (main_is_declared_somewhere source length none) (few_named [] main_bytes source.declarations (names_are_new source length none))
