-- Each fault of a source stands where one of its terminals does, or at the length of its text, and so does each call of its schedule.
use Rattle.std.proofs.Common.{◌≡◌, refl, ℕ, pos, Bool, true, false, not, ◌||◌, ◌⊎◌, inl, inr, List, [], ◌∷◌, ◌++◌, map, length, Option, Some, None}
use Rattle.std.specs.List.{AllByRecursion}
use Rattle.syntax.specs.Terminals.{Terminal, Identifier}
use Rattle.syntax.specs.declared.declaration.DeclaredType.{DeclaredType}
use Rattle.syntax.specs.declared.declaration.DeclaredType.TheVariants as declared
use Rattle.syntax.specs.Offsets.{IsOffsetIn, StandWhere, StandsWhere}
use Rattle.syntax.specs.SourceTrees as source
use Rattle.syntax.specs.SourceTrees.{CallTree, ChainTree, DeclarationTree, InitialTree, ParameterTree, SourceTree}
use Rattle.syntax.specs.SourceSpelling.{assigned_before, block_before, chain_before, declaration_before, each_before, next_call_before, next_parameter_before, parameters_before, result_before}
use Rattle.syntax.specs.SourceSpelling.{schedule_before, source_terminals}
use Rattle.syntax.proofs.Behind.{all_both, chain_after, declaration_after, each_after, next_call_after, parameters_after, result_after, typed_after}
use Rattle.syntax.proofs.Offsets.{each_stands}
use Rattle.typed_tree.specs.declared.expression.Endpoint.{Endpoint}
use Rattle.typed_tree.specs.declared.expression.Endpoint.TheVariants as endpoint
use Rattle.typed_tree.specs.BlockTree.{BlockTree, Empty}
use Rattle.typed_tree.specs.ProgramTree.{ScheduleCallTree}
use Rattle.typed_tree.specs.FunctionStatementTree.{FunctionStatementsTree, NoStep}
use Rattle.expression_types.specs.declared.scope.Entity.{Entity}
use Rattle.expression_types.specs.declared.scope.Entity.TheVariants as entity
use Rattle.expression_types.proofs.FaultOffsets.{FaultsStand, both_stand, if_stand}
use Rattle.types.specs.Block.{statements_typed}
use Rattle.initializer_types.specs.Checker.{CheckerTree, declared_in, restarted, in_scope}
use Rattle.initializer_types.specs.DeclarationForms.{FunctionKindTree, MainKind, EdgeKind, VertexKind, FilterKind, NoKind, kind, literal_condition, literal_integer}
use Rattle.types.specs.Declaration.{DeclaredTree, begins, declaration_typed, declarations_typed, declare_constant_as}
use Rattle.types.specs.Declaration.{declare_function, declare_name, function_declared, has_all, kind_fits, literal_or_fault, loads, main_declared, next_name, only_edges, opened, parameter}
use Rattle.types.specs.Declaration.{parameters_declared, result_declared, result_entity, steps_declared, wanted, takes_weight}
use Rattle.initializer_types.specs.Initial.{InitializerTree, initializer_of, is_all, is_degrees, is_loaded, is_sound}
use Rattle.types.specs.Program.{chain_calls, main_of, no_declarations, program_of, schedule_call, schedule_calls, set_count}
use Rattle.types.specs.Step.{steps_typed}
use Rattle.initializer_types.proofs.ValueOffsets.{initializer_stands}
use Rattle.types.proofs.StatementOffsets.{declared_in_stands, statements_stand}
use Rattle.types.proofs.StepOffsets.{steps_stand}

declare_name_stands : (P : ℕ → Type 0) (d : DeclaredTree) (name : Identifier) (e : Entity) → P name.at → FaultsStand P (declare_name d name e)
declare_name_stands P d name e there = let c = declared_in d.checker name e in both_stand P c.faults [] (declared_in_stands P d.checker name e there) tt

-- constants
literal_stands : {A : Type 0} (P : ℕ → Type 0) (at : ℕ) (sound : Bool) (other : A) (o : Option A) → P at → FaultsStand P (literal_or_fault at sound other o)
literal_stands P at sound other (Some x) here = tt
literal_stands P at true other None here = (here, tt)
literal_stands P at false other None here = tt

wanted_stands : (P : ℕ → Type 0) (at : ℕ) (b : Bool) → P at → FaultsStand P (wanted at b)
wanted_stands P at true here = tt
wanted_stands P at false here = (here, tt)

begins_stands : (P : ℕ → Type 0) (at : ℕ) (initializer : InitializerTree) (initial : InitialTree) → P at → FaultsStand P (begins at initializer initial)
begins_stands P at initializer initial here =
    let l = literal_or_fault at (is_sound initializer) (pos 0) (literal_integer initial) in
    if_stand P (is_degrees initializer) _ _ tt (both_stand P l.faults [] (literal_stands P at (is_sound initializer) (pos 0) (literal_integer initial) here) tt)

only_edges_stands : (P : ℕ → Type 0) (name : Identifier) (index : ℕ) (o : Option ℕ) → P name.at → FaultsStand P (only_edges name index o)
only_edges_stands P name index None there = tt
only_edges_stands P name index (Some old) there = (there, tt)

-- a name that is declared, and no fault after it
name_last_stands : (P : ℕ → Type 0) (d : DeclaredTree) (name : Identifier) (e : Entity) → P name.at → AllByRecursion (λ f. P f.at) ((declare_name d name e).faults ++ [])
name_last_stands P d name e there = let n = declare_name d name e in both_stand P n.faults [] (declare_name_stands P d name e there) tt

constant_stands : (P : ℕ → Type 0) (d : DeclaredTree) (at : ℕ) (name : Identifier) (initial : InitialTree) (type : DeclaredType) (initializer : InitializerTree) → P at → P name.at
    → FaultsStand P (declare_constant_as d at name initial type initializer)
constant_stands P d at name initial declared.Int initializer here there =
    let n = literal_or_fault at (is_sound initializer) (pos 0) (literal_integer initial) in
    both_stand P n.faults _ (literal_stands P at (is_sound initializer) (pos 0) (literal_integer initial) here) (declare_name_stands P d name (entity.IntConstant (next_name d) n.value) there)
constant_stands P d at name initial declared.Bool initializer here there =
    let b = literal_or_fault at (is_sound initializer) false (literal_condition initial) in
    both_stand P b.faults _ (literal_stands P at (is_sound initializer) false (literal_condition initial) here) (declare_name_stands P d name (entity.BoolConstant (next_name d) b.value) there)
constant_stands P d at name initial declared.Vertex initializer here there = (here, declare_name_stands P d name entity.Error there)
constant_stands P d at name initial declared.VertexSet initializer here there =
    let g = has_all at initializer in
    both_stand P g.faults _ (wanted_stands P at (not (is_sound initializer) || is_all initializer) here)
    (name_last_stands P d name (entity.ConstantSet (record { index = length d.sets; name = next_name d })) there)
constant_stands P d at name initial declared.Vector initializer here there =
    let b = begins at initializer initial in both_stand P b.faults _ (begins_stands P at initializer initial here) (name_last_stands P d name (entity.Vector (length d.vectors)) there)
constant_stands P d at name initial declared.EdgeSet initializer here there =
    let g = loads at initializer in
    let edges = only_edges name (next_name d) d.edges in
    both_stand P g.faults _ (wanted_stands P at (not (is_sound initializer) || is_loaded initializer) here)
    (both_stand P edges.faults _ (only_edges_stands P name (next_name d) d.edges there) (name_last_stands P d name (entity.Edges false) there))
constant_stands P d at name initial declared.WeightedEdgeSet initializer here there =
    let g = loads at initializer in
    let edges = only_edges name (next_name d) d.edges in
    both_stand P g.faults _ (wanted_stands P at (not (is_sound initializer) || is_loaded initializer) here)
    (both_stand P edges.faults _ (only_edges_stands P name (next_name d) d.edges there) (name_last_stands P d name (entity.Edges true) there))

-- parameters and a result
abbrev NamesStand : (ℕ → Type 0) → List ParameterTree → Type 0
NamesStand P parameters = AllByRecursion (λ p. P p.name.at) parameters

others_stand : (P : ℕ → Type 0) (parameters : List ParameterTree) (rest : List Terminal) → StandWhere P (each_before next_parameter_before parameters rest) → NamesStand P parameters
others_stand P [] rest all = tt
others_stand P (p ∷ others) rest all = (all.1.0, others_stand P others rest (typed_after (StandsWhere P) p _ all.1))

names_stand : (P : ℕ → Type 0) (parameters : List ParameterTree) (rest : List Terminal) → StandWhere P (parameters_before parameters rest) → NamesStand P parameters
names_stand P [] rest all = tt
names_stand P (p ∷ others) rest all = (all.0, others_stand P others rest (typed_after (StandsWhere P) p _ all))

parameters_stand : (w : Bool) (P : ℕ → Type 0) (c : CheckerTree) (p : Endpoint) (parameters : List ParameterTree) → NamesStand P parameters → FaultsStand P (parameters_declared w c p parameters)
parameters_stand w P c p [] names = tt
parameters_stand w P c p (v ∷ others) names =
    let d = declared_in c v.name (parameter w p v.declared) in
    both_stand P d.faults _ (declared_in_stands P c v.name (parameter w p v.declared) names.0) (parameters_stand w P d.value endpoint.Destination others names.1)

result_stands : (P : ℕ → Type 0) (c : CheckerTree) (kind : FunctionKindTree) (result : Option ParameterTree) (rest : List Terminal) → StandWhere P (result_before result rest)
    → FaultsStand P (result_declared c kind result)
result_stands P c kind None rest all = tt
result_stands P c kind (Some result) rest all = declared_in_stands P c result.name (result_entity c kind) all.1.0

opened_stands : (P : ℕ → Type 0) (c : CheckerTree) (kind : FunctionKindTree) (parameters : List ParameterTree) (result : Option ParameterTree) (rest : List Terminal)
    → NamesStand P parameters → StandWhere P (result_before result rest) → FaultsStand P (opened c kind parameters result)
opened_stands P c kind parameters result rest names all =
    let d = parameters_declared (takes_weight kind) _ endpoint.Source parameters in
    both_stand P d.faults _ (parameters_stand (takes_weight kind) P _ endpoint.Source parameters names) (result_stands P d.value kind result rest all)

-- functions
kind_fits_stands : (P : ℕ → Type 0) (at : ℕ) (kind : FunctionKindTree) → P at → FaultsStand P (kind_fits at kind)
kind_fits_stands P at (MainKind fits) here = tt
kind_fits_stands P at (EdgeKind weighted) here = tt
kind_fits_stands P at VertexKind here = tt
kind_fits_stands P at FilterKind here = tt
kind_fits_stands P at NoKind here = (here, tt)

function_declared_stands : (P : ℕ → Type 0) (d : DeclaredTree) (kind : FunctionKindTree) (name : Identifier) (steps : FunctionStatementsTree) → P name.at
    → FaultsStand P (function_declared d kind name steps)
function_declared_stands P d (MainKind fits) name steps there = declare_name_stands P d name entity.Error there
function_declared_stands P d (EdgeKind weighted) name steps there = name_last_stands P d name (entity.EdgeFunction (length d.edge_functions) weighted) there
function_declared_stands P d VertexKind name steps there = name_last_stands P d name (entity.VertexFunction (length d.vertex_functions)) there
function_declared_stands P d FilterKind name steps there = name_last_stands P d name (entity.Filter (length d.filters)) there
function_declared_stands P d NoKind name steps there = declare_name_stands P d name entity.Error there

-- what stands in a function
record FunctionStands (P : ℕ → Type 0) (at : ℕ) (name : Identifier) (parameters : List ParameterTree) (result : Option ParameterTree) (body : source.BlockTree) : Type 0 where
  pub here : P at
  pub there : P name.at
  pub names : NamesStand P parameters
  pub inside : (rest : List Terminal) × StandWhere P (result_before result rest)
  pub block : (rest : List Terminal) × StandWhere P (block_before body rest)

main_stands : (P : ℕ → Type 0) (d : DeclaredTree) (fits : Bool) (at : ℕ) (name : Identifier) (parameters : List ParameterTree) (result : Option ParameterTree) (body : source.BlockTree)
    → FunctionStands P at name parameters result body → FaultsStand P (main_declared d fits name parameters result body)
main_stands P d fits at name parameters result body stands =
    let c = opened (restarted d.checker) (MainKind fits) parameters result in
    let b = statements_typed c.value Empty body in
    both_stand P c.faults _ (opened_stands P (restarted d.checker) (MainKind fits) parameters result stands.inside.0 stands.names stands.inside.1)
    (both_stand P b.faults _ (statements_stand P c.value Empty body stands.block.0 stands.block.1)
    (name_last_stands P (record d { checker = in_scope b.value.1 d.checker.scope }) name entity.Main stands.there))

steps_declared_stands : (P : ℕ → Type 0) (d : DeclaredTree) (at : ℕ) (kind : FunctionKindTree) (name : Identifier) (parameters : List ParameterTree) (result : Option ParameterTree)
    (body : source.BlockTree)
    → FunctionStands P at name parameters result body → FaultsStand P (steps_declared d at kind name parameters result body)
steps_declared_stands P d at kind name parameters result body stands =
    let f = kind_fits at kind in
    let c = opened d.checker kind parameters result in
    let b = steps_typed c.value NoStep body in
    both_stand P f.faults _ (kind_fits_stands P at kind stands.here)
    (both_stand P c.faults _ (opened_stands P d.checker kind parameters result stands.inside.0 stands.names stands.inside.1)
    (both_stand P b.faults _ (steps_stand P c.value NoStep body stands.block.0 stands.block.1)
    (function_declared_stands P (record d { checker = in_scope b.value.1 d.checker.scope }) kind name b.value.0 stands.there)))

function_stands : (P : ℕ → Type 0) (d : DeclaredTree) (at : ℕ) (name : Identifier) (parameters : List ParameterTree) (result : Option ParameterTree) (body : source.BlockTree) (kind : FunctionKindTree)
    → FunctionStands P at name parameters result body → FaultsStand P (declare_function d at name parameters result body kind)
function_stands P d at name parameters result body (MainKind fits) stands = main_stands P d fits at name parameters result body stands
function_stands P d at name parameters result body (EdgeKind weighted) stands = steps_declared_stands P d at (EdgeKind weighted) name parameters result body stands
function_stands P d at name parameters result body VertexKind stands = steps_declared_stands P d at VertexKind name parameters result body stands
function_stands P d at name parameters result body FilterKind stands = steps_declared_stands P d at FilterKind name parameters result body stands
function_stands P d at name parameters result body NoKind stands = steps_declared_stands P d at NoKind name parameters result body stands

-- declarations
declaration_stands : (P : ℕ → Type 0) (d : DeclaredTree) (x : DeclarationTree) (rest : List Terminal) → StandWhere P (declaration_before x rest) → FaultsStand P (declaration_typed d x)
declaration_stands P d (source.Constant at p initial) rest all =
    let initializer = initializer_of d.checker at initial in
    let after_type = typed_after (StandsWhere P) p (assigned_before initial rest) all.1 in
    both_stand P initializer.faults _ (initializer_stands P d.checker at initial _ all.0 after_type.1) (constant_stands P d at p.name initial p.declared initializer.value all.0 all.1.0)
declaration_stands P d (source.Function at name parameters result body) rest all =
    let inside = parameters_after (StandsWhere P) parameters _ all.1.1.1 in
    function_stands P d at name parameters result body (kind name.bytes parameters result) (record {
      here = all.0;
      there = all.1.0;
      names = names_stand P parameters _ all.1.1.1;
      inside = (_, inside.1);
      block = (_, result_after (StandsWhere P) result _ inside.1);
    })

declarations_stand : (P : ℕ → Type 0) (d : DeclaredTree) (xs : List DeclarationTree) (rest : List Terminal) → StandWhere P (each_before declaration_before xs rest)
    → FaultsStand P (declarations_typed d xs)
declarations_stand P d [] rest all = tt
declarations_stand P d (x ∷ others) rest all =
    let e = declaration_typed d x in
    both_stand P e.faults _ (declaration_stands P d x _ all) (declarations_stand P e.value others rest (declaration_after (StandsWhere P) x _ all))

main_of_stands : (P : ℕ → Type 0) (end : ℕ) (main : Option BlockTree) → P end → FaultsStand P (main_of end main)
main_of_stands P end None last = (last, tt)
main_of_stands P end (Some main) last = tt

-- What holds of all offsets in a source and of its length holds where a fault stands.
pub faults_stand : (P : ℕ → Type 0) (source : SourceTree) (end : ℕ) → StandWhere P (source_terminals source) → P end → FaultsStand P (program_of source end)
faults_stand P source end all last =
    let d = declarations_typed (no_declarations (set_count source.declarations)) source.declarations in
    let main = main_of end d.value.main in
    both_stand P d.faults _ (declarations_stand P (no_declarations (set_count source.declarations)) source.declarations _ all.1.1.1.1.1.1)
    (both_stand P main.faults [] (main_of_stands P end d.value.main last) tt)

-- calls of the schedule
abbrev CallsStand : (ℕ → Type 0) → List ScheduleCallTree → Type 0
CallsStand P calls = AllByRecursion (λ call. P call.at) calls

calls_stand : (P : ℕ → Type 0) (calls : List CallTree) (rest : List Terminal) → StandWhere P (each_before next_call_before calls rest) → CallsStand P (map schedule_call calls)
calls_stand P [] rest all = tt
calls_stand P (call ∷ others) rest all = (all.1.0, calls_stand P others rest (next_call_after (StandsWhere P) call _ all))

chains_stand : (P : ℕ → Type 0) (chains : List ChainTree) (rest : List Terminal) → StandWhere P (each_before chain_before chains rest) → CallsStand P (chain_calls chains)
chains_stand P [] rest all = tt
chains_stand P (chain ∷ others) rest all = (
  all.1.1.0,
  all_both (λ call. P call.at) (map schedule_call chain.more) (chain_calls others) (calls_stand P chain.more _ (next_call_after (StandsWhere P) chain.first _ all.1))
      (chains_stand P others rest (chain_after (StandsWhere P) chain _ all)),
)

schedule_stands : (P : ℕ → Type 0) (schedule : Option (List ChainTree)) → StandWhere P (schedule_before schedule []) → CallsStand P (schedule_calls schedule)
schedule_stands P None all = tt
schedule_stands P (Some chains) all = chains_stand P chains [] all.1.1

pub schedule_calls_stand : (P : ℕ → Type 0) (source : SourceTree) (end : ℕ) → StandWhere P (source_terminals source) → CallsStand P (program_of source end).value.schedule
schedule_calls_stand P source end all =
    schedule_stands P source.schedule (each_after (StandsWhere P) declaration_before (declaration_after (StandsWhere P)) source.declarations _ all.1.1.1.1.1.1)

-- so they are offsets in it
pub fault_offsets : (source : SourceTree) (end : ℕ) → AllByRecursion (λ f. IsOffsetIn (source_terminals source) f.at ⊎ (f.at ≡ end)) (program_of source end).faults
fault_offsets source end =
    let ws = source_terminals source in faults_stand (λ at. IsOffsetIn ws at ⊎ (at ≡ end)) source end (each_stands (λ at. IsOffsetIn ws at ⊎ (at ≡ end)) ws (λ at there. inl there)) (inr refl)

pub call_offsets : (source : SourceTree) (end : ℕ) → AllByRecursion (λ call. IsOffsetIn (source_terminals source) call.at) (program_of source end).value.schedule
call_offsets source end = let ws = source_terminals source in schedule_calls_stand (IsOffsetIn ws) source end (each_stands (IsOffsetIn ws) ws (λ at there. there))
