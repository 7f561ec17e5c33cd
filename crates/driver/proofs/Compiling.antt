-- Files that are compiled one after another.
use Rattle.std.proofs.Common.{◌≡◌, refl, ℕ, ◌+◌, ◌<◌, List, [], ◌∷◌, ◌++◌, length, map, drop, get_or, Bor, inl, inr, sym, ap, ◌∙◌, subst, append-nil, append_assoc}
use Rattle.std.proofs.lemmas.List.{map-append, drop_more}
use Rattle.std.specs.declared.io.Error.{Error}
use Rattle.algorithm_meaning.specs.ProgramTree.{ProgramTree}
use Rattle.driver.specs.declared.compiled_plan.CompiledPlan.{CompiledPlan}
use Rattle.driver.specs.Reading.{tree_of, HoldPrograms, HoldsPlan, HoldsProgram, IsNoProgram, LacksProgram}
use Rattle.std.specs.Arc.{arc_value}
use Rattle.plans.specs.declared.plan.Plan.{Plan}
use Rattle.plans.specs.PlanOf.{program_of}
use Rattle.driver.specs.declared.error.ServeError.{ServeError}
use Rattle.driver.specs.declared.error.ServeError.TheVariants.{NoMemory}

-- a file that may hold the text of a plan may hold that of its program
pub holds_program : (holds : List ℕ → Type 0) (plan : Plan) → HoldsPlan holds plan → HoldsProgram holds (program_of plan)
holds_program holds plan held = record {
  text = held.text;
  held = held.held;
  compiled = record { typed = held.planned.typed; schedule = held.planned.schedule; accepted = held.planned.accepted };
}

-- and so is that of the plan as it is kept
pub holds_kept : (holds : List ℕ → Type 0) (plan : Plan) (p : CompiledPlan) → arc_value p.plan ≡ plan → HoldsPlan holds plan → HoldsProgram holds (tree_of p)
holds_kept holds plan p is held = subst (λ (q : Plan). HoldsProgram holds (program_of q)) (sym is) (holds_program holds plan held)

-- some files of all were compiled: what is left to compile, and how that fails, makes up the whole
pub record Compiles (holds : List ℕ → List ℕ → Type 0) (fails : List ℕ → Error → Type 0) (all left : List (List ℕ)) (programs : List ProgramTree) : Type 0 where
  pub goes_on : (more : List ProgramTree) → HoldPrograms holds left more → HoldPrograms holds all (programs ++ more)
  pub fails_on : (e : ServeError) → LacksProgram holds fails left e → LacksProgram holds fails all e

-- no file was compiled yet
pub nothing_compiled : (holds : List ℕ → List ℕ → Type 0) (fails : List ℕ → Error → Type 0) (all : List (List ℕ)) (compiled : List CompiledPlan) → compiled ≡ []
    → Compiles holds fails all all (map tree_of compiled)
nothing_compiled holds fails all compiled none =
    subst (λ (ps : List CompiledPlan). Compiles holds fails all all (map tree_of ps)) (sym none) (record { goes_on = λ more rest. rest; fails_on = λ e lacks. lacks })

-- all files were compiled
pub all_compiled : (holds : List ℕ → List ℕ → Type 0) (fails : List ℕ → Error → Type 0) (all left : List (List ℕ)) (programs : List ProgramTree) → Compiles holds fails all left programs → left ≡ []
    → HoldPrograms holds all programs
all_compiled holds fails all left programs c none =
    subst (HoldPrograms holds all) (append-nil programs) (c.goes_on [] (subst (λ names. HoldPrograms holds names []) (sym none) tt))

-- one more file was compiled
one_compiled : (holds : List ℕ → List ℕ → Type 0) (fails : List ℕ → Error → Type 0) (all left : List (List ℕ)) (programs : List ProgramTree) (name : List ℕ) (p : ProgramTree)
    → Compiles holds fails all (name ∷ left) programs → HoldsProgram (holds name) p
    → Compiles holds fails all left (programs ++ p ∷ [])
one_compiled holds fails all left programs name p c held = record {
  goes_on = λ more rest. subst (HoldPrograms holds all) (sym (append_assoc programs (p ∷ []) more)) (c.goes_on (p ∷ more) (held, rest));
  fails_on = λ e lacks. c.fails_on e (inr (p, (held, lacks)));
}

-- the file at an index was compiled
pub compiled_at : (holds : List ℕ → List ℕ → Type 0) (fails : List ℕ → Error → Type 0) (all : List (List ℕ)) (names : List (Bor (List ℕ))) (index : ℕ) (none : Bor (List ℕ))
    (compiled new : List CompiledPlan) (p : CompiledPlan) → index < length names
    → Compiles holds fails all (map (λ n. n.now) (drop index names)) (map tree_of compiled) → HoldsProgram (holds (get_or names index none).now) (tree_of p) → new ≡ compiled ++ p ∷ []
    → Compiles holds fails all (map (λ n. n.now) (drop (index + 1) names)) (map tree_of new)
compiled_at holds fails all names index none compiled new p within c held is =
    let left = map (λ (n : Bor (List ℕ)). n.now) (drop (index + 1) names) in
    let first = subst (λ (ns : List (Bor (List ℕ))). Compiles holds fails all (map (λ n. n.now) ns) (map tree_of compiled)) (drop_more names index none within) c in
    subst (Compiles holds fails all left) (sym (ap (map tree_of) is ∙ map-append tree_of compiled (p ∷ [])))
    (one_compiled holds fails all left (map tree_of compiled) (get_or names index none).now (tree_of p) first held)

-- the file at an index is no program
pub lacks_at : (holds : List ℕ → List ℕ → Type 0) (fails : List ℕ → Error → Type 0) (all : List (List ℕ)) (names : List (Bor (List ℕ))) (index : ℕ) (none : Bor (List ℕ)) (compiled : List CompiledPlan)
    (e : ServeError) → index < length names
    → Compiles holds fails all (map (λ n. n.now) (drop index names)) (map tree_of compiled)
    → IsNoProgram (holds (get_or names index none).now) (fails (get_or names index none).now) (get_or names index none).now e
    → LacksProgram holds fails all e
lacks_at holds fails all names index none compiled e within c lacks =
    let first = subst (λ (ns : List (Bor (List ℕ))). Compiles holds fails all (map (λ n. n.now) ns) (map tree_of compiled)) (drop_more names index none within) c in
    first.fails_on e (inl lacks)

-- memory may run out at any of the files
lacks_memory : (holds : List ℕ → List ℕ → Type 0) (fails : List ℕ → Error → Type 0) (left : List (List ℕ)) → LacksProgram holds fails left NoMemory
lacks_memory holds fails [] = refl
lacks_memory holds fails (name ∷ names) = inl tt

-- memory ran out after some files
pub memory_ends : (holds : List ℕ → List ℕ → Type 0) (fails : List ℕ → Error → Type 0) (all left : List (List ℕ)) (programs : List ProgramTree) → Compiles holds fails all left programs
    → LacksProgram holds fails all NoMemory
memory_ends holds fails all left programs c = c.fails_on NoMemory (lacks_memory holds fails left)
