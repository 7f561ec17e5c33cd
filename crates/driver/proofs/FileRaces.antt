-- Races of files.
use Rattle.std.proofs.Common.{◌≡◌, ◌∙◌, ◌+◌, ap, sym, ℕ, List, Bor, Err, length, map, subst, refl, inl, inr}
use Rattle.std.specs.Arc.{arc_value}
use Rattle.std.specs.Global.{Global}
use Rattle.std.specs.declared.sync.Arc.{Arc}
use Rattle.std.proofs.lemmas.List.{length-map}
use Rattle.scripts.specs.Script.{Written}
use Rattle.replies.specs.declared.send_error.SendError.{SendError}
use Rattle.replies.specs.declared.send_error.SendError.TheVariants.{NoMemory, WriteFailed}
use Rattle.plans.specs.declared.plan.Plan.{Plan}
use Rattle.races.specs.Race.{IsRace, MayRun}
use Rattle.races.specs.RaceScript.{order_by, MayOpen, RefusesRace}
use Rattle.races.specs.RaceText.{TakesBeginning, Writes}
use Rattle.races.specs.declared.error.RaceError.{RaceError}
use Rattle.races.specs.declared.outcomes.Race.{Race}
use Rattle.races.specs.declared.reading.RaceScript.{RaceScript}
use Rattle.driver.specs.declared.compiled_plan.CompiledPlan.{CompiledPlan}
use Rattle.driver.specs.declared.error.ServeError.{ServeError}
use Rattle.driver.specs.Endings.{of_race, of_send}
use Rattle.driver.specs.Reading.{tree_of, HoldPrograms}
use Rattle.driver.specs.Racing.{EndsWriting, HoldsScript, IsRaceOf, RefusesRaceOf}

-- as many plans are lent as there are programs in the files
lent_length : (programs seen : List CompiledPlan) (plans lent : List (Bor (Arc Plan Global))) → seen ≡ programs → map (λ p. arc_value p.now) plans ≡ map (λ c. arc_value c.plan) seen → lent ≡ plans → length lent ≡ length programs
lent_length programs seen plans lent all are same =
    ap (λ (ps : List (Bor (Arc Plan Global))). length ps) same ∙ sym (length-map plans (λ p. arc_value p.now)) ∙ ap (λ (ps : List Plan). length ps) are ∙ length-map seen (λ c. arc_value c.plan)
    ∙ ap (λ (ps : List CompiledPlan). length ps) all

-- a race of the plans that the files' programs have, which are lent to it, and of the script that a file holds
pub race_of_files : (holds : List ℕ → List ℕ → Type 0) (file : List ℕ) (names : List (List ℕ)) (workers turns : ℕ) (programs seen : List CompiledPlan) (plans lent : List (Bor (Arc Plan Global)))
    (script : RaceScript) (race : Race) → HoldPrograms holds names (map tree_of programs)
    → HoldsScript (holds file) (order_by script) → seen ≡ programs → map (λ p. arc_value p.now) plans ≡ map (λ c. arc_value c.plan) seen → lent ≡ plans
    → IsRace script.vertices 16777216 script.batches.items (map (λ p. arc_value p.now) lent) turns race → MayOpen script.vertices script.chunk_size (length lent + 1) → MayRun workers race.runs.items
    → IsRaceOf holds file names workers turns race
race_of_files holds file names workers turns programs seen plans lent script race compiled held all are same raced opened run_by = record {
  programs = programs;
  compiled = compiled;
  order = order_by script;
  held = held;
  is_race = subst (λ (ps : List Plan). IsRace script.vertices 16777216 script.batches.items ps turns race)
      (ap (map (λ (p : Bor (Arc Plan Global)). arc_value p.now)) same ∙ are ∙ ap (map (λ (c : CompiledPlan). arc_value c.plan)) all) raced;
  opened = subst (λ (n : ℕ). MayOpen script.vertices script.chunk_size (n + 1)) (lent_length programs seen plans lent all are same) opened;
  run_by = run_by;
}

-- there is no race of the plans that the files' programs have, which are lent to it, and of the script that a file holds
pub refused_race_of_files : (holds : List ℕ → List ℕ → Type 0) (file : List ℕ) (names : List (List ℕ)) (workers : ℕ) (programs seen : List CompiledPlan) (plans lent : List (Bor (Arc Plan Global)))
    (script : RaceScript) (error : RaceError) (name : Bor (List ℕ)) (e : ServeError)
    → HoldPrograms holds names (map tree_of programs) → HoldsScript (holds file) (order_by script) → seen ≡ programs → map (λ p. arc_value p.now) plans ≡ map (λ c. arc_value c.plan) seen → lent ≡ plans
    → RefusesRace script.vertices script.chunk_size 16777216 script.batches.items (length lent) workers error → name.now ≡ file → e ≡ of_race name error → RefusesRaceOf holds file names workers e
refused_race_of_files holds file names workers programs seen plans lent script error name e compiled held all are same refused named is = record {
  programs = programs;
  compiled = compiled;
  order = order_by script;
  held = held;
  error = error;
  refused = subst (λ (n : ℕ). RefusesRace script.vertices script.chunk_size 16777216 script.batches.items n workers error) (lent_length programs seen plans lent all are same) refused;
  name = name;
  named = named;
  outcome = is;
}

-- where writing a text failed, a beginning of it was taken
pub begins_text : (text : List ℕ) (before after : Written) (e : SendError) → Writes {A = Unit {0}} text before after (Err e) → TakesBeginning text before after
begins_text text before after NoMemory begins = begins.0
begins_text text before after WriteFailed begins = begins.0

-- writing a text fails since memory ran out, or by the writer
pub ends_writing : (text : List ℕ) (before after : Written) (e : SendError) → Writes {A = Unit {0}} text before after (Err e) → EndsWriting before after (of_send e)
ends_writing text before after NoMemory begins = inl (refl, begins.1)
ends_writing text before after WriteFailed begins = inr (refl, begins.1)
