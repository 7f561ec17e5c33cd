-- The readers of a race, and what it gives.
use Rattle.std.proofs.Common.{◌≡◌, ◌∙◌, ℕ, zero, suc, ◌+◌, Result, Ok, List, [], ◌∷◌, ◌++◌, length, length-append, refl, ap, subst, arith}
use Rattle.std.specs.Global.{Vec}
use Rattle.std.specs.declared.alloc.AllocError.{AllocError}
use Rattle.std.proofs.lemmas.List.{same_from_push}
use Rattle.tree_batch.specs.declared.batch.Entry.{Entry as Change}
use Rattle.plans.specs.declared.plan.Plan.{Plan}
use Rattle.version_list.specs.Machine.{State, opened}
use Rattle.shared_graph.specs.declared.entry.Entry.{Entry}
use Rattle.shared_graph.specs.Histories.{ReaderState, fresh_reader, fresh_readers}
use Rattle.races.specs.declared.outcomes.ProgramRuns.{ProgramRuns}
use Rattle.races.specs.declared.outcomes.CommitReply.{CommitReply}
use Rattle.races.specs.declared.error.RaceError.{RaceError}
use Rattle.races.specs.declared.error.RaceError.TheVariants.{NotOpened, NotRun}
use Rattle.snapshot_runs.specs.declared.error.LatestRunError.TheVariants as run
use Rattle.races.specs.Race.{AllRan, AreAnswered}
use Rattle.races.specs.inside.Racing.{AnswersAll, IsRaced, RefusesRuns}
use Rattle.races.specs.RaceScript.{AllAnswered, RefusesOnGraph}
use Rattle.races.proofs.Commits.{has_commits}

pub length_passes : (n : ℕ) → length (fresh_readers n) ≡ n
length_passes zero = refl
length_passes (suc n) = let one = length-append (fresh_readers n) (fresh_reader n ∷ []) in let rest = length_passes n in omega arith

-- the last reader and the others
pub writer_apart : (n : ℕ) (others : List ReaderState) (writer : ReaderState) → others ++ writer ∷ [] ≡ fresh_readers (n + 1) → (others ≡ fresh_readers n) × (writer ≡ fresh_reader n)
writer_apart n others writer are =
    let more : n + 1 ≡ suc n = omega arith in
    same_from_push others (fresh_readers n) writer (fresh_reader n) (are ∙ ap fresh_readers more)

-- where replies come back, all batches are answered
pub answered_all : (base : State) (old new : ReaderState) (batches : List (List Change)) (result : Result (Vec CommitReply) AllocError) (replies : Vec CommitReply) → result ≡ Ok replies
    → AnswersAll base old batches result new → AreAnswered base old batches replies.items new
answered_all base old new batches result replies is answers = subst (λ (r : Result (Vec CommitReply) AllocError). AnswersAll base old batches r new) is answers

-- the batches are answered, and each program ran before and after
pub raced : (n room writer : ℕ) (batches : List (List Change)) (plans : List Plan) (turns : ℕ) (old new : ReaderState) (replies : Vec CommitReply) (runs : Vec ProgramRuns) (told : List Entry)
    (ran : List Plan)
    → old ≡ fresh_reader writer → AreAnswered (opened n room) old batches replies.items new → told ≡ new.last → ran ≡ plans → AllRan n room turns told ran runs.items
    → IsRaced n room batches plans turns (replies, runs)
raced n room writer batches plans turns old new replies runs told ran is answers learned same all =
    let answered = subst (λ (p : ReaderState). AreAnswered (opened n room) p batches replies.items new) is answers in
    let made = has_commits (opened n room) batches replies.items (fresh_reader writer) new answered in record {
      writer = writer;
      after = new;
      answered = answered;
      legal = made.legal tt;
      committed = made.own_entries;
      ran = subst (λ (h : List Entry). AllRan n room turns h plans runs.items) learned (subst (λ (ps : List Plan). AllRan n room turns told ps runs.items) same all);
    }

all_answered : (base : State) (writer : ℕ) (batches : List (List Change)) (old new : ReaderState) (replies : List CommitReply) → old ≡ fresh_reader writer → AreAnswered base old batches replies new
    → AllAnswered base batches
all_answered base writer batches old new replies is answers = record {
  writer = writer;
  replies = replies;
  after = new;
  answered = subst (λ (p : ReaderState). AreAnswered base p batches replies new) is answers;
}

-- a program is not run again
pub refused_run : (base : State) (writer : ℕ) (batches : List (List Change)) (workers : ℕ) (old new : ReaderState) (replies : List CommitReply) (error : RaceError)
    → old ≡ fresh_reader writer → AreAnswered base old batches replies new → RefusesRuns workers error → RefusesOnGraph base batches workers error
refused_run base writer batches workers old new replies (NotOpened error) is answers refuses = elim refuses [ ]
refused_run base writer batches workers old new replies (NotRun run.NoMemory) is answers refuses = tt
refused_run base writer batches workers old new replies (NotRun run.Closed) is answers refuses = (all_answered base writer batches old new replies is answers, refuses)
refused_run base writer batches workers old new replies (NotRun run.BadWorkers) is answers refuses = (all_answered base writer batches old new replies is answers, refuses)
