-- A race whose replies number its versions has no other commits.
use Rattle.std.proofs.Common.{◌≡◌, ◌+◌, ◌∙◌, ℕ, List, [], ◌∷◌, ◌++◌, length, take, refl, sym, ap, subst, arith, append_assoc, append-nil, length-append}
use Rattle.std.proofs.lemmas.List.{take-append-le}
use Rattle.std.proofs.Math.Seq.{take-length}
use mathlib.Core.List.{IsPrefix}
use Rattle.tree_batch.specs.declared.batch.Entry.{Entry as Change}
use Rattle.tree_batch.specs.Digraph.{empty_graph, graph_through}
use Rattle.plans.specs.declared.plan.Plan.{Plan}
use Rattle.version_list.specs.Machine.{opened}
use Rattle.shared_graph.specs.declared.entry.Entry.{Entry}
use Rattle.shared_graph.specs.Histories.{batches_of, ReaderState, fresh_reader}
use Rattle.shared_graph.proofs.Counted.{commits_alone}
use Rattle.shared_graph.proofs.Prefixes.{prefix_self, prefix_trans, prefix_whole}
use Rattle.shared_graph.proofs.Versions.{batches_prefix}
use Rattle.snapshot_runs.specs.Outcome.{IsOutcomeOn}
use Rattle.races.specs.declared.outcomes.CommitReply.{CommitReply}
use Rattle.races.specs.declared.outcomes.CommitReply.TheVariants as answer
use Rattle.races.specs.declared.outcomes.ProgramRuns.{ProgramRuns}
use Rattle.races.specs.declared.outcomes.Race.{Race}
use Rattle.races.specs.declared.outcomes.VersionRun.{VersionRun}
use Rattle.races.specs.Race.{AllRan, AreAnswered, IsRunOn, RanTwice}
use Rattle.races.specs.RaceLaw.{accepted, AllRanThrough, AreNumbered, AreOnVersion, HasNoOtherCommits, IsRunThrough}

-- after batches that were answered by the next numbers, the history has no other commits since
pub only_own : (n room : ℕ) (batches : List (List Change)) (replies : List CommitReply) (old new : ReaderState) → AreAnswered (opened n room) old batches replies new
    → IsPrefix old.last old.shown → AreNumbered (length (batches_of old.last)) replies → batches_of new.last ≡ batches_of old.last ++ accepted batches replies
only_own n room [] [] old new is begins numbered = ap (λ (p : ReaderState). batches_of p.last) is ∙ sym (append-nil (batches_of old.last))
only_own n room [] (reply ∷ replies) old new is begins numbered = elim is [ ]
only_own n room (batch ∷ batches) [] old new is begins numbered = elim is [ ]
only_own n room (batch ∷ batches) (answer.Version version ∷ replies) old new is begins numbered =
    let next : ReaderState = is.0 in
    let met = is.1 in
    let one : batches_of next.last ≡ batches_of old.last ++ batch ∷ [] =
    ap batches_of met.last ∙ commits_alone n room old.last old next batch version met begins numbered.0 in
    let count : length (batches_of next.last) ≡ length (batches_of old.last) + 1 = ap length one ∙ length-append (batches_of old.last) (batch ∷ []) in
    let starts : IsPrefix next.last next.shown = subst (λ (l : List Entry). IsPrefix l next.shown) (sym met.last) (prefix_self next.shown) in
    let rest = only_own n room batches replies next new is.2 starts (subst (λ k. AreNumbered k replies) (sym count) numbered.1) in
    rest ∙ ap (λ (bs : List (List Change)). bs ++ accepted batches replies) one ∙ append_assoc (batches_of old.last) (batch ∷ []) (accepted batches replies)
only_own n room (batch ∷ batches) (answer.Refused number ∷ replies) old new is begins numbered =
    let next : ReaderState = is.0 in
    let shows = is.1.shows in
    let starts : IsPrefix next.last next.shown =
    subst (λ (l : List Entry). IsPrefix l next.shown) (sym shows.last) (prefix_trans old.last old.shown next.shown begins shows.shown) in
    let rest = only_own n room batches replies next new is.2 starts (subst (λ (l : List Entry). AreNumbered (length (batches_of l)) replies) (sym shows.last) numbered) in
    rest ∙ ap (λ (l : List Entry). batches_of l ++ accepted batches replies) shows.last

-- the first batches of a longer history, as many as its beginning has
first_of : (log more : List Entry) → IsPrefix log more → take (length (batches_of log)) (batches_of more) ≡ batches_of log
first_of log more begins =
    let p = batches_prefix log more begins in
    let k : ℕ = length (batches_of log) in
    ap (take k) (sym p.1) ∙ take-append-le k (batches_of log) p.0 (omega arith) ∙ take-length (batches_of log)

-- a run on the newest version of a beginning of a history
run_through : (n turns : ℕ) (plan : Plan) (log more : List Entry) (run : VersionRun) → IsPrefix log more → IsRunOn n plan turns log run
    → IsRunThrough n plan turns (batches_of more) run
run_through n turns plan log more run begins is =
    let p = batches_prefix log more begins in
    let longer : length (batches_of more) ≡ length (batches_of log) + length p.0 = ap length (sym p.1) ∙ length-append (batches_of log) p.0 in record {
      made = omega (arith, is.number, longer);
      outcome = subst (λ (bs : List (List Change)). IsOutcomeOn plan (graph_through (empty_graph n) bs) turns run.outcome)
          (sym (ap (λ k. take k (batches_of more)) is.number ∙ first_of log more begins)) is.outcome;
    }

-- the history of a late run has no other commits if it has as many
same_batches : (n room turns : ℕ) (plan : Plan) (told : List Entry) (runs : ProgramRuns) (ran : RanTwice n room plan turns told runs) → runs.late.version ≡ length (batches_of told)
    → batches_of ran.after ≡ batches_of told
same_batches n room turns plan told runs ran count =
    let p = batches_prefix told ran.after ran.is_told in
    sym (prefix_whole (batches_of told) (batches_of ran.after) p (omega (arith, count, ran.late.number)))

pub all_through : (n room turns : ℕ) (told : List Entry) (plans : List Plan) (runs : List ProgramRuns) → AllRan n room turns told plans runs
    → AreOnVersion (length (batches_of told)) runs → AllRanThrough n turns (batches_of told) plans runs
all_through n room turns told [] [] ran late = tt
all_through n room turns told [] (one ∷ more) ran late = elim ran [ ]
all_through n room turns told (plan ∷ plans) [] ran late = elim ran [ ]
all_through n room turns told (plan ∷ plans) (one ∷ more) ran late =
    let twice = ran.0 in
    let same = same_batches n room turns plan told one twice late.0 in
    let early : IsRunThrough n plan turns (batches_of twice.after) one.early = run_through n turns plan twice.before twice.after one.early twice.goes_on twice.early in
    let later : IsRunThrough n plan turns (batches_of twice.after) one.late = run_through n turns plan twice.after twice.after one.late (prefix_self twice.after) twice.late in (
      subst (λ (bs : List (List Change)). IsRunThrough n plan turns bs one.early) same early,
      subst (λ (bs : List (List Change)). IsRunThrough n plan turns bs one.late) same later,
      all_through n room turns told plans more ran.1 late.1,
    )

-- the law of a race
pub no_other_commits : (race : Race) → HasNoOtherCommits race
no_other_commits race n room batches plans turns is numbered late =
    let raced = is.1 in
    let replies : List CommitReply = race.replies.items in
    let same : batches_of raced.after.last ≡ accepted batches replies = only_own n room batches replies (fresh_reader raced.writer) raced.after raced.answered ([], refl) numbered in
    subst (λ (bs : List (List Change)). AllRanThrough n turns bs plans race.runs.items) same
    (all_through n room turns raced.after.last plans race.runs.items raced.ran (subst (λ (bs : List (List Change)). AreOnVersion (length bs) race.runs.items) (sym same) late))
