-- What an accepted step does to the published_log and to the reader that made it, and what a refusal shows.
use Rattle.std.proofs.Common.{◌≡◌, ℕ, ◌+◌, ◌<◌, Result, Ok, Err, IfErr, List, [], ◌∷◌, ◌++◌, length, slice_index, slice_set, get_or-set_same, get_or-set_other, inl, inr, refl, sym, ap, ◌∙◌, subst}
use Rattle.std.proofs.Common.{arith, length-append, append_assoc}
use Rattle.std.proofs.lemmas.Bool.{cases_eq}
use Rattle.std.proofs.lemmas.List.{append-nil, length-set}
use mathlib.Core.List.{IsPrefix}
use Rattle.tree_batch.specs.declared.batch.Entry.{Entry as Change}
use Rattle.tree_batch.specs.Digraph.{Digraph}
use Rattle.version_list.specs.declared.step.Step.{Step}
use Rattle.version_list.specs.declared.step.Step.TheVariants.{Commit, Acquire, Release, Trim}
use Rattle.version_list.specs.declared.step.Reply.TheVariants.{Released, Refused}
use Rattle.version_list.specs.declared.step.Which.{Which}
use Rattle.version_list.specs.declared.step.Which.TheVariants.{Newest, At}
use Rattle.version_list.specs.declared.prepared.Prepared.{Prepared}
use Rattle.version_list.specs.declared.prepared.PreparedAcquire.{PreparedAcquire}
use Rattle.version_list.specs.declared.step.Done.{Done}
use Rattle.version_list.specs.declared.error.VersionError.{VersionError}
use Rattle.version_list.specs.declared.error.VersionError.TheVariants.{VertexRange, BadChunkSize, NotKept, NotHeld, HistoryFull, NoMemory}
use Rattle.version_list.specs.Machine.{State, reply_to, state_after, newest_number, version_graph, number_asked}
use Rattle.version_list.specs.Timeline.{Timeline, IsLegal, Accepts, beginning, Answers as TimelineAnswers}
use Rattle.version_list.specs.Prepared.{Prepares, IsPrepared, IsPreparedAcquire}
use Rattle.version_list.proofs.Stepping.{next_version, held_versions}
use Rattle.shared_graph.specs.declared.entry.Entry.{Entry}
use Rattle.shared_graph.specs.Histories.{steps_of, own, state_at, IsNewest, ReaderState, HasMade}
use Rattle.shared_graph.specs.inside.Histories.{MayFollow}
use Rattle.shared_graph.specs.Holding.{Hold, HoldsVersion}
use Rattle.shared_graph.specs.Outcome.{Refuses}
use Rattle.shared_graph.specs.inside.Refusal.{from_version}
use Rattle.shared_graph.specs.inside.Locked.{IsTimelineOf, AreCounts, ShowsRefusal}
use Rattle.shared_graph.proofs.Growing.{steps_of-push, legal-push, state_at-push, own-mine, own-other}

pub made : (base : State) (old : ReaderState) (log : List Entry) (done : Done) → IsPrefix old.shown log → own old.number log ≡ own old.number old.last → IsLegal base (steps_of log)
    → MayFollow base log done
    → HasMade base old done.step done.reply (record old { shown = log ++ record { by = old.number; done = done } ∷ []; last = log ++ record { by = old.number; done = done } ∷ [] })
made base old log done begins own_is legal may =
    let e : Entry = record { by = old.number; done = done } in
    record {
      number = refl;
      between = begins.0;
      shown = ap (λ (l : List Entry). l ++ e ∷ []) (sym begins.1);
      own_entries = own-mine old.number log e refl ∙ ap (λ (l : List Entry). l ++ e ∷ []) own_is;
      last = refl;
      legal = legal-push base log e legal may;
    }

-- the count of the reader that made the entry is one more
pub counts_push : (log : List Entry) (e : Entry) (counts : List ℕ) (place : ℕ) → AreCounts log counts → e.by ≡ place → place < length counts
    → AreCounts (log ++ e ∷ []) (slice_set counts place (slice_index counts place + 1))
counts_push log e counts place are by within p lt =
    let inside : p < length counts = omega (arith, lt, length-set counts place (slice_index counts place + 1)) in
    elim (cases_eq p place) [
      | inl here ↦
          let mine : own p (log ++ e ∷ []) ≡ own p log ++ e ∷ [] = own-mine p log e (by ∙ sym here) in
          let one_more : length (own p (log ++ e ∷ [])) ≡ length (own p log) + 1 = ap length mine ∙ length-append (own p log) (e ∷ []) in
          let at : slice_index (slice_set counts place (slice_index counts place + 1)) place ≡ slice_index counts place + 1 = rw get_or-set_same refl in
          subst (λ q. slice_index (slice_set counts place (slice_index counts place + 1)) q ≡ length (own p (log ++ e ∷ []))) (sym here)
          (at ∙ ap (λ n. n + 1) (ap (slice_index counts) (sym here) ∙ are p inside) ∙ sym one_more)
      | inr other ↦
          let same : own p (log ++ e ∷ []) ≡ own p log = own-other p log e (λ is. other (sym is ∙ by)) in
          (rw get_or-set_other refl) ∙ are p inside ∙ sym (ap length same)
    ]

-- the versions follow the history by an accepted step
pub timeline_push : (base : State) (log : List Entry) (e : Entry) (old new : Timeline) → IsTimelineOf base log old → Accepts old e.done.step e.done.reply new → IsTimelineOf base (log ++ e ∷ []) new
timeline_push base log e old new is acc = record {
  earlier = is.earlier;
  recent = is.recent ++ e ∷ [];
  parts = ap (λ (l : List Entry). l ++ e ∷ []) is.parts ∙ append_assoc is.earlier is.recent (e ∷ []);
  base_is = acc.base ∙ is.base_is;
  history = acc.history ∙ ap (λ (h : List Done). h ++ e.done ∷ []) is.history ∙ sym (steps_of-push is.recent e);
  state = acc.state ∙ ap (λ (s : State). state_after s e.done.step) is.state ∙ sym (state_at-push base log e);
}

-- after a trim the versions have no entries, and begin where the history ends
pub timeline_trimmed : (base : State) (log : List Entry) (e : Entry) (old new : Timeline) → IsTimelineOf base log old → e.done.step ≡ Trim → new ≡ beginning (state_after old.state Trim)
    → IsTimelineOf base (log ++ e ∷ []) new
timeline_trimmed base log e old new is trims begins =
    let all : List Entry = log ++ e ∷ [] in
    let now : state_after old.state Trim ≡ state_at base all = ap (λ (s : State). state_after s Trim) is.state ∙ ap (state_after (state_at base log)) (sym trims) ∙ sym (state_at-push base log e) in
    record {
      earlier = all;
      recent = [];
      parts = sym (append-nil all);
      base_is = ap (λ (t : Timeline). t.base) begins ∙ now;
      history = ap (λ (t : Timeline). t.history) begins;
      state = ap (λ (t : Timeline). t.state) begins ∙ now;
    }

-- a step that is prepared or refused is not in the history
pub timeline_kept : {A : Type 0} (base : State) (log : List Entry) (old new : Timeline) (step : Step) (n : ℕ) (IsReady : Timeline → A → Type 0) (r : Result A VersionError)
    → IsTimelineOf base log old → Prepares old step n IsReady r new → IsTimelineOf base log new
timeline_kept base log old new step n IsReady (Ok x) is p = subst (IsTimelineOf base log) (sym p.0)
    (record { earlier = is.earlier; recent = is.recent; parts = is.parts; base_is = is.base_is; history = is.history; state = is.state })
timeline_kept base log old new step n IsReady (Err NoMemory) is p = subst (IsTimelineOf base log) (sym p.1) is
timeline_kept base log old new step n IsReady (Err VertexRange) is p = subst (IsTimelineOf base log) (sym p.unchanged) is
timeline_kept base log old new step n IsReady (Err BadChunkSize) is p = subst (IsTimelineOf base log) (sym p.unchanged) is
timeline_kept base log old new step n IsReady (Err NotKept) is p = subst (IsTimelineOf base log) (sym p.unchanged) is
timeline_kept base log old new step n IsReady (Err NotHeld) is p = subst (IsTimelineOf base log) (sym p.unchanged) is
timeline_kept base log old new step n IsReady (Err HistoryFull) is p = subst (IsTimelineOf base log) (sym p.unchanged) is

answer_at : (base : State) (log shown : List Entry) (old : Timeline) (step : Step) (number : ℕ) → IsTimelineOf base log old → shown ≡ log → reply_to old.state step ≡ Refused number
    → reply_to (state_at base shown) step ≡ Refused number
answer_at base log shown old step number is same answer = ap (λ l. reply_to (state_at base l) step) same ∙ ap (λ (s : State). reply_to s step) (sym is.state) ∙ answer

-- a refusal of the versions is the machine's at the end of the history then shown
pub refuses : {A : Type 0} (base : State) (log : List Entry) (old new : Timeline) (step : Step) (n : ℕ) (IsReady : Timeline → A → Type 0) (e : VersionError) (v w : ReaderState)
    → IsTimelineOf base log old → Prepares old step n IsReady (Err e) new → ShowsRefusal base e v log w → Refuses base v step (from_version e) w
refuses base log old new step n IsReady NoMemory v w is p s = s
refuses base log old new step n IsReady VertexRange v w is p s = record { shows = s.0; is_answer = answer_at base log w.shown old step 111 is s.1 p.is_answer }
refuses base log old new step n IsReady BadChunkSize v w is p s = record { shows = s.0; is_answer = answer_at base log w.shown old step 103 is s.1 p.is_answer }
refuses base log old new step n IsReady NotKept v w is p s = record { shows = s.0; is_answer = answer_at base log w.shown old step 121 is s.1 p.is_answer }
refuses base log old new step n IsReady NotHeld v w is p s = record { shows = s.0; is_answer = answer_at base log w.shown old step 122 is s.1 p.is_answer }
refuses base log old new step n IsReady HistoryFull v w is p s = record { shows = s.0; is_answer = answer_at base log w.shown old step 123 is s.1 p.is_answer }

-- what a commit that was prepared makes the newest version
pub newest_after_commit : (t : Timeline) (batch : List Change) (p : Prepared) (s : State) → t.state ≡ s → IsPrepared t batch p → IsNewest (state_after s p.done.step) p.number p.graph
newest_after_commit t batch p s is ready =
    let next = next_version t.state batch (newest_number t.state + 1) ready.is_answer in
    let step_is : p.done.step ≡ Commit batch = ap (λ (d : Done). d.step) ready.done in
    let after : State = state_after t.state (Commit batch) in
    let here : IsNewest after p.number p.graph =
    record { number_is = ready.number ∙ sym next.0; graph_is = ready.graph ∙ sym next.1 ∙ ap (version_graph after) (sym ready.number) } in
    subst (λ (st : Step). IsNewest (state_after s st) p.number p.graph) (sym step_is) (subst (λ (u : State). IsNewest (state_after u (Commit batch)) p.number p.graph) is here)

number_asked_same : (s t : State) (which : Which) → newest_number t ≡ newest_number s → number_asked t which ≡ number_asked s which
number_asked_same s t Newest same = same
number_asked_same s t (At k) same = refl

-- a hold that was prepared gives the version that was asked for
pub holds_version : (t : Timeline) (which : Which) (p : PreparedAcquire) (base : State) (log shown : List Entry) (e : Entry) (h : Hold) → IsTimelineOf base log t → IsPreparedAcquire t which p
    → e.done.step ≡ Acquire which
    → shown ≡ log ++ e ∷ [] → h.version ≡ p.version → h.graph ≡ p.graph → HoldsVersion (state_at base shown) which h
holds_version t which p base log shown e h is ready step_is ends version graph =
    let after : State = state_after t.state (Acquire which) in
    let after_is : state_at base shown ≡ after = ap (state_at base) ends ∙ state_at-push base log e ∙ ap (λ (s : State). state_after s e.done.step) (sym is.state) ∙ ap (state_after t.state) step_is in
    let same = held_versions t.state which (t.state.given + 1) (number_asked t.state which) ready.is_answer in
    let here : HoldsVersion after which h = record {
      version_is = version ∙ ready.version ∙ sym (number_asked_same t.state after which same.0);
      made = omega (arith, version, ready.made, same.0);
      graph_is = graph ∙ ready.graph ∙ ap (version_graph t.state) (sym version) ∙ ap (λ (f : ℕ → Digraph). f h.version) (sym same.1);
    } in
    subst (λ (s : State). HoldsVersion s which h) (sym after_is) here

-- a release of an open ticket is accepted
pub release_accepted : {A : Type 0} (old new : Timeline) (number : ℕ) (r : Result A VersionError) → reply_to old.state (Release number) ≡ Released → IfErr r (λ e. e ≡ NotHeld)
    → TimelineAnswers {A = A} old (Release number) (λ x. Released) r new → Accepts old (Release number) Released new
release_accepted {A} old new number (Ok x) is only a = a
release_accepted {A} old new number (Err e) is only a =
    let refused = subst (λ (d : VersionError). TimelineAnswers {A = A} old (Release number) (λ x. Released) (Err d) new) only a in
    let no : Released ≡ Refused 122 = sym is ∙ refused.is_answer in
    absurd cc
