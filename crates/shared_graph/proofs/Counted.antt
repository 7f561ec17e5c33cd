-- A commit's number is how many commits its history has.
use Rattle.std.proofs.Common.{◌≡◌, ◌+◌, ℕ, List, [], ◌∷◌, ◌++◌, length, inl, inr, refl, sym, ap, ◌∙◌, subst, arith, length-append}
use Rattle.std.proofs.lemmas.Bool.{cases_Bool}
use mathlib.Core.List.{IsPrefix}
use Rattle.tree_batch.specs.declared.batch.Entry.{Entry as Change}
use Rattle.tree_batch.specs.Edge.{misfits}
use Rattle.version_list.specs.declared.step.Done.{Done}
use Rattle.version_list.specs.declared.step.Reply.{Reply}
use Rattle.version_list.specs.declared.step.Step.TheVariants.{Commit}
use Rattle.version_list.specs.declared.step.Reply.TheVariants.{Version, Refused}
use Rattle.version_list.specs.Machine.{State, lacks_room, newest_graph, newest_number, opened, reply_to, state_after}
use Rattle.version_list.specs.Timeline.{IsLegal, replay}
use Rattle.shared_graph.specs.declared.entry.Entry.{Entry}
use Rattle.shared_graph.specs.Histories.{batches_of, history_entry, state_at, steps_of, HasMade, ReaderState}
use Rattle.shared_graph.proofs.Growing.{steps_of-push}
use Rattle.shared_graph.proofs.Prefixes.{prefix_trans, prefix_whole}
use Rattle.shared_graph.proofs.Versions.{batches_append, batches_prefix, number_at}

abbrev number_of : Reply → ℕ
number_of (Version number) = number
number_of reply = 0

version_number : (s : State) (batch : List Change) (number : ℕ) → reply_to s (Commit batch) ≡ Version number → number ≡ newest_number s + 1
version_number s batch number is = elim (cases_Bool (misfits (newest_graph s).vertices batch)) [
  | inl outside ↦ let no : Refused 111 ≡ Version number = rw (outside) at is in absurd cc
  | inr inside ↦ elim (cases_Bool (lacks_room s 1)) [
    | inl full ↦ let no : Refused 123 ≡ Version number = rw (inside, full) at is in absurd cc
    | inr room ↦ let so : Version (newest_number s + 1) ≡ Version number = rw (inside, room) at is in sym (ap number_of so)
  ]
]

-- the last entry of a legal history, and what is before it
legal_before : (s : State) (history : List Done) (done : Done) → IsLegal s (history ++ done ∷ []) → IsLegal s history
legal_before s [] done legal = tt
legal_before s (first ∷ history) done legal = (legal.0, legal.1, legal_before (state_after s first.step) history done legal.2)

legal_last : (s : State) (history : List Done) (done : Done) → IsLegal s (history ++ done ∷ []) → reply_to (replay s history) done.step ≡ done.reply
legal_last s [] done legal = legal.0
legal_last s (first ∷ history) done legal = legal_last (state_after s first.step) history done legal.2

-- a history that ends in a commit
record EndsInCommit (before : List Entry) (batch : List Change) (number : ℕ) (log : List Entry) : Type 0 where
  pub batches : batches_of log ≡ batches_of before ++ batch ∷ []
  pub counted : number ≡ length (batches_of before) + 1

ends_in_commit : (n room : ℕ) (before log : List Entry) (by : ℕ) (batch : List Change) (number : ℕ)
    → log ≡ before ++ history_entry by (Commit batch) (Version number) ∷ [] → IsLegal (opened n room) (steps_of log) → EndsInCommit before batch number log
ends_in_commit n room before log by batch number is legal =
    let e : Entry = history_entry by (Commit batch) (Version number) in
    let base : State = opened n room in
    let whole : IsLegal base (steps_of before ++ e.done ∷ []) = subst (IsLegal base) (ap steps_of is ∙ steps_of-push before e) legal in
    let last : reply_to (state_at base before) (Commit batch) ≡ Version number = legal_last base (steps_of before) e.done whole in record {
      batches = ap batches_of is ∙ batches_append before (e ∷ []);
      counted = version_number (state_at base before) batch number last
          ∙ ap (λ m. m + 1) (number_at n room before (legal_before base (steps_of before) e.done whole));
    }

-- what a reader had shown, and what others made before its commit
abbrev before_commit : {base : State} {old new : ReaderState} {batch : List Change} {number : ℕ} → HasMade base old (Commit batch) (Version number) new → List Entry
before_commit {base} {old} made = old.shown ++ made.between

pub number_counts : (n room : ℕ) (old new : ReaderState) (batch : List Change) (number : ℕ) → HasMade (opened n room) old (Commit batch) (Version number) new → number ≡ length (batches_of new.shown)
number_counts n room old new batch number made =
    let ends = ends_in_commit n room (before_commit made) new.shown old.number batch number made.shown made.legal in
    omega (arith, ends.counted, ap length ends.batches, length-append (batches_of (before_commit made)) (batch ∷ []))

pub commits_alone : (n room : ℕ) (log : List Entry) (old new : ReaderState) (batch : List Change) (number : ℕ) → HasMade (opened n room) old (Commit batch) (Version number) new
    → IsPrefix log old.shown → number ≡ length (batches_of log) + 1 → batches_of new.shown ≡ batches_of log ++ batch ∷ []
commits_alone n room log old new batch number made begins next =
    let before : List Entry = before_commit made in
    let ends = ends_in_commit n room before new.shown old.number batch number made.shown made.legal in
    let longer = batches_prefix log before (prefix_trans log old.shown before begins (made.between, refl)) in
    let same : batches_of log ≡ batches_of before = prefix_whole (batches_of log) (batches_of before) longer (omega (arith, ends.counted, next)) in
    ends.batches ∙ ap (λ (bs : List (List Change)). bs ++ batch ∷ []) (sym same)
