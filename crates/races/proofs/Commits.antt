-- Batches that are committed one after another.
use Rattle.std.proofs.Common.{◌≡◌, ◌∙◌, ℕ, List, [], ◌∷◌, ◌++◌, Result, Ok, Err, refl, sym, ap, subst, append_assoc, append-nil}
use Rattle.std.specs.declared.alloc.AllocError.{AllocError}
use Rattle.tree_batch.specs.declared.batch.Entry.{Entry as Change}
use Rattle.version_list.specs.declared.step.Step.TheVariants.{Commit}
use Rattle.version_list.specs.declared.step.Reply.TheVariants.{Version}
use Rattle.version_list.specs.Machine.{State}
use Rattle.version_list.specs.Timeline.{IsLegal}
use Rattle.shared_graph.specs.declared.entry.Entry.{Entry}
use Rattle.shared_graph.specs.declared.error.SharedError.{SharedError}
use Rattle.shared_graph.specs.declared.error.SharedError.TheVariants as shared
use Rattle.shared_graph.specs.Histories.{own, steps_of, ReaderState}
use Rattle.shared_graph.specs.Outcome.{Answers}
use Rattle.races.specs.declared.outcomes.CommitReply.{CommitReply}
use Rattle.races.specs.declared.outcomes.CommitReply.TheVariants as answer
use Rattle.races.specs.Race.{AreAnswered, IsAnswered, commits, history_entries_of}
use Rattle.races.specs.inside.Racing.{RepliesTo}

-- some batches of all are answered: what the others are answered makes up the whole
abbrev pub IsAnswering : State → ReaderState → (all left : List (List Change)) → List CommitReply → ReaderState → Type 0
IsAnswering base old all left replies now = (more : List CommitReply) (new : ReaderState) → AreAnswered base now left more new → AreAnswered base old all (replies ++ more) new

pub answering_starts : (base : State) (old : ReaderState) (all : List (List Change)) (replies : List CommitReply) → replies ≡ [] → IsAnswering base old all all replies old
answering_starts base old all replies none = subst (λ (rs : List CommitReply). IsAnswering base old all all rs old) (sym none) (λ more new rest. rest)

-- one more is answered
pub answering_goes : (base : State) (old : ReaderState) (all left : List (List Change)) (batch : List Change) (replies made : List CommitReply) (reply : CommitReply) (now next : ReaderState)
    → IsAnswering base old all (batch ∷ left) replies now → IsAnswered base now batch reply next → made ≡ replies ++ reply ∷ []
    → IsAnswering base old all left made next
answering_goes base old all left batch replies made reply now next so_far one is =
    subst (λ (rs : List CommitReply). IsAnswering base old all left rs next) (sym is)
    (λ more new rest. subst (λ (rs : List CommitReply). AreAnswered base old all rs new) (sym (append_assoc replies (reply ∷ []) more)) (so_far (reply ∷ more) new (next, one, rest)))

-- all are answered
pub answering_ends : (base : State) (old : ReaderState) (all left : List (List Change)) (replies : List CommitReply) (now : ReaderState) → IsAnswering base old all left replies now → left ≡ []
    → AreAnswered base old all replies now
answering_ends base old all left replies now so_far none =
    subst (λ (rs : List CommitReply). AreAnswered base old all rs now) (append-nil replies)
    (so_far [] now (subst (λ (l : List (List Change)). AreAnswered base now l [] now) (sym none) refl))

-- the reply of a result, or another
abbrev bytes_written : CommitReply → Result CommitReply AllocError → CommitReply
bytes_written other (Ok reply) = reply
bytes_written other (Err error) = other

err≢ok : (error : AllocError) (reply : CommitReply) → Err error ≡ Ok reply → ⊥
err≢ok error reply e = cc

same_reply : (base : State) (old new : ReaderState) (batch : List Change) (result : Result CommitReply AllocError) (told reply : CommitReply) → result ≡ Ok told → result ≡ Ok reply
    → IsAnswered base old batch told new → IsAnswered base old batch reply new
same_reply base old new batch result told reply gives is met = subst (λ (r : CommitReply). IsAnswered base old batch r new) (ap (bytes_written reply) (sym gives ∙ is)) met

-- what a commit gives is told by its reply
pub is_answered : (base : State) (old new : ReaderState) (batch : List Change) (committed : Result ℕ SharedError) (result : Result CommitReply AllocError) (reply : CommitReply)
    → Answers base old (Commit batch) Version committed new → RepliesTo committed result → result ≡ Ok reply → IsAnswered base old batch reply new
is_answered base old new batch (Ok version) result reply met gives is = same_reply base old new batch result (answer.Version version) reply gives is met
is_answered base old new batch (Err shared.NoMemory) result reply met gives is = absurd (err≢ok _ reply (sym gives ∙ is))
is_answered base old new batch (Err shared.VertexRange) result reply met gives is = same_reply base old new batch result (answer.Refused 111) reply gives is met
is_answered base old new batch (Err shared.BadChunkSize) result reply met gives is = same_reply base old new batch result (answer.Refused 103) reply gives is met
is_answered base old new batch (Err shared.NotKept) result reply met gives is = same_reply base old new batch result (answer.Refused 121) reply gives is met
is_answered base old new batch (Err shared.NotHeld) result reply met gives is = same_reply base old new batch result (answer.Refused 122) reply gives is met
is_answered base old new batch (Err shared.HistoryFull) result reply met gives is = same_reply base old new batch result (answer.Refused 123) reply gives is met
is_answered base old new batch (Err shared.BadSeats) result reply met gives is = elim met [ ]

-- what one reply says of the reader's history
record GoesOn (base : State) (batch : List Change) (reply : CommitReply) (old new : ReaderState) : Type 0 where
  pub number : new.number ≡ old.number
  pub own_entries : own old.number new.last ≡ own old.number old.last ++ history_entries_of old.number batch reply
  pub legal : IsLegal base (steps_of old.last) → IsLegal base (steps_of new.last)

goes_on : (base : State) (batch : List Change) (reply : CommitReply) (old new : ReaderState) → IsAnswered base old batch reply new → GoesOn base batch reply old new
goes_on base batch (answer.Version version) old new met = record {
  number = met.number;
  own_entries = ap (own old.number) met.last ∙ met.own_entries;
  legal = λ before. subst (λ (h : List Entry). IsLegal base (steps_of h)) (sym met.last) met.legal;
}
goes_on base batch (answer.Refused number) old new met = record {
  number = met.shows.number;
  own_entries = ap (own old.number) met.shows.last ∙ sym (append-nil (own old.number old.last));
  legal = λ before. subst (λ (h : List Entry). IsLegal base (steps_of h)) (sym met.shows.last) before;
}

-- after batches that are answered the reader's history has just the commits that were not refused
pub record HasCommits (base : State) (batches : List (List Change)) (replies : List CommitReply) (old new : ReaderState) : Type 0 where
  pub number : new.number ≡ old.number
  pub own_entries : own old.number new.last ≡ own old.number old.last ++ commits old.number batches replies
  pub legal : IsLegal base (steps_of old.last) → IsLegal base (steps_of new.last)

pub has_commits : (base : State) (batches : List (List Change)) (replies : List CommitReply) (old new : ReaderState) → AreAnswered base old batches replies new
    → HasCommits base batches replies old new
has_commits base [] [] old new is = record {
  number = ap (λ (p : ReaderState). p.number) is;
  own_entries = ap (λ (p : ReaderState). own old.number p.last) is ∙ sym (append-nil (own old.number old.last));
  legal = λ before. subst (λ (p : ReaderState). IsLegal base (steps_of p.last)) (sym is) before;
}
has_commits base [] (reply ∷ replies) old new is = elim is [ ]
has_commits base (batch ∷ batches) [] old new is = elim is [ ]
has_commits base (batch ∷ batches) (reply ∷ replies) old new is =
    let next : ReaderState = is.0 in
    let one = goes_on base batch reply old next is.1 in
    let rest = has_commits base batches replies next new is.2 in record {
      number = rest.number ∙ one.number;
      own_entries =
          subst (λ (n : ℕ). own n new.last ≡ own n next.last ++ commits n batches replies) one.number rest.own_entries
          ∙ ap (λ (es : List Entry). es ++ commits old.number batches replies) one.own_entries
          ∙ append_assoc (own old.number old.last) (history_entries_of old.number batch reply) (commits old.number batches replies);
      legal = λ before. rest.legal (one.legal before);
    }
