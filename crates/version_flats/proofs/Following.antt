-- Flats after a step.
use Rattle.std.proofs.Common.{◌≡◌, ℕ, ◌==◌, true, false, List, [], ◌∷◌, refl, ap, arith, length-append}
use Rattle.std.specs.List.{list_any}
use Rattle.std.proofs.lemmas.Bool.{ne_eqb, or_right}
use Rattle.std.proofs.lemmas.List.{take-append-le}
use Rattle.tree_batch.specs.declared.batch.Entry.{Entry}
use Rattle.tree_batch.specs.Digraph.{graph_through}
use Rattle.version_list.specs.declared.step.Step.TheVariants.{Commit}
use Rattle.version_list.specs.declared.step.Reply.{Reply}
use Rattle.version_list.specs.declared.step.Reply.TheVariants.{Version, Ticket, Released, Trimmed, Refused}
use Rattle.version_list.specs.Machine.{State, changed, state_after, reply_to, newest_number}
use Rattle.version_flats.specs.VersionFlats.{Follows}

-- nothing is done
follows_same : (s : State) (version : ℕ) → Follows s s version
follows_same s version = record { made = omega arith; graphs = λ k made. refl; kept = λ k apart kept. kept }

-- a commit lets no version go but the newest before it
follows_reply : (s : State) (batch : List Entry) (r : Reply) → Follows s (changed s (Commit batch) r) (newest_number s)
follows_reply s batch (Version number) = record {
  made = omega (arith, length-append s.batches (batch ∷ []));
  graphs = λ k made. ap (graph_through s.opening) (take-append-le k s.batches (batch ∷ []) made);
  kept = λ k apart kept.
      let older : k == newest_number s ≡ false = ne_eqb k (newest_number s) apart in
      let held : list_any (λ t. t.version == k) s.open_tickets ≡ true = rw (older) at kept in
      or_right _ _ held;
}
follows_reply s batch (Ticket number version) = follows_same s (newest_number s)
follows_reply s batch Released = follows_same s (newest_number s)
follows_reply s batch (Trimmed count) = follows_same s (newest_number s)
follows_reply s batch (Refused number) = follows_same s (newest_number s)

follows_commit : (s : State) (batch : List Entry) → Follows s (state_after s (Commit batch)) (newest_number s)
follows_commit s batch = follows_reply s batch (reply_to s (Commit batch))

-- after a commit the newest version before it may go
pub follows_a_commit : (s t : State) (version : ℕ) (batch : List Entry) → version ≡ newest_number s → t ≡ state_after s (Commit batch) → Follows s t version
follows_a_commit s t version batch newest is = rw (is, newest) (follows_commit s batch)
