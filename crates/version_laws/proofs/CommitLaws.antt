-- Versions are made by the commits of a history.
use Rattle.std.proofs.Common.{◌≡◌, ℕ, ◌+◌, List, [], ◌∷◌, length, take, inl, inr, ap, ◌∙◌, length-append}
use Rattle.std.proofs.lemmas.Bool.{cases_Bool}
use Rattle.tree_batch.specs.declared.batch.Entry.{Entry}
use Rattle.tree_batch.specs.Edge.{misfits}
use Rattle.tree_batch.specs.Digraph.{Digraph, empty_graph, graph_through}
use Rattle.version_list.specs.declared.step.Step.TheVariants.{Commit}
use Rattle.version_list.specs.declared.step.Reply.TheVariants.{Refused, Version}
use Rattle.version_list.specs.declared.step.Done.{Done}
use Rattle.version_list.specs.Machine.{State, lacks_room, newest_graph, newest_number, opened, reply_to, state_after, version_graph, commits_of}
use Rattle.version_list.specs.Timeline.{IsLegal, replay}
use Rattle.version_list.proofs.Commits.{replay_commits, replay_opening}

pub version_of : (n room k : ℕ) (history : List Done) → IsLegal (opened n room) history → version_graph (replay (opened n room) history) k ≡ graph_through (empty_graph n) (take k (commits_of history))
version_of n room k history legal =
    ap (λ (g : Digraph). graph_through g (take k (replay (opened n room) history).batches)) (replay_opening (opened n room) history)
    ∙ ap (λ (batches : List (List Entry)). graph_through (empty_graph n) (take k batches)) (replay_commits (opened n room) history legal)

pub newest_of : (n room : ℕ) (history : List Done) → IsLegal (opened n room) history → newest_number (replay (opened n room) history) ≡ length (commits_of history)
newest_of n room history legal = ap length (replay_commits (opened n room) history legal)

pub commit_makes : (s : State) (batch : List Entry) (number : ℕ) → reply_to s (Commit batch) ≡ Version number → newest_number (state_after s (Commit batch)) ≡ number
commit_makes s batch number is = elim (cases_Bool (misfits (newest_graph s).vertices batch)) [
  | inl outside ↦ let no : Refused 111 ≡ Version number = rw (outside) at is in absurd cc
  | inr inside ↦ elim (cases_Bool (lacks_room s 1)) [
    | inl full ↦ let no : Refused 123 ≡ Version number = rw (inside, full) at is in absurd cc
    | inr room ↦
        let so : Version (newest_number s + 1) ≡ Version number = rw (inside, room) at is in
        let next : newest_number s + 1 ≡ number = cc in
        rw (inside, room) (length-append s.batches (batch ∷ []) ∙ next)
  ]
]
