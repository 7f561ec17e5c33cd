-- The versions of a legal history are the folds of its batches.
use Rattle.std.proofs.Common.{◌≡◌, ◌≤◌, ◌+◌, ℕ, List, [], ◌∷◌, ◌++◌, length, take, refl, sym, ap, ◌∙◌, subst, arith, length-append}
use Rattle.std.proofs.lemmas.List.{take-append-le}
use mathlib.Core.List.{IsPrefix}
use Rattle.tree_batch.specs.declared.batch.Entry.{Entry as Change}
use Rattle.tree_batch.specs.Digraph.{Digraph, empty_graph, graph_through}
use Rattle.version_list.specs.declared.step.Done.{Done}
use Rattle.version_list.specs.declared.step.Which.{Which}
use Rattle.version_list.specs.Machine.{State, opened, newest_number, version_graph, commits_of}
use Rattle.version_list.specs.Timeline.{IsLegal}
use Rattle.version_list.proofs.Stepping.{newest_graph_is}
use Rattle.version_list.proofs.Commits.{commits_append, replay_commits, replay_opening}
use Rattle.shared_graph.specs.declared.entry.Entry.{Entry}
use Rattle.shared_graph.specs.Histories.{steps_of, state_at, batches_of, fold_of, fold_of_first, IsNewest, IsVersionOf}
use Rattle.shared_graph.specs.Holding.{Hold, HoldsVersion}

steps_append : (log more : List Entry) → steps_of (log ++ more) ≡ steps_of log ++ steps_of more
steps_append [] more = refl
steps_append (e ∷ log) more = ap (λ (l : List Done). e.done ∷ l) (steps_append log more)

pub batches_append : (log more : List Entry) → batches_of (log ++ more) ≡ batches_of log ++ batches_of more
batches_append log more = ap commits_of (steps_append log more) ∙ commits_append (steps_of log) (steps_of more)

-- a longer history begins with the batches of a beginning of it
pub batches_prefix : (log more : List Entry) → IsPrefix log more → IsPrefix (batches_of log) (batches_of more)
batches_prefix log more pre = (batches_of pre.0, sym (batches_append log pre.0) ∙ ap batches_of pre.1)

-- the first batches of a longer history are those of a beginning that has as many
pub fold_kept : (n : ℕ) (log more : List Entry) (k : ℕ) → IsPrefix log more → k ≤ length (batches_of log) → fold_of_first n more k ≡ fold_of_first n log k
fold_kept n log more k pre le =
    let p = batches_prefix log more pre in
    ap (λ (bs : List (List Change)). graph_through (empty_graph n) bs) (ap (take k) (sym p.1) ∙ take-append-le k (batches_of log) p.0 le)

-- the batches of a history that is legal from its opening are those of the machine's state at its end
batches_at : (n room : ℕ) (log : List Entry) → IsLegal (opened n room) (steps_of log) → (state_at (opened n room) log).batches ≡ batches_of log
batches_at n room log legal = replay_commits (opened n room) (steps_of log) legal

opening_at : (n room : ℕ) (log : List Entry) → (state_at (opened n room) log).opening ≡ empty_graph n
opening_at n room log = replay_opening (opened n room) (steps_of log)

pub number_at : (n room : ℕ) (log : List Entry) → IsLegal (opened n room) (steps_of log) → newest_number (state_at (opened n room) log) ≡ length (batches_of log)
number_at n room log legal = ap length (batches_at n room log legal)

pub graph_at : (n room : ℕ) (log : List Entry) (k : ℕ) → IsLegal (opened n room) (steps_of log) → version_graph (state_at (opened n room) log) k ≡ fold_of_first n log k
graph_at n room log k legal =
    ap (λ (g : Digraph). graph_through g (take k (state_at (opened n room) log).batches)) (opening_at n room log)
    ∙ ap (λ (bs : List (List Change)). graph_through (empty_graph n) (take k bs)) (batches_at n room log legal)

pub fold_at : (n room : ℕ) (log : List Entry) → IsLegal (opened n room) (steps_of log) → version_graph (state_at (opened n room) log) (newest_number (state_at (opened n room) log)) ≡ fold_of n log
fold_at n room log legal =
    let s : State = state_at (opened n room) log in
    newest_graph_is s ∙ ap (λ (g : Digraph). graph_through g s.batches) (opening_at n room log)
    ∙ ap (λ (bs : List (List Change)). graph_through (empty_graph n) bs) (batches_at n room log legal)

-- the newest version of a legal history has all its batches
pub newest_is : (n room : ℕ) (log : List Entry) (k : ℕ) (g : Digraph) → IsLegal (opened n room) (steps_of log) → IsNewest (state_at (opened n room) log) k g → (k ≡ length (batches_of log))
    × (g ≡ fold_of n log)
newest_is n room log k g legal newest =
    let s : State = state_at (opened n room) log in
    (newest.number_is ∙ number_at n room log legal, newest.graph_is ∙ ap (version_graph s) newest.number_is ∙ fold_at n room log legal)

-- what is held at the end of a legal history is a version of it
pub held_is : (n room : ℕ) (log : List Entry) (which : Which) (h : Hold) → IsLegal (opened n room) (steps_of log) → HoldsVersion (state_at (opened n room) log) which h
    → IsVersionOf n log h.version h.graph
held_is n room log which h legal holds = record {
  made = subst (λ m. h.version ≤ m) (number_at n room log legal) holds.made;
  graph_is = holds.graph_is ∙ graph_at n room log h.version legal;
}

-- a version of a history is one of each longer history
pub version_stays : (n : ℕ) (log more : List Entry) (k : ℕ) (g : Digraph) → IsPrefix log more → IsVersionOf n log k g → IsVersionOf n more k g
version_stays n log more k g pre is =
    let p = batches_prefix log more pre in
    let longer : length (batches_of more) ≡ length (batches_of log) + length p.0 = ap length (sym p.1) ∙ length-append (batches_of log) p.0 in
    record { made = omega (arith, is.made, longer); graph_is = is.graph_is ∙ sym (fold_kept n log more k pre is.made) }
