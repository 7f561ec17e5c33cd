-- The law that race scripts are scripts.
use Rattle.std.specs.Prelude.{◌≡◌, ℕ, true, List, [], ◌∷◌, ◌++◌, Some, None, codes}
use Rattle.std.specs.Option.{option_map}
use Rattle.algorithm_meaning.specs.ProgramTree.{ProgramTree}
use Rattle.tree_batch.specs.declared.batch.Entry.{Entry}
use Rattle.tree_batch.specs.Digraph.{is_chunk_size, is_vertex_count}
use Rattle.version_list.specs.declared.step.Step.TheVariants.{Commit}
use Rattle.version_list.specs.Machine.{State, opened, reply_to, state_after}
use Rattle.replies.specs.ReplyText.{word_line}
use Rattle.scripts.specs.Commands.{lines_of}
use Rattle.scripts.specs.Replies.{replies, state_after_lines, step_line}
use Rattle.races.specs.RaceScript.{Order, order_of}

-- the versions after commits of these batches
abbrev pub state_after_commits : State → List (List Entry) → State
state_after_commits s [] = s
state_after_commits s (batch ∷ batches) = state_after_commits (state_after s (Commit batch)) batches

-- the replies to commits of these batches
abbrev pub commit_replies : State → List (List Entry) → List ℕ
commit_replies s [] = []
commit_replies s (batch ∷ batches) = step_line (Commit batch) (reply_to s (Commit batch)) ++ commit_replies (state_after s (Commit batch)) batches

-- the order may be opened
abbrev pub MayOpen : Order → Type 0
MayOpen o = (is_vertex_count o.vertices ≡ true) × (is_chunk_size o.chunk_size ≡ true)

-- as a script the text leaves the versions of the order's commits, and is answered so
pub record IsScriptOf (text : List ℕ) (o : Order) : Type 0 where
  pub left : (programs : List ProgramTree) → option_map (λ s. s.versions) (state_after_lines programs None (lines_of text))
      ≡ Some (state_after_commits (opened o.vertices 16777216) o.batches)
  pub answered : (programs : List ProgramTree) → replies programs text ≡ word_line (codes "open") o.vertices
      ++ commit_replies (opened o.vertices 16777216) o.batches

-- a text that is an order, which may be opened, is that order as a script
abbrev pub MeansAsScript : List ℕ → Type 0
MeansAsScript text = (o : Order) → order_of text ≡ Some o → MayOpen o → IsScriptOf text o
