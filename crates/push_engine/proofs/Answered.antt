-- What the pieces of an apply answer, for one state.
use Rattle.std.proofs.Common.{◌≡◌, ℕ, Bool, List, [], ◌∷◌}
use Rattle.kernels.specs.FunctionStatementTree.{FunctionStatementsTree}
use Rattle.kernels.specs.State.{StateValue}
use Rattle.kernels.specs.Registers.{HasSizes}
use Rattle.crew.specs.declared.piece_results.Found.{Found}
use Rattle.crew.specs.Pieces.{AreAnswers}
use Rattle.edge_fold.specs.declared.gathered.Gathered.{Gathered}
use Rattle.edge_fold.specs.Ends.{IsEndTest}
use Rattle.edge_fold.specs.Folded.{AreKernels}
use Rattle.push_engine.specs.declared.work.PushWork.{PushWork}
use Rattle.edge_apply.specs.Pieces.{EachAscending, EachGathered}
use Rattle.push_engine.specs.Pieces.{Answers, edges_of_piece}

pub each_gathered : (w : PushWork) (fs : List (Found Gathered)) (m : StateValue) (steps : List FunctionStatementsTree) (from to : ℕ → Bool) → AreAnswers (Answers w) fs
    → w.apply.vectors.now.vectors ≡ m.vectors → HasSizes w.apply.sizes.now m → AreKernels w.apply.first.now w.apply.second steps → IsEndTest w.apply.from m from → IsEndTest w.apply.to m to
    → EachGathered w.apply.flat.now.vertices m steps (edges_of_piece w from to) fs
each_gathered w [] m steps from to answers vectors sizes kernels is_from is_to = tt
each_gathered w (f ∷ fs) m steps from to answers vectors sizes kernels is_from is_to =
    (answers.0.1 m steps from to vectors sizes kernels is_from is_to, each_gathered w fs m steps from to answers.1 vectors sizes kernels is_from is_to)

pub each_ascends : (w : PushWork) (fs : List (Found Gathered)) → AreAnswers (Answers w) fs → EachAscending fs
each_ascends w [] answers = tt
each_ascends w (f ∷ fs) answers = (answers.0.0, each_ascends w fs answers.1)
