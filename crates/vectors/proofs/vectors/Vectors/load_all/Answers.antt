-- Proofs of `load_all`, src/vectors.rt.
use Rattle.std.proofs.Common.{ap, ◌∙◌, arith, List, [], ℕ, ℤ}
use Rattle.vectors.specs.Vectors.{VectorsValue}
use Rattle.vectors.proofs.Layouts.{same_lists}
use Rattle.vectors.proofs.vectors.Vectors.load_all.Goals as goal

pub returns : goal.returns
returns c =
    let now = c.arrays.self in
    let here = c.arrays-test.false in
    let count = c.arrays.invariant.count in
    let all = same_lists now.vectors c.args.arrays.now [] count (λ i l. c.arrays.invariant.loaded i (omega arith)) in
    ap (λ (vs : List (List ℤ)). let w : VectorsValue = record { vectors = vs; groups = now.groups } in w) all
    ∙ ap (λ (gs : List (List ℕ)). let w : VectorsValue = record { vectors = c.args.arrays.now; groups = gs } in w) c.arrays.invariant.groups
