-- Proofs of `push_runs`, src/partition.rt.
use Rattle.std.proofs.Common.{◌≡◌, ◌+◌, ◌*◌, ◌++◌, ◌∷◌, [], ap, sym, ◌∙◌, append_assoc, arith, List, ℕ, replicate}
use Rattle.std.proofs.Math.Nat.{add-mul, one-mul}
use Rattle.crew.specs.Boundaries.{run_ends_from}
use Rattle.crew.proofs.Runs.{one_run_more}
use Rattle.crew.proofs.partition.push_runs.Goals as goal

pub runs-preserved : goal.runs-preserved
runs-preserved c =
    let s = c.args.start in
    let r = c.args.run in
    let n = c.runs._index in
    let before = c.args.ends.now.items in
    let e = add-mul n 1 r in
    let f = one-mul r in
    let g = c.runs.invariant.end in
    let h : c.runs.end + r ≡ s + n * r + r = omega (arith, g) in
    record {
      end = omega (arith, e, f, g);
      ends = c.in_ok-push.ensures.items
          ∙ ap (λ (es : List ℕ). es ++ (c.runs.end + r) ∷ []) c.runs.invariant.ends
          ∙ append_assoc before (run_ends_from s (replicate n r)) ((c.runs.end + r) ∷ [])
          ∙ ap (λ k. before ++ (run_ends_from s (replicate n r) ++ k ∷ [])) h
          ∙ ap (λ (es : List ℕ). before ++ es) (sym (one_run_more s n r));
    }
