-- Proofs of `take`, src/kept_cut.rt.
use Rattle.std.proofs.Common.{ℕ, List, Option, Result, Ok, Err, IfOk, IfSome, subst}
use Rattle.pull_engine.specs.KeptCut.{IsCutFor}
use Rattle.pull_engine.proofs.kept_cut.KeptCut.take.Goals as goal

-- what follows from two facts
from_both : {A E : Type 0} (P Q R : A → Type 0) (r : Result A E) → ((a : A) → P a → Q a → R a) → IfOk r P → IfOk r Q → IfOk r R
from_both P Q R (Ok a) f p q = f a p q
from_both P Q R (Err e) f p q = tt

pub returns-in-Some-clause-taken : goal.returns-in-Some-clause-taken
returns-in-Some-clause-taken c =
    let g = c.args.flat.now in
    subst (λ (o : Option (List ℕ)). IfSome o (IsCutFor c.args.parallelization c.args.workers g)) c.in-Some.is (c.take_kept.ensures.taken g c.requires)

pub returns-in-None-clause-taken : goal.returns-in-None-clause-taken
returns-in-None-clause-taken c =
    from_both _ _ _ c.partition_vertices.result (λ partition ends whole. record { ends = ends; whole = whole })
    c.partition_vertices.ensures.ends c.partition_vertices.ensures.whole
