-- Proofs of `named_by_steps`, src/since.rt.
use Rattle.std.proofs.Common.{◌≡◌, ℕ, ◌+◌, ◌<◌, Global, List, Vec, length, arith, sym, ap, ◌∙◌, subst}
use Rattle.std.proofs.lemmas.Bool.{le-ltb, lt-ltb}
use Rattle.tree_batch.specs.declared.batch.Entry.{Entry}
use Rattle.tree_batch.specs.Edge.{Ends}
use Rattle.version_list.specs.declared.step.Done.{Done}
use Rattle.version_list.proofs.LastBatches.{AreNamed, names_as_many, names_more, not_if_grown, not_if_many}
use Rattle.version_list.proofs.since.named_by_steps.Goals as goal
use Rattle.version_list.proofs.since.named_by_steps.Goals.{then-vertices_after-gt0-via-then-vertices_after-gt0, then-vertices_after-gt0-via-else-vertices_after-gt0+then-len-left}
use Rattle.version_list.proofs.since.named_by_steps.Goals.{in-Some+else-vertices_after-gt0+else-len-left+in_ok-push_named, in_default}

pub returns-then-vertices_after-gt0-clause-listed : goal.returns-then-vertices_after-gt0-clause-listed
returns-then-vertices_after-gt0-clause-listed c =
    let steps : List Done = c.args.steps.now in
    let i = c.steps.done-index in
    let done : Done = c.done-item.result in
    let inside : i < length steps = omega (arith, c.steps-test.true) in
    elim c.then-vertices_after-gt0.branch [
      | then-vertices_after-gt0-via-then-vertices_after-gt0 w ↦
          sym (not_if_grown steps i c.args.most c.steps.left c.steps.named.items done inside c.done-item.is c.steps.invariant c.in-Some.batch.now c.in-Some.ensures
          (lt-ltb 0 _ (omega (arith, w.if-vertices_after-gt0.true, c.vertices_after.ensures))))
      | then-vertices_after-gt0-via-else-vertices_after-gt0+then-len-left w ↦
          sym (not_if_many steps i c.args.most c.steps.left c.steps.named.items done inside c.done-item.is c.steps.invariant c.in-Some.batch.now c.in-Some.ensures
          (omega (arith, w.if-len-left.true, w.len.ensures)))
    ]

pub steps-preserved : goal.steps-preserved
steps-preserved c =
    let steps : List Done = c.args.steps.now in
    let i = c.steps.done-index in
    let done : Done = c.done-item.result in
    let inside : i < length steps = omega (arith, c.steps-test.true) in
    elim c.match-batch.branch [
      | in-Some+else-vertices_after-gt0+else-len-left+in_ok-push_named w ↦
          let batch : List Entry = w.in-Some.batch.now in
          let fewer : c.match-batch.left + length batch ≡ c.steps.left = omega (arith, w.left-is, w.len-left.ensures, w.if-len-left.false, w.len.ensures) in
          let more = names_more steps i c.args.most c.steps.left c.steps.named.items done inside c.done-item.is c.steps.invariant batch w.in-Some.ensures c.match-batch.left
          (le-ltb 0 _ (omega (arith, w.if-vertices_after-gt0.false, w.vertices_after.ensures))) fewer in
          subst (AreNamed steps (i + 1) c.args.most c.match-batch.left) (sym (ap (λ (v : Vec Ends Global). v.items) w.named-is ∙ w.in_ok-push_named.ensures)) more
      | in_default w ↦
          let same = names_as_many steps i c.args.most c.steps.left c.steps.named.items done inside c.done-item.is c.steps.invariant w.in_default.ensures in
          subst (λ (n : ℕ). AreNamed steps (i + 1) c.args.most n c.match-batch.named.items) (sym w.left-is)
          (subst (λ (v : Vec Ends Global). AreNamed steps (i + 1) c.args.most c.steps.left v.items) (sym w.named-is) same)
    ]
