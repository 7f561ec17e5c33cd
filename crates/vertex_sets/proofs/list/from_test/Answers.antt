-- Proofs of `from_test`, src/list.rt.
use Rattle.std.proofs.Common.{◌≡◌, ◌++◌, ◌∷◌, [], cond, ap, sym, ◌∙◌, rules}
use Rattle.vertex_sets.proofs.Ascending.{next_answer}
use Rattle.vertex_sets.proofs.list.from_test.Goals as goal
use Rattle.vertex_sets.proofs.list.from_test.Goals.{then-test+in_ok-push, else-test}

pub loop-vertex-preserved : goal.loop-vertex-preserved
loop-vertex-preserved g c =
    let l = c.loop-vertex in
    let passes = c.test.result in
    let next : c.if-test.list.items ≡ cond passes (l.list.items ++ l.vertex ∷ []) l.list.items =
    elim c.if-test.branch [
      | then-test+in_ok-push w ↦
          let pushed : w.push.new.self.items ≡ l.list.items ++ l.vertex ∷ [] = search rules in
          ap (λ v. v.items) w.list-is ∙ pushed ∙ ap (λ b. cond b (l.list.items ++ l.vertex ∷ []) l.list.items) (sym w.if-test.true)
      | else-test w ↦ ap (λ v. v.items) w.list-is ∙ ap (λ b. cond b (l.list.items ++ l.vertex ∷ []) l.list.items) (sym w.if-test.false)
    ] in
    let all = next_answer (λ v b. g.F.Fn.post c.args.test.now (v, tt) b) l.vertex l.list.items c.if-test.list.items passes next l.invariant.ascending c.test.ensures l.invariant.tested in
    record { ascending = all.0; tested = all.1 }
