-- Proofs of `distinct`, src/distinct.rt.
use Rattle.std.proofs.Common.{◌<◌, ◌≤◌, suc, List, Vec, Global, length, get_or, sym, ap, ◌∙◌, subst, arith}
use Rattle.std.proofs.lemmas.Bool.{leb-true, leb-false}
use Rattle.tree_batch.specs.Edge.{Ends}
use Rattle.edge_differences.specs.inside.Indices.{after_last}
use Rattle.edge_differences.proofs.Indices.{AreFirst, first_again, first_more, next_position, rise_all}
use Rattle.edge_differences.proofs.distinct.distinct.Goals as goal
use Rattle.edge_differences.proofs.distinct.distinct.Goals.{then-is_first+in_ok-push, else-is_first}

pub positions-preserved : goal.positions-preserved
positions-preserved c =
    let ks = c.args.indices.now in
    let i = c.positions.position in
    let inside : i < length ks = omega arith in
    let so = c.positions.invariant in
    next_position ks i c.if-is_first.sorted.items (elim c.if-is_first.branch [
      | then-is_first+in_ok-push w ↦
          (let above : after_last ks i ≤ get_or ks i 0 = leb-true (after_last ks i) (get_or ks i 0) (sym c.is_first.ensures ∙ w.if-is_first.true) in
          subst (λ (ps : List Ends). AreFirst ks (suc i) ps) (sym (ap (λ (v : Vec Ends Global). v.items) w.sorted-is ∙ w.in_ok-push.ensures.items))
          (first_more ks i c.positions.sorted.items w.ends_at.result inside above w.ends_at.ensures.source w.ends_at.ensures.destination so))
      | else-is_first w ↦
          (let below : get_or ks i 0 < after_last ks i = leb-false (after_last ks i) (get_or ks i 0) (sym c.is_first.ensures ∙ w.if-is_first.false) in
          subst (λ (ps : List Ends). AreFirst ks (suc i) ps) (sym (ap (λ (v : Vec Ends Global). v.items) w.sorted-is))
          (first_again ks i c.positions.sorted.items inside c.requires below so))
    ])

pub returns-clause-ascending : goal.returns-clause-ascending
returns-clause-ascending c = rise_all c.args.indices.now c.positions.position c.positions.sorted.items (λ k. (let h = c.type_inv.indices k in omega (arith, h))) c.positions.invariant.ascending
