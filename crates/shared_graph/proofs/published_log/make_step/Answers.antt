-- Proofs of `make_step`, src/published_log.rt.
use Rattle.std.proofs.Common.{◌≡◌, ◌∷◌, ◌++◌, [], List, sym, ap, ◌∙◌, subst, arith}
use Rattle.version_list.specs.Machine.{State, opened}
use Rattle.shared_graph.specs.declared.entry.Entry.{Entry}
use Rattle.shared_graph.specs.Histories.{HasMade}
use Rattle.shared_graph.proofs.Growing.{length-own, next_few}
use Rattle.shared_graph.proofs.Steps.{made}
use Rattle.shared_graph.proofs.published_log.make_step.Goals as goal

pub overflow_add-steps : goal.overflow_add-steps
overflow_add-steps g c = omega (
  arith,
  c.meet-place.ensures.steps.0,
  length-own c.args.me.now.number c.args.history_prefix.now,
  next_few g.J.Naming.vertices g.J.Naming.room c.args.history_prefix.now c.args.done.now c.meet-place.ensures.legal c.requires.follows,
)

pub returns-clause-made : goal.returns-clause-made
returns-clause-made g c =
    let base : State = opened g.J.Naming.vertices g.J.Naming.room in
    let log : List Entry = c.args.history_prefix.now in
    let e : Entry = record { by = c.args.me.now.number; done = c.args.done.now } in
    let is : c.extend.new.history_prefix ≡ log ++ e ∷ [] = c.extend.ensures ∙ ap (λ n. log ++ record { by = n; done = c.args.done.now } ∷ []) c.meet-place.ensures.place.0 in
    subst (λ (l : List Entry). HasMade base c.args.me.now e.done.step e.done.reply (record c.args.me.now { shown = l; last = l })) (sym is)
    (made base c.args.me.now log e.done c.meet-place.ensures.begins c.meet-place.ensures.own c.meet-place.ensures.legal c.requires.follows)
