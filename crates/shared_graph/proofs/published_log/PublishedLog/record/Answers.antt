-- Proofs of `record`, src/published_log.rt.
use Rattle.std.proofs.Common.{◌≡◌, ◌∙◌, ◌∷◌, ◌++◌, [], List, sym, ap, subst, arith}
use Rattle.version_list.specs.Machine.{State, opened, state_after}
use Rattle.shared_graph.specs.declared.entry.Entry.{Entry}
use Rattle.shared_graph.specs.Histories.{state_at}
use Rattle.shared_graph.specs.inside.Publishing.{Published}
use Rattle.shared_graph.specs.inside.Recent.{IsNewestVersion}
use Rattle.shared_graph.proofs.Growing.{state_at-push, length-own, legal_few}
use Rattle.shared_graph.proofs.published_log.PublishedLog.record.Goals as goal

pub new-shown-requires-clause-newest : goal.new-shown-requires-clause-newest
new-shown-requires-clause-newest g c =
    let base : State = opened g.J.Naming.vertices g.J.Naming.room in
    let log : List Entry = c.self.inside.history_prefix in
    let e : Entry = record { by = c.args.me.now.number; done = c.args.done.now } in
    let after : state_at base c.make_step.new.history_prefix ≡ state_after (state_at base log) e.done.step = ap (state_at base) c.make_step.ensures.history_prefix ∙ state_at-push base log e in
    let before : state_after (state_at base log) e.done.step ≡ state_after (state_at base c.args.self.now) e.done.step =
    ap (λ (l : List Entry). state_after (state_at base l) e.done.step) c.self.view_is in
    subst (λ (s : State). IsNewestVersion s c.args.newest) (sym (after ∙ before)) c.requires.newest

pub has_made-requires-clause-few : goal.has_made-requires-clause-few
has_made-requires-clause-few g c =
    omega (arith, length-own c.args.me.now.number c.make_step.new.history_prefix, legal_few g.J.Naming.vertices g.J.Naming.room c.make_step.new.history_prefix c.make_step.ensures.made.legal)

pub publish-requires : goal.publish-requires
publish-requires g c =
    let e : Entry = record { by = c.args.me.now.number; done = c.args.done.now } in
    let was = c.self.invariant.2 in
    let now = c.new-shown.ensures in
    record {
      book = ap (λ (p : Published). p.book) now ∙ sym (ap (λ (p : Published). p.book) was);
      base = ap (λ (p : Published). p.base) now ∙ sym (ap (λ (p : Published). p.base) was);
      log = (e ∷ [], ap (λ (p : Published). p.log ++ e ∷ []) was ∙ sym c.make_step.ensures.history_prefix ∙ sym (ap (λ (p : Published). p.log) now));
    }
