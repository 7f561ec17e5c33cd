-- Proofs of `finish`, src/versions.rt.
use Rattle.std.proofs.Common.{◌+◌, refl, sym, subst}
use Rattle.version_list.specs.declared.versions.Versions.TheInside.{Inside}
use Rattle.version_list.specs.Timeline.{Timeline, Accepts}
use Rattle.version_list.specs.Prepared.{IsPrepared}
use Rattle.version_list.specs.inside.Fields.{timeline}
use Rattle.version_list.proofs.Stepping.{kept_commit, accepts_commit}
use Rattle.version_list.proofs.versions.Versions.finish.Goals as goal

pub invariant_of-self : goal.invariant_of-self
invariant_of-self c =
    let old : Inside = c.self.inside in
    let p = c.args.prepared in
    let new : Inside = record {
      newest = p.graph;
      number = p.number;
      room = old.room;
      base = old.base;
      history = c.push_reserved.new.self;
      steps = old.steps + 1;
      given = old.given;
      held =
          old.held;
      reserved = 0;
    } in
    let batch = c.requires.0 in
    let ready : IsPrepared (timeline old) batch p = subst (λ (t : Timeline). IsPrepared t batch p) (sym c.self.view_is) c.requires.1 in
    kept_commit old new c.self.invariant batch p ready refl refl refl refl refl refl c.push_reserved.ensures.items refl c.push_reserved.ensures.capacity refl

pub returns-clause-accepted : goal.returns-clause-accepted
returns-clause-accepted c =
    let old : Inside = c.self.inside in
    let p = c.args.prepared in
    let new : Inside = record {
      newest = p.graph;
      number = p.number;
      room = old.room;
      base = old.base;
      history = c.push_reserved.new.self;
      steps = old.steps + 1;
      given = old.given;
      held =
          old.held;
      reserved = 0;
    } in
    let batch = c.requires.0 in
    let ready : IsPrepared (timeline old) batch p = subst (λ (t : Timeline). IsPrepared t batch p) (sym c.self.view_is) c.requires.1 in
    subst (λ (t : Timeline). Accepts t p.done.step p.done.reply (timeline new)) c.self.view_is
    (accepts_commit old new c.self.invariant batch p ready refl refl refl refl refl refl c.push_reserved.ensures.items refl c.push_reserved.ensures.capacity refl)
