-- Proofs of `finish_acquire`, src/versions.rt.
use Rattle.std.proofs.Common.{◌+◌, ◌<◌, length, refl, sym, subst, arith}
use Rattle.version_list.specs.declared.step.Step.TheVariants.{Acquire}
use Rattle.version_list.specs.declared.step.Reply.TheVariants.{Ticket}
use Rattle.version_list.specs.declared.versions.Versions.TheInside.{Inside}
use Rattle.version_list.specs.Machine.{State}
use Rattle.version_list.specs.Timeline.{Timeline, Accepts}
use Rattle.version_list.specs.Prepared.{IsPreparedAcquire}
use Rattle.version_list.specs.inside.Fields.{timeline, Shows}
use Rattle.version_list.proofs.Keeping.{few_holders}
use Rattle.version_list.proofs.Stepping.{kept_acquire, accepts_acquire}
use Rattle.version_list.proofs.versions.Versions.finish_acquire.Goals as goal

pub open-requires-clause-few : goal.open-requires-clause-few
open-requires-clause-few c =
    let old : Inside = c.self.inside in
    let s : State = (timeline old).state in
    let shows : Shows old s = c.self.invariant.state in
    let few : length s.open_tickets < 16777217 = omega (arith, shows.fits, shows.within_room) in
    λ held is. omega (arith, few_holders s old.held shows.held c.args.prepared.version 16777217 few held is)

pub invariant_of-self : goal.invariant_of-self
invariant_of-self c =
    let old : Inside = c.self.inside in
    let p = c.args.prepared in
    let new : Inside = record {
      newest = old.newest;
      number = old.number;
      room = old.room;
      base = old.base;
      history = c.push_reserved.new.self;
      steps = old.steps + 1;
      given = p.ticket.number;
      held =
          c.open.new.self;
      reserved = 0;
    } in
    let ready : IsPreparedAcquire (timeline old) p.which p = subst (λ (t : Timeline). IsPreparedAcquire t p.which p) (sym c.self.view_is) c.requires in
    kept_acquire old new c.self.invariant p ready refl refl refl refl refl c.open.ensures.tickets c.open.ensures.count c.open.ensures.versions c.push_reserved.ensures.items refl
    c.push_reserved.ensures.capacity refl

pub returns-clause-accepted : goal.returns-clause-accepted
returns-clause-accepted c =
    let old : Inside = c.self.inside in
    let p = c.args.prepared in
    let new : Inside = record {
      newest = old.newest;
      number = old.number;
      room = old.room;
      base = old.base;
      history = c.push_reserved.new.self;
      steps = old.steps + 1;
      given = p.ticket.number;
      held =
          c.open.new.self;
      reserved = 0;
    } in
    let ready : IsPreparedAcquire (timeline old) p.which p = subst (λ (t : Timeline). IsPreparedAcquire t p.which p) (sym c.self.view_is) c.requires in
    subst (λ (t : Timeline). Accepts t (Acquire p.which) (Ticket p.ticket.number p.version) (timeline new)) c.self.view_is
    (accepts_acquire old new c.self.invariant p ready refl refl refl refl refl c.open.ensures.tickets c.open.ensures.count c.open.ensures.versions c.push_reserved.ensures.items refl
    c.push_reserved.ensures.capacity refl)
