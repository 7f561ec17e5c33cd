-- Proofs of `reserve_entry`, src/versions.rt.
use Rattle.std.proofs.Common.{refl, arith}
use Rattle.version_list.specs.declared.versions.Versions.TheInside.{Inside}
use Rattle.version_list.proofs.Stepping.{kept_reserved}
use Rattle.version_list.proofs.versions.Versions.reserve_entry.Goals as goal

pub invariant_of-self-2 : goal.invariant_of-self-2
invariant_of-self-2 c =
    let old : Inside = c.self.inside in
    let new : Inside = record old { history = c.reserve.new.self; reserved = 1 } in
    let shows = c.self.invariant.state in
    kept_reserved old new c.self.invariant refl refl refl refl refl c.in_ok-reserve.ensures.items refl shows.held
    (omega (arith, c.in_ok-reserve.ensures.ok, c.in_ok-reserve.ensures.len, c.ticket_count.ensures, shows.held.count)) (λ two. absurd (omega (arith, two)))
