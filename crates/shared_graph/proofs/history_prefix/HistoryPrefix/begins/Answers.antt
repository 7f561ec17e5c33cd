-- Proofs of `begins`, src/history_prefix.rt.
use Rattle.std.proofs.Common.{◌≤◌, ap, subst, arith, length, List, inl, inr}
use Rattle.std.proofs.lemmas.Bool.{cases_Bool, leb-true, leb-false}
use mathlib.Core.List.{IsPrefix}
use Rattle.shared_graph.specs.declared.entry.Entry.{Entry}
use Rattle.shared_graph.proofs.Prefixes.{prefix_shorter}
use Rattle.shared_graph.proofs.history_prefix.HistoryPrefix.begins.Goals as goal

pub returns : goal.returns
returns g c =
    let mine = c.self.inside.seen.log in
    let theirs = c.other.inside.seen.log in
    let both = c.learn.new.self.log in
    let this : IsPrefix mine both = subst (λ (l : List Entry). IsPrefix l both) (ap (λ s. s.log) c.again-both.ensures) c.learn.ensures.2 in
    elim (cases_Bool (lib.Dec.leb c.self.inside.count c.other.inside.count)) [
      | inl le ↦
          let less : length mine ≤ length theirs = omega (arith, c.self.invariant.0, c.other.invariant.0, leb-true c.self.inside.count c.other.inside.count le) in
          rw (le, ← c.self.view_is, ← c.other.view_is) (prefix_shorter mine theirs both this c.learn.ensures.3 less)
      | inr gt ↦
          let less : length theirs ≤ length mine = omega (arith, c.self.invariant.0, c.other.invariant.0, leb-false c.self.inside.count c.other.inside.count gt) in
          rw (gt, ← c.self.view_is, ← c.other.view_is) (prefix_shorter theirs mine both c.learn.ensures.3 this less)
    ]
