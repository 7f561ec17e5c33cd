-- Proofs of `add`, src/history_prefix.rt.
use Rattle.std.proofs.Common.{◌≡◌, ◌==◌, true, ◌∙◌, ◌∷◌, ◌++◌, [], List, length, sym, ap, subst, arith, length-append}
use Rattle.std.proofs.lemmas.Bool.{eq-eqb}
use Rattle.version_list.specs.Machine.{opened}
use Rattle.version_list.specs.Timeline.{IsLegal}
use Rattle.shared_graph.specs.declared.entry.Entry.{Entry}
use Rattle.shared_graph.specs.Histories.{steps_of}
use Rattle.shared_graph.specs.inside.Histories.{MayFollow}
use Rattle.shared_graph.proofs.Adding.{adds_moves}
use Rattle.shared_graph.proofs.Growing.{legal-push, next_few}
use Rattle.shared_graph.proofs.history_prefix.HistoryPrefix.add.Goals as goal

pub overflow_add-next : goal.overflow_add-next
overflow_add-next g c =
    let log = c.self.inside.seen.log in
    let may : MayFollow (opened g.J.Naming.vertices g.J.Naming.room) log c.args.done.now = rw c.self.view_is c.requires.follows in
    omega (arith, c.self.invariant.0, next_few g.J.Naming.vertices g.J.Naming.room log c.args.done.now c.self.invariant.2 may)

pub compare_exchange-found-requires : goal.compare_exchange-found-requires
compare_exchange-found-requires g c =
    let h = c.args.book.now.count_is in
    let offer = c.plain-offer.ensures in
    let pen = c.no_pen-pen.ensures in
    let seen = c.again-seen.result in
    let at_book = ap (λ s. s.book) c.again-seen.ensures ∙ c.self.invariant.1 ∙ sym (ap (λ w. w.book) h) in
    let len : length seen.log ≡ c.self.inside.count = ap (λ s. length s.log) c.again-seen.ensures ∙ sym c.self.invariant.0 in
    let e : Entry = record { by = c.args.by; done = c.of.result.value } in (
      ap (λ w. w.tracked) h,
      at_book,
      pen.0 ∙ at_book,
      offer.0,
      rw (ap (λ w. w.key) h, pen.1, offer.1, offer.3) (adds_moves seen.log e c.self.inside.count len),
    )

pub invariant_of-self : goal.invariant_of-self
invariant_of-self g c =
    let log = c.self.inside.seen.log in
    let e : Entry = record { by = c.args.by; done = c.args.done.now } in
    let found : c.compare_exchange-found.result == c.self.inside.count ≡ true = eq-eqb c.compare_exchange-found.result c.self.inside.count c.if-found-count.false in
    let told = rw found at c.compare_exchange-found.ensures.7 in
    let added : c.compare_exchange-found.new.seen.log ≡ log ++ e ∷ [] =
    told ∙ ap (λ s. s.log ++ c.plain-offer.result.ask ∷ []) c.again-seen.ensures
    ∙ ap (λ (x : Entry). log ++ x ∷ []) (c.plain-offer.ensures.1 ∙ ap (λ d. record { by = c.args.by; done = d }) c.of.ensures) in
    let may : MayFollow (opened g.J.Naming.vertices g.J.Naming.room) log e.done = rw c.self.view_is c.requires.follows in (
      omega (arith, c.self.invariant.0, ap length added, length-append log (e ∷ [])),
      c.compare_exchange-found.ensures.0 ∙ ap (λ s. s.book) c.again-seen.ensures ∙ c.self.invariant.1,
      subst (λ (l : List Entry). IsLegal (opened g.J.Naming.vertices g.J.Naming.room) (steps_of l)) (sym added) (legal-push (opened g.J.Naming.vertices g.J.Naming.room) log e c.self.invariant.2 may),
    )
