-- Proofs of `degree`, src/page.rt.
use Rattle.std.proofs.Common.{◌<◌, length, sym, ◌∙◌, ap, arith}
use Rattle.pages.specs.inside.Entries.{lists_in}
use Rattle.pages.proofs.Ranks.{ranked, unmarked}
use Rattle.pages.proofs.Storing.{lists_length, listed_at, listed_length}
use Rattle.pages.proofs.page.Page.degree.Goals as goal

pub index-requires : goal.index-requires
index-requires c =
    let p = c.self.inside in
    let found = ranked p.present (lists_in p.bytes.items p.entries.items) c.self.invariant.index c.args.vertex c.requires c.in-Some.index c.in-Some.ensures in
    omega (arith, found.0, lists_length p.bytes.items p.entries.items)

pub returns-in-Some : goal.returns-in-Some
returns-in-Some c =
    let p = c.self.inside in
    let lists = lists_in p.bytes.items p.entries.items in
    let found = ranked p.present lists c.self.invariant.index c.args.vertex c.requires c.in-Some.index c.in-Some.ensures in
    let within : c.in-Some.index < length p.entries.items = omega (arith, found.0, lists_length p.bytes.items p.entries.items) in
    let at = listed_at p.bytes.items 0 p.entries.items c.in-Some.index c.index.result.now c.self.invariant.listed within c.index.ensures in
    rw (c.from.ensures, ← c.self.view_is) (sym (listed_length p.bytes.items c.index.result.now at.0) ∙ ap (λ e. length e.1) (sym at.1) ∙ ap length found.1)

pub returns-in-None : goal.returns-in-None
returns-in-None c =
    let p = c.self.inside in
    rw (← c.self.view_is) (sym (ap length (unmarked p.present (lists_in p.bytes.items p.entries.items) c.self.invariant.index c.args.vertex c.requires c.in-None.ensures)))
