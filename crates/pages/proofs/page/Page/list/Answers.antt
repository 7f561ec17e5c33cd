-- Proofs of `list`, src/page.rt.
use Rattle.std.proofs.Common.{◌<◌, length, sym, ◌∙◌, ap, arith}
use Rattle.pages.specs.inside.Entries.{lists_in}
use Rattle.pages.proofs.Ranks.{ranked, unmarked}
use Rattle.pages.proofs.Storing.{lists_length, listed_at}
use Rattle.pages.proofs.page.Page.list.Goals as goal

pub index-requires : goal.index-requires
index-requires c =
    let p = c.self.inside in
    let found = ranked p.present (lists_in p.bytes.items p.entries.items) c.self.invariant.index c.args.vertex c.requires c.in-Some.index c.in-Some.ensures in
    omega (arith, found.0, lists_length p.bytes.items p.entries.items)

pub list_of-requires : goal.list_of-requires
list_of-requires c =
    let p = c.self.inside in
    let lists = lists_in p.bytes.items p.entries.items in
    let found = ranked p.present lists c.self.invariant.index c.args.vertex c.requires c.in-Some.index c.in-Some.ensures in
    let within : c.in-Some.index < length p.entries.items = omega (arith, found.0, lists_length p.bytes.items p.entries.items) in
    rw c.deref.ensures.value ((listed_at p.bytes.items 0 p.entries.items c.in-Some.index c.index.result.now c.self.invariant.listed within c.index.ensures).0)

pub returns-in-Some : goal.returns-in-Some
returns-in-Some c =
    let p = c.self.inside in
    let lists = lists_in p.bytes.items p.entries.items in
    let found = ranked p.present lists c.self.invariant.index c.args.vertex c.requires c.in-Some.index c.in-Some.ensures in
    let within : c.in-Some.index < length p.entries.items = omega (arith, found.0, lists_length p.bytes.items p.entries.items) in
    let at = listed_at p.bytes.items 0 p.entries.items c.in-Some.index c.index.result.now c.self.invariant.listed within c.index.ensures in
    rw (c.list_of.ensures, c.deref.ensures.value, ← c.self.view_is) (ap (λ e. e.1) (sym at.1) ∙ found.1)

pub returns-in-None : goal.returns-in-None
returns-in-None c =
    let p = c.self.inside in
    rw (c.none.ensures, ← c.self.view_is) (sym (unmarked p.present (lists_in p.bytes.items p.entries.items) c.self.invariant.index c.args.vertex c.requires c.in-None.ensures))
