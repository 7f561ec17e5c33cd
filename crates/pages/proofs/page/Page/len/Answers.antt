-- Proofs of `len`, src/page.rt.
use Rattle.std.proofs.Common.{length, ap, arith}
use Rattle.pages.proofs.Storing.{is_page, lists_length}
use Rattle.pages.proofs.page.Page.len.Goals as goal

pub returns-clause-count : goal.returns-clause-count
returns-clause-count c =
    let p = c.self.inside in
    omega (arith, c.len.ensures, lists_length p.bytes.items p.entries.items, ap length c.self.view_is)

pub returns-clause-page : goal.returns-clause-page
returns-clause-page c =
    let p = c.self.inside in
    rw (← c.self.view_is) (is_page p.present p.bytes.items p.entries.items c.self.invariant)
