-- Proofs of `with_room`, src/page.rt.
use Rattle.pages.proofs.Storing.{is_page}
use Rattle.pages.proofs.page.Page.with_room.Goals as goal

pub returns-clause-page : goal.returns-clause-page
returns-clause-page c =
    let p = c.self.inside in
    rw (← c.self.view_is) (is_page p.present p.bytes.items p.entries.items c.self.invariant)
