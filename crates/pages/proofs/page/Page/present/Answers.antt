-- Proofs of `present`, src/page.rt.
use Rattle.pages.specs.inside.Entries.{lists_in}
use Rattle.pages.proofs.Ranks.{unmarked}
use Rattle.pages.proofs.page.Page.present.Goals as goal

pub returns : goal.returns
returns c u lt none =
    let p = c.self.inside in
    rw (← c.self.view_is) (unmarked p.present (lists_in p.bytes.items p.entries.items) c.self.invariant.index u lt none)
