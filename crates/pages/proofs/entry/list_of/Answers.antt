-- Proofs of `list_of`, src/entry.rt.
use Rattle.std.proofs.Common.{◌+◌}
use Rattle.std.proofs.lemmas.List.{take_rest}
use Rattle.pages.proofs.Storing.{list_is, listed_view}
use Rattle.pages.proofs.entry.list_of.Goals as goal

pub new-requires : goal.new-requires
new-requires c =
    let e = c.args.entry in
    rw (c.from-width.ensures, c.number-first.ensures, c.degree.ensures.degree, take_rest c.args.bytes.now (e.start + 4)) (listed_view c.args.bytes.now e c.requires)

pub returns : goal.returns
returns c =
    let e = c.args.entry in
    rw (c.new.ensures, c.from-width.ensures, c.number-first.ensures, c.degree.ensures.degree, take_rest c.args.bytes.now (e.start + 4)) (list_is c.args.bytes.now e c.requires)
