use Rattle.std.proofs.Common.{◌≡◌, take}
use Rattle.lowering.proofs.copies.copied.Given as goal

abbrev pub invariant-lists : goal.invariant-lists
invariant-lists g l = l.copies.items ≡ take l.list-index l.lists
