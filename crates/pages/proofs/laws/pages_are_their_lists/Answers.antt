-- Proofs of `pages_are_their_lists`, src/laws.rt.
use Rattle.std.proofs.Common.{refl}
use Rattle.pages.proofs.Building.{same_pages}
use Rattle.pages.proofs.laws.pages_are_their_lists.Goals as goal

pub returns : goal.returns
returns c = λ p q is is'. same_pages 64 p q refl is.map is.packed is'.map is'.packed
