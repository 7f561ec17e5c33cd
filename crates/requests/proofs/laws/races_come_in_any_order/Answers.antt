-- Proofs of `races_come_in_any_order`, src/laws.rt.
use Rattle.requests.proofs.RaceLaw.{race_asked}
use Rattle.requests.proofs.laws.races_come_in_any_order.Goals as goal

pub returns : goal.returns
returns c = race_asked
