-- Proofs of `push_static`, src/partition.rt.
use Rattle.crew.proofs.Runs.{static_in_parts}
use Rattle.crew.proofs.partition.push_static.Goals as goal

pub returns : goal.returns
returns c =
    static_in_parts c.args.workers c.args.count c.min-pieces.result c.in_ok-middle.middle c.args.ends.now.items c.push_runs.new.ends.items c.push_runs-2.new.ends.items c.min-pieces.ensures
    c.in_ok-middle.ensures.last
    c.in_ok-middle.ensures.ends c.in_ok-push_runs.ensures.ends
