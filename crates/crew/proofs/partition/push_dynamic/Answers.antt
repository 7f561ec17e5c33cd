-- Proofs of `push_dynamic`, src/partition.rt.
use Rattle.crew.proofs.Runs.{dynamic_in_parts}
use Rattle.crew.proofs.partition.push_dynamic.Goals as goal

pub returns : goal.returns
returns c =
    dynamic_in_parts c.args.workers c.args.count c.div_ceil-run.result c.in_ok-last.last c.args.ends.now.items c.push_runs.new.ends.items c.push_rest.new.ends.items c.div_ceil-run.ensures
    c.in_ok-last.ensures.last
    c.in_ok-last.ensures.ends c.in_ok-push_rest.ensures
