-- States of a job: whether its run continues or has ended.
use Rattle.plans.specs.Machine.{Configuration, At, Ended}
use Rattle.runner.specs.declared.job.Stand.{Stand}
use Rattle.runner.specs.declared.job.Stand.TheVariants as stand

abbrev pub stand_of : Configuration → Stand
stand_of (At index loops s) = stand.Going
stand_of (Ended s end) = stand.Ended end
