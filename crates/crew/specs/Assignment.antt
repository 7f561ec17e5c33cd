-- How the pieces of an apply are assigned to workers.
use Rattle.apply_options.specs.declared.apply_schedule.Parallelization.{Parallelization}
use Rattle.apply_options.specs.declared.apply_schedule.Parallelization.TheVariants.{Serial, StaticVertex, DynamicVertex, EdgeAwareDynamicVertex}
use Rattle.crew.specs.declared.piece_assignment.PieceAssignment.{PieceAssignment}
use Rattle.crew.specs.declared.piece_assignment.PieceAssignment.TheVariants.{Claimed, Fixed}

-- by a schedule
abbrev pub assignment_of : Parallelization → PieceAssignment
assignment_of Serial = Claimed
assignment_of StaticVertex = Fixed
assignment_of DynamicVertex = Claimed
assignment_of EdgeAwareDynamicVertex = Claimed
