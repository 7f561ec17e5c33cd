-- Proofs of `checked_programs_reduce_each_vector_in_one_way`, src/passes.rt.
use Rattle.compiler.proofs.Reduced.{applies_reduce}
use Rattle.compiler.proofs.passes.checked_programs_reduce_each_vector_in_one_way.Goals as goal

pub returns : goal.returns
returns c = applies_reduce
