-- Proofs of `loops_need_no_more_than_their_turns`, src/loops.rt.
use Rattle.meaning_laws.proofs.Unrolling.{while_with, for_with}
use Rattle.meaning_laws.proofs.loops.loops_need_no_more_than_their_turns.Goals as goal

pub returns-clause-while_loops : goal.returns-clause-while_loops
returns-clause-while_loops c = while_with

pub returns-clause-for_loops : goal.returns-clause-for_loops
returns-clause-for_loops c = for_with
