-- Proofs of `blocks_are_their_lists`, src/laws.rt.
use Rattle.vertex_blocks.proofs.Numbering.{lists_rise, list_in_blocks}
use Rattle.vertex_blocks.proofs.laws.blocks_are_their_lists.Goals as goal

pub returns-clause-lists : goal.returns-clause-lists
returns-clause-lists c = list_in_blocks 0

pub returns-clause-map : goal.returns-clause-map
returns-clause-map c = lists_rise 0
