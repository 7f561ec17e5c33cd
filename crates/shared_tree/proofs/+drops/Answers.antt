-- Proofs of the mutually recursive functions of src/lib.rt.
use Rattle.std.proofs.Common.{arith, rules}
use Rattle.shared_tree.proofs.+drops.Goals as goal

pub shared_tree++tree++Node+Destruct::drop-drop-requires-2 :
    goal.shared_tree++tree++Node+Destruct::drop-drop-requires-2
shared_tree++tree++Node+Destruct::drop-drop-requires-2 g t c κs within = (omega arith, search rules)

pub shared_tree++tree++Node+Destruct::drop-drop-requires-3 :
    goal.shared_tree++tree++Node+Destruct::drop-drop-requires-3
shared_tree++tree++Node+Destruct::drop-drop-requires-3 g t c κs within = (omega arith, search rules)
