-- Proofs of `put_name`, src/terminals.rt.
use Rattle.std.proofs.Common.{refl}
use Rattle.std.proofs.lemmas.Result.{on_ok_weaker}
use Rattle.syntax.specs.Terminals.{Name}
use Rattle.source_text.proofs.Puts.{put_terminal}
use Rattle.source_text.proofs.terminals.put_name.Goals as goal

pub returns : goal.returns
returns c = on_ok_weaker c.put.result (put_terminal (Name c.args.name.now) c.bytes.result.now 32 c.args.out.now.items c.put.new.out.items c.bytes.ensures refl) c.put.ensures
