-- Proofs of `new`, src/packed_list.rt.
use Rattle.std.proofs.Common.{◌≡◌, ◌++◌, ◌-◌, length, take, drop, arith, ap}
use Rattle.ascending_lists.proofs.Cutting.{rises}
use Rattle.pages.proofs.Extending.{written_back}
use Rattle.pages.proofs.packed_list.PackedList.new.Goals as goal

pub overflow_sub-keys : goal.overflow_sub-keys
overflow_sub-keys c = rises 0 c.args.keys.now c.requires.ascending 0 (length c.args.keys.now - 1) (omega arith) (omega arith)

pub invariant_of-result : goal.invariant_of-result
invariant_of-result c =
    let long = c.resize.new.self.items in
    let new = c.write_list.new.bytes in
    let same : length new ≡ length long = omega (arith, c.write_list.auto.bytes, ap length c.deref_mut.ensures.value) in
    let back : take c.resize.new.self.len (new ++ drop (length new) long) ≡ new = written_back c.resize.new.self.len long new same (omega (arith, c.resize.ensures.len)) in
    rw back c.write_list.ensures.packed

pub returns : goal.returns
returns c =
    let long = c.resize.new.self.items in
    let new = c.write_list.new.bytes in
    let same : length new ≡ length long = omega (arith, c.write_list.auto.bytes, ap length c.deref_mut.ensures.value) in
    let back : take c.resize.new.self.len (new ++ drop (length new) long) ≡ new = written_back c.resize.new.self.len long new same (omega (arith, c.resize.ensures.len)) in
    rw back c.write_list.ensures.list
