use Rattle.std.proofs.Common.{◌≡◌, drop}
use Rattle.typed_tree.specs.Fold.{all_pass, operands_fold}
use Rattle.typed_tree.proofs.accesses.+integers.Given as goal

-- all operands so far pass
abbrev pub invariant-operands_pass-operands : goal.invariant-operands_pass-operands
invariant-operands_pass-operands g l =
    let f = all_pass (g.T.AccessTest.passes l.test) in
    operands_fold f (drop l.operand-index l.operands) ≡ operands_fold f l.operands
