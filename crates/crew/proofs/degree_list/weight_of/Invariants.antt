use Rattle.std.proofs.Common.{◌≡◌, ◌*◌, ◌^◌, ◌≤◌, take}
use Rattle.crew.specs.Limits.{weight}
use Rattle.crew.proofs.degree_list.weight_of.Given as goal

-- those of the vertices so far
abbrev pub invariant-degrees : goal.invariant-degrees
invariant-degrees l = record {
  weight : l.weight ≡ weight (take l.degree-index l.degrees);
  fits : l.weight ≤ l.degree-index * 2 ^ 32;
}
