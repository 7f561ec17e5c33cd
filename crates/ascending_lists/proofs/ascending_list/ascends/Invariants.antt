use Rattle.std.proofs.Common.{◌^◌, ◌≤◌, drop}
use Rattle.ascending_lists.specs.Ascending.{AscendsFrom, Ascends}
use Rattle.ascending_lists.proofs.ascending_list.ascends.Given as goal

abbrev pub invariant-loop-element : goal.invariant-loop-element
invariant-loop-element l = record {
  small : l.low ≤ 2 ^ 32;
  whole : AscendsFrom l.low (drop l.element-index l.elements) → Ascends l.fn.base l.elements;
  rest : Ascends l.fn.base l.elements → AscendsFrom l.low (drop l.element-index l.elements);
}
