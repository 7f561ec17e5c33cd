use Rattle.std.proofs.Common.{◌≡◌, ◌≤◌, length, take, drop}
use Rattle.run_state.proofs.vertices.take_part.Given as goal

-- the first vertices are taken
abbrev pub invariant-positions : goal.invariant-positions
invariant-positions l = record {
  room : length l.part ≡ length l.fn.part;
  few : l.position ≤ length l.fn.vertices;
  taken : take l.position l.part ≡ take l.position l.fn.vertices;
  rest : l.vertices ≡ drop l.position l.fn.vertices;
}
