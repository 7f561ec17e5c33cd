use Rattle.version_list.specs.Machine.{opened}
use Rattle.version_list.proofs.versions.Versions.with_room.Given as goal

abbrev pub ghost-at : goal.ghost-at
ghost-at a = opened a._from.now.0 a._from.now.1
