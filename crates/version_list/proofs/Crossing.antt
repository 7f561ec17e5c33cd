-- That versions go to other threads.
use denote.RattleType.{RattleType}
use denote.Builtin.{u64}
use denote.Struct.Field.{Field}
use denote.Param.Send.{IsSend, view_send, sendable}
use denote.Param.SendFields.{declared_send}
use Rattle.std.proofs.Crossing.{crosses, Vec-send}
use Rattle.std.below.core.specs.contracts.clone.Clone+copy.TheImpl as copied
use Rattle.std.specs.contracts.alloc.Global as heap
use Rattle.std.specs.contracts.hash.BuildHasherDefault as builder
use Rattle.std.specs.contracts.hash.FoldHasher as hasher
use Rattle.std.specs.contracts.impls.GlobalAllocator.TheImpl as alloc
use Rattle.std.specs.contracts.vec.Vec as vec
use Rattle.std.specs.contracts.prelude.BuildHasherDefaultBuildHasher.TheImpl as build
use Rattle.std.specs.contracts.prelude.FoldHasherHasher.TheImpl as fold
use Rattle.std.specs.contracts.prelude.U64Hash.TheImpl as hash
use Rattle.std.specs.contracts.prelude.U64PartialEq.TheImpl as equal
use Rattle.indexmap.specs.contracts.map.IndexMap as map
use Rattle.tree_batch.proofs.Crossing.{graph_send}
use Rattle.version_list.proofs.step.Done.TheSendSync.{the_send as done_send}
use Rattle.version_list.specs.contracts.held.HeldVersion as held_version
use Rattle.version_list.specs.contracts.held.HeldVersions as held
use Rattle.version_list.specs.contracts.base.Base as start
use Rattle.version_list.specs.contracts.step.Done as done
use Rattle.version_list.specs.contracts.versions.Versions as versions
use Rattle.version_list.specs.contracts.versions.Versions.TheInside as inside

-- a map from numbers
abbrev numbered : RattleType → Field
numbered V = map.the_field u64 V (builder.the_row hasher.the_row) heap.the_row hasher.the_row equal.ghosts hash.ghosts
    (build.ghosts hasher.the_row fold.ghosts build.no_dict (copied.ghosts hasher.the_row) build.no_dict) fold.ghosts alloc.ghosts

held_version_send : IsSend held_version.the_row
held_version_send = search (sendable, graph_send) depth 20

map_send : (V : RattleType) → IsSend V → IsSend (numbered V).row
map_send V s = search (sendable, crosses) depth 40

held_send : IsSend held.the_row
held_send =
    let a : IsSend (numbered u64).row = map_send u64 (search sendable) in
    let b : IsSend (numbered held_version.the_row).row = map_send held_version.the_row held_version_send in
    search sendable depth 20

base_send : IsSend start.the_row
base_send = record { owned = λ d vs. ((λ vss. (tt, (tt, tt))), tt); leaving = λ k f vs. tt }

pub versions_send : IsSend versions.the_row
versions_send =
    let n : IsSend u64 = search sendable in
    let h : IsSend (vec.the_row done.the_row heap.the_row alloc.ghosts) = Vec-send done.the_row done_send in
    view_send _ _ _ _ _ (declared_send inside.the_type (graph_send, (n, (n, (base_send, (h, (n, (n, (held_send, (n, tt))))))))))
