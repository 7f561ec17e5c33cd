-- That readers go to other threads, and that threads share a graph.
use mathlib.Core.List.{[], ◌∷◌}
use mir.Syntax.{Sym}
use denote.RattleType.{RattleType}
use denote.Builtin.{u32, u64}
use denote.Param.Send.{IsSend, IsSync, view_send, view_sync, sendable}
use denote.Param.SendFields.{as_row_send, declared_send, declared_sync}
use denote.Struct.Field.{row_field}
use denote.Struct.Tuple.{TupleAt, type_at}
use Rattle.core.specs.contracts.option.Option as option
use Rattle.left_right.specs.contracts.reader.Reader as read
use Rattle.logbook.specs.contracts.tokens.Seen as seen
use Rattle.logbook.proofs.tokens.Seen.TheSendSync as seen_the
use Rattle.left_right.proofs.reader.Reader.TheSendSync as read_the
use Rattle.shared_graph.proofs.history_prefix.HistoryPrefix.TheSendSync as history_prefix_the
use Rattle.core.specs.contracts.sync.Mutex as mutex
use Rattle.left_right.proofs.writer.Writer.TheSendSync as writer_the
use Rattle.left_right.specs.contracts.writer.Writer as writer
use Rattle.std.proofs.Crossing.{crosses, Arc-send, Arc-sync, Vec-send, frees, send as heap_send, sync as heap_sync}
use Rattle.std.specs.contracts.alloc.Global as heap
use Rattle.std.specs.contracts.impls.GlobalAllocator.TheImpl as alloc
use Rattle.std.specs.contracts.sync.Arc as arc
use Rattle.tree_batch.proofs.Crossing.{graph_send, graph_sync}
use Rattle.tree_batch.specs.contracts.graph.Graph as graph
use Rattle.shared_graph.specs.contracts.book.Law as law
use Rattle.shared_graph.specs.contracts.book.LawRuleEntryU64.TheImpl as law_rule
use Rattle.shared_graph.proofs.book.Book.TheSendSync as book_the
use Rattle.shared_graph.specs.contracts.locked_state.LockedState as locked_state
use Rattle.shared_graph.specs.contracts.locked_state.LockedState.TheInside as locked_state_inside
use Rattle.shared_graph.specs.contracts.published_log.PublishedLog as published_log
use Rattle.shared_graph.specs.contracts.published_log.PublishedLog.TheInside as published_log_inside
use Rattle.shared_graph.specs.contracts.publisher.Publisher as publisher
use Rattle.shared_graph.specs.contracts.publisher.Publisher.TheInside as publisher_inside
use Rattle.shared_graph.specs.contracts.shared.SharedGraph as shared
use Rattle.shared_graph.specs.contracts.shown.ShownAbsorb.TheImpl as absorbs
use Rattle.version_list.proofs.Crossing.{versions_send}
use Rattle.shared_graph.specs.contracts.entry.Entry as entry
use Rattle.shared_graph.specs.contracts.history_prefix.HistoryPrefix as history_prefix
use Rattle.shared_graph.specs.contracts.publisher.Grows as grows
use Rattle.shared_graph.specs.contracts.publisher.GrowsProtocolShownOptionShown.TheImpl as grows_rule
use Rattle.shared_graph.specs.contracts.newest_version.NewestVersion as newest_version
use Rattle.shared_graph.specs.contracts.reader.Reader as reader
use Rattle.shared_graph.specs.contracts.reader.Reader.TheInside as reader_inside
use Rattle.shared_graph.specs.contracts.recent_edges.RecentEdges as recent_edges
use Rattle.shared_graph.proofs.recent_edges.RecentEdges.TheSendSync.{the_send as recent_send, the_sync as recent_sync}
use Rattle.shared_graph.specs.contracts.shown.Shown as shown
use Rattle.shared_graph.specs.contracts.shown.Shown.TheInside as shown_inside
use Rattle.shared_graph.specs.contracts.snapshot.Snapshot as snapshot
use Rattle.shared_graph.specs.declared.naming.Naming as naming

small_send : IsSend u32
small_send = search sendable

small_sync : IsSync u32
small_sync = search sendable

number_send : IsSend u64
number_send = search sendable

number_sync : IsSync u64
number_sync = search sendable

graph_arc_send : IsSend (arc.the_row graph.the_row heap.the_row alloc.ghosts)
graph_arc_send = Arc-send graph.the_row graph_send graph_sync

graph_arc_sync : IsSync (arc.the_row graph.the_row heap.the_row alloc.ghosts)
graph_arc_sync = Arc-sync graph.the_row graph_send graph_sync

seen_send : IsSend (seen.the_row entry.the_row u64 law.the_row law_rule.ghosts)
seen_send = seen_the.the_send entry.the_row u64 law.the_row law_rule.ghosts

seen_sync : IsSync (seen.the_row entry.the_row u64 law.the_row law_rule.ghosts)
seen_sync = seen_the.the_sync entry.the_row u64 law.the_row law_rule.ghosts

recent_arc_send : IsSend (arc.the_row recent_edges.the_row heap.the_row alloc.ghosts)
recent_arc_send = Arc-send recent_edges.the_row recent_send recent_sync

recent_arc_sync : IsSync (arc.the_row recent_edges.the_row heap.the_row alloc.ghosts)
recent_arc_sync = Arc-sync recent_edges.the_row recent_send recent_sync

snapshot_send : IsSend snapshot.the_row
snapshot_send = declared_send snapshot.the_type (number_send, (graph_arc_send, tt))

snapshot_sync : IsSync snapshot.the_row
snapshot_sync = declared_sync snapshot.the_type (number_sync, (graph_arc_sync, tt))

newest_send : IsSend newest_version.the_row
newest_send = declared_send newest_version.the_type (snapshot_send, (recent_arc_send, tt))

newest_sync : IsSync newest_version.the_row
newest_sync = declared_sync newest_version.the_type (snapshot_sync, (recent_arc_sync, tt))

shown_send : IsSend shown.the_row
shown_send = view_send _ _ _ _ _ (declared_send shown_inside.the_type
    (newest_send, (small_send, (number_send, (number_send, (seen_send, tt))))))

shown_sync : IsSync shown.the_row
shown_sync = view_sync _ _ _ _ _ (declared_sync shown_inside.the_type
    (newest_sync, (small_sync, (number_sync, (number_sync, (seen_sync, tt))))))

abbrev ShownWriter : RattleType
ShownWriter = writer.the_row shown.the_row shown.the_row (option.the_row shown.the_row) grows.the_row heap.the_row shown.the_row
    absorbs.ghosts grows_rule.ghosts alloc.ghosts

abbrev ShownRead : RattleType
ShownRead = read.the_row shown.the_row (option.the_row shown.the_row) grows.the_row heap.the_row grows_rule.ghosts alloc.ghosts

read_send : IsSend ShownRead
read_send = read_the.the_send shown.the_row (option.the_row shown.the_row) grows.the_row heap.the_row grows_rule.ghosts alloc.ghosts
    heap_send shown_sync heap_sync frees

module _ (J : RattleType) (g : naming.Ghosts J.Denot) where
  history_prefix_send : IsSend (history_prefix.the_row J g)
  history_prefix_send = history_prefix_the.the_send J g

  pub reader_send : IsSend (reader.the_row J g)
  reader_send = view_send _ _ _ _ _ (declared_send (reader_inside.the_type J g)
      (number_send, (read_send, (history_prefix_send, (history_prefix_send, (number_send, tt))))))

writer_send : IsSend ShownWriter
writer_send = writer_the.the_send shown.the_row shown.the_row (option.the_row shown.the_row) grows.the_row heap.the_row shown.the_row
    absorbs.ghosts grows_rule.ghosts alloc.ghosts shown_send shown_send heap_send shown_sync heap_sync frees

module _ (R : RattleType) (r : IsSend R) where
  publisher_send : IsSend (publisher.the_row R)
  publisher_send = view_send _ _ _ _ _ (declared_send (publisher_inside.the_type R) (writer_send, (as_row_send (row_field R) r, tt)))

module _ (J R : RattleType) (g : naming.Ghosts J.Denot) (r : IsSend R) where
  published_log_send : IsSend (published_log.the_row J R g)
  published_log_send = view_send _ _ _ _ _ (declared_send (published_log_inside.the_type J R g)
      (small_send, (number_send, (book_the.the_send J g, (history_prefix_send J g, (Vec-send u64 number_send, (publisher_send R r, tt)))))))

  locked_state_send : IsSend (locked_state.the_row J R g)
  locked_state_send = view_send _ _ _ _ _ (declared_send (locked_state_inside.the_type J R g) (versions_send, (published_log_send, tt)))

  pub graph_shared : IsSync (shared.the_row J R g)
  graph_shared =
      let m : IsSync (mutex.the_row (locked_state.the_row J R g)) = search (crosses, locked_state_send) in
      declared_sync (shared.the_type J R g) (m, tt)

-- a closure that captures four values goes to another thread with them
pub four_send : (name : Sym) (A B C D : RattleType) → IsSend A → IsSend B → IsSend C → IsSend D → IsSend (TupleAt name (A ∷ B ∷ C ∷ D ∷ []))
four_send name A B C D a b c d = declared_send (type_at name (A ∷ B ∷ C ∷ D ∷ []))
    (as_row_send (row_field A) a, (as_row_send (row_field B) b, (as_row_send (row_field C) c, (as_row_send (row_field D) d, tt))))
