-- Proofs of `send_edges`, src/reply_writer.rt.
use Rattle.std.proofs.Common.{◌≡◌, [], ◌∷◌, ◌++◌, ◌∙◌, length, codes, sym, ap, append_assoc}
use Rattle.std.specs.List.{flat_map}
use Rattle.replies.specs.ReplyText.{word_line, edge_line}
use Rattle.replies.proofs.SendingLaws.{fails_more, sends_item, fails_item, emits_failed}
use Rattle.replies.proofs.reply_writer.ReplyWriter.send_edges.Goals as goal

pub returns-in_err-send_line : goal.returns-in_err-send_line
returns-in_err-send_line g c =
    let first = fails_more _ _ (word_line (codes "edges") c.edge_count.result) (flat_map edge_line c.args.graph.now.edges) _ c.in_err-send_line.ensures in
    emits_failed _ _ _ _ _ c.from_residual.ensures.1 (rw (← c.edge_count.ensures) first)

pub edges-preserved : goal.edges-preserved
edges-preserved g c =
    let first = word_line (codes "edges") (length c.args.graph.now.edges) in (
      sends_item edge_line _ _ _ first c.edges.yielded c.in-Some.edge c.edges.invariant.0 c.in_ok-send_edge.ensures,
      append_assoc c.edges.yielded (c.in-Some.edge ∷ []) c.next.new.self ∙ ap (λ es. c.edges.yielded ++ es) (sym c.in-Some.ensures.steps) ∙ c.edges.invariant.1,
    )

pub returns-in_err-send_edge : goal.returns-in_err-send_edge
returns-in_err-send_edge g c =
    let first = word_line (codes "edges") (length c.args.graph.now.edges) in
    let all : c.edges.yielded ++ c.in-Some.edge ∷ c.next.new.self ≡ c.args.graph.now.edges = ap (λ es. c.edges.yielded ++ es) (sym c.in-Some.ensures.steps) ∙ c.edges.invariant.1 in
    emits_failed _ _ _ _ _ c.from_residual-in_err-send_edge.ensures.1
    (fails_item edge_line _ _ _ first c.edges.yielded c.next.new.self c.args.graph.now.edges c.in-Some.edge c.in_err-send_edge.field-0.0 all c.edges.invariant.0 c.in_err-send_edge.ensures)
