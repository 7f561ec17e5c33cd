-- Proofs of `send_outcome`, src/outcome_text.rt.
use Rattle.std.proofs.Common.{◌++◌, refl, sym, ap}
use Rattle.std.specs.List.{flat_map}
use Rattle.replies.specs.ReplyText.{end_line, vector_line, set_line}
use Rattle.replies.proofs.SendingLaws.{emits_as, emits_next, emits_stopped}
use Rattle.replies.proofs.reply_writer.ReplyWriter.send_outcome.Goals as goal

pub returns-in_err-send_bytes : goal.returns-in_err-send_bytes
returns-in_err-send_bytes g c = emits_stopped _ _ c.args.outcome.now.text ((end_line c.args.outcome.now.end c.args.outcome.now.turns)
    ++ ((flat_map vector_line c.args.outcome.now.vectors) ++ (flat_map set_line c.args.outcome.now.sets))) _ _ _ c.from_residual.ensures.1 c.as_slice.ensures c.in_err-send_bytes.ensures

pub returns-in_err-send_end : goal.returns-in_err-send_end
returns-in_err-send_end g c =
    emits_next _ _ _ c.args.outcome.now.text ((end_line c.args.outcome.now.end c.args.outcome.now.turns)
    ++ ((flat_map vector_line c.args.outcome.now.vectors) ++ (flat_map set_line c.args.outcome.now.sets))) _ _ c.in_ok-send_bytes.ensures c.as_slice.ensures
    (emits_stopped _ _ (end_line c.args.outcome.now.end c.args.outcome.now.turns)
    ((flat_map vector_line c.args.outcome.now.vectors) ++ (flat_map set_line c.args.outcome.now.sets)) _ _ _ c.from_residual-in_err-send_end.ensures.1 refl c.in_err-send_end.ensures)

pub returns-in_err-send_vectors : goal.returns-in_err-send_vectors
returns-in_err-send_vectors g c =
    emits_next _ _ _ c.args.outcome.now.text ((end_line c.args.outcome.now.end c.args.outcome.now.turns)
    ++ ((flat_map vector_line c.args.outcome.now.vectors) ++ (flat_map set_line c.args.outcome.now.sets))) _ _ c.in_ok-send_bytes.ensures c.as_slice.ensures
    (emits_next _ _ _ (end_line c.args.outcome.now.end c.args.outcome.now.turns)
    ((flat_map vector_line c.args.outcome.now.vectors) ++ (flat_map set_line c.args.outcome.now.sets)) _ _ c.in_ok-send_end.ensures refl
    (emits_stopped _ _ (flat_map vector_line c.args.outcome.now.vectors) (flat_map set_line c.args.outcome.now.sets) _ _ _ c.from_residual-in_err-send_vectors.ensures.1
    (ap (flat_map vector_line) c.as_slice-2.ensures) c.in_err-send_vectors.ensures))

pub returns : goal.returns
returns g c =
    emits_next _ _ _ c.args.outcome.now.text ((end_line c.args.outcome.now.end c.args.outcome.now.turns)
    ++ ((flat_map vector_line c.args.outcome.now.vectors) ++ (flat_map set_line c.args.outcome.now.sets))) _ _ c.in_ok-send_bytes.ensures c.as_slice.ensures
    (emits_next _ _ _ (end_line c.args.outcome.now.end c.args.outcome.now.turns)
    ((flat_map vector_line c.args.outcome.now.vectors) ++ (flat_map set_line c.args.outcome.now.sets)) _ _ c.in_ok-send_end.ensures refl
    (emits_next _ _ _ (flat_map vector_line c.args.outcome.now.vectors) (flat_map set_line c.args.outcome.now.sets) _ _ c.in_ok-send_vectors.ensures (ap (flat_map vector_line) c.as_slice-2.ensures)
    (emits_as _ _ _ _ _ c.send_sets.ensures (ap (flat_map set_line) (sym c.as_slice-3.ensures)))))
