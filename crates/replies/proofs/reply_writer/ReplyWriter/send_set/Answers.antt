-- Proofs of `send_set`, src/outcome_text.rt.
use Rattle.std.proofs.Common.{[], ◌∷◌, ◌++◌, codes, refl, ap, decimal}
use Rattle.std.specs.List.{flat_map}
use Rattle.replies.proofs.SendingLaws.{emits_next, emits_stopped}
use Rattle.replies.proofs.reply_writer.ReplyWriter.send_set.Goals as goal

pub returns-in_err-send_bytes : goal.returns-in_err-send_bytes
returns-in_err-send_bytes g c =
    emits_stopped _ _ (codes "set ") (c.args.set.now.name ++ (58 ∷ ((flat_map (λ n. 32 ∷ decimal n) c.args.set.now.members)
    ++ (10 ∷ [])))) _ _ _ c.from_residual.ensures.1 refl c.in_err-send_bytes.ensures

pub returns-in_err-send_bytes-2 : goal.returns-in_err-send_bytes-2
returns-in_err-send_bytes-2 g c =
    emits_next _ _ _ (codes "set ") (c.args.set.now.name ++ (58 ∷ ((flat_map (λ n. 32 ∷ decimal n) c.args.set.now.members) ++ (10 ∷ [])))) _ _ c.in_ok-send_bytes.ensures refl
    (emits_stopped _ _ c.args.set.now.name (58 ∷ ((flat_map (λ n. 32 ∷ decimal n) c.args.set.now.members)
    ++ (10 ∷ []))) _ _ _ c.from_residual-in_err-send_bytes-2.ensures.1 c.as_slice.ensures c.in_err-send_bytes-2.ensures)

pub returns-in_err-send_bytes-3 : goal.returns-in_err-send_bytes-3
returns-in_err-send_bytes-3 g c =
    emits_next _ _ _ (codes "set ") (c.args.set.now.name ++ (58 ∷ ((flat_map (λ n. 32 ∷ decimal n) c.args.set.now.members) ++ (10 ∷ [])))) _ _ c.in_ok-send_bytes.ensures refl
    (emits_next _ _ _ c.args.set.now.name (58 ∷ ((flat_map (λ n. 32 ∷ decimal n) c.args.set.now.members) ++ (10 ∷ []))) _ _ c.in_ok-send_bytes-2.ensures c.as_slice.ensures
    (emits_stopped _ _ (58 ∷ []) ((flat_map (λ n. 32 ∷ decimal n) c.args.set.now.members) ++ (10 ∷ [])) _ _ _ c.from_residual-in_err-send_bytes-3.ensures.1 refl c.in_err-send_bytes-3.ensures))

pub returns-in_err-send_members : goal.returns-in_err-send_members
returns-in_err-send_members g c =
    emits_next _ _ _ (codes "set ") (c.args.set.now.name ++ (58 ∷ ((flat_map (λ n. 32 ∷ decimal n) c.args.set.now.members) ++ (10 ∷ [])))) _ _ c.in_ok-send_bytes.ensures refl
    (emits_next _ _ _ c.args.set.now.name (58 ∷ ((flat_map (λ n. 32 ∷ decimal n) c.args.set.now.members) ++ (10 ∷ []))) _ _ c.in_ok-send_bytes-2.ensures c.as_slice.ensures
    (emits_next _ _ _ (58 ∷ []) ((flat_map (λ n. 32 ∷ decimal n) c.args.set.now.members) ++ (10 ∷ [])) _ _ c.in_ok-send_bytes-3.ensures refl
    (emits_stopped _ _ (flat_map (λ n. 32 ∷ decimal n) c.args.set.now.members) (10 ∷ []) _ _ _ c.from_residual-in_err-send_members.ensures.1
    (ap (flat_map (λ n. 32 ∷ decimal n)) c.as_slice-2.ensures) c.in_err-send_members.ensures)))

pub returns : goal.returns
returns g c =
    emits_next _ _ _ (codes "set ") (c.args.set.now.name ++ (58 ∷ ((flat_map (λ n. 32 ∷ decimal n) c.args.set.now.members) ++ (10 ∷ [])))) _ _ c.in_ok-send_bytes.ensures refl
    (emits_next _ _ _ c.args.set.now.name (58 ∷ ((flat_map (λ n. 32 ∷ decimal n) c.args.set.now.members) ++ (10 ∷ []))) _ _ c.in_ok-send_bytes-2.ensures c.as_slice.ensures
    (emits_next _ _ _ (58 ∷ []) ((flat_map (λ n. 32 ∷ decimal n) c.args.set.now.members) ++ (10 ∷ [])) _ _ c.in_ok-send_bytes-3.ensures refl
    (emits_next _ _ _ (flat_map (λ n. 32 ∷ decimal n) c.args.set.now.members) (10 ∷ []) _ _ c.in_ok-send_members.ensures (ap (flat_map (λ n. 32 ∷ decimal n)) c.as_slice-2.ensures)
    (c.send_bytes-4.ensures))))
