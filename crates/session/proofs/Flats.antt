-- A release lets no version go but the ticket's.
use Rattle.std.proofs.Common.{◌≡◌, ℕ, refl, ap, ◌∙◌, arith}
use Rattle.tree_batch.specs.Digraph.{Digraph}
use Rattle.version_list.specs.declared.step.Step.TheVariants.{Release}
use Rattle.version_list.specs.declared.step.Reply.{Reply}
use Rattle.version_list.specs.declared.step.Reply.TheVariants.{Version, Ticket, Released, Trimmed, Refused}
use Rattle.version_list.specs.Machine.{State, changed, state_after, reply_to, newest_number, version_graph, is_kept}
use Rattle.version_list.specs.Kept.{IsHeld}
use Rattle.version_flats.specs.VersionFlats.{Follows}

newest_stays : (s : State) (ticket : ℕ) (reply : Reply) → newest_number (changed s (Release ticket) reply) ≡ newest_number s
newest_stays s ticket (Version number) = refl
newest_stays s ticket (Ticket number version) = refl
newest_stays s ticket Released = refl
newest_stays s ticket (Trimmed count) = refl
newest_stays s ticket (Refused number) = refl

graph_stays : (s : State) (ticket : ℕ) (reply : Reply) (k : ℕ) → version_graph (changed s (Release ticket) reply) k ≡ version_graph s k
graph_stays s ticket (Version number) k = refl
graph_stays s ticket (Ticket number version) k = refl
graph_stays s ticket Released k = refl
graph_stays s ticket (Trimmed count) k = refl
graph_stays s ticket (Refused number) k = refl

-- after a release the ticket's version may go
pub follows_a_release : (s t : State) (ticket version : ℕ) (graph : Digraph) → IsHeld s ticket version graph → t ≡ state_after s (Release ticket) → Follows s t version
follows_a_release s t ticket version graph held is =
    let reply = reply_to s (Release ticket) in
    let newest : newest_number t ≡ newest_number s = ap newest_number is ∙ newest_stays s ticket reply in
    record {
      made = omega (arith, newest);
      graphs = λ k made. ap (λ (v : State). version_graph v k) is ∙ graph_stays s ticket reply k;
      kept = λ k apart kept. ap (λ (v : State). is_kept v k) is ∙ held.alone k apart ∙ kept;
    }
