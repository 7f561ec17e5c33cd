-- Proofs of `put_number`, src/terminals.rt.
use Rattle.std.proofs.Common.{◌≡◌, rules, refl, ◌++◌, ◌∷◌, [], append_assoc, ◌∙◌, ap}
use Rattle.syntax.specs.Terminals.{Number}
use Rattle.source_text.specs.Text.{terminal_bytes}
use Rattle.source_text.proofs.Puts.{put_terminal}
use Rattle.source_text.proofs.terminals.put_number.Goals as goal

pub returns : goal.returns
returns c =
    let written : c.push_integer.new.out.items ≡ c.args.out.now.items ++ terminal_bytes (Number c.args.number.now) = search rules in
    put_terminal (Number c.args.number.now) (terminal_bytes (Number c.args.number.now)) 32 c.args.out.now.items c.push.new.self.items refl refl
    (c.in_ok-push.ensures.items ∙ ap (λ b. b ++ 32 ∷ []) written
    ∙ append_assoc c.args.out.now.items (terminal_bytes (Number c.args.number.now)) (32 ∷ []))
