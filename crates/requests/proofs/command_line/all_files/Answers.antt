-- Proofs of `all_files`, src/command_line.rt.
use Rattle.std.proofs.Common.{◌≡◌, ◌∙◌, ap, ap₂, true, Option, Some, None, codes, rules}
use Rattle.std.specs.Prelude.{IsSomeAnd}
use Rattle.clap.specs.Lexer.{usize_max}
use Rattle.clap.specs.Words.{Rule, new_rule, rule_of}
use Rattle.clap.specs.declared.builder.action.ArgAction.TheVariants.{Append}
use Rattle.clap.specs.declared.builder.range.ValueRange.{ValueRange}
use Rattle.requests.specs.Asked.{script_files}
use Rattle.requests.proofs.command_line.all_files.Goals as goal

some_of : {T : Type 0} (o : Option T) (x : T) → IsSomeAnd o (λ y. y ≡ x) → o ≡ Some x
some_of None x h = absurd h
some_of (Some y) x h = ap Some h

-- one file or more
abbrev at_least_one : ValueRange
at_least_one = record { start_inclusive = 1; end_inclusive = usize_max }

pub returns-clause-rule : goal.returns-clause-rule
returns-clause-rule c =
    let range : c.num_args.result.num_vals ≡ Some at_least_one = some_of _ _ c.num_args.ensures.1 in
    let required : rule_of c.required.result ≡ record (new_rule (codes "FILE")) { required = true } = search rules in
    let ranged : rule_of c.num_args.result ≡ record (new_rule (codes "FILE")) { required = true; range = Some at_least_one } =
    ap rule_of c.num_args.ensures.0 ∙ ap₂ (λ (r : Rule) (o : Option ValueRange). record r { range = o }) required range in
    let acting : rule_of c.action.result ≡ record (new_rule (codes "FILE")) { required = true; range = Some at_least_one; action = Some Append } = ap rule_of c.action.ensures
    ∙ ap (λ (r : Rule). record r { action = Some Append }) ranged in
    let shown : rule_of c.value_names.result ≡ script_files = ap rule_of c.value_names.ensures ∙ ap (λ (r : Rule). record r { value_names = 2 }) acting in
    ap rule_of c.help.ensures ∙ shown
