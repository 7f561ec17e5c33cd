-- Proofs of `write`, src/writer.rt.
use Rattle.std.proofs.Common.{[], ap, sym, subst, map}
use Rattle.syntax.specs.SourceSpelling.{declaration_before, each_before, schedule_before, source_terminals}
use Rattle.syntax.specs.SourceViews.{declaration_tree, source_tree}
use Rattle.source_text.specs.ReadBack.{IsSourceReadBack}
use Rattle.source_text.proofs.Puts.{completes_same, completes_from, written_whole}
use Rattle.source_text.proofs.ReadBack.{text_of-IsReadBack}
use Rattle.source_text.proofs.writer.write.Goals as goal

written : goal.returns-clause-text
written c =
    let tree = source_tree c.args.source.now in
    written_whole (source_terminals tree) c.put_schedule.new.out.items (λ whole h.
    c.in_ok-put_schedule.ensures [] whole (c.in_ok-put_declarations.ensures (schedule_before tree.schedule []) whole
    (completes_same c.put_elements.new.out.items whole _ _ (ap (λ ds. each_before declaration_before (map declaration_tree ds) (schedule_before tree.schedule [])) (sym c.deref.ensures.value))
    (c.in_ok-put_elements.ensures (each_before declaration_before tree.declarations (schedule_before tree.schedule [])) whole
    (completes_from c.new-out.result.items [] whole (source_terminals tree) c.new-out.ensures.items h)))))

pub returns-clause-text : goal.returns-clause-text
returns-clause-text c = written c

pub returns-clause-read_back : goal.returns-clause-read_back
returns-clause-read_back c = λ writable.
    subst (λ t. IsSourceReadBack t (source_tree c.args.source.now)) (sym (written c)) (text_of-IsReadBack (source_tree c.args.source.now) writable)
