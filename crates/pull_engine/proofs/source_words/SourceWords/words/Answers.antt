-- Proofs of `words`, src/source_words.rt.
use Rattle.std.proofs.Common.{ap, sym, ◌∙◌, subst}
use Rattle.pull_engine.specs.inside.Sources.{AreInBits, is_source}
use Rattle.pull_engine.specs.declared.source_words.SourceWords.{SourceWords}
use Rattle.pull_engine.proofs.SourceWords.{words_pass}
use Rattle.pull_engine.proofs.source_words.SourceWords.words.Goals as goal

pub returns-in-Members : goal.returns-in-Members
returns-in-Members c v =
    let bits = subst AreInBits c.in-Members.is c.requires in
    words_pass c.in-Members.set c.words.result (c.words.ensures.form.1 bits) c.words.ensures.members v ∙ ap (λ (s : SourceWords). is_source s v) (sym c.in-Members.is)
