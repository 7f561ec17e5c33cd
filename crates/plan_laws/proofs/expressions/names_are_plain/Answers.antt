-- Proofs of `names_are_plain`, src/expressions.rt.
use Rattle.plan_laws.proofs.Plain.{bound_is_plain, name_is_bare, name_is_no_mark, name_is_one_word, name_is_plain}
use Rattle.plan_laws.proofs.expressions.names_are_plain.Goals as goal

pub returns-clause-plain : goal.returns-clause-plain
returns-clause-plain c = name_is_plain

pub returns-clause-bounds : goal.returns-clause-bounds
returns-clause-bounds c = bound_is_plain

pub returns-clause-one_word : goal.returns-clause-one_word
returns-clause-one_word c = name_is_one_word

pub returns-clause-bare : goal.returns-clause-bare
returns-clause-bare c = name_is_bare

pub returns-clause-no_marks : goal.returns-clause-no_marks
returns-clause-no_marks c = name_is_no_mark
