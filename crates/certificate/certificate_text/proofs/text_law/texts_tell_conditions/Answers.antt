use Rattle.certificate_text.proofs.DifferentTexts.{conjuncts_rise, texts_differ}
use Rattle.certificate_text.proofs.text_law.texts_tell_conditions.Goals as goal

pub returns-clause-told : goal.returns-clause-told
returns-clause-told c = texts_differ

pub returns-clause-conjuncts : goal.returns-clause-conjuncts
returns-clause-conjuncts c = conjuncts_rise
