use Rattle.certificate_text.proofs.NumberLists.{texts}
use Rattle.certificate_text.proofs.AggregateLists.{words_more, words_whole}
use Rattle.certificate_text.proofs.aggregates.column_words.Goals as goal

pub returns : goal.returns
returns c = words_whole c.args.parts.now c.loop-part.part-index (texts c.loop-part.words.items) c.loop-part-test.false c.loop-part.invariant

pub loop-part-preserved : goal.loop-part-preserved
loop-part-preserved c = words_more c.args.parts.now c.loop-part.part-index _ c.column_word.result c.loop-part.words.items c.push.new.self.items c.loop-part-test.true c.loop-part.invariant c.column_word.ensures c.in_ok-push.ensures.items
