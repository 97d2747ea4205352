use Rattle.std.proofs.Common.{◌∙◌, ap, rules}
use Rattle.query.specs.Rows.{count}
use Rattle.query.specs.Answer.{keys_order}
use Rattle.oracle.proofs.Sorting.{keys_total, sorted_by, allowed, count-sorted}
use Rattle.oracle.proofs.answer.meaning.Goals as goal

pub returns : goal.returns
returns c =
    let q = c.args.query.now in
    let sorted = sorted_by (keys_order q.order) (keys_total q.order) _ c.in_ok-sort_by.ensures.sorted (λ a r f' k. search rules) in
    record {
      spread = λ r. count-sorted r c.in_ok-answer.answer.items c.sort_by.new.self.items c.in_ok-sort_by.ensures.permutation ∙ ap (count r) c.in_ok-answer.ensures;
      ordered = allowed q.order c.sort_by.new.self.items sorted;
    }
