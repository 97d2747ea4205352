use Rattle.std.proofs.Common.{◌≡◌, ap, sym, ◌∙◌, inl, inr, length, arith}
use Rattle.std.proofs.lemmas.Bool.{cases_eq}
use Rattle.joins.specs.Hashes.{bucket_of}
use Rattle.joins.specs.KeyMarks.{key_at}
use Rattle.joins.proofs.key_marks.marked_buckets.Goals as goal

pub loop-number-preserved : goal.loop-number-preserved
loop-number-preserved c =
    let n = c.loop-number.number in
    let columns = c.args.columns.now in
    let count = c.mark_count-size.result in
    let size : length c.mark.new.marks ≡ count = c.mark.ensures.size ∙ c.loop-number.invariant.size in
    let here : c.key_bucket.result ≡ bucket_of count 0 (key_at columns n) = c.key_bucket.ensures.is in
    record {
      size = size;
      marks = λ i bucket below is. elim (cases_eq i n) [
        | inl same ↦ c.mark.ensures.marked bucket (here ∙ ap (λ j. bucket_of count 0 (key_at columns j)) (sym same) ∙ ap (λ s. bucket_of s 0 (key_at columns i)) (sym size) ∙ is)
        | inr off ↦ c.mark.ensures.kept bucket (c.loop-number.invariant.marks i bucket (omega (arith, below, off)) (ap (λ s. bucket_of s 0 (key_at columns i)) (sym c.mark.ensures.size) ∙ is))
      ];
    }
