use Rattle.std.proofs.Common.{◌∙◌, ap, codes, arith}
use Rattle.std.proofs.lemmas.Str.Pattern.{strip_prefix_char}
use Rattle.certificate_text.proofs.ConjunctLists.{list_read, none_read, unopened}
use Rattle.certificate_text.proofs.NumberLists.{texts}
use Rattle.certificate_text.proofs.TermParts.{no_text, text_same}
use Rattle.certificate_text.proofs.conjunct_lists.conjuncts.Goals as goal

pub returns-then-eq : goal.returns-then-eq
returns-then-eq c = none_read c.args.room c.args.list.now _ (text_same c.args.list.now (codes "[]") c.eq.result c.if-eq.true c.eq.ensures) c.none.ensures

pub returns-in_default : goal.returns-in_default
returns-in_default c = rw c.into.ensures (unopened c.args.room c.args.list.now (rw c.in_default.is at (strip_prefix_char 91 c.args.list.now c.strip_prefix.result c.strip_prefix.ensures.cases (omega arith))))

pub returns : goal.returns
returns c =
    list_read c.args.room c.args.list.now c.in-Some.inside.now (texts c.as_slice.result.now) (λ c. c) c.each_conjunct.result (no_text c.args.list.now (codes "[]") c.eq.result c.if-eq.false c.eq.ensures)
    (rw c.in-Some.is at (strip_prefix_char 91 c.args.list.now c.strip_prefix.result c.strip_prefix.ensures.cases (omega arith)))
    (ap texts c.as_slice.ensures.value ∙ c.in_ok-parts.ensures) c.each_conjunct.ensures
