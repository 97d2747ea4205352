use Rattle.std.proofs.Common.{refl, sym, subst, ◌+◌, List, [], ◌∷◌, ◌++◌, get_or, take, arith}
use Rattle.std.specs.List.{AllZip}
use Rattle.std.proofs.lemmas.List.{get_or_default, take_all}
use Rattle.values.proofs.Lists.{take_next}
use Rattle.query.specs.declared.aggregates.Running.{Running}
use Rattle.algebra.specs.declared.expr.Aggregation.{Aggregation}
use Rattle.grouping.specs.Totals.{IsHeld}
use Rattle.grouping.proofs.AllRows.{none}
use Rattle.grouping.proofs.Zips.{zip-push}
use Rattle.grouping.proofs.totals.Totals.new.Goals as goal

abbrev held : Aggregation → Running → Type 0
held a r = IsHeld a.aggregate [] r

pub returns : goal.returns
returns c = record {
  count_is = refl;
  held = subst (λ (A : List Aggregation). AllZip held A c.loop-one.running.items) (take_all c.loop-one.one-index c.args.added.now (omega arith)) c.loop-one.invariant;
}

pub loop-one-preserved : goal.loop-one-preserved
loop-one-preserved c =
    let A = c.args.added.now in
    let i = c.loop-one.one-index in
    let one = get_or A i none in
    subst (AllZip held (take (i + 1) A)) (sym c.in_ok-push.ensures.items)
    (subst (λ (B : List Aggregation). AllZip held B (c.loop-one.running.items ++ c.new.result ∷ [])) (sym (take_next A i one (omega arith) (get_or_default A i none one (omega arith))))
    (zip-push held (take i A) c.loop-one.running.items one c.new.result c.loop-one.invariant (λ other. c.new.ensures)))
