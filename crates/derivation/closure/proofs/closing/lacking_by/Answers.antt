use Rattle.std.proofs.Common.{◌≡◌, sym, ◌∙◌, subst, ℕ, ◌<◌, List, [], ◌∷◌, true, false, Some}
use Rattle.std.specs.List.{AllByRecursion}
use Rattle.rules.specs.Matches.{line_in}
use Rattle.rules.specs.Patterns.{picked_subquery}
use Rattle.closure.specs.Lines.{has_result, HasPairs, HasTriplesOver, HasResultsBy}
use Rattle.closure.proofs.Fits.{one_all, two_all, three_all, subquery_all, subquery_line_all, class_line_all}
use Rattle.closure.proofs.Lacking.{told}
use Rattle.closure.proofs.closing.lacking_by.Goals as goal

pub returns-in_ok-found-in-One : goal.returns-in_ok-found-in-One
returns-in_ok-found-in-One c =
    let instances = c.args.log.now.instances in
    let E = c.args.log.now.log in
    told instances E _ _ c.in_ok-found-in-One.found (λ alone.
    subst (HasResultsBy instances E c.args.rule c.args.line) (sym c.in-One.is ∙ c.pattern.ensures)
    (one_all instances E c.args.rule c.args.line (line_in c.args.top) c.requires.there c.in-One.operators (λ has. alone)))
    c.in_ok-found-in-One.ensures

pub returns-in_ok-found-in-Two : goal.returns-in_ok-found-in-Two
returns-in_ok-found-in-Two c =
    let instances = c.args.log.now.instances in
    let E = c.args.log.now.log in
    told instances E _ _ c.in_ok-found-in-Two.found (λ pairs.
    subst (HasResultsBy instances E c.args.rule c.args.line) (sym c.in-Two.is ∙ c.pattern.ensures)
    (two_all instances E c.args.rule c.args.line (line_in c.args.top) c.requires.there c.in-Two.operators c.in-Two.below (λ has. subst (HasPairs instances E c.args.rule 0 c.args.line) c.of-class.ensures pairs)))
    c.in_ok-found-in-Two.ensures

pub returns-in_ok-found-in-Three : goal.returns-in_ok-found-in-Three
returns-in_ok-found-in-Three c =
    let instances = c.args.log.now.instances in
    let E = c.args.log.now.log in
    told instances E _ _ c.in_ok-found-in-Three.found (λ triples.
    subst (HasResultsBy instances E c.args.rule c.args.line) (sym c.in-Three.is ∙ c.pattern.ensures)
    (three_all instances E c.args.rule c.args.line (line_in c.args.top) c.requires.there c.in-Three.operators c.in-Three.below c.in-Three.lowest
    (λ has. subst (HasTriplesOver instances E c.args.rule c.args.line c.in-Three.lowest.input) c.of-class-in-Three.ensures triples)))
    c.in_ok-found-in-Three.ensures

pub returns-in_ok-found-in-Subquery : goal.returns-in_ok-found-in-Subquery
returns-in_ok-found-in-Subquery c =
    let instances = c.args.log.now.instances in
    let E = c.args.log.now.log in
    told instances E _ _ c.in_ok-found-in-Subquery.found (λ each.
    subst (HasResultsBy instances E c.args.rule c.args.line) (sym c.in-Subquery.is ∙ c.pattern.ensures)
    (subquery_all instances E c.args.rule c.args.line (line_in c.args.top) c.requires.there
    (subst (λ (count : ℕ). (pick : ℕ) → pick < count → has_result instances E c.args.rule pick (c.args.line ∷ []) ≡ true) c.in_ok-count-in-Subquery.ensures each)))
    c.in_ok-found-in-Subquery.ensures

pub returns-in_ok-found-in-SubqueryLine : goal.returns-in_ok-found-in-SubqueryLine
returns-in_ok-found-in-SubqueryLine c =
    let instances = c.args.log.now.instances in
    let E = c.args.log.now.log in
    told instances E _ _ c.in_ok-found-in-SubqueryLine.found (λ each.
    subst (HasResultsBy instances E c.args.rule c.args.line) (sym c.in-SubqueryLine.is ∙ c.pattern.ensures)
    (subquery_line_all instances E c.args.rule c.args.line (line_in c.args.top) c.requires.there c.in-SubqueryLine.field-0
    (subst (λ (count : ℕ). (pick : ℕ) → pick < count → HasPairs instances E c.args.rule pick c.args.line (picked_subquery c.args.top.expr.now pick)) c.in_ok-count-in-SubqueryLine.ensures each)))
    c.in_ok-found-in-SubqueryLine.ensures

pub returns-in_ok-found-in-ClassLine : goal.returns-in_ok-found-in-ClassLine
returns-in_ok-found-in-ClassLine c =
    let instances = c.args.log.now.instances in
    let E = c.args.log.now.log in
    told instances E _ _ c.in_ok-found-in-ClassLine.found (λ each.
    subst (HasResultsBy instances E c.args.rule c.args.line) (sym c.in-ClassLine.is ∙ c.pattern.ensures)
    (class_line_all instances E c.args.rule c.args.line (line_in c.args.top) c.requires.there c.in-ClassLine.field-0
    (subst (AllByRecursion (λ g. HasPairs instances E c.args.rule g c.args.line (Some g))) (c.as_slice.ensures.value ∙ c.in_ok-classes-in-ClassLine.ensures) each)))
    c.in_ok-found-in-ClassLine.ensures

-- ---- a line with another operator

pub returns-then-not-include : goal.returns-then-not-include
returns-then-not-include c =
    subst (HasResultsBy c.args.log.now.instances c.args.log.now.log c.args.rule c.args.line) (sym c.in-One.is ∙ c.pattern.ensures)
    (one_all c.args.log.now.instances c.args.log.now.log c.args.rule c.args.line (line_in c.args.top) c.requires.there c.in-One.operators
    (λ has. let never : true ≡ false = sym has ∙ (sym c.include.ensures ∙ c.if-not-include.true) in cc))

pub returns-then-not-include-2 : goal.returns-then-not-include-2
returns-then-not-include-2 c =
    subst (HasResultsBy c.args.log.now.instances c.args.log.now.log c.args.rule c.args.line) (sym c.in-Two.is ∙ c.pattern.ensures)
    (two_all c.args.log.now.instances c.args.log.now.log c.args.rule c.args.line (line_in c.args.top) c.requires.there c.in-Two.operators c.in-Two.below
    (λ has. let never : true ≡ false = sym has ∙ (sym c.include-in-Two.ensures ∙ c.if-not-include-2.true) in cc))

pub returns-then-not-include-3 : goal.returns-then-not-include-3
returns-then-not-include-3 c =
    subst (HasResultsBy c.args.log.now.instances c.args.log.now.log c.args.rule c.args.line) (sym c.in-Three.is ∙ c.pattern.ensures)
    (three_all c.args.log.now.instances c.args.log.now.log c.args.rule c.args.line (line_in c.args.top) c.requires.there c.in-Three.operators c.in-Three.below c.in-Three.lowest
    (λ has. let never : true ≡ false = sym has ∙ (sym c.include-in-Three.ensures ∙ c.if-not-include-3.true) in cc))
