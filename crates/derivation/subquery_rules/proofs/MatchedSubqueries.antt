-- What a rule makes of a picked subquery it makes of its class, or of a selection that is a line of it: the laws of rules follow.
use Rattle.std.proofs.Common.{refl, sym, []}
use Rattle.std.proofs.lemmas.Bool.{and_parts}
use Rattle.values.proofs.Lists.{filter_all}
use Rattle.values.specs.Faults.{◌>>=◌, wanted}
use Rattle.algebra.specs.declared.expr.Expr.TheVariants as expr
use Rattle.algebra.proofs.SameBags.{same_bag-equal}
use Rattle.rules.specs.declared.pattern.Operator.TheVariants as operator
use Rattle.rules.specs.declared.pattern.Operators.TheVariants.{Only}
use Rattle.rules.specs.declared.pattern.Pattern.TheVariants.{Subquery, SubqueryLine}
use Rattle.rules.specs.declared.unfit.Unfit.TheVariants.{Pattern}
use Rattle.rules.specs.Bindings.{subquery, subquery_line}
use Rattle.rules.specs.Formed.{IsFormed}
use Rattle.rules.specs.Patterns.{KeepsTo}
use Rattle.rules.specs.Soundness.{IsSound}
use Rattle.rules.specs.Stability.{IsStable}
use Rattle.rules.proofs.FormedBindings.{SubqueryLineIsFormed, subquery-formed, subquery_line-formed}
use Rattle.rules.proofs.FormedLines.{first-founded, select-are}
use Rattle.rules.proofs.PatternedBindings.{LineKeepsTo, subquery-keeps, subquery_line-keeps}
use Rattle.rules.proofs.Picks.{picked-passes}
use Rattle.rules.proofs.SoundBindings.{SubqueryLineIsSound, subquery-sound, subquery_line-sound}
use Rattle.rules.proofs.StableBindings.{SubqueryLineIsStable, subquery-stable, subquery_line-stable}
use Rattle.rules.proofs.StableLines.{first-passes}
use Rattle.subquery_rules.specs.Unnesting.{Unnesting, alone, of_select}
use Rattle.subquery_rules.proofs.UnnestedSubqueries.{UnnestsSound, UnnestsFormed, UnnestsStable}

-- ---- alone

pub alone-sound : (unnest : Unnesting) → UnnestsSound unnest → IsSound (λ m. wanted Pattern (subquery m) >>= alone unnest m.classes)
alone-sound unnest sound = subquery-sound (alone unnest) (λ K W p s stands picked is.
    sound K W p [] p.class s stands picked (same_bag-equal _ _ (λ e. sym (filter_all (W.rows p.class e)))) is)

pub alone-keeps : (unnest : Unnesting) → KeepsTo Subquery (λ m. wanted Pattern (subquery m) >>= alone unnest m.classes)
alone-keeps unnest = subquery-keeps (alone unnest)

pub alone-formed : (unnest : Unnesting) → UnnestsFormed unnest → IsFormed (λ m. wanted Pattern (subquery m) >>= alone unnest m.classes)
alone-formed unnest formed = subquery-formed (alone unnest) (λ S p s stands picked is.
    formed S p [] p.class s stands picked (picked-passes S.founds p picked (and_parts _ _ stands.known).1) (record { known = refl; named = refl }) is)

pub alone-stable : (unnest : Unnesting) → UnnestsStable unnest → IsStable (λ m. wanted Pattern (subquery m) >>= alone unnest m.classes)
alone-stable unnest stable = subquery-stable (alone unnest) (λ q K L agree p known picked.
    stable q K L agree p [] p.class (first-passes q p.input _ known) (picked-passes q p picked (and_parts _ _ known).1))

-- ---- with a line that is a selection

module _ (unnest : Unnesting) where
  line-sound : UnnestsSound unnest → SubqueryLineIsSound (of_select unnest)
  line-sound sound K W p (expr.Select P b) s stands picked of is = sound K W p P b s stands picked of.rows is
  line-sound sound K W p y s stands picked of is = cc

  line-keeps : LineKeepsTo (Only operator.Select) (of_select unnest)
  line-keeps K p (expr.Select P b) other = cc
  line-keeps K p y other = refl

  line-formed : UnnestsFormed unnest → SubqueryLineIsFormed (of_select unnest)
  line-formed formed S p (expr.Select P b) s stands picked of is =
      formed S p P b s stands picked (first-founded S b _ of.stands.known) (select-are S P b of.stands) is
  line-formed formed S p y s stands picked of is = cc

  line-stable : UnnestsStable unnest → SubqueryLineIsStable (of_select unnest)
  line-stable stable q K L agree p (expr.Select P b) known picked next = stable q K L agree p P b (first-passes q p.input _ known) (first-passes q b _ next)
  line-stable stable q K L agree p y known picked next = refl

  pub of_select-sound : UnnestsSound unnest → IsSound (λ m. wanted Pattern (subquery_line m) >>= λ p. of_select unnest m.classes p.0 p.1)
  of_select-sound sound = subquery_line-sound (of_select unnest) (line-sound sound)

  pub of_select-keeps : KeepsTo (SubqueryLine (Only operator.Select)) (λ m. wanted Pattern (subquery_line m) >>= λ p. of_select unnest m.classes p.0 p.1)
  of_select-keeps = subquery_line-keeps (Only operator.Select) (of_select unnest) line-keeps

  pub of_select-formed : UnnestsFormed unnest → IsFormed (λ m. wanted Pattern (subquery_line m) >>= λ p. of_select unnest m.classes p.0 p.1)
  of_select-formed formed = subquery_line-formed (of_select unnest) (line-formed formed)

  pub of_select-stable : UnnestsStable unnest → IsStable (λ m. wanted Pattern (subquery_line m) >>= λ p. of_select unnest m.classes p.0 p.1)
  of_select-stable stable = subquery_line-stable (of_select unnest) (line-stable stable)
