-- EXISTS and IN of a projection, or of distinct rows, are of their input: the laws.
use Rattle.std.proofs.Common.{◌≡◌, refl, ap, sym, ◌∙◌, ℕ, true}
use Rattle.algebra.specs.declared.expr.Expr.TheVariants as expr
use Rattle.algebra.specs.Bags.{Env, SameBag}
use Rattle.algebra.specs.Columns.{ColumnSet, has}
use Rattle.algebra.specs.Expressions.{is_query_column}
use Rattle.algebra.proofs.SameBags.{any-same, same_bag-trans, same_bag-equal, select-same}
use Rattle.props.specs.Knowledge.{Knowledge, with_rows}
use Rattle.rules.specs.declared.pattern.Operator.TheVariants as operator
use Rattle.rules.specs.declared.pattern.Operators.TheVariants.{Either}
use Rattle.rules.specs.declared.shape.Shape.TheVariants.{Class}
use Rattle.rules.specs.Bindings.{ClassPick}
use Rattle.rules.specs.Formed.{IsFormed}
use Rattle.rules.specs.Patterns.{KeepsTo}
use Rattle.rules.specs.Soundness.{World, IsSound}
use Rattle.rules.specs.Stability.{IsStable}
use Rattle.rules.proofs.BoundForms.{class_selection}
use Rattle.rules.proofs.Conditions.{if-given}
use Rattle.rules.proofs.FormedBindings.{ClassLineIsFormed, class_line-formed}
use Rattle.rules.proofs.FormedLines.{Site, MayStand, Is, given-is, first-founded, select-are, class-stands, select-stands}
use Rattle.rules.proofs.MatchedLines.{given, rows_of, shape_rows}
use Rattle.rules.proofs.PatternedBindings.{LineKeepsTo, class_line-keeps}
use Rattle.rules.proofs.ShapeMeanings.{class-is, select-is}
use Rattle.rules.proofs.SoundBindings.{ClassLineIsSound, class_line-sound}
use Rattle.rules.proofs.StableBindings.{ClassLineIsStable, class_line-stable}
use Rattle.subquery_rules.specs.Replacing.{replaced, all_ask}
use Rattle.subquery_rules.specs.SubqueryOfInput as spec
use Rattle.subquery_rules.proofs.AskedConditions.{all_ask-some}
use Rattle.subquery_rules.proofs.FoundAlike.{FoundAlike, keep-found, distinct-found}
use Rattle.subquery_rules.proofs.ReplacedConditions.{replaced-holds, replaced-pass, rooted-columns}

-- ---- it gives the same rows

-- where the same is found among the class's rows and the input's, in the columns that are asked for
rows-same : (K : Knowledge) (W : World) (p : ClassPick) (y : ℕ) (M : ColumnSet) → ((e : Env) → FoundAlike M (W.rows p.class e) (W.rows y e)) → all_ask p.class p.conjuncts M ≡ true
    → SameBag (rows_of K W (class_selection p)) (shape_rows K W (spec.selection_of p y))
rows-same K W p y M found ask = same_bag-trans _ _ _
    (select-same _ _ (W.rows p.input) (W.rows p.input) (λ r. replaced-holds p.class y M W.rows r (found r) p.conjuncts ask) (λ e f. refl))
    (same_bag-equal _ _ (λ e. ap (λ m. m.rows e) (sym (select-is (with_rows K W.rows) (replaced p.class y p.conjuncts) (Class p.input) _ (class-is (with_rows K W.rows) p.input)))))

sound : ClassLineIsSound spec.rewrite
sound K W p (expr.Keep L y) s stands named of is =
    let g = if-given (all_ask p.class p.conjuncts (has L)) _ s is in
    given K W _ _ s g.1 (rows-same K W p y (has L) (λ e t reads. any-same t _ _ (of.rows e) ∙ keep-found (has L) (W.rows y) e t reads) g.0)
sound K W p (expr.Distinct y) s stands named of is =
    given K W _ _ s is (rows-same K W p y (λ k. true)
    (λ e t reads. any-same t _ _ (of.rows e) ∙ distinct-found (K.columns y) (K.free y) (W.rows y) (stands.classes.fits y) e t) (all_ask-some p.class p.conjuncts))
sound K W p y s stands named of is = cc

pub subquery_of_input_sound : IsSound spec.subquery_of_input
subquery_of_input_sound = class_line-sound spec.rewrite sound

-- ---- it keeps to its pattern

keeps : LineKeepsTo (Either operator.Keep operator.Distinct) spec.rewrite
keeps K p (expr.Keep L y) other = cc
keeps K p (expr.Distinct y) other = cc
keeps K p y other = refl

pub subquery_of_input_keeps : KeepsTo spec.pattern spec.subquery_of_input
subquery_of_input_keeps = class_line-keeps (Either operator.Keep operator.Distinct) spec.rewrite keeps

-- ---- it is well formed

selection-formed : (S : Site) (p : ClassPick) (y : ℕ) → MayStand S (class_selection p) → S.founds y ≡ true → Is S (spec.selection_of p y) (S.classes.columns p.input)
selection-formed S p y stands founded =
    let are = select-are S p.conjuncts p.input stands in
    select-stands S (replaced p.class y p.conjuncts) (Class p.input) _ (class-stands S p.input (first-founded S p.input _ stands.known)) (record {
      known = replaced-pass S.founds p.class y founded p.conjuncts are.known;
      named = rooted-columns _ (is_query_column S.instances S.own) p.conjuncts ∙ are.named;
    })

formed : ClassLineIsFormed spec.rewrite
formed S p (expr.Keep L y) s stands named of is =
    let g = if-given (all_ask p.class p.conjuncts (has L)) _ s is in
    given-is S _ s _ _ g.1 refl (selection-formed S p y stands (first-founded S y _ of.stands.known))
formed S p (expr.Distinct y) s stands named of is = given-is S _ s _ _ is refl (selection-formed S p y stands (first-founded S y _ of.stands.known))
formed S p y s stands named of is = cc

pub subquery_of_input_formed : IsFormed spec.subquery_of_input
subquery_of_input_formed = class_line-formed spec.rewrite formed

-- ---- it asks nothing of classes

stable : ClassLineIsStable spec.rewrite
stable q K L agree p (expr.Keep M y) known named next = refl
stable q K L agree p (expr.Distinct y) known named next = refl
stable q K L agree p y known named next = refl

pub subquery_of_input_stable : IsStable spec.subquery_of_input
subquery_of_input_stable = class_line-stable spec.rewrite stable
