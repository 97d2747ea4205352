-- What a log lacks may be added as a line.
use Rattle.std.proofs.Common.{◌≡◌, refl, ap, sym, ◌∙◌, ℕ, true, false, not, ◌&&◌, List, length, Option, Some, None, Result, Ok}
use Rattle.std.proofs.lemmas.Bool.{and_from, and_parts, eq-eqb, lt-ltb}
use Rattle.values.specs.Faults.{◌>>=◌, wanted_if}
use Rattle.query.specs.declared.query.TableInstance.{TableInstance}
use Rattle.algebra.specs.declared.expr.Aggregation.{Aggregation}
use Rattle.algebra.specs.Columns.{is_subset}
use Rattle.props.specs.declared.fact.Fact.{Fact}
use Rattle.props.specs.Facts.{fact_columns}
use Rattle.props.specs.Given as facts
use Rattle.props.specs.Given.{gives}
use Rattle.props.specs.Knowledge.{Knowledge}
use Rattle.derivation.specs.declared.line.Line.{Line}
use Rattle.derivation.specs.declared.line.Line.TheVariants.{Alike, Gives}
use Rattle.derivation.specs.declared.line.LineReason.{LineReason}
use Rattle.derivation.specs.declared.line.LineReason.TheVariants.{UnknownLine, IllFormed, OtherForm, FailedFact}
use Rattle.derivation.specs.Logs.{Log, founds, member, least, knowledge}
use Rattle.derivation.specs.Replay.{Replays, is_earlier, is_of, gives_fact, are_alike, stands}
use Rattle.derivation.proofs.Lookups.{member-within}
use Rattle.bindings.specs.declared.binding.Binding.{Binding}
use Rattle.bindings.specs.declared.rule_results.RuleResult.{RuleResult}
use Rattle.bindings.specs.Bindings.{given_by_binding, GivesBinding}
use Rattle.bindings.proofs.FormedLogs.{kept_by}
use Rattle.closure.specs.Lacking.{LacksAlike, LacksGiven}
use Rattle.closure.specs.Lines.{stands_in_class, has_result_of}
use Rattle.closure.proofs.Agreeing.{are-alike}

module _ (instances : List TableInstance) (own : List Aggregation) (E : Log) where
  abbrev K : Knowledge
  K = knowledge instances E

  pub alike_stands : (i j : ℕ) → LacksAlike E i j → stands instances own E (Alike i j) ≡ Ok (Alike i j)
  alike_stands i j it =
      ap (λ b. wanted_if UnknownLine b (Alike i j) >>= λ l. wanted_if OtherForm (are_alike K (member E i) (member E j)) l)
      (and_from _ _ (lt-ltb i (length E) (member-within E i it.first it.there)) (lt-ltb j (length E) (member-within E j it.second.line it.second.there)))
      ∙ ap (λ b. wanted_if OtherForm b (Alike i j)) (ap (λ o. are_alike K o (member E j)) it.there ∙ ap (are_alike K (Some it.first)) it.second.there ∙ are-alike instances E it.first.expr it.second.line.expr it.second.alike)

  pub gives_stands : Replays instances own E → (g m : ℕ) (f : Fact) → LacksGiven instances E g m f → stands instances own E (Gives g m f) ≡ Ok (Gives g m f)
  gives_stands replays g m f it =
      ap (λ b. wanted_if UnknownLine b line >>= formed_) named ∙ ap (λ b. wanted_if IllFormed b line >>= of_) within ∙ ap (λ b. wanted_if OtherForm b line >>= last) class ∙ ap (λ b. wanted_if FailedFact b line) given_
    where
      line : Line
      line = Gives g m f

      last : Line → Result Line LineReason
      last l = wanted_if FailedFact (gives_fact instances K g f (member E m)) l

      of_ : Line → Result Line LineReason
      of_ l = wanted_if OtherForm (is_of K g (member E m)) l >>= last

      formed_ : Line → Result Line LineReason
      formed_ l = wanted_if IllFormed (is_subset (fact_columns f) (K.columns g)) l >>= of_

      both : (not (facts.is_known K it.line.class f) && is_subset (fact_columns f) (K.columns it.line.class) ≡ true) × (gives instances K it.line.class it.line.expr f ≡ true)
      both = and_parts _ _ it.fact.lacks

      named : (founds E g && is_earlier E m) ≡ true
      named = and_from _ _ (ap (founds E) (sym it.class_is) ∙ ((kept_by instances own E replays).lines m it.line it.there).class) (lt-ltb m (length E) (member-within E m it.line it.there))

      within : is_subset (fact_columns f) (K.columns g) ≡ true
      within = ap (λ g. is_subset (fact_columns f) (K.columns g)) (sym it.class_is) ∙ (and_parts (not (facts.is_known K it.line.class f)) _ both.0).1

      class : is_of K g (member E m) ≡ true
      class = ap (is_of K g) it.there ∙ eq-eqb _ _ (ap (least E) it.class_is)

      given_ : gives_fact instances K g f (member E m) ≡ true
      given_ = ap (gives_fact instances K g f) it.there ∙ ap (λ g. gives instances K g it.line.expr f) (sym it.class_is) ∙ both.1

-- what is missing is given
pub lacking_gives : (instances : List TableInstance) (E : Log) (b : Binding) → has_result_of instances E b ≡ false → GivesBinding instances E b
lacking_gives instances E b lacks = by (given_by_binding instances E b) refl lacks
  where
    by : (o : Option RuleResult) → given_by_binding instances E b ≡ o → stands_in_class (knowledge instances E) E o ≡ false → GivesBinding instances E b
    by None at is = cc
    by (Some given) at is = record { given = given; is = at }
