-- What it says of a line that it may stand behind a log.
use Rattle.std.proofs.Common.{◌≡◌, refl, ap, ◌∙◌, ℕ, Bool, true, ◌&&◌, List, Option, Some, None, Result, Ok, Err}
use Rattle.std.proofs.lemmas.Bool.{and_parts}
use Rattle.values.specs.Faults.{◌>>=◌, wanted, wanted_if}
use Rattle.values.proofs.Results.{both_ok, wanted_ok, wanted_if_ok}
use Rattle.query.specs.declared.query.TableInstance.{TableInstance}
use Rattle.algebra.specs.declared.expr.Aggregation.{Aggregation}
use Rattle.algebra.specs.declared.expr.Expr.{Expr}
use Rattle.algebra.specs.Alike.{rooted}
use Rattle.algebra.specs.Columns.{is_subset}
use Rattle.algebra.specs.Equality.{same_columns}
use Rattle.algebra.specs.Expressions.{columns_of, is_formed, classes_pass}
use Rattle.algebra.specs.Classes.{class_columns}
use Rattle.algebra.proofs.Same.{equal_columns, equal_expr}
use Rattle.props.specs.declared.fact.Fact.{Fact}
use Rattle.props.specs.Facts.{fact_columns}
use Rattle.props.specs.Given.{gives}
use Rattle.rules.specs.declared.shape.Shape.{Shape}
use Rattle.rules.specs.declared.unfit.Unfit.{Unfit}
use Rattle.rules.specs.Matches as matches
use Rattle.rules.specs.Matches.{Matched}
use Rattle.derivation.specs.declared.line.Line.{Line}
use Rattle.derivation.specs.declared.line.Line.TheVariants.{Founds, Adds, Unites, Alike, Gives}
use Rattle.derivation.specs.declared.line.LineReason.{LineReason}
use Rattle.derivation.specs.declared.line.LineReason.TheVariants.{UnknownLine, IllFormed, OtherForm, FailedFact, OtherLine}
use Rattle.derivation.specs.declared.line.Step.{Step}
use Rattle.book.specs.Book.{given_by}
use Rattle.derivation.specs.Logs.{Log, entries, member, founds, least, are_same, knowledge}
use Rattle.derivation.specs.Replay.{stands, is_known, is_earlier, cites, is_of, applied_to, or_unfit, given, gives_fact, are_alike}
use Rattle.derivation.specs.Spelling.{is_expr, is_class}

-- ---- verdicts

-- a step behind tests that passed
test : {A B : Type 0} (r : LineReason) (b : Bool) (x : A) (f : A → Result B LineReason) (y : B) → (wanted_if r b x >>= f) ≡ Ok y → (b ≡ true) × (f x ≡ Ok y)
test r b x f y is =
    let parts = both_ok (wanted_if r b x) f y is in
    let passed = wanted_if_ok r b x parts.0 parts.1 in
    (passed.0, ap f passed.1 ∙ parts.2)

module _ (instances : List TableInstance) (own : List Aggregation) (E : Log) where
  abbrev pub cols : ℕ → List ℕ
  cols = class_columns instances (entries E)

  pub record StandsFounds (x : Expr) : Type 0 where
    pub known : classes_pass (founds E) x ≡ true
    pub formed : is_formed instances own cols x ≡ true

  pub founds-stands : (x : Expr) (l : Line) → stands instances own E (Founds x) ≡ Ok l → StandsFounds x
  founds-stands x l is =
      let one = test UnknownLine (is_known E x) (Founds x) (λ l. wanted_if IllFormed (is_formed instances own cols x) l) l is in
      record { known = one.0; formed = (wanted_if_ok IllFormed _ (Founds x) l one.1).0 }

  -- what a step gives, and what it is applied to
  pub record IsGiven (g : ℕ) (s : Step) (shape : Shape) : Type 0 where
    pub matched : Matched
    pub applied : applied_to (knowledge instances E) E g s ≡ Some matched
    pub gives : given_by s.rule matched ≡ Ok shape

  given-is : (g : ℕ) (s : Step) (shape : Shape) → given (knowledge instances E) E g s ≡ Ok shape → IsGiven g s shape
  given-is g s shape is =
      let parts = both_ok (wanted OtherForm (applied_to (knowledge instances E) E g s)) (λ m. or_unfit s.rule (given_by s.rule m)) shape is in
      record { matched = parts.0; applied = wanted_ok OtherForm _ parts.0 parts.1; gives = fit (given_by s.rule parts.0) parts.2 }
    where
      fit : (r : Result Shape Unfit) → or_unfit s.rule r ≡ Ok shape → r ≡ Ok shape
      fit (Ok t) is = let same : t ≡ shape = cc in ap Ok same
      fit (Err u) is = cc

  pub record StandsAdds (g : ℕ) (s : Step) (x : Expr) : Type 0 where
    pub class : founds E g ≡ true
    pub known : classes_pass (founds E) x ≡ true
    pub formed : is_formed instances own cols x ≡ true
    pub columns : columns_of instances cols x ≡ cols g
    pub shape : Shape
    pub given_ : IsGiven g s shape
    pub spelt : is_expr (member E) shape s.makes x ≡ true

  pub adds-stands : (g : ℕ) (s : Step) (x : Expr) (l : Line) → stands instances own E (Adds g s x) ≡ Ok l → StandsAdds g s x
  adds-stands g s x l is =
      let line : Line = Adds g s x in
      let last : Line → Shape → Result Line LineReason = λ l shape. wanted_if OtherLine (is_expr (member E) shape s.makes x) l in
      let rule : Line → Result Line LineReason = λ l. given (knowledge instances E) E g s >>= last l in
      let formed : Line → Result Line LineReason = λ l. wanted_if IllFormed (is_formed instances own cols x && same_columns (columns_of instances cols x) (cols g)) l >>= rule in
      let one = test UnknownLine (founds E g && cites E s && is_known E x) line formed l is in
      let two = test IllFormed _ line rule l one.1 in
      let three = both_ok (given (knowledge instances E) E g s) (last line) l two.1 in
      let four = wanted_if_ok OtherLine _ line l three.2 in
      let names = and_parts _ _ one.0 in
      let shapes = and_parts _ _ two.0 in
      record {
        class = (and_parts _ _ names.0).0;
        known = names.1;
        formed = shapes.0;
        columns = equal_columns _ _ shapes.1;
        shape = three.0;
        given_ = given-is g s three.0 three.1;
        spelt = four.0;
      }

  pub record StandsUnites (g h : ℕ) (s : Step) : Type 0 where
    pub first : founds E g ≡ true
    pub second : founds E h ≡ true
    pub columns : cols g ≡ cols h
    pub shape : Shape
    pub given_ : IsGiven g s shape
    pub spelt : is_class (member E) shape s.makes (are_same E h) ≡ true

  pub unites-stands : (g h : ℕ) (s : Step) (l : Line) → stands instances own E (Unites g h s) ≡ Ok l → StandsUnites g h s
  unites-stands g h s l is =
      let line : Line = Unites g h s in
      let last : Line → Shape → Result Line LineReason = λ l shape. wanted_if OtherLine (is_class (member E) shape s.makes (are_same E h)) l in
      let rule : Line → Result Line LineReason = λ l. given (knowledge instances E) E g s >>= last l in
      let formed : Line → Result Line LineReason = λ l. wanted_if IllFormed (same_columns (cols g) (cols h)) l >>= rule in
      let one = test UnknownLine (founds E g && founds E h && cites E s) line formed l is in
      let two = test IllFormed _ line rule l one.1 in
      let three = both_ok (given (knowledge instances E) E g s) (last line) l two.1 in
      let four = wanted_if_ok OtherLine _ line l three.2 in
      let names = and_parts _ _ (and_parts _ _ one.0).0 in
      record {
        first = names.0;
        second = names.1;
        columns = equal_columns _ _ two.0;
        shape = three.0;
        given_ = given-is g s three.0 three.1;
        spelt = four.0;
      }

  pub record StandsGives (g m : ℕ) (f : Fact) : Type 0 where
    pub class : founds E g ≡ true
    pub within_ : is_subset (fact_columns f) (cols g) ≡ true
    pub line : matches.Line
    pub there : member E m ≡ Some line
    pub same : are_same E line.class g ≡ true
    pub gives_ : gives instances (knowledge instances E) g line.expr f ≡ true

  pub gives-stands : (g m : ℕ) (f : Fact) (l : Line) → stands instances own E (Gives g m f) ≡ Ok l → StandsGives g m f
  gives-stands g m f l is =
      let line : Line = Gives g m f in
      let last : Line → Result Line LineReason = λ l. wanted_if FailedFact (gives_fact instances (knowledge instances E) g f (member E m)) l in
      let member_ : Line → Result Line LineReason = λ l. wanted_if OtherForm (is_of (knowledge instances E) g (member E m)) l >>= last in
      let formed : Line → Result Line LineReason = λ l. wanted_if IllFormed (is_subset (fact_columns f) (cols g)) l >>= member_ in
      let one = test UnknownLine (founds E g && is_earlier E m) line formed l is in
      let two = test IllFormed _ line member_ l one.1 in
      let three = test OtherForm _ line last l two.1 in
      let four = wanted_if_ok FailedFact _ line l three.1 in
      by (member E m) refl (and_parts _ _ one.0).0 two.0 three.0 four.0
    where
      by : (o : Option matches.Line) → member E m ≡ o → founds E g ≡ true → is_subset (fact_columns f) (cols g) ≡ true → is_of (knowledge instances E) g o ≡ true → gives_fact instances (knowledge instances E) g f o ≡ true → StandsGives g m f
      by None at class within_ of_ gives_ = cc
      by (Some k) at class within_ of_ gives_ = record { class = class; within_ = within_; line = k; there = at; same = of_; gives_ = gives_ }

  -- two lines of which the expressions are alike
  pub record StandsAlike (i j : ℕ) : Type 0 where
    pub first : matches.Line
    pub second : matches.Line
    pub first_at : member E i ≡ Some first
    pub second_at : member E j ≡ Some second
    pub alike : rooted (least E) first.expr ≡ rooted (least E) second.expr

  pub alike-stands : (i j : ℕ) (l : Line) → stands instances own E (Alike i j) ≡ Ok l → StandsAlike i j
  alike-stands i j l is =
      let line : Line = Alike i j in
      let one = test UnknownLine (is_earlier E i && is_earlier E j) line (λ l. wanted_if OtherForm (are_alike (knowledge instances E) (member E i) (member E j)) l) l is in
      by (member E i) (member E j) refl refl (wanted_if_ok OtherForm _ line l one.1).0
    where
      by : (o p : Option matches.Line) → member E i ≡ o → member E j ≡ p → are_alike (knowledge instances E) o p ≡ true → StandsAlike i j
      by None p at other is = cc
      by (Some k) None at other is = cc
      by (Some k) (Some l) at other is = record { first = k; second = l; first_at = at; second_at = other; alike = equal_expr _ _ is }
