-- What the lines of a log say is true.
use Rattle.std.proofs.Common.{◌≡◌, refl, ap, sym, ◌∙◌, subst, inl, inr, ℕ, suc, ◌<◌, Bool, true, false, ◌==◌, nat_lt, List, [], ◌∷◌, length, Option, Some, None, Ok, if◌then◌else◌, arith}
use Rattle.std.specs.List.{AllByRecursion}
use Rattle.std.proofs.lemmas.Bool.{and_parts, eq-eqb, eqb-true, ltb-true, lt-ltb}
use Rattle.std.proofs.lemmas.List.{length-map}
use Rattle.schema.specs.declared.schema.Schema.{Schema}
use Rattle.schema.specs.Databases.{Database, Satisfies}
use Rattle.query.specs.declared.query.TableInstance.{TableInstance}
use Rattle.query.specs.Bound.{IsOver}
use Rattle.query.specs.Rows.{Tables, tables_of}
use Rattle.algebra.specs.declared.expr.Aggregation.{Aggregation}
use Rattle.algebra.specs.declared.expr.Expr.{Expr}
use Rattle.algebra.specs.declared.expr.Expr.TheVariants.{Keep}
use Rattle.algebra.specs.Bags.{SameBag}
use Rattle.algebra.specs.Expressions.{Classes, means, columns_of, classes_pass}
use Rattle.algebra.specs.Classes.{class_rows, classes, AreFormed}
use Rattle.algebra.proofs.Alike.{alike_is_same}
use Rattle.algebra.proofs.Same.{equal_expr}
use Rattle.algebra.proofs.SameBags.{same_bag-trans, same_bag-equal}
use Rattle.laws.proofs.Expressions.{classes_are_fitting}
use Rattle.props.specs.declared.fact.Fact.{Fact}
use Rattle.props.specs.Given.{gives}
use Rattle.props.specs.Knowledge.{Knowledge, IsTrueOf}
use Rattle.props.proofs.GivenFacts.{given_facts_hold}
use Rattle.rules.specs.declared.shape.Shape.{Shape}
use Rattle.rules.specs.Matches as matches
use Rattle.rules.specs.Matches.{Matched}
use Rattle.rules.specs.Shapes.{meant}
use Rattle.rules.specs.Soundness.{World, IsLine}
use Rattle.derivation.specs.declared.line.Line.{Line}
use Rattle.derivation.specs.declared.line.Line.TheVariants.{Founds, Adds, Unites, Alike, Gives}
use Rattle.derivation.specs.declared.line.Step.{Step}
use Rattle.book.specs.Book.{given_by}
use Rattle.derivation.specs.Laws.{world, LogsAreTrue}
use Rattle.derivation.specs.Logs.{Log, entry, entries, member, or_class, class_at, founds, least, are_same, facts, knowledge}
use Rattle.derivation.specs.Replay as spec
use Rattle.derivation.specs.Replay.{Replays, members}
use Rattle.derivation.specs.Spelling.{is_whole}
use Rattle.book.proofs.RuleLaws.{book_sound}
use Rattle.derivation.proofs.Invariants.{same_bag-turned, AreAlike, alike-turned, alike-along, AgreeBelow, IsMember, IsFact, AreTrue, member-true, facts-true, member-stays, fact-stays, all-stay}
use Rattle.derivation.proofs.Agreement.{means-agree, columns-agree, formed-agree}
use Rattle.derivation.proofs.Lookups.{columns-stay, rows-stay, founded, below, classes-wider, member-within}
use Rattle.derivation.proofs.Sameness.{AreBelow, same-below, united-relate}
use Rattle.derivation.proofs.Standing.{IsGiven, StandsFounds, StandsAdds, StandsUnites, StandsGives, StandsAlike, founds-stands, adds-stands, unites-stands, gives-stands, alike-stands}
use Rattle.derivation.proofs.Spellings.{shape-spells}

-- ---- what is true of a log

abbrev world_of : List TableInstance → Tables → Log → Classes
world_of instances D E = classes instances D (entries E)

record Holds (instances : List TableInstance) (own : List Aggregation) (D : Tables) (E : Log) : Type 0 where
  formed : AreFormed instances own (entries E)
  low : AreBelow E
  lines : AreTrue instances own D (length E) (world_of instances D E) E
  same : (x y : ℕ) → least E x ≡ least E y → AreAlike (world_of instances D E) x y

module _ (S : Schema) (B : Database) (satisfies : Satisfies S B) (instances : List TableInstance) (over : AllByRecursion (IsOver S) instances) (own : List Aggregation) where
  abbrev D : Tables
  D = tables_of S B

  abbrev V : Log → Classes
  V E = world_of instances D E

  -- all that is known is true
  known-true : (E : Log) → Holds instances own D E → IsTrueOf (knowledge instances E) (class_rows instances D (entries E))
  known-true E holds = record {
    fits = classes_are_fitting instances own D (entries E) holds.formed;
    same = λ g h is. holds.same g h (eqb-true (least E g) (least E h) is);
    facts = λ g. facts-true instances own D (length E) (V E) g (are_same E g) (λ h is. holds.same g h (eqb-true (least E g) (least E h) is)) E holds.lines;
  }

  agree : (l : Line) (E : Log) → AgreeBelow (length E) (V E) (V (l ∷ E))
  agree l E g lt = (sym (columns-stay instances l E g lt), same_bag-equal _ _ (λ e. sym (rows-stay instances D l E g e lt)))

  same-stay : (l : Line) (E : Log) → Holds instances own D E → (x y : ℕ) → least E x ≡ least E y → AreAlike (V (l ∷ E)) x y
  same-stay l E holds x y is = elim (same-below E holds.low x y is) [
    | inl one ↦ subst (AreAlike (V (l ∷ E)) x) one (refl, λ e f. refl)
    | inr both ↦ lift x y both.0 both.1 (holds.same x y is)
  ]
    where
      lift : (x y : ℕ) → x < length E → y < length E → AreAlike (V E) x y → AreAlike (V (l ∷ E)) x y
      lift x y lt other alike =
          let first = agree l E x lt in
          let second = agree l E y other in (
            sym first.0 ∙ alike.0 ∙ second.0,
            same_bag-trans _ _ _ (same_bag-turned _ _ first.1) (same_bag-trans _ _ _ alike.1 second.1),
          )

  -- ---- steps

  module _ (E : Log) (holds : Holds instances own D E) where
    abbrev K : Knowledge
    K = knowledge instances E

    abbrev W : World
    W = world instances own D E

    is-line : (i : ℕ) (l : matches.Line) → member E i ≡ Some l → IsLine K W l
    is-line i l at = let m = member-true instances own D (length E) (V E) E holds.lines i l at in record { formed = m.formed; columns = m.columns; rows = m.rows }

    all-lines : (numbers : List ℕ) (lines : List matches.Line) → members E numbers ≡ Some lines → AllByRecursion (IsLine K W) lines
    all-lines [] lines is = subst (AllByRecursion (IsLine K W)) (let e : [] ≡ lines = cc in e) tt
    all-lines (i ∷ numbers) lines is = by (member E i) (members E numbers) refl (all-lines numbers) is
      where
        by : (o : Option matches.Line) (rest : Option (List matches.Line)) → member E i ≡ o → ((others : List matches.Line) → rest ≡ Some others → AllByRecursion (IsLine K W) others)
            → spec.both_lines o rest ≡ Some lines → AllByRecursion (IsLine K W) lines
        by None rest at later is = cc
        by (Some l) None at later is = cc
        by (Some l) (Some others) at later is = subst (AllByRecursion (IsLine K W)) (let e : (l ∷ others) ≡ lines = cc in e) (is-line i l at, later others refl)

    -- a step from a class gives what has the class's bag
    step-true : (g : ℕ) (s : Step) (shape : Shape) → IsGiven instances own E g s shape → SameBag ((V E).rows g) (meant (V E) shape).rows
    step-true g s shape is = by (members E s.uses) refl is.applied
      where
        by : (o : Option (List matches.Line)) → members E s.uses ≡ o → spec.matched_at (knowledge instances E) E g s o ≡ Some is.matched → SameBag ((V E).rows g) (meant (V E) shape).rows
        by None there at = cc
        by (Some []) there at = cc
        by (Some (top ∷ others)) there at = begins (are_same E top.class g) refl at
          where
            begins : (b : Bool) → are_same E top.class g ≡ b → (if b then Some (record { lines = top ∷ others; pick = s.pick; classes = K }) else None) ≡ Some is.matched → SameBag ((V E).rows g) (meant (V E) shape).rows
            begins false same at = cc
            begins true same at =
                let m : Matched = record { lines = top ∷ others; pick = s.pick; classes = K } in
                let e : m ≡ is.matched = cc in
                let lines = all-lines s.uses (top ∷ others) there in
                let gives_ : given_by s.rule m ≡ Ok shape = ap (given_by s.rule) e ∙ is.gives in
                let sound = book_sound s.rule m shape gives_ W (record { classes = known-true E holds; lines = lines }) top others refl in
                let alike = holds.same top.class g (eqb-true (least E top.class) (least E g) same) in
                same_bag-trans _ _ _ (same_bag-turned _ _ alike.1) (same_bag-trans _ _ _ lines.0.rows sound)

    lines-mean : (i : ℕ) (l : matches.Line) → member E i ≡ Some l → (columns_of instances (V E).columns l.expr ≡ (V E).columns l.class) × SameBag ((V E).rows l.class) (means instances D (V E) l.expr)
    lines-mean i l at = let is = is-line i l at in (is.columns, is.rows)

    -- the lines behind what is spelt are all used up
    whole : {X : Type 0} (p : X → Bool) (o : Option (X × List ℕ)) → is_whole (member E) p o ≡ true → (q : X × List ℕ) × (o ≡ Some q) × (p q.0 ≡ true)
    whole p None is = cc
    whole p (Some q) is = (q, refl, (and_parts _ _ is).1)

    adds-true : (g : ℕ) (s : Step) (x : Expr) → StandsAdds instances own E g s x → SameBag ((V E).rows g) (means instances D (V E) x)
    adds-true g s x is =
        let spelt = whole _ _ is.spelt in
        let y : Expr = spelt.0.0 in
        let it : y ≡ x = equal_expr y x spelt.2 in
        let says = (shape-spells instances own D (V E) (member E) lines-mean is.shape).expr s.makes spelt.0.1 y spelt.1 in
        same_bag-trans _ _ _ (step-true g s is.shape is.given_) (subst (λ z. SameBag (meant (V E) is.shape).rows (means instances D (V E) z)) it says.1)

    unites-true : (g h : ℕ) (s : Step) → StandsUnites instances own E g h s → AreAlike (V E) g h
    unites-true g h s is =
        let spelt = whole _ _ is.spelt in
        let k : ℕ = spelt.0.0 in
        let says = (shape-spells instances own D (V E) (member E) lines-mean is.shape).class s.makes spelt.0.1 k spelt.1 in
        let alike = holds.same h k (eqb-true (least E h) (least E k) spelt.2) in
        (is.columns, same_bag-trans _ _ _ (step-true g s is.shape is.given_) (same_bag-trans _ _ _ says.1 (same_bag-turned _ _ alike.1)))

    gives-true : (g m : ℕ) (f : Fact) → StandsGives instances own E g m f → IsFact instances own D (length E) (V E) g f
    gives-true g m f is =
        let line = is-line m is.line is.there in
        let alike = holds.same is.line.class g (eqb-true (least E is.line.class) (least E g) is.same) in
        record {
          below = founded E g is.class;
          within = is.within_;
          holds = given_facts_hold S B satisfies instances over own K (class_rows instances D (entries E)) (known-true E holds) g is.line.expr line.formed (line.columns ∙ alike.0)
              (same_bag-trans _ _ _ (same_bag-turned _ _ alike.1) line.rows) f is.within_ is.gives_;
        }

  -- ---- one line more

  count : (E : Log) → length (entries E) ≡ length E
  count E = length-map E entry

  -- a line that founds no class has an entry that is well formed
  idle-line : (E : Log) (g : ℕ) → g < length E → AreFormed instances own (entries E) → AreFormed instances own (Keep [] 0 ∷ entries E)
  idle-line E g lt formed =
      let pass : nat_lt 0 (length (entries E)) ≡ true = lt-ltb 0 (length (entries E)) (omega (arith, lt, count E)) in
      (rw pass refl, refl, formed)

  idle : (E : Log) (g : ℕ) → founds E g ≡ true → AreFormed instances own (entries E) → AreFormed instances own (Keep [] 0 ∷ entries E)
  idle E g is = idle-line E g (founded E g is)

  low-names : (E : Log) (x : Expr) → classes_pass (founds E) x ≡ true → classes_pass (λ g. nat_lt g (length E)) x ≡ true
  low-names E x known = below E x known

  -- what stays true
  stay : (l : Line) (E : Log) → Holds instances own D E → AreTrue instances own D (length (l ∷ E)) (V (l ∷ E)) E
  stay l E holds = all-stay instances own D (length E) (V E) (V (l ∷ E)) (agree l E) E holds.lines

  founds-holds : (x : Expr) (E : Log) → Holds instances own D E → StandsFounds instances own E x → Holds instances own D (Founds x ∷ E)
  founds-holds x E holds is =
      let l : Line = Founds x in
      let n : ℕ = length E in
      let known : classes_pass (λ g. nat_lt g n) x ≡ true = low-names E x is.known in
      let agrees = λ (g : ℕ) (lt : nat_lt g n ≡ true). agree l E g (ltb-true g n lt) in
      let top : (n == length (entries E)) ≡ true = eq-eqb n (length (entries E)) (sym (count E)) in
      record {
        formed = (ap (λ n. classes_pass (λ g. nat_lt g n) x) (count E) ∙ known, is.formed, holds.formed);
        low = holds.low;
        lines = (
          record {
            below = omega arith;
            known = wider n x known;
            formed = sym (formed-agree instances own D (V E) (V (l ∷ E)) (λ g. nat_lt g n) agrees x known) ∙ is.formed;
            columns = sym (columns-agree instances own D (V E) (V (l ∷ E)) (λ g. nat_lt g n) agrees x known) ∙ sym (rw top refl);
            rows = same_bag-trans _ _ _ (same_bag-equal _ _ (λ e. rw top refl)) (means-agree instances own D (V E) (V (l ∷ E)) (λ g. nat_lt g n) agrees x known);
          },
          stay l E holds,
        );
        same = same-stay l E holds;
      }
    where
      wider : (n : ℕ) (x : Expr) → classes_pass (λ g. nat_lt g n) x ≡ true → classes_pass (λ g. nat_lt g (suc n)) x ≡ true
      wider n x pass = classes-wider (λ g. nat_lt g n) (λ g. nat_lt g (suc n)) (λ g lt. lt-ltb g (suc n) (let less : g < n = ltb-true g n lt in omega (arith, less))) x pass

  adds-holds : (g : ℕ) (s : Step) (x : Expr) (E : Log) → Holds instances own D E → StandsAdds instances own E g s x → Holds instances own D (Adds g s x ∷ E)
  adds-holds g s x E holds is =
      let l : Line = Adds g s x in
      let here : IsMember instances own D (length E) (V E) (record { class = g; expr = x }) = record {
        below = founded E g is.class;
        known = low-names E x is.known;
        formed = is.formed;
        columns = is.columns;
        rows = adds-true E holds g s x is;
      } in
      record {
        formed = idle E g is.class holds.formed;
        low = holds.low;
        lines = (member-stays instances own D (length E) (V E) (V (l ∷ E)) (agree l E) _ here, stay l E holds);
        same = same-stay l E holds;
      }

  unites-holds : (g h : ℕ) (s : Step) (E : Log) → Holds instances own D E → StandsUnites instances own E g h s → Holds instances own D (Unites g h s ∷ E)
  unites-holds g h s E holds is =
      let l : Line = Unites g h s in
      let first : g < length E = founded E g is.first in
      let second : h < length E = founded E h is.second in
      let alike = unites-true E holds g h s is in
      let one = agree l E g first in
      let two = agree l E h second in
      record {
        formed = idle E g is.first holds.formed;
        low = (first, second, holds.low);
        lines = (tt, stay l E holds);
        same = united-relate (AreAlike (V (l ∷ E))) (alike-turned (V (l ∷ E))) (alike-along (V (l ∷ E))) E (same-stay l E holds) g h (
          sym one.0 ∙ alike.0 ∙ two.0,
          same_bag-trans _ _ _ (same_bag-turned _ _ one.1) (same_bag-trans _ _ _ alike.1 two.1),
        );
      }

  gives-holds : (g m : ℕ) (f : Fact) (E : Log) → Holds instances own D E → StandsGives instances own E g m f → Holds instances own D (Gives g m f ∷ E)
  gives-holds g m f E holds is =
      let l : Line = Gives g m f in
      record {
        formed = idle E g is.class holds.formed;
        low = holds.low;
        lines = (fact-stays instances own D (length E) (V E) (V (l ∷ E)) (agree l E) g f (gives-true E holds g m f is), stay l E holds);
        same = same-stay l E holds;
      }

  alike-holds : (i j : ℕ) (E : Log) → Holds instances own D E → StandsAlike instances own E i j → Holds instances own D (Alike i j ∷ E)
  alike-holds i j E holds is =
      let l : Line = Alike i j in
      let first = member-true instances own D (length E) (V E) E holds.lines i is.first is.first_at in
      let second = member-true instances own D (length E) (V E) E holds.lines j is.second is.second_at in
      let same = alike_is_same instances D (V E) (least E) holds.same is.first.expr is.second.expr is.alike in
      let alike : AreAlike (V E) is.first.class is.second.class = (
        sym first.columns ∙ same.0 ∙ second.columns,
        same_bag-trans _ _ _ first.rows (same_bag-trans _ _ _ same.1 (same_bag-turned _ _ second.rows)),
      ) in
      let one = agree l E is.first.class first.below in
      let two = agree l E is.second.class second.below in
      let here : class_at E i ≡ is.first.class = ap (or_class i) is.first_at in
      let there : class_at E j ≡ is.second.class = ap (or_class j) is.second_at in
      record {
        formed = idle-line E i (member-within E i is.first is.first_at) holds.formed;
        low = (subst (λ g. g < length E) (sym here) first.below, subst (λ g. g < length E) (sym there) second.below, holds.low);
        lines = (tt, stay l E holds);
        same = united-relate (AreAlike (V (l ∷ E))) (alike-turned (V (l ∷ E))) (alike-along (V (l ∷ E))) E (same-stay l E holds) (class_at E i) (class_at E j)
            (subst (λ g. AreAlike (V (l ∷ E)) g (class_at E j)) (sym here) (subst (AreAlike (V (l ∷ E)) is.first.class) (sym there) (
              sym one.0 ∙ alike.0 ∙ two.0,
              same_bag-trans _ _ _ (same_bag-turned _ _ one.1) (same_bag-trans _ _ _ alike.1 two.1),
            )));
      }

  log-holds : (E : Log) → Replays instances own E → Holds instances own D E
  log-holds [] replays = record { formed = tt; low = tt; lines = tt; same = λ x y is. subst (AreAlike (V []) x) is (refl, λ e f. refl) }
  log-holds (Founds x ∷ E) replays = founds-holds x E (log-holds E replays.1) (founds-stands instances own E x (Founds x) replays.0)
  log-holds (Adds g s x ∷ E) replays = adds-holds g s x E (log-holds E replays.1) (adds-stands instances own E g s x (Adds g s x) replays.0)
  log-holds (Unites g h s ∷ E) replays = unites-holds g h s E (log-holds E replays.1) (unites-stands instances own E g h s (Unites g h s) replays.0)
  log-holds (Alike i j ∷ E) replays = alike-holds i j E (log-holds E replays.1) (alike-stands instances own E i j (Alike i j) replays.0)
  log-holds (Gives g m f ∷ E) replays = gives-holds g m f E (log-holds E replays.1) (gives-stands instances own E g m f (Gives g m f) replays.0)

pub logs_true : LogsAreTrue
logs_true S B satisfies instances over own E replays =
    let holds = log-holds S B satisfies instances over own E replays in
    record { members = λ i l at. is-line S B satisfies instances over own E holds i l at; classes = known-true S B satisfies instances over own E holds }
