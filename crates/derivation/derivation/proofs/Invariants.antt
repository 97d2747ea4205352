-- What is true of each line of a log, over classes with their rows, and that it stays true once there is a line more.
use Rattle.std.proofs.Common.{◌≡◌, refl, sym, ◌∙◌, subst, inl, inr, ℕ, suc, ◌<◌, Bool, true, false, nat_lt, List, [], ◌∷◌, length, Option, Some, None, if◌then◌else◌, arith}
use Rattle.std.proofs.lemmas.Bool.{ltb-true, lt-ltb}
use Rattle.query.specs.declared.query.TableInstance.{TableInstance}
use Rattle.query.specs.Rows.{Tables}
use Rattle.algebra.specs.declared.expr.Aggregation.{Aggregation}
use Rattle.algebra.specs.Bags.{Bag, SameBag}
use Rattle.algebra.specs.Columns.{is_subset}
use Rattle.algebra.specs.Expressions.{Classes, means, columns_of, is_formed, classes_pass}
use Rattle.algebra.proofs.SameBags.{same_bag-trans}
use Rattle.props.specs.declared.fact.Fact.{Fact}
use Rattle.props.specs.declared.fact.Fact.TheVariants.{NotNull, WeakKey, StrongKey}
use Rattle.props.specs.Facts.{FactHolds, FactsHold, fact_columns, no_facts, with_fact}
use Rattle.props.proofs.LearntFacts.{learnt-hold}
use Rattle.props.proofs.SoundFacts.{same-holds}
use Rattle.rules.specs.Matches as matches
use Rattle.derivation.specs.declared.line.Line.{Line}
use Rattle.derivation.specs.declared.line.Line.TheVariants.{Founds, Adds, Unites, Alike, Gives}
use Rattle.derivation.specs.Logs.{Log, line_at, as_member, member, facts_among}
use Rattle.derivation.proofs.Agreement.{means-agree, columns-agree, formed-agree}
use Rattle.derivation.proofs.Lookups.{this-or, classes-wider}

pub same_bag-turned : (a b : Bag) → SameBag a b → SameBag b a
same_bag-turned a b h e f = sym (h e f)

-- two classes have the same columns and the same bag
abbrev pub AreAlike : Classes → ℕ → ℕ → Type 0
AreAlike V x y = (V.columns x ≡ V.columns y) × SameBag (V.rows x) (V.rows y)

pub alike-turned : (V : Classes) (x y : ℕ) → AreAlike V x y → AreAlike V y x
alike-turned V x y is = (sym is.0, same_bag-turned (V.rows x) (V.rows y) is.1)

pub alike-along : (V : Classes) (x y z : ℕ) → AreAlike V x y → AreAlike V y z → AreAlike V x z
alike-along V x y z is next = (is.0 ∙ next.0, same_bag-trans (V.rows x) (V.rows y) (V.rows z) is.1 next.1)

-- up to a number, classes have the same columns and bags in both
abbrev pub AgreeBelow : ℕ → Classes → Classes → Type 0
AgreeBelow n V W = (g : ℕ) → g < n → (V.columns g ≡ W.columns g) × SameBag (V.rows g) (W.rows g)

module _ (instances : List TableInstance) (own : List Aggregation) (D : Tables) where
  -- an expression of a class, all of whose names are below the number: it has the class's columns and bag
  pub record IsMember (n : ℕ) (V : Classes) (l : matches.Line) : Type 0 where
    pub below : l.class < n
    pub known : classes_pass (λ g. nat_lt g n) l.expr ≡ true
    pub formed : is_formed instances own V.columns l.expr ≡ true
    pub columns : columns_of instances V.columns l.expr ≡ V.columns l.class
    pub rows : SameBag (V.rows l.class) (means instances D V l.expr)

  -- a fact of a class with a number below
  pub record IsFact (n : ℕ) (V : Classes) (g : ℕ) (f : Fact) : Type 0 where
    pub below : g < n
    pub within : is_subset (fact_columns f) (V.columns g) ≡ true
    pub holds : FactHolds (V.rows g) f

  abbrev pub IsTrueLine : ℕ → Classes → ℕ → Line → Type 0
  IsTrueLine n V i (Founds x) = IsMember n V (record { class = i; expr = x })
  IsTrueLine n V i (Adds g s x) = IsMember n V (record { class = g; expr = x })
  IsTrueLine n V i (Unites g h s) = Unit {0}
  IsTrueLine n V i (Alike j k) = Unit {0}
  IsTrueLine n V i (Gives g m f) = IsFact n V g f

  abbrev pub AreTrue : ℕ → Classes → Log → Type 0
  AreTrue n V [] = Unit {0}
  AreTrue n V (l ∷ E) = IsTrueLine n V (length E) l × AreTrue n V E

  -- ---- lines of a log

  as-member-true : (n : ℕ) (V : Classes) (i : ℕ) (k : Line) (l : matches.Line) → IsTrueLine n V i k → as_member i (Some k) ≡ Some l → IsMember n V l
  as-member-true n V i (Founds x) l is at = subst (IsMember n V) (let e : record { class = i; expr = x } ≡ l = cc in e) is
  as-member-true n V i (Adds g s x) l is at = subst (IsMember n V) (let e : record { class = g; expr = x } ≡ l = cc in e) is
  as-member-true n V i (Unites g h s) l is at = cc
  as-member-true n V i (Alike j k) l is at = cc
  as-member-true n V i (Gives g m f) l is at = cc

  line-true : (n : ℕ) (V : Classes) (E : Log) → AreTrue n V E → (i : ℕ) (k : Line) → line_at E i ≡ Some k → IsTrueLine n V i k
  line-true n V [] all i k at = cc
  line-true n V (j ∷ E) all i k at = elim (this-or j E i k at) [
    | inl is ↦ subst (λ m. IsTrueLine n V m k) (sym is.0) (subst (IsTrueLine n V (length E)) is.1 all.0)
    | inr later ↦ line-true n V E all.1 i k later
  ]

  pub member-true : (n : ℕ) (V : Classes) (E : Log) → AreTrue n V E → (i : ℕ) (l : matches.Line) → member E i ≡ Some l → IsMember n V l
  member-true n V E all i l at = by (line_at E i) refl at
    where
      by : (o : Option Line) → line_at E i ≡ o → as_member i o ≡ Some l → IsMember n V l
      by None there at = cc
      by (Some k) there at = as-member-true n V i k l (line-true n V E all i k there) at

  -- ---- the known facts of classes that are the same

  pub facts-true : (n : ℕ) (V : Classes) (k : ℕ) (same : ℕ → Bool) → ((g : ℕ) → same g ≡ true → AreAlike V k g) → (E : Log) → AreTrue n V E
      → FactsHold (V.columns k) (V.rows k) (facts_among same E)
  facts-true n V k same alike [] all = none
    where
      none : FactsHold (V.columns k) (V.rows k) no_facts
      none (NotNull c) is = cc
      none (WeakKey L) is = cc
      none (StrongKey L) is = cc
  facts-true n V k same alike (Founds x ∷ E) all = facts-true n V k same alike E all.1
  facts-true n V k same alike (Adds g s x ∷ E) all = facts-true n V k same alike E all.1
  facts-true n V k same alike (Unites g h s ∷ E) all = facts-true n V k same alike E all.1
  facts-true n V k same alike (Alike i j ∷ E) all = facts-true n V k same alike E all.1
  facts-true n V k same alike (Gives g m f ∷ E) all = by (facts-true n V k same alike E all.1) (same g) refl
    where
      by : FactsHold (V.columns k) (V.rows k) (facts_among same E) → (b : Bool) → same g ≡ b → FactsHold (V.columns k) (V.rows k) (if b then with_fact (facts_among same E) f else facts_among same E)
      by rest true is =
          let both = alike g is in
          learnt-hold (V.columns k) (V.rows k) (facts_among same E) rest f (
            subst (λ K. is_subset (fact_columns f) K ≡ true) (sym both.0) all.0.within,
            same-holds (V.rows g) (V.rows k) (same_bag-turned (V.rows k) (V.rows g) both.1) f all.0.holds,
          )
      by rest false is = rest

  -- ---- over other classes that agree

  module _ (n : ℕ) (V W : Classes) (agree : AgreeBelow n V W) where
    abbrev is_below : ℕ → Bool
    is_below g = nat_lt g n

    agree-named : (g : ℕ) → is_below g ≡ true → (V.columns g ≡ W.columns g) × SameBag (V.rows g) (W.rows g)
    agree-named g is = agree g (ltb-true g n is)

    pub member-stays : (l : matches.Line) → IsMember n V l → IsMember (suc n) W l
    member-stays l is = record {
      below = let lt : l.class < n = is.below in omega (arith, lt);
      known = classes-wider is_below (λ g. nat_lt g (suc n)) (λ g lt. lt-ltb g (suc n) (let less : g < n = ltb-true g n lt in omega (arith, less))) l.expr is.known;
      formed = sym (formed-agree instances own D V W is_below agree-named l.expr is.known) ∙ is.formed;
      columns = sym (columns-agree instances own D V W is_below agree-named l.expr is.known) ∙ is.columns ∙ (agree l.class is.below).0;
      rows = same_bag-trans _ _ _ (same_bag-turned _ _ (agree l.class is.below).1) (same_bag-trans _ _ _ is.rows (means-agree instances own D V W is_below agree-named l.expr is.known));
    }

    pub fact-stays : (g : ℕ) (f : Fact) → IsFact n V g f → IsFact (suc n) W g f
    fact-stays g f is = record {
      below = let lt : g < n = is.below in omega (arith, lt);
      within = subst (λ K. is_subset (fact_columns f) K ≡ true) (agree g is.below).0 is.within;
      holds = same-holds (V.rows g) (W.rows g) (agree g is.below).1 f is.holds;
    }

    line-stays : (i : ℕ) (l : Line) → IsTrueLine n V i l → IsTrueLine (suc n) W i l
    line-stays i (Founds x) is = member-stays _ is
    line-stays i (Adds g s x) is = member-stays _ is
    line-stays i (Unites g h s) is = tt
    line-stays i (Alike j k) is = tt
    line-stays i (Gives g m f) is = fact-stays g f is

    pub all-stay : (E : Log) → AreTrue n V E → AreTrue (suc n) W E
    all-stay [] all = tt
    all-stay (l ∷ E) all = (line-stays (length E) l all.0, all-stay E all.1)
