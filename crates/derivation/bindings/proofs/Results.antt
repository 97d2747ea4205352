-- What a rule gives at lines of a log may be added as a line.
use Rattle.std.proofs.Common.{◌≡◌, refl, ap, sym, ◌∙◌, subst, ℕ, true, not, ◌&&◌, ◌==◌, if◌then◌else◌, List, [], ◌∷◌, length, append-nil, arith, Option, Some, None, Result, Ok, Err, option_to_list}
use Rattle.std.specs.List.{AllByRecursion, list_all}
use Rattle.std.specs.List.Sorted.{IsStrictlyIncreasing}
use Rattle.std.proofs.lemmas.Bool.{and_from, and_parts, eq-eqb, eqb-true, lt-ltb}
use Rattle.values.specs.Faults.{◌>>=◌, wanted, wanted_if}
use Rattle.query.specs.declared.query.TableInstance.{TableInstance}
use Rattle.algebra.specs.declared.expr.Aggregation.{Aggregation}
use Rattle.algebra.specs.declared.expr.Expr.{Expr}
use Rattle.algebra.specs.declared.expr.Expr.TheVariants.{Keep}
use Rattle.algebra.specs.Equality.{same_columns, same_expr}
use Rattle.algebra.specs.Expressions.{columns_of, is_formed}
use Rattle.algebra.proofs.Same.{same-expr, same_columns-refl}
use Rattle.algebra.specs.Columns.{is_subset}
use Rattle.props.specs.declared.fact.Fact.{Fact}
use Rattle.props.specs.Facts.{fact_columns}
use Rattle.props.specs.Given as facts
use Rattle.props.specs.Given.{gives}
use Rattle.props.specs.Knowledge.{Knowledge}
use Rattle.props.specs.Knowledge as knowledge_
use Rattle.rules.specs.declared.shape.Shape.{Shape}
use Rattle.rules.specs.declared.shape.Shape.TheVariants as shape
use Rattle.rules.specs.declared.unfit.Unfit.{Unfit}
use Rattle.book.specs.declared.names.RuleName.{RuleName}
use Rattle.book.specs.Book.{given_by}
use Rattle.rules.specs.Matches as matches
use Rattle.derivation.specs.declared.line.Line.{Line}
use Rattle.derivation.specs.declared.line.Line.TheVariants.{Adds, Unites, Alike, Gives}
use Rattle.derivation.specs.declared.line.LineReason.{LineReason}
use Rattle.derivation.specs.declared.line.LineReason.TheVariants.{UnknownLine, IllFormed, OtherForm, OtherLine, FailedFact}
use Rattle.derivation.specs.Logs.{Log, founds, member, least, knowledge}
use Rattle.derivation.specs.Replay.{Replays, is_earlier, is_known, cites, both_lines, members, matched_at, or_unfit, given, is_of, gives_fact, are_alike, stands}
use Rattle.derivation.specs.Spelling.{is_expr, is_class, is_whole, spelling}
use Rattle.derivation.proofs.Lookups.{member-within}
use Rattle.derivation.proofs.Standing.{StandsFounds, founds-stands}
use Rattle.logs.proofs.Equations.{class_Class}
use Rattle.bindings.specs.declared.binding.Binding.{Binding}
use Rattle.bindings.specs.declared.rule_results.RuleResult.{RuleResult}
use Rattle.rules.specs.Formed.{formed, IsFormedLine, Rises}
use Rattle.bindings.specs.Bindings.{uses_of, first_of, step_of, applied, shape_given, given_among, given_over, given_by_binding, GivesBinding}
use Rattle.bindings.specs.Results.{IsResult}
use Rattle.bindings.specs.Spelt.{cols, MayStand, shape_columns, IsPlaced, IsSpelt}
use Rattle.bindings.proofs.FormedLogs.{AreKept, kept_by}
use Rattle.bindings.proofs.SpeltShapes.{class_placed}
use Rattle.book.proofs.RuleLaws.{book_formed}
use Rattle.rules.proofs.FormedShapes.{formed_class}

-- a class is the same as itself
itself : (n : ℕ) → (n == n) ≡ true
itself n = eq-eqb n n refl

-- what is given of a class
pub shape-there : (g : ℕ) (s : Shape) (r : Result Shape Unfit) → r ≡ Ok s → Some (record { class = g; shape = s }) ≡ shape_given g r
shape-there g s r is = ap (shape_given g) (sym is)

pub shape-none : (g : ℕ) (u : Unfit) (r : Result Shape Unfit) → r ≡ Err u → None ≡ shape_given g r
shape-none g u r is = ap (shape_given g) (sym is)

module _ (instances : List TableInstance) (own : List Aggregation) (E : Log) where
  abbrev K : Knowledge
  K = knowledge instances E

  pub adds_stand : (b : Binding) (class : ℕ) (s : Shape) (x : Expr) (makes : List ℕ) → IsResult instances own E b class s → IsSpelt instances own E s x makes
      → stands instances own E (Adds class (step_of b makes) x) ≡ Ok (Adds class (step_of b makes) x)
  adds_stand b class s x makes is spelt =
      ap (λ t. wanted_if UnknownLine t l >>= fitting) named ∙ ap (λ t. wanted_if IllFormed t l >>= rule) fit ∙ ap (λ r. r >>= last) (is.gives makes) ∙ ap (λ t. wanted_if OtherLine t l) said
    where
      l : Line
      l = Adds class (step_of b makes) x

      last : Shape → Result Line LineReason
      last shape = wanted_if OtherLine (is_expr (member E) shape makes x) l

      rule : Line → Result Line LineReason
      rule l = given K E class (step_of b makes) >>= λ shape. wanted_if OtherLine (is_expr (member E) shape makes x) l

      fitting : Line → Result Line LineReason
      fitting l = wanted_if IllFormed (is_formed instances own (cols instances E) x && same_columns (columns_of instances (cols instances E) x) (cols instances E class)) l >>= rule

      may : StandsFounds instances own E x
      may = founds-stands instances own E x _ spelt.founded

      named : (founds E class && cites E (step_of b makes) && is_known E x) ≡ true
      named = and_from _ _ (and_from _ _ is.founded (and_from _ _ is.uses spelt.cited)) may.known

      fit : (is_formed instances own (cols instances E) x && same_columns (columns_of instances (cols instances E) x) (cols instances E class)) ≡ true
      fit = and_from _ _ may.formed (ap (λ L. same_columns L (cols instances E class)) (spelt.columns ∙ is.columns) ∙ same_columns-refl (cols instances E class))

      said : is_expr (member E) s makes x ≡ true
      said = ap (is_whole (member E) (λ y. same_expr y x)) (ap (λ ms. (spelling (member E) s).expr ms) (sym (append-nil makes)) ∙ spelt.spelt []) ∙ same-expr x

  pub placed_unites : (b : Binding) (class other : ℕ) (s : Shape) (makes : List ℕ) → IsResult instances own E b class s → IsPlaced instances own E s other makes
      → stands instances own E (Unites class other (step_of b makes)) ≡ Ok (Unites class other (step_of b makes))
  placed_unites b class other s makes is placed =
      ap (λ t. wanted_if UnknownLine t l >>= fitting) named ∙ ap (λ t. wanted_if IllFormed t l >>= rule) fit ∙ ap (λ r. r >>= last) (is.gives makes) ∙ ap (λ t. wanted_if OtherLine t l) said
    where
      l : Line
      l = Unites class other (step_of b makes)

      last : Shape → Result Line LineReason
      last shape = wanted_if OtherLine (is_class (member E) shape makes (knowledge_.are_same K other)) l

      rule : Line → Result Line LineReason
      rule l = given K E class (step_of b makes) >>= λ shape. wanted_if OtherLine (is_class (member E) shape makes (knowledge_.are_same K other)) l

      fitting : Line → Result Line LineReason
      fitting l = wanted_if IllFormed (same_columns (cols instances E class) (cols instances E other)) l >>= rule

      named : (founds E class && founds E other && cites E (step_of b makes)) ≡ true
      named = and_from _ _ (and_from _ _ is.founded placed.founded) (and_from _ _ is.uses placed.cited)

      columns : cols instances E class ≡ cols instances E other
      columns = sym is.columns ∙ sym placed.columns

      fit : same_columns (cols instances E class) (cols instances E other) ≡ true
      fit = ap (λ L. same_columns L (cols instances E other)) columns ∙ same_columns-refl (cols instances E other)

      said : is_class (member E) s makes (knowledge_.are_same K other) ≡ true
      said = ap (is_whole (member E) (knowledge_.are_same K other)) (ap (λ ms. (spelling (member E) s).class ms) (sym (append-nil makes)) ∙ placed.spelt []) ∙ itself (least E other)

  pub unites_stand : (b : Binding) (class other : ℕ) (s : Shape) → s ≡ shape.Class other → IsResult instances own E b class s → stands instances own E (Unites class other (step_of b [])) ≡ Ok (Unites class other (step_of b []))
  unites_stand b class other s same is =
      placed_unites b class other s [] is (subst (λ t. IsPlaced instances own E t other []) (sym same) (class_placed instances own E other (subst (MayStand instances own E) same is.may)))

  -- ---- what a binding's rule gives

  earlier-uses : (uses : List ℕ) (lines : List matches.Line) → members E uses ≡ Some lines → list_all (is_earlier E) uses ≡ true
  earlier-uses [] lines is = refl
  earlier-uses (i ∷ uses) lines is = by (member E i) refl (members E uses) (earlier-uses uses) is
    where
      by : (o : Option matches.Line) → member E i ≡ o → (r : Option (List matches.Line)) → ((found : List matches.Line) → r ≡ Some found → list_all (is_earlier E) uses ≡ true) → both_lines o r ≡ Some lines → list_all (is_earlier E) (i ∷ uses) ≡ true
      by None at r later is = cc
      by (Some l) at None later is = cc
      by (Some l) at (Some found) later is = and_from _ _ (lt-ltb i (length E) (member-within E i l at)) (later found refl)

  module _ (kept : AreKept instances own E) where
    is-line : (i : ℕ) (l : matches.Line) → member E i ≡ Some l → IsFormedLine instances own K (founds E) l
    is-line i l at = let it = kept.lines i l at in record { known = it.known; formed = it.formed; columns = it.columns }

    all-lines : (uses : List ℕ) (lines : List matches.Line) → members E uses ≡ Some lines → AllByRecursion (IsFormedLine instances own K (founds E)) lines
    all-lines [] lines is = subst (AllByRecursion (IsFormedLine instances own K (founds E))) (let e : [] ≡ lines = cc in e) tt
    all-lines (i ∷ uses) lines is = by (member E i) refl (members E uses) (all-lines uses) is
      where
        by : (o : Option matches.Line) → member E i ≡ o → (r : Option (List matches.Line)) → ((found : List matches.Line) → r ≡ Some found → AllByRecursion (IsFormedLine instances own K (founds E)) found)
            → both_lines o r ≡ Some lines → AllByRecursion (IsFormedLine instances own K (founds E)) lines
        by None at r later is = cc
        by (Some l) at None later is = cc
        by (Some l) at (Some found) later is = subst (AllByRecursion (IsFormedLine instances own K (founds E))) (let e : (l ∷ found) ≡ lines = cc in e) (is-line i l at, later found refl)

  -- the lines that a rule is applied to where it gives something, and its shape
  record Applied (rule : RuleName) (pick : ℕ) (uses : List ℕ) (g : RuleResult) : Type 0 where
    top : matches.Line
    others : List matches.Line
    there : members E uses ≡ Some (top ∷ others)
    class_is : top.class ≡ g.class
    gives : applied K rule pick (top ∷ others) ≡ Ok g.shape

  applied-to : (rule : RuleName) (pick : ℕ) (uses : List ℕ) (g : RuleResult) → given_over instances E rule pick uses ≡ Some g → Applied rule pick uses g
  applied-to rule pick uses g is = by (members E uses) refl is
    where
      by : (o : Option (List matches.Line)) → members E uses ≡ o → given_among K rule pick o ≡ Some g → Applied rule pick uses g
      by None at is = cc
      by (Some []) at is = cc
      by (Some (top ∷ others)) at is = or (applied K rule pick (top ∷ others)) refl is
        where
          or : (r : Result Shape Unfit) → applied K rule pick (top ∷ others) ≡ r → shape_given top.class r ≡ Some g → Applied rule pick uses g
          or (Ok s) gives is =
              let same : g ≡ record { class = top.class; shape = s } = cc in
              record { top = top; others = others; there = at; class_is = ap (λ (g : RuleResult). g.class) (sym same); gives = gives ∙ ap (λ (g : RuleResult). Ok g.shape) (sym same) }
          or (Err u) gives is = cc

  -- the first of them
  first-line : (uses : List ℕ) (i : ℕ) (l : matches.Line) (others : List matches.Line) → first_of uses ≡ Some i → members E uses ≡ Some (l ∷ others) → member E i ≡ Some l
  first-line [] i l others first there = cc
  first-line (j ∷ uses) i l others first there = by (member E j) refl (members E uses) there
    where
      by : (o : Option matches.Line) → member E j ≡ o → (r : Option (List matches.Line)) → both_lines o r ≡ Some (l ∷ others) → member E i ≡ Some l
      by None at r is = cc
      by (Some k) at None is = cc
      by (Some k) at (Some found) is = ap (member E) (let e : i ≡ j = cc in e) ∙ at ∙ ap Some (let e : k ≡ l = cc in e)

  pub top_there : (b : Binding) (i : ℕ) → GivesBinding instances E b → first_of (uses_of b) ≡ Some i → member E i ≡ None → ⊥
  top_there b i gives first none =
      let it : Applied b.rule b.pick (uses_of b) gives.given = applied-to b.rule b.pick (uses_of b) gives.given gives.is in
      let never : None ≡ Some it.top = sym none ∙ first-line (uses_of b) i it.top it.others first it.there in
      cc

  pub result_is : (b : Binding) (i : ℕ) (top : matches.Line) (g : RuleResult) → Replays instances own E → first_of (uses_of b) ≡ Some i → member E i ≡ Some top → Rises instances own K (founds E) top.expr
      → given_by_binding instances E b ≡ Some g → IsResult instances own E b g.class g.shape
  result_is b i top g replays first at rise is = record {
    may = formed_.0;
    columns = formed_.1 ∙ ap (cols instances E) it.class_is;
    founded = ap (founds E) (sym it.class_is) ∙ (kept.lines i it.top top-at).class;
    uses = earlier-uses (uses_of b) (it.top ∷ it.others) it.there;
    gives = λ makes. ap (λ o. wanted OtherForm (matched_at K E g.class (step_of b makes) o) >>= λ m. or_unfit b.rule (given_by b.rule m)) it.there
        ∙ ap (λ t. wanted OtherForm (if t then Some (record { lines = it.top ∷ it.others; pick = b.pick; classes = K }) else None) >>= λ m. or_unfit b.rule (given_by b.rule m)) same
        ∙ ap (or_unfit b.rule) it.gives;
  }
    where
      it : Applied b.rule b.pick (uses_of b) g
      it = applied-to b.rule b.pick (uses_of b) g is

      kept : AreKept instances own E
      kept = kept_by instances own E replays

      top-at : member E i ≡ Some it.top
      top-at = first-line (uses_of b) i it.top it.others first it.there

      top-is : top ≡ it.top
      top-is = let e : Some top ≡ Some it.top = sym at ∙ top-at in cc

      same : (least E it.top.class == least E g.class) ≡ true
      same = ap (λ h. least E it.top.class == least E h) (sym it.class_is) ∙ itself (least E it.top.class)

      formed_ : MayStand instances own E g.shape × (shape_columns instances own E g.shape ≡ cols instances E it.top.class)
      formed_ = book_formed b.rule instances own K (founds E) (λ g h same. kept.same g h (eqb-true (least E g) (least E h) same)) b.pick it.top it.others g.shape it.gives
          (all-lines kept (uses_of b) (it.top ∷ it.others) it.there) (subst (λ (l : matches.Line). Rises instances own K (founds E) l.expr) top-is rise)

-- ---- columns that rise

pub none_rise : IsStrictlyIncreasing []
none_rise k h = absurd (omega (arith, h))

-- the columns of a class in a list of these rise where its list does, or there is none
pub class_rises : (instances : List TableInstance) (own : List Aggregation) (E : Log) (L M : List ℕ) (x : ℕ) → cols instances E x ≡ M → IsStrictlyIncreasing L → IsStrictlyIncreasing M → Rises instances own (knowledge instances E) (founds E) (Keep L x)
class_rises instances own E L M x is kept input = (kept, subst IsStrictlyIncreasing (sym is) input)
