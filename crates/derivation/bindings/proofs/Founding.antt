-- What a rule gives at lines of a log it gives there as well where a class is founded behind them: rules ask about classes that the lines name alone.
use Rattle.std.proofs.Common.{◌≡◌, refl, ap, sym, ◌∙◌, subst, ℕ, ◌+◌, ◌<◌, true, false, List, [], ◌∷◌, ◌++◌, length, arith, Option, Some, None}
use Rattle.std.specs.List.{AllByRecursion, list_all}
use Rattle.std.specs.List.Sorted.{IsStrictlyIncreasing}
use Rattle.std.proofs.lemmas.Bool.{ne_eqb, and_parts}
use Rattle.std.proofs.lemmas.List.{length-append, length-map}
use Rattle.query.specs.declared.query.TableInstance.{TableInstance}
use Rattle.algebra.specs.declared.expr.Aggregation.{Aggregation}
use Rattle.algebra.specs.declared.expr.Expr.{Expr}
use Rattle.algebra.specs.declared.expr.Expr.TheVariants as expr
use Rattle.algebra.specs.Classes.{class_free}
use Rattle.algebra.specs.Expressions.{classes_pass}
use Rattle.rules.specs.Formed.{Rises}
use Rattle.rules.specs.Matches.{Line}
use Rattle.rules.specs.Stability.{Agree}
use Rattle.book.specs.declared.names.RuleName.{RuleName}
use Rattle.derivation.specs.declared.line.Line.TheVariants as derivation
use Rattle.derivation.specs.declared.line.Line as lines_
use Rattle.derivation.specs.Logs.{Log, entry, entries, founds, member, knowledge}
use Rattle.derivation.specs.Replay.{Replays, both_lines, members}
use Rattle.derivation.proofs.Lookups.{columns-stay, founded, member-stays}
use Rattle.bindings.specs.declared.binding.Binding.{Binding}
use Rattle.bindings.specs.declared.rule_results.RuleResult.{RuleResult}
use Rattle.logs.specs.Logged.{Logged}
use Rattle.bindings.specs.Bindings.{first_of, uses_of, shape_given, given_among, given_over, given_by_binding, GivesBinding}
use Rattle.bindings.specs.Founding.{founds_something, IsFounded, IsResultBehind}
use Rattle.bindings.specs.Spelt.{cols}
use Rattle.book.proofs.RuleLaws.{book_stable}
use Rattle.bindings.proofs.FormedLogs.{kept_by}
use Rattle.bindings.proofs.Results.{result_is}

module _ (instances : List TableInstance) (own : List Aggregation) (E : Log) where
  free-stay : (l : lines_.Line) (g k : ℕ) → g < length E → class_free instances (entries (l ∷ E)) g k ≡ class_free instances (entries E) g k
  free-stay l g k lt = rw (ne_eqb g (length (entries E)) (λ is. absurd (omega (arith, is, lt, length-map E entry)))) refl

  module _ (x : Expr) (replays : Replays instances own E) where
    abbrev pub F : Log
    F = derivation.Founds x ∷ E

    known : (uses : List ℕ) (lines : List Line) → members E uses ≡ Some lines → AllByRecursion (λ (l : Line). classes_pass (founds E) l.expr ≡ true) lines
    known [] lines is = subst (AllByRecursion (λ (l : Line). classes_pass (founds E) l.expr ≡ true)) (let e : [] ≡ lines = cc in e) tt
    known (i ∷ uses) lines is = by (member E i) refl (members E uses) (known uses) is
      where
        by : (o : Option Line) → member E i ≡ o → (r : Option (List Line)) → ((found : List Line) → r ≡ Some found → AllByRecursion (λ (l : Line). classes_pass (founds E) l.expr ≡ true) found)
            → both_lines o r ≡ Some lines → AllByRecursion (λ (l : Line). classes_pass (founds E) l.expr ≡ true) lines
        by None at r later is = cc
        by (Some l) at None later is = cc
        by (Some l) at (Some found) later is = subst (AllByRecursion (λ (l : Line). classes_pass (founds E) l.expr ≡ true)) (let e : (l ∷ found) ≡ lines = cc in e)
            (((kept_by instances own E replays).lines i l at).known, later found refl)

    members-stay : (uses : List ℕ) (lines : List Line) → members E uses ≡ Some lines → members F uses ≡ Some lines
    members-stay [] lines is = is
    members-stay (i ∷ uses) lines is = by (member E i) refl (members E uses) (members-stay uses) is
      where
        by : (o : Option Line) → member E i ≡ o → (r : Option (List Line)) → ((found : List Line) → r ≡ Some found → members F uses ≡ Some found) → both_lines o r ≡ Some lines → members F (i ∷ uses) ≡ Some lines
        by None at r later is = cc
        by (Some l) at None later is = cc
        by (Some l) at (Some found) later is = ap (λ o. both_lines o (members F uses)) (member-stays (derivation.Founds x) E i l at) ∙ ap (both_lines (Some l)) (later found refl) ∙ is

    -- what is known of what lines name is known still
    agree : Agree (founds E) (knowledge instances E) (knowledge instances F)
    agree = record {
      columns = λ g is. sym (columns-stay instances (derivation.Founds x) E g (founded E g is));
      free = λ g k is. sym (free-stay (derivation.Founds x) g k (founded E g is));
      root = λ g. refl;
      facts = λ g is. refl;
    }

    pub given_still : (rule : RuleName) (pick : ℕ) (uses : List ℕ) (g : RuleResult) → given_over instances E rule pick uses ≡ Some g → given_over instances F rule pick uses ≡ Some g
    given_still rule pick uses g is = by (members E uses) refl is
      where
        by : (o : Option (List Line)) → members E uses ≡ o → given_among (knowledge instances E) rule pick o ≡ Some g → given_over instances F rule pick uses ≡ Some g
        by None at is = cc
        by (Some []) at is = cc
        by (Some (top ∷ others)) at is =
            ap (given_among (knowledge instances F) rule pick) (members-stay uses (top ∷ others) at)
            ∙ ap (shape_given top.class) (sym (book_stable rule (founds E) (knowledge instances E) (knowledge instances F) agree pick (top ∷ others) (known uses (top ∷ others) at)))
            ∙ is

    -- a rule gives at lines what it gave
    pub gives_still : (b : Binding) → GivesBinding instances E b → GivesBinding instances F b
    gives_still b gives = record { given = gives.given; is = given_still b.rule b.pick (uses_of b) gives.given gives.is }

-- ---- several classes that are founded

pub member_behind : (more : List lines_.Line) (E : Log) (i : ℕ) (l : Line) → member E i ≡ Some l → member (more ++ E) i ≡ Some l
member_behind [] E i l is = is
member_behind (k ∷ more) E i l is = member-stays k (more ++ E) i l (member_behind more E i l is)

within-behind : (more : List lines_.Line) (E : Log) (g : ℕ) → g < length E → g < length (more ++ E)
within-behind more E g lt = let count : length (more ++ E) ≡ length more + length E = length-append more E in omega (arith, lt, count)

pub columns_behind : (instances : List TableInstance) (more : List lines_.Line) (E : Log) (g : ℕ) → g < length E → cols instances (more ++ E) g ≡ cols instances E g
columns_behind instances [] E g lt = refl
columns_behind instances (l ∷ more) E g lt = columns-stay instances l (more ++ E) g (within-behind more E g lt) ∙ columns_behind instances more E g lt

rises-behind : (instances : List TableInstance) (own : List Aggregation) (more : List lines_.Line) (E : Log) (x : Expr) → classes_pass (founds E) x ≡ true → Rises instances own (knowledge instances E) (founds E) x
    → Rises instances own (knowledge instances (more ++ E)) (founds (more ++ E)) x
rises-behind instances own more E (expr.Get o) known rises = tt
rises-behind instances own more E (expr.Select C x) known rises = tt
rises-behind instances own more E (expr.Join C a b) known rises = tt
rises-behind instances own more E (expr.LeftJoin C a b) known rises = tt
rises-behind instances own more E (expr.Semi C a b) known rises = tt
rises-behind instances own more E (expr.Anti S M a b) known rises = tt
rises-behind instances own more E (expr.Keep L x) known rises =
    (rises.0, subst IsStrictlyIncreasing (sym (columns_behind instances more E x (founded E x (and_parts _ _ (and_parts _ _ known).0).0))) rises.1)
rises-behind instances own more E (expr.Distinct x) known rises = tt
rises-behind instances own more E (expr.Group L G x) known rises = rises

-- a rule gives at lines what it gave
given-behind : (instances : List TableInstance) (own : List Aggregation) (more : List lines_.Line) (E : Log) → list_all founds_something more ≡ true → Replays instances own (more ++ E)
    → (b : Binding) (g : RuleResult) → given_by_binding instances E b ≡ Some g → given_by_binding instances (more ++ E) b ≡ Some g
given-behind instances own [] E all replays b g is = is
given-behind instances own (derivation.Founds x ∷ more) E all replays b g is =
    given_still instances own (more ++ E) x replays.1 b.rule b.pick (uses_of b) g (given-behind instances own more E (and_parts true (list_all founds_something more) all).1 replays.1 b g is)
given-behind instances own (derivation.Adds h s x ∷ more) E all replays b g is = let never : false ≡ true = (and_parts false (list_all founds_something more) all).0 in cc
given-behind instances own (derivation.Unites h i s ∷ more) E all replays b g is = let never : false ≡ true = (and_parts false (list_all founds_something more) all).0 in cc
given-behind instances own (derivation.Alike i j ∷ more) E all replays b g is = let never : false ≡ true = (and_parts false (list_all founds_something more) all).0 in cc
given-behind instances own (derivation.Gives h m f ∷ more) E all replays b g is = let never : false ≡ true = (and_parts false (list_all founds_something more) all).0 in cc

pub result_behind : (old : Logged) (b : Binding) (i : ℕ) (top : Line) → Replays old.instances old.own old.log → first_of (uses_of b) ≡ Some i → member old.log i ≡ Some top
    → Rises old.instances old.own (knowledge old.instances old.log) (founds old.log) top.expr → IsResultBehind old b
result_behind old b i top replays first at rises g is new later =
    result_is new.instances new.own new.log b i top g later.replays first
    (ap (λ E. member E i) later.log ∙ member_behind later.more old.log i top at)
    (subst (λ I. Rises I new.own (knowledge I new.log) (founds new.log) top.expr) (sym later.instances)
    (subst (λ O. Rises old.instances O (knowledge old.instances new.log) (founds new.log) top.expr) (sym later.own)
    (subst (λ E. Rises old.instances old.own (knowledge old.instances E) (founds E) top.expr) (sym later.log)
    (rises-behind old.instances old.own later.more old.log top.expr ((kept_by old.instances old.own old.log replays).lines i top at).known rises))))
    (subst (λ I. given_by_binding I new.log b ≡ Some g) (sym later.instances)
    (subst (λ E. given_by_binding old.instances E b ≡ Some g) (sym later.log)
    (given-behind old.instances old.own later.more old.log later.founding
    (subst (λ I. Replays I old.own (later.more ++ old.log)) later.instances
    (subst (λ O. Replays new.instances O (later.more ++ old.log)) later.own
    (subst (Replays new.instances new.own) later.log later.replays)))
    b g is)))
