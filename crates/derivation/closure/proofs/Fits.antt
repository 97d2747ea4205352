-- A rule gives something at lines of its pattern alone. So where each line has its results by the patterns of the rules, all are there.
use Rattle.std.proofs.Common.{◌≡◌, ◌≢◌, refl, ap, sym, ◌∙◌, subst, ℕ, zero, suc, ◌+◌, ◌<◌, Bool, true, false, ◌==◌, if◌then◌else◌, List, [], ◌∷◌, length, slice_get, Ok, Err, Option, Some, None, arith}
use Rattle.std.specs.List.{AllByRecursion}
use Rattle.std.proofs.lemmas.Bool.{and_parts, eqb-true, eq-eqb}
use Rattle.query.specs.declared.query.TableInstance.{TableInstance}
use Rattle.algebra.specs.declared.condition.Condition.{Condition}
use Rattle.algebra.specs.declared.expr.Expr.{Expr}
use Rattle.algebra.specs.declared.expr.Expr.TheVariants as expr
use Rattle.algebra.specs.Columns.{has}
use Rattle.algebra.specs.Conditions.{classes_in}
use Rattle.props.specs.Knowledge.{Knowledge}
use Rattle.props.specs.Knowledge as knowledge
use Rattle.book.specs.declared.names.RuleName.{RuleName}
use Rattle.rules.specs.declared.pattern.Below.{Below}
use Rattle.rules.specs.declared.pattern.Operators.{Operators}
use Rattle.rules.specs.declared.pattern.Pattern.{Pattern}
use Rattle.rules.specs.declared.pattern.Pattern.TheVariants.{One, Two, Three, Subquery, SubqueryLine, ClassLine}
use Rattle.rules.specs.declared.shape.Shape.{Shape}
use Rattle.rules.specs.declared.unfit.Unfit.TheVariants.{Pattern as Unfitting}
use Rattle.book.specs.Book.{pattern_of}
use Rattle.rules.specs.Matches as matches
use Rattle.rules.specs.Patterns.{has_one_of, input_of, is_below, is_line_of, is_some, lines_fit, picked_class, picked_subquery, subquery_at}
use Rattle.book.proofs.RuleLaws.{book_keeps}
use Rattle.derivation.specs.Logs as logs
use Rattle.derivation.specs.Logs.{Log, member}
use Rattle.derivation.specs.Replay.{both_lines, members}
use Rattle.derivation.proofs.Lookups.{member-within}
use Rattle.logs.specs.Members.{is_of}
use Rattle.bindings.specs.Bindings.{applied, given_among, shape_given}
use Rattle.closure.specs.Closed.{HasResults}
use Rattle.closure.specs.Lines.{conjunct_count, named_by, stands_in_class, has_result, HasPairs, HasTriplesOver, HasResultsBy, HasResultsOf}
use Rattle.closure.proofs.Agreeing.{each-of}

-- lines of which the first has an expression, and the others
record Cited (E : Log) (uses : List ℕ) (top : matches.Line) (others : List matches.Line) : Type 0 where
  first : ℕ
  rest : List ℕ
  uses_are : uses ≡ first ∷ rest
  first_at : member E first ≡ Some top
  rest_at : members E rest ≡ Some others

cited : (E : Log) (uses : List ℕ) (top : matches.Line) (others : List matches.Line) → members E uses ≡ Some (top ∷ others) → Cited E uses top others
cited E [] top others is = cc
cited E (i ∷ rest) top others is = by (member E i) refl (members E rest) refl is
  where
    by : (o : Option matches.Line) → member E i ≡ o → (r : Option (List matches.Line)) → members E rest ≡ r → both_lines o r ≡ Some (top ∷ others) → Cited E (i ∷ rest) top others
    by None at r later is = cc
    by (Some l) at None later is = cc
    by (Some l) at (Some found) later is = record { first = i; rest = rest; uses_are = refl; first_at = at ∙ ap Some (let e : l ≡ top = cc in e); rest_at = later ∙ ap Some (let e : found ≡ others = cc in e) }

equal-turned : (a b : ℕ) → (a == b) ≡ true → (b == a) ≡ true
equal-turned a b is = eq-eqb b a (sym (eqb-true a b is))

-- ---- the lines of a rule that gives something

-- they are of its pattern
fitting : (K : Knowledge) (rule : RuleName) (pick : ℕ) (lines : List matches.Line) (s : Shape) → applied K rule pick lines ≡ Ok s → lines_fit K pick (pattern_of rule) lines ≡ true
fitting K rule pick lines s given = by (lines_fit K pick (pattern_of rule) lines) refl
  where
    by : (b : Bool) → lines_fit K pick (pattern_of rule) lines ≡ b → b ≡ true
    by true is = refl
    by false is = absurd (let never : Ok s ≡ Err Unfitting = sym given ∙ book_keeps rule (record { lines = lines; pick = pick; classes = K }) is in cc)

-- a line below another one is of the class that this takes there
record IsInput (K : Knowledge) (class : Option ℕ) (l : matches.Line) : Type 0 where
  number : ℕ
  is : class ≡ Some number
  same : knowledge.are_same K number l.class ≡ true

input-is : (K : Knowledge) (class : Option ℕ) (O : Operators) (l : matches.Line) → is_line_of K class O l ≡ true → IsInput K class l
input-is K None O l below = cc
input-is K (Some g) O l below = record { number = g; is = refl; same = (and_parts _ _ below).0 }

-- ---- what is picked

index-within : {X : Type 0} (xs : List X) (i : ℕ) (x : X) → slice_get xs i ≡ Some x → i < length xs
index-within [] i x is = cc
index-within (y ∷ xs) zero x is = omega arith
index-within (y ∷ xs) (suc i) x is = let less : i < length xs = index-within xs i x is in omega (arith, less)

subquery-within : (C : List Condition) (pick g : ℕ) → subquery_at (slice_get C pick) ≡ Some g → pick < length C
subquery-within C pick g is = by (slice_get C pick) refl is
  where
    by : (o : Option Condition) → slice_get C pick ≡ o → subquery_at o ≡ Some g → pick < length C
    by None at is = cc
    by (Some c) at is = index-within C pick c at

-- a conjunct that is picked is there
picked-within : (x : Expr) (pick g : ℕ) → picked_subquery x pick ≡ Some g → pick < conjunct_count x
picked-within (expr.Get o) pick g is = cc
picked-within (expr.Select C x) pick g is = subquery-within C pick g is
picked-within (expr.Join C a b) pick g is = cc
picked-within (expr.LeftJoin C a b) pick g is = cc
picked-within (expr.Semi C a b) pick g is = cc
picked-within (expr.Anti S M a b) pick g is = cc
picked-within (expr.Keep L x) pick g is = cc
picked-within (expr.Distinct x) pick g is = cc
picked-within (expr.Group L G x) pick g is = cc

-- a class that is picked is one that the conjuncts name
record IsNamed (x : Expr) (pick g : ℕ) : Type 0 where
  same : g ≡ pick
  named : has (named_by x) pick ≡ true

named-if : (x : Expr) (pick g : ℕ) (b : Bool) → has (named_by x) pick ≡ b → (if b then Some pick else None) ≡ Some g → IsNamed x pick g
named-if x pick g true at is = record { same = let e : Some pick ≡ Some g = is in cc; named = at }
named-if x pick g false at is = cc

picked-named : (x : Expr) (pick g : ℕ) → picked_class x pick ≡ Some g → IsNamed x pick g
picked-named (expr.Get o) pick g is = cc
picked-named (expr.Select C x) pick g is = named-if (expr.Select C x) pick g (has (classes_in C) pick) refl is
picked-named (expr.Join C a b) pick g is = cc
picked-named (expr.LeftJoin C a b) pick g is = cc
picked-named (expr.Semi C a b) pick g is = cc
picked-named (expr.Anti S M a b) pick g is = cc
picked-named (expr.Keep L x) pick g is = cc
picked-named (expr.Distinct x) pick g is = cc
picked-named (expr.Group L G x) pick g is = cc

is-some : (o : Option ℕ) → is_some o ≡ true → (g : ℕ) × (o ≡ Some g)
is-some None is = cc
is-some (Some g) is = (g, refl)

-- ---- patterns

module _ (instances : List TableInstance) (E : Log) (rule : RuleName) (i : ℕ) where
  abbrev K : Knowledge
  K = logs.knowledge instances E

  abbrev Has : ℕ → List ℕ → Type 0
  Has pick rest = has_result instances E rule pick (i ∷ rest) ≡ true

  -- lines of which the first has the number: it is the first, and the others are those of the other numbers
  module _ (top : matches.Line) (there : member E i ≡ Some top) where
    record Others (rest : List ℕ) (lines : List matches.Line) : Type 0 where
      others : List matches.Line
      are : lines ≡ top ∷ others
      at : members E rest ≡ Some others

    others-of : (rest : List ℕ) (lines : List matches.Line) → members E (i ∷ rest) ≡ Some lines → Others rest lines
    others-of rest lines is = by (member E i) refl (members E rest) refl is
      where
        by : (o : Option matches.Line) → member E i ≡ o → (r : Option (List matches.Line)) → members E rest ≡ r → both_lines o r ≡ Some lines → Others rest lines
        by None at r later is = cc
        by (Some l) at None later is = cc
        by (Some l) at (Some found) later is =
            let same : l ≡ top = let e : Some l ≡ Some top = sym at ∙ there in cc in
            record { others = found; are = (let e : lines ≡ l ∷ found = cc in e) ∙ ap (λ l. l ∷ found) same; at = later }

    -- what is so of the first line and the others is so of the lines
    with-others : (P : Pattern) → ((pick : ℕ) (rest : List ℕ) (others : List matches.Line) → members E rest ≡ Some others → lines_fit K pick P (top ∷ others) ≡ true → Has pick rest) → HasResultsBy instances E rule i P
    with-others P each = record {
      at = λ pick rest lines is fits.
          let it : Others rest lines = others-of rest lines is in
          each pick rest it.others it.at (ap (lines_fit K pick P) (sym it.are) ∙ fits);
    }

    -- no other lines are those of no numbers
    none-left : (rest : List ℕ) → members E rest ≡ Some [] → rest ≡ []
    none-left [] is = refl
    none-left (n ∷ rest) is = by (member E n) (members E rest) is
      where
        by : (o : Option matches.Line) (r : Option (List matches.Line)) → both_lines o r ≡ Some [] → (n ∷ rest) ≡ []
        by None r is = cc
        by (Some l) None is = cc
        by (Some l) (Some found) is = cc

    -- what is there where nothing is picked is there whatever is
    unpicked : (pick : ℕ) (rest : List ℕ) → (pick == 0) ≡ true → Has 0 rest → Has pick rest
    unpicked pick rest none is = subst (λ n. Has n rest) (sym (eqb-true pick 0 none)) is

    alone : (pick : ℕ) (rest : List ℕ) → members E rest ≡ Some [] → Has pick [] → Has pick rest
    alone pick rest at is = subst (Has pick) (sym (none-left rest at)) is

    -- over one line
    over : (pick : ℕ) (rest : List ℕ) (class : Option ℕ) (O : Operators) (k : matches.Line) → members E rest ≡ Some (k ∷ []) → is_line_of K class O k ≡ true → HasPairs instances E rule pick i class → Has pick rest
    over pick rest class O k at below pairs =
        let next : Cited E rest k [] = cited E rest k [] at in
        let input : IsInput K class k = input-is K class O k below in
        subst (Has pick) (sym (next.uses_are ∙ ap (λ ns. next.first ∷ ns) (none-left next.rest next.rest_at)))
        (pairs input.number next.first input.is (ap (is_of E input.number) next.first_at ∙ equal-turned _ _ input.same))

    -- over one over another one
    over-both : (rest : List ℕ) (class : Option ℕ) (O : Operators) (c : Below) (k j : matches.Line) → members E rest ≡ Some (k ∷ j ∷ []) → is_line_of K class O k ≡ true → is_below K k c j ≡ true
        → HasTriplesOver instances E rule i c.input class → Has 0 rest
    over-both rest class O c k j at below lowest triples =
        let next : Cited E rest k (j ∷ []) = cited E rest k (j ∷ []) at in
        let last : Cited E next.rest j [] = cited E next.rest j [] next.rest_at in
        let input : IsInput K class k = input-is K class O k below in
        let under : IsInput K (input_of k.expr c.input) j = input-is K (input_of k.expr c.input) c.operators j lowest in
        subst (Has 0) (sym (next.uses_are ∙ ap (λ ns. next.first ∷ ns) (last.uses_are ∙ ap (λ ns. last.first ∷ ns) (none-left last.rest last.rest_at))))
        (triples input.number next.first input.is (ap (is_of E input.number) next.first_at ∙ equal-turned _ _ input.same) k next.first_at
        under.number last.first under.is (ap (is_of E under.number) last.first_at ∙ equal-turned _ _ under.same))

    pub one_all : (O : Operators) → (has_one_of top.expr O ≡ true → Has 0 []) → HasResultsBy instances E rule i (One O)
    one_all O has = with-others (One O) by
      where
        by : (pick : ℕ) (rest : List ℕ) (others : List matches.Line) → members E rest ≡ Some others → lines_fit K pick (One O) (top ∷ others) ≡ true → Has pick rest
        by pick rest [] at fits = let parts = and_parts _ _ fits in alone pick rest at (unpicked pick [] parts.0 (has parts.1))
        by pick rest (k ∷ others) at fits = cc

    pub two_all : (O : Operators) (b : Below) → (has_one_of top.expr O ≡ true → HasPairs instances E rule 0 i (input_of top.expr b.input)) → HasResultsBy instances E rule i (Two O b)
    two_all O b has = with-others (Two O b) by
      where
        by : (pick : ℕ) (rest : List ℕ) (others : List matches.Line) → members E rest ≡ Some others → lines_fit K pick (Two O b) (top ∷ others) ≡ true → Has pick rest
        by pick rest [] at fits = cc
        by pick rest (k ∷ []) at fits =
            let parts = and_parts _ _ fits in
            let first = and_parts _ _ parts.0 in
            unpicked pick rest first.0 (over 0 rest (input_of top.expr b.input) b.operators k at parts.1 (has first.1))
        by pick rest (k ∷ j ∷ others) at fits = cc

    pub three_all : (O : Operators) (b c : Below) → (has_one_of top.expr O ≡ true → HasTriplesOver instances E rule i c.input (input_of top.expr b.input)) → HasResultsBy instances E rule i (Three O b c)
    three_all O b c has = with-others (Three O b c) by
      where
        by : (pick : ℕ) (rest : List ℕ) (others : List matches.Line) → members E rest ≡ Some others → lines_fit K pick (Three O b c) (top ∷ others) ≡ true → Has pick rest
        by pick rest [] at fits = cc
        by pick rest (k ∷ []) at fits = cc
        by pick rest (k ∷ j ∷ []) at fits =
            let parts = and_parts _ _ fits in
            let second = and_parts _ _ parts.0 in
            let first = and_parts _ _ second.0 in
            unpicked pick rest first.0 (over-both rest (input_of top.expr b.input) b.operators c k j at second.1 parts.1 (has first.1))
        by pick rest (k ∷ j ∷ h ∷ others) at fits = cc

    pub subquery_all : ((pick : ℕ) → pick < conjunct_count top.expr → Has pick []) → HasResultsBy instances E rule i Subquery
    subquery_all has = with-others Subquery by
      where
        by : (pick : ℕ) (rest : List ℕ) (others : List matches.Line) → members E rest ≡ Some others → lines_fit K pick Subquery (top ∷ others) ≡ true → Has pick rest
        by pick rest [] at fits = let it = is-some (picked_subquery top.expr pick) fits in alone pick rest at (has pick (picked-within top.expr pick it.0 it.1))
        by pick rest (k ∷ others) at fits = cc

    pub subquery_line_all : (O : Operators) → ((pick : ℕ) → pick < conjunct_count top.expr → HasPairs instances E rule pick i (picked_subquery top.expr pick)) → HasResultsBy instances E rule i (SubqueryLine O)
    subquery_line_all O has = with-others (SubqueryLine O) by
      where
        by : (pick : ℕ) (rest : List ℕ) (others : List matches.Line) → members E rest ≡ Some others → lines_fit K pick (SubqueryLine O) (top ∷ others) ≡ true → Has pick rest
        by pick rest [] at fits = cc
        by pick rest (k ∷ []) at fits =
            let it = input-is K (picked_subquery top.expr pick) O k fits in
            over pick rest (picked_subquery top.expr pick) O k at fits (has pick (picked-within top.expr pick it.number it.is))
        by pick rest (k ∷ j ∷ others) at fits = cc

    pub class_line_all : (O : Operators) → AllByRecursion (λ g. HasPairs instances E rule g i (Some g)) (named_by top.expr) → HasResultsBy instances E rule i (ClassLine O)
    class_line_all O has = with-others (ClassLine O) by
      where
        by : (pick : ℕ) (rest : List ℕ) (others : List matches.Line) → members E rest ≡ Some others → lines_fit K pick (ClassLine O) (top ∷ others) ≡ true → Has pick rest
        by pick rest [] at fits = cc
        by pick rest (k ∷ []) at fits =
            let it = input-is K (picked_class top.expr pick) O k fits in
            let named = picked-named top.expr pick it.number it.is in
            let pairs = each-of (λ g. HasPairs instances E rule g i (Some g)) (named_by top.expr) has pick named.named in
            over pick rest (picked_class top.expr pick) O k at fits
            (subst (HasPairs instances E rule pick i) (sym (it.is ∙ ap Some named.same)) pairs)
        by pick rest (k ∷ j ∷ others) at fits = cc

-- ---- all results

-- where each line has its results, all are there
pub results-from : (instances : List TableInstance) (E : Log) → ((i : ℕ) → i < length E → HasResultsOf instances E i) → HasResults instances E
results-from instances E each rule pick uses top others is s given =
    let K = logs.knowledge instances E in
    let first : Cited E uses top others = cited E uses top others is in
    let at : members E (first.first ∷ first.rest) ≡ Some (top ∷ others) = ap (members E) (sym first.uses_are) ∙ is in
    sym (ap (λ o. stands_in_class K E (given_among K rule pick o)) at ∙ ap (λ r. stands_in_class K E (shape_given top.class r)) given)
    ∙ (each first.first (member-within E first.first top first.first_at) rule).at pick first.rest (top ∷ others) at (fitting K rule pick (top ∷ others) s given)

-- ---- so far

-- what is so of each number so far, and of the next
pub so-far : (P : ℕ → Type 0) (n : ℕ) → ((i : ℕ) → i < n → P i) → P n → (i : ℕ) → i < n + 1 → P i
so-far P n before next i lt = by (i == n) refl
  where
    by : (b : Bool) → (i == n) ≡ b → P i
    by true is = subst P (sym (eqb-true i n is)) next
    by false is = before i (let other : i ≢ n = λ e. let never : true ≡ false = sym (eq-eqb i n e) ∙ is in cc in omega (arith, lt, other))
