-- What a log lacks, and that it is closed where it lacks nothing.
use Rattle.std.proofs.Common.{◌≡◌, refl, ap, sym, ◌∙◌, subst, ℕ, Bool, true, false, List, [], ◌∷◌, length, Option, Some, None, Result, Ok, Err, IsTrue}
use Rattle.std.specs.List.{AllByRecursion}
use Rattle.query.specs.declared.query.TableInstance.{TableInstance}
use Rattle.algebra.specs.Alike.{AreAlike}
use Rattle.algebra.specs.Columns.{has, columns_at}
use Rattle.book.specs.declared.names.RuleName.{RuleName}
use Rattle.props.specs.declared.fact.Fact.{Fact}
use Rattle.rules.specs.declared.pattern.Input.{Input}
use Rattle.rules.specs.declared.shape.Shape.{Shape}
use Rattle.rules.specs.declared.unfit.Unfit.{Unfit}
use Rattle.book.specs.Book.{pattern_of, rules}
use Rattle.rules.specs.Matches as matches
use Rattle.rules.specs.Patterns.{input_of}
use Rattle.book.proofs.RuleLaws.{each_rule}
use Rattle.derivation.specs.Logs.{Log, member, least, are_same, knowledge}
use Rattle.derivation.specs.Replay.{both_lines, members}
use Rattle.derivation.proofs.Lookups.{member-within}
use Rattle.logs.specs.Members.{is_member, once_if}
use Rattle.logs.specs.Sets.{times}
use Rattle.bindings.specs.declared.binding.Binding.{Binding}
use Rattle.bindings.specs.Bindings.{applied, given_among, shape_given, uses_of}
use Rattle.closure.specs.declared.lacks.Missing.{Missing}
use Rattle.closure.specs.declared.lacks.Missing.TheVariants as lacks
use Rattle.closure.specs.Closed.{alike, HasResults, IsClosed}
use Rattle.closure.specs.Lacking.{Disagrees, LacksAlike, LacksGiven, IsMissing, DisagreeingAmong, DisagreeingWith, BindingTold}
use Rattle.closure.specs.Lines.{stands_in_class, has_result, has_result_of, HasPairs, HasTriples, HasTriplesOver, HasResultsBy, HasResultsOf}
use Rattle.closure.specs.Places.{place, AreEntered, AgreesAt, Disagree}
use Rattle.closure.proofs.Agreeing.{alike-are, are-alike, alike-place, each-of}
use Rattle.closure.proofs.AnyLine.{is-listed}

-- ---- lines that are alike

pub same_agree : (E : Log) (k l : matches.Line) (b : Bool) → b ≡ are_same E k.class l.class → b ≡ true → Disagree E k l false
same_agree E k l b is yes_ = λ are. sym is ∙ yes_

pub untaken_agree : (E : Log) (k l : matches.Line) (b : Bool) → (AreAlike (least E) k.expr l.expr → IsTrue b) → b ≡ false → Disagree E k l false
untaken_agree E k l b to no_ = λ are. absurd (let never : true ≡ false = sym (to are) ∙ no_ in cc)

pub alike_disagree : (instances : List TableInstance) (E : Log) (k l : matches.Line) (b s : Bool) → b ≡ alike (knowledge instances E) k.expr l.expr → s ≡ are_same E k.class l.class → s ≡ false → Disagree E k l b
alike_disagree instances E k l true s is same no_ = (alike-are instances E k.expr l.expr (sym is), sym same ∙ no_)
alike_disagree instances E k l false s is same no_ = λ are. absurd (let never : false ≡ true = is ∙ are-alike instances E k.expr l.expr are in cc)

pub disagrees_at : (E : Log) (k l m : matches.Line) (j : ℕ) (b : Bool) → member E j ≡ Some m → m ≡ l → Disagree E k l b → b ≡ true → Disagrees E k j
disagrees_at E k l m j true at is told yes_ = record { line = l; there = at ∙ ap Some is; alike = told.0; differ = told.1 }
disagrees_at E k l m j false at is told yes_ = cc

pub agrees_at : (E : Log) (k l m : matches.Line) (j : ℕ) (b : Bool) → member E j ≡ Some m → m ≡ l → Disagree E k l b → b ≡ false → AgreesAt E k j
agrees_at E k l m j true at is told no_ = cc
agrees_at E k l m j false at is told no_ = λ n there are.
    let same : n ≡ l = (let e : n ≡ m = let e : Some n ≡ Some m = sym there ∙ at in cc in e) ∙ is in
    subst (λ (n : matches.Line). are_same E k.class n.class ≡ true) (sym same) (told (subst (λ (n : matches.Line). AreAlike (least E) k.expr n.expr) same are))

pub disagreeing_there : (E : Log) (over : List (List ℕ)) (line : ℕ) (k : matches.Line) (lines : List ℕ) (found : Option ℕ) → AreEntered E (length E) over → member E line ≡ Some k → lines ≡ columns_at over (place E k.expr)
    → DisagreeingAmong E k lines found → DisagreeingWith E line found
disagreeing_there E over line k lines (Some j) entered there is found = record { first = k; there = there; second = found }
disagreeing_there E over line k lines None entered there is agree = λ m at j l other are.
    let same : m ≡ k = let e : Some m ≡ Some k = sym at ∙ there in cc in
    let alike_ : AreAlike (least E) k.expr l.expr = subst (λ (m : matches.Line). AreAlike (least E) m.expr l.expr) same are in
    let listed : has lines j ≡ true =
    ap (λ ns. has ns j) is ∙ ap (λ q. has (columns_at over q) j) (alike-place E k.expr l.expr alike_) ∙ entered.entered j l (member-within E j l other) other in
    subst (λ (m : matches.Line). are_same E m.class l.class ≡ true) (sym same) (each-of (AgreesAt E k) lines agree j listed l other alike_)

-- ---- results

module _ (instances : List TableInstance) (E : Log) where
  -- what is so where no binding is told
  pub told : (P Q : Type 0) (found : Option Binding) → (P → Q) → BindingTold instances E P found → BindingTold instances E Q found
  told P Q (Some b) f is = is
  told P Q None f is = f is

  -- over the lines of a class
  pub pairs_of : (rule : RuleName) (pick i class : ℕ) (lines : List ℕ) → ((n : ℕ) → times n lines ≡ once_if (is_member E class n))
      → AllByRecursion (λ n. has_result instances E rule pick (i ∷ n ∷ []) ≡ true) lines → HasPairs instances E rule pick i (Some class)
  pairs_of rule pick i class lines exact all g n is of =
      let same : class ≡ g = let e : Some class ≡ Some g = is in cc in
      each-of (λ n. has_result instances E rule pick (i ∷ n ∷ []) ≡ true) lines all n (is-listed E class lines exact n (ap (λ g. is_member E g n) same ∙ of))

  pub triples_of : (rule : RuleName) (i below class : ℕ) (input : Input) (lines : List ℕ) (l : matches.Line) → member E below ≡ Some l → input_of l.expr input ≡ Some class → ((n : ℕ) → times n lines ≡ once_if (is_member E class n))
      → AllByRecursion (λ n. has_result instances E rule 0 (i ∷ below ∷ n ∷ []) ≡ true) lines → HasTriples instances E rule i input below
  triples_of rule i below class input lines l at is exact all k there g m at_input of =
      let line : l ≡ k = let e : Some l ≡ Some k = sym at ∙ there in cc in
      let same : class ≡ g = let e : Some class ≡ Some g = sym is ∙ ap (λ (l : matches.Line). input_of l.expr input) line ∙ at_input in cc in
      each-of (λ n. has_result instances E rule 0 (i ∷ below ∷ n ∷ []) ≡ true) lines all m (is-listed E class lines exact m (ap (λ g. is_member E g m) same ∙ of))

  pub no_triples_of : (rule : RuleName) (i below : ℕ) (input : Input) (l : matches.Line) → member E below ≡ Some l → input_of l.expr input ≡ None → HasTriples instances E rule i input below
  no_triples_of rule i below input l at none k there g m at_input of =
      let line : l ≡ k = let e : Some l ≡ Some k = sym at ∙ there in cc in
      absurd (let never : None ≡ Some g = sym none ∙ ap (λ (l : matches.Line). input_of l.expr input) line ∙ at_input in cc)

  pub triples_over : (rule : RuleName) (i class : ℕ) (input : Input) (lines : List ℕ) → ((n : ℕ) → times n lines ≡ once_if (is_member E class n))
      → AllByRecursion (HasTriples instances E rule i input) lines → HasTriplesOver instances E rule i input (Some class)
  triples_over rule i class input lines exact all g n is of =
      let same : class ≡ g = let e : Some class ≡ Some g = is in cc in
      each-of (HasTriples instances E rule i input) lines all n (is-listed E class lines exact n (ap (λ g. is_member E g n) same ∙ of))

  pub at_line : (i : ℕ) (found : Option Binding) → BindingTold instances E (AllByRecursion (λ rule. HasResultsBy instances E rule i (pattern_of rule)) rules) found → BindingTold instances E (HasResultsOf instances E i) found
  at_line i (Some b) lacking = lacking
  at_line i None all = each_rule (λ rule. HasResultsBy instances E rule i (pattern_of rule)) all

  -- no line has the number
  pub no_line : (i : ℕ) → member E i ≡ None → HasResultsOf instances E i
  no_line i none rule = record { at = λ pick rest lines is fits. absurd (let never : None ≡ Some lines = sym (ap (λ o. both_lines o (members E rest)) none) ∙ is in cc) }

  -- where something is missing, the log isn't closed
  result-stands : (rule : RuleName) (pick : ℕ) (uses : List ℕ) → HasResults instances E → has_result instances E rule pick uses ≡ true
  result-stands rule pick uses results = by (members E uses) refl
    where
      by : (o : Option (List matches.Line)) → members E uses ≡ o → stands_in_class (knowledge instances E) E (given_among (knowledge instances E) rule pick o) ≡ true
      by None at = refl
      by (Some []) at = refl
      by (Some (top ∷ others)) at = or (applied (knowledge instances E) rule pick (top ∷ others)) refl
        where
          or : (r : Result Shape Unfit) → applied (knowledge instances E) rule pick (top ∷ others) ≡ r → stands_in_class (knowledge instances E) E (shape_given top.class r) ≡ true
          or (Ok s) given = results rule pick uses top others at s given
          or (Err u) given = refl

  binding_open : (b : Binding) → has_result_of instances E b ≡ false → IsClosed instances E → ⊥
  binding_open b it closed = let never : false ≡ true = sym it ∙ result-stands b.rule b.pick (uses_of b) closed.results in cc

  alike_open : (i j : ℕ) → LacksAlike E i j → IsClosed instances E → ⊥
  alike_open i j it closed = let never : true ≡ false = sym (closed.united i it.first it.there j it.second.line it.second.there it.second.alike) ∙ it.second.differ in cc

  fact_open : (g m : ℕ) (f : Fact) → LacksGiven instances E g m f → IsClosed instances E → ⊥
  fact_open g m f it closed = let never : true ≡ false = sym it.fact.lacks ∙ closed.learnt m it.line it.there f it.fact.rises in cc

  pub missing_open : (m : Missing) → IsMissing instances E m → IsClosed instances E → ⊥
  missing_open (lacks.Alike i j) it = alike_open i j it
  missing_open (lacks.Result b) it = binding_open b it
  missing_open (lacks.Fact g m f) it = fact_open g m f it
