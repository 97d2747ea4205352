-- A rule's result behind what is founded for it: the log grows by it, and stays lean.
use Rattle.std.proofs.Common.{◌≡◌, refl, ap, sym, ◌∙◌, subst, inl, inr, ◌⊎◌, ℕ, ◌+◌, ◌<◌, ◌≤◌, Bool, true, false, not, List, [], ◌∷◌, filter, length, if◌then◌else◌, Option, Some, None, Result, Ok, Err, IfOk, IfSome, OnOk, arith}
use Rattle.std.proofs.lemmas.List.{length-append}
use Rattle.algebra.proofs.MentionedColumns.{on_ok}
use Rattle.algebra.specs.Columns.{has}
use Rattle.props.specs.Knowledge.{Knowledge}
use Rattle.rules.specs.declared.shape.Shape.{Shape}
use Rattle.rules.specs.declared.shape.Shape.TheVariants as shape
use Rattle.rules.specs.declared.unfit.Unfit.{Unfit}
use Rattle.rules.specs.Matches as matches
use Rattle.book.specs.declared.names.RuleName.{RuleName}
use Rattle.derivation.specs.declared.line.Line.{Line}
use Rattle.derivation.specs.Logs.{are_same, knowledge, member}
use Rattle.derivation.specs.declared.line.Step.{Step}
use Rattle.derivation.specs.declared.line.Line.TheVariants.{Adds, Unites}
use Rattle.derivation.specs.Replay.{Replays, members, stands}
use Rattle.logs.specs.Logged.{Logged, with_line}
use Rattle.bindings.specs.declared.binding.Binding.{Binding}
use Rattle.bindings.specs.declared.rule_results.RuleResult.{RuleResult}
use Rattle.bindings.specs.Bindings.{applied, given_among, given_by_binding, shape_given, step_of, uses_of}
use Rattle.bindings.specs.Results.{IsResult}
use Rattle.bindings.specs.Spelt.{MayStand, IsPlaced, IsSpelt}
use Rattle.bindings.proofs.Results.{adds_stand, placed_unites, unites_stand}
use Rattle.bindings.specs.Founding.{founds_something, IsResultBehind}
use Rattle.bindings.specs.Lean.{SaysNew, made_of}
use Rattle.bindings.specs.Shallow.{BookIsShallow, operator_count}
use Rattle.bindings.proofs.SpeltShapes.{class_placed, expr_placed, line_has}
use Rattle.lean_logs.specs.declared.founded.Spelt.{Spelt}
use Rattle.lean_logs.specs.Founding.{IsAdded, FoundsNew, AreNamed, MayStandBehind, IsSpeltBehind, IsFilled, IsToldNew, IsToldBy, ClassTold, ResultTold, Stands}
use Rattle.lean_logs.specs.Growth.{IsWithin, waiting, GrowsLean, FillsLean}
use Rattle.lean_logs.proofs.Growth.{lean_along, lean_fills, same_lean}
use Rattle.lean_logs.proofs.Numbers.{has_cons, has_later, left_in, none_left}
use Rattle.lean_logs.proofs.Founding.{founded_itself, founded_of, founds_at_first, none_newest, tells_at_first, tells_lean}

-- ---- what a binding's rule gives

module _ (a : Logged) (b : Binding) (g : RuleResult) (is : given_by_binding a.instances a.log b ≡ Some g) where
  pub given_result : IsResultBehind a b → Replays a.instances a.own a.log → IsResult a.instances a.own a.log b g.class g.shape
  given_result behind replays = behind g is a (founded_itself a replays)

  pub given_may : IsResultBehind a b → MayStandBehind a g.shape
  given_may behind new founded = (behind g is new founded).may

-- behind what was founded for it a result may stand, as it is spelt
pub given_spelt : (a b : Logged) (bd : Binding) (g : RuleResult) (e : Spelt) → given_by_binding a.instances a.log bd ≡ Some g → IsResultBehind a bd → IsSpeltBehind a g.shape e b → Replays b.instances b.own b.log
    → IsResult b.instances b.own b.log bd g.class g.shape × IsSpelt b.instances b.own b.log g.shape e.expr e.makes.items
given_spelt a b bd g e is behind spelt replays = (behind g is b (founded_of a b spelt.founds), spelt.spelt b (founded_itself b replays))

shape-given : (c : ℕ) (r : Result Shape Unfit) (g : RuleResult) → shape_given c r ≡ Some g → r ≡ Ok g.shape
shape-given c (Ok s) g is = let e : Some (record { class = c; shape = s }) ≡ Some g = is in let same : record { class = c; shape = s } ≡ g = cc in ap (λ (g : RuleResult). Ok g.shape) same
shape-given c (Err u) g is = cc

among-shallow : BookIsShallow → (K : Knowledge) (rule : RuleName) (pick : ℕ) (o : Option (List matches.Line)) (g : RuleResult) → given_among K rule pick o ≡ Some g → operator_count g.shape ≤ 3
among-shallow shallow K rule pick None g is = cc
among-shallow shallow K rule pick (Some []) g is = cc
among-shallow shallow K rule pick (Some (top ∷ others)) g is = shallow rule (record { lines = top ∷ others; pick = pick; classes = K }) g.shape (shape-given top.class (applied K rule pick (top ∷ others)) g is)

pub given_shallow : BookIsShallow → (a : Logged) (b : Binding) (g : RuleResult) → given_by_binding a.instances a.log b ≡ Some g → operator_count g.shape ≤ 3
given_shallow shallow a b g is = among-shallow shallow (knowledge a.instances a.log) b.rule b.pick (members a.log (uses_of b)) g is

-- ---- which lines wait

within-by : (names : Line → List ℕ) (k n : ℕ) (l : Line) (lines : List Line) → (has (waiting names k lines) n ≡ true → (k ≤ n) × (n < length lines + k)) → (b : Bool) → founds_something l ≡ b
    → has (waiting names k (l ∷ lines)) n ≡ true → (k ≤ n) × (n < length (l ∷ lines) + k)
within-by names k n l lines before b is in_ = by b (sym (ap (λ b. has (if b then (length lines + k) ∷ rest else rest) n) is) ∙ in_)
  where
    rest : List ℕ
    rest = filter (λ n. not (has (names l) n)) (waiting names k lines)

    earlier : has rest n ≡ true → (k ≤ n) × (n < length (l ∷ lines) + k)
    earlier in_ = let at = before (left_in (λ n. not (has (names l) n)) n (waiting names k lines) in_).0 in let high = at.1 in (at.0, omega (arith, high))

    by : (b : Bool) → has (if b then (length lines + k) ∷ rest else rest) n ≡ true → (k ≤ n) × (n < length (l ∷ lines) + k)
    by false in_ = earlier in_
    by true in_ = elim (has_cons (length lines + k) n rest in_) [
      | inl same ↦ (omega (arith, same), omega (arith, same))
      | inr in_ ↦ earlier in_
    ]

-- those that wait are among the lines
waits-within : (names : Line → List ℕ) (k n : ℕ) (lines : List Line) → has (waiting names k lines) n ≡ true → (k ≤ n) × (n < length lines + k)
waits-within names k n [] in_ = cc
waits-within names k n (l ∷ lines) in_ = within-by names k n l lines (waits-within names k n lines) (founds_something l) refl in_

module _ (limit : ℕ) where
  -- behind lines that found something a line stands that names them all
  named-by-one : (a b : Logged) (makes named : List ℕ) (line : Line) → FoundsNew a b → AreNamed a b makes → ((n : ℕ) → has makes n ≡ true → has named n ≡ true) → length b.log < limit → SaysNew b.instances b.log line
      → founds_something line ≡ false → made_of line ≡ named → GrowsLean limit a (with_line b line)
  named-by-one a b makes named line found are names room says none made = record {
    grows = record { instances = found.grows.instances; own = found.grows.own; more = line ∷ found.grows.more; log = ap (λ (L : List Line). line ∷ L) found.grows.log };
    within = omega (arith, room);
    news = (subst (λ E. SaysNew a.instances E line) found.grows.log (subst (λ I. SaysNew I b.log line) found.grows.instances says), found.news);
    served = ap (λ b. if b then (length found.grows.more + length a.log) ∷ left else left) none ∙ none_left (has (made_of line)) (waiting made_of (length a.log) found.grows.more) named-all;
  }
    where
      left : List ℕ
      left = filter (λ n. not (has (made_of line) n)) (waiting made_of (length a.log) found.grows.more)

      named-all : (n : ℕ) → has (waiting made_of (length a.log) found.grows.more) n ≡ true → has (made_of line) n ≡ true
      named-all n waits =
          let at = waits-within made_of (length a.log) n found.grows.more waits in
          let count : length b.log ≡ length found.grows.more + length a.log = ap length found.grows.log ∙ length-append found.grows.more a.log in
          ap (λ ns. has ns n) made ∙ names n (are n at.0 (let high = at.1 in omega (arith, high, count)))

  -- and then others that found nothing
  lean_result : (a b new : Logged) (makes named : List ℕ) → FoundsNew a b → AreNamed a b makes → ((n : ℕ) → has makes n ≡ true → has named n ≡ true) → IsToldNew limit b named new → GrowsLean limit a new
  lean_result a b new makes named found are names told = lean_along limit a told.behind new
      (subst (GrowsLean limit a) (sym told.added.added) (named-by-one a b makes named told.line found are names told.added.room told.added.says told.founds told.names))
      (tells_lean limit told.behind new told.tells)

  -- a full log in which the last two lines at most found something for a result
  filled : (a b : Logged) → FoundsNew a b → IsWithin limit a b → limit ≤ length b.log → length b.log ≤ length a.log + 2 → FillsLean limit a b
  filled a b found within full few = record {
    grows = found.grows;
    within = within;
    news = found.news;
    served = λ n waits. let low = (waits-within made_of (length a.log) n found.grows.more waits).0 in (full, omega (arith, few, low));
  }

  told_grows : (a new : Logged) (makes : List ℕ) → IsToldNew limit a makes new → length a.log < length new.log
  told_grows a new makes told =
      let one : length told.behind.log ≡ length (told.line ∷ a.log) = ap (λ (l : Logged). length l.log) told.added.added in
      let more : length new.log ≡ length told.tells.grows.more + length told.behind.log = ap length told.tells.grows.log ∙ length-append told.tells.grows.more told.behind.log in
      omega (arith, one, more)

  -- a result's line is added, or the log is full
  pub told_of : {e : Type 0} (a b : Logged) (line : Line) (r : Result (Option ℕ) e) → stands a.instances a.own a.log line ≡ Ok line → SaysNew a.instances a.log line → founds_something line ≡ false
      → IfOk r (λ found. IfSome found (λ number. IsAdded limit a line b × (number ≡ length a.log))) → IfOk r (λ found. found ≡ None → b ≡ a)
      → IfOk r (λ found. found ≡ None → stands a.instances a.own a.log line ≡ Ok line → SaysNew a.instances a.log line → limit ≤ length a.log) → OnOk r (IsToldBy limit a (made_of line) b)
  told_of a b line (Ok (Some n)) may says founds some none refused = inl (record { line = line; behind = b; added = some.0; founds = founds; names = refl; tells = tells_at_first limit b })
  told_of a b line (Ok None) may says founds some none refused = inr (record { kept = none refl; full = refused refl may says })
  told_of a b line (Err x) may says founds some none refused = tt

  -- ---- what is said of a rule's result

  abbrev Fills : Logged → Logged → Type 0
  Fills a b = FillsLean limit a b

  abbrev Lean : Logged → RuleResult → Logged → Type 0
  Lean a g b = operator_count g.shape + length a.log ≤ limit → GrowsLean limit a b

  abbrev Added : Logged → RuleResult → Logged → Type 0
  Added a g b = length a.log < limit → Stands a g ⊎ (length a.log < length b.log)

  pub record Given (a : Logged) (g : RuleResult) (new : Logged) : Type 0 where
    pub fills : Fills a new
    pub lean : Lean a g new
    pub added : Added a g new

  -- a log that stays
  same-given : (a new : Logged) (g : RuleResult) → new ≡ a → (length a.log < limit → Stands a g) → Given a g new
  same-given a new g same there = record {
    fills = lean_fills limit a new (same_lean limit a new same);
    lean = λ room. same_lean limit a new same;
    added = λ room. inl (there room);
  }

  pub class_given : (a new : Logged) (g : RuleResult) → Replays a.instances a.own a.log → ClassTold limit a g new → Given a g new
  class_given a new g replays told = elim told [
    | inl there ↦ same-given a new g there.1 (λ room. there.0)
    | inr said ↦ elim said [
      | inl new_ ↦
          let lean = lean_result a a new [] [] (founds_at_first a replays) (λ n low high. absurd (omega (arith, low, high))) (λ n in_. in_) new_ in
          record { fills = lean_fills limit a new lean; lean = λ room. lean; added = λ room. inr (told_grows a new [] new_) }
      | inr left ↦ same-given a new g left.kept (λ room. let full = left.full in absurd (omega (arith, room, full)))
    ]
  ]

  pub filled_given : (a new : Logged) (g : RuleResult) → operator_count g.shape ≤ 3 → IsWithin limit a new → IsFilled limit a g.shape new → Given a g new
  filled_given a new g shallow within is = record {
    fills = filled a new is.founds within is.full (let count = is.count in omega (arith, count, shallow));
    lean = λ room. let count = is.count in let full = is.full in absurd (omega (arith, count, full, room));
    added = λ room. inr (let full = is.full in omega (arith, room, full));
  }

  pub spelt_given : (a b new : Logged) (g : RuleResult) (e : Spelt) → operator_count g.shape ≤ 3 → Replays a.instances a.own a.log → Replays b.instances b.own b.log → IsWithin limit a b → IsSpeltBehind a g.shape e b → ResultTold limit b g e new → Given a g new
  spelt_given a b new g e shallow replays later within spelt told = elim told [
    | inl there ↦ elim spelt.newest [
      | inl same ↦ same-given a new g (there.kept ∙ same) (λ room. subst (λ (l : Logged). Stands l g) same (record {
        class = there.class;
        makes = there.line ∷ e.makes.items;
        placed = expr_placed b.instances b.own b.log g.shape e.expr there.line there.class e.makes.items
            (line_has b.instances b.own b.log e.expr there.line (record { class = there.class; expr = e.expr }) later there.there refl) (spelt.spelt b (founded_itself b later));
        same = there.same;
      }))
      | inr newest ↦ absurd (none_newest limit b e.expr there.line there.class later newest there.there)
    ]
    | inr names ↦ elim names.2 [
      | inl new_ ↦
          let lean = lean_result a b new e.makes.items names.0 spelt.founds spelt.named names.1 new_ in
          record {
            fills = lean_fills limit a new lean;
            lean = λ room. lean;
            added = λ room. inr (let more = told_grows b new names.0 new_ in let grown : length b.log ≡ length spelt.founds.grows.more + length a.log = ap length spelt.founds.grows.log ∙ length-append spelt.founds.grows.more a.log in omega (arith, more, grown));
          }
      | inr left ↦ subst (Given a g) (sym left.kept) (record {
        fills = filled a b spelt.founds within left.full (let count = spelt.count in omega (arith, count, shallow));
        lean = λ room. let count = spelt.count in let full = left.full in absurd (omega (arith, count, full, room));
        added = λ room. inr (let full = left.full in omega (arith, room, full));
      })
    ]
  ]

  -- ---- by the lines that say it

  pub class_stands : (a : Logged) (g : RuleResult) (b : Binding) (other : ℕ) → g.shape ≡ shape.Class other → IsResult a.instances a.own a.log b g.class g.shape → are_same a.log g.class other ≡ true → Stands a g
  class_stands a g b other is result same = record {
    class = other;
    makes = [];
    placed = subst (λ s. IsPlaced a.instances a.own a.log s other []) (sym is) (class_placed a.instances a.own a.log other (subst (MayStand a.instances a.own a.log) is result.may));
    same = same;
  }

  module _ {E : Type 0} (r : Result (Option ℕ) E) (a new : Logged) (g : RuleResult) (b : Binding) (step : Step) where
    pub class_told : (other : ℕ) → step ≡ step_of b [] → OnOk r (IsToldBy limit a (made_of (Unites g.class other step)) new) → OnOk r (ClassTold limit a g new)
    class_told other is told = on_ok r (λ said. inr (subst (λ ms. IsToldBy limit a ms new) (ap (λ (s : Step). s.makes) is) said)) told

    pub adds_told : (e : Spelt) → step ≡ step_of b e.makes.items → OnOk r (IsToldBy limit a (made_of (Adds g.class step e.expr)) new) → OnOk r (ResultTold limit a g e new)
    adds_told e is told = on_ok r (λ said. inr (e.makes.items, (λ n in_. in_), subst (λ ms. IsToldBy limit a ms new) (ap (λ (s : Step). s.makes) is) said)) told

    pub unites_told : (e : Spelt) (class line : ℕ) → step ≡ step_of b (line ∷ e.makes.items) → OnOk r (IsToldBy limit a (made_of (Unites g.class class step)) new) → OnOk r (ResultTold limit a g e new)
    unites_told e class line is told = on_ok r (λ said. inr (line ∷ e.makes.items, (λ n in_. has_later line n e.makes.items in_), subst (λ ms. IsToldBy limit a ms new) (ap (λ (s : Step). s.makes) is) said)) told

  -- a class that a line has the expression of, and the line by which it is the same as that of the result
  pub line_unites : (a : Logged) (g : RuleResult) (b : Binding) (e : Spelt) (line class : ℕ) (step : Step) → Replays a.instances a.own a.log → IsResult a.instances a.own a.log b g.class g.shape
      → IsSpelt a.instances a.own a.log g.shape e.expr e.makes.items → member a.log line ≡ Some (record { class = class; expr = e.expr }) → step ≡ step_of b (line ∷ e.makes.items)
      → stands a.instances a.own a.log (Unites g.class class step) ≡ Ok (Unites g.class class step)
  line_unites a g b e line class step replays result spelt there is =
      subst (λ s. stands a.instances a.own a.log (Unites g.class class s) ≡ Ok (Unites g.class class s)) (sym is)
      (placed_unites a.instances a.own a.log b g.class class g.shape (line ∷ e.makes.items) result
      (expr_placed a.instances a.own a.log g.shape e.expr line class e.makes.items (line_has a.instances a.own a.log e.expr line (record { class = class; expr = e.expr }) replays there refl) spelt))

  pub line_adds : (a : Logged) (g : RuleResult) (b : Binding) (e : Spelt) (step : Step) → IsResult a.instances a.own a.log b g.class g.shape → IsSpelt a.instances a.own a.log g.shape e.expr e.makes.items → step ≡ step_of b e.makes.items
      → stands a.instances a.own a.log (Adds g.class step e.expr) ≡ Ok (Adds g.class step e.expr)
  line_adds a g b e step result spelt is =
      subst (λ s. stands a.instances a.own a.log (Adds g.class s e.expr) ≡ Ok (Adds g.class s e.expr)) (sym is) (adds_stand a.instances a.own a.log b g.class g.shape e.expr e.makes.items result spelt)

  pub class_unites : (a : Logged) (g : RuleResult) (b : Binding) (other : ℕ) (step : Step) → g.shape ≡ shape.Class other → IsResult a.instances a.own a.log b g.class g.shape → step ≡ step_of b []
      → stands a.instances a.own a.log (Unites g.class other step) ≡ Ok (Unites g.class other step)
  class_unites a g b other step shape_ result is =
      subst (λ s. stands a.instances a.own a.log (Unites g.class other s) ≡ Ok (Unites g.class other s)) (sym is) (unites_stand a.instances a.own a.log b g.class other g.shape shape_ result)
