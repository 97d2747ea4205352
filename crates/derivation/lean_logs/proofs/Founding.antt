-- What a rule gives is founded and added: what each step of that does to a log, they do together.
use Rattle.std.proofs.Common.{◌≡◌, refl, ap, sym, ◌∙◌, subst, inl, inr, ◌⊎◌, ℕ, ◌+◌, ◌<◌, ◌≤◌, true, false, not, List, [], ◌∷◌, ◌++◌, length, append_assoc, Option, Some, None, Ok, Err, Result, IfOk, IfSome, OnErr, OnOk, arith}
use Rattle.std.specs.List.{list_all}
use Rattle.std.proofs.lemmas.Bool.{and_parts, and_from, eq-eqb, or_left, or_right}
use Rattle.std.proofs.lemmas.List.{length-append}
use Rattle.std.proofs.lemmas.List.Folds.{list_all-append}
use Rattle.query.specs.declared.query.TableInstance.{TableInstance}
use Rattle.algebra.specs.declared.expr.Aggregation.{Aggregation}
use Rattle.algebra.specs.declared.expr.Expr.{Expr}
use Rattle.algebra.specs.Columns.{has}
use Rattle.algebra.specs.Expressions.{children}
use Rattle.rules.specs.declared.shape.Shape.{Shape}
use Rattle.rules.specs.declared.shape.Shape.TheVariants as shape
use Rattle.rules.specs.Matches as matches
use Rattle.derivation.specs.declared.line.Line.{Line}
use Rattle.derivation.specs.declared.line.Line.TheVariants.{Founds, Adds, Unites, Alike, Gives}
use Rattle.derivation.specs.Logs.{Log, line_at, as_member, member, founds}
use Rattle.derivation.specs.Replay.{Replays, stands}
use Rattle.derivation.proofs.Lookups.{this-or, founded, member-within}
use Rattle.derivation.proofs.Standing.{founds-stands, adds-stands}
use Rattle.logs.specs.Logged.{Logged}
use Rattle.bindings.specs.declared.operators.OverOne.{OverOne}
use Rattle.bindings.specs.declared.operators.OverOne.TheVariants as one_
use Rattle.bindings.specs.declared.operators.OverTwo.{OverTwo}
use Rattle.bindings.specs.declared.operators.OverTwo.TheVariants as two_
use Rattle.bindings.specs.Founding.{founds_something, IsFounded}
use Rattle.bindings.specs.Lean.{SaysNew, made_of}
use Rattle.bindings.specs.Operators.{over_one, over_two, one_shape, two_shape}
use Rattle.bindings.specs.Shallow.{operator_count}
use Rattle.bindings.specs.Spelt.{IsPlaced, IsSpelt}
use Rattle.bindings.proofs.Founding.{member_behind}
use Rattle.bindings.proofs.SpeltShapes.{class_placed, expr_placed, line_has, one_spelt, two_spelt}
use Rattle.lean_logs.specs.declared.founded.Placed.{Placed}
use Rattle.lean_logs.specs.declared.founded.Spelt.{Spelt}
use Rattle.lean_logs.specs.declared.lean_log.Member.{Member}
use Rattle.lean_logs.specs.Founding.{IsAdded, TellsNew, FoundsNew, MayStandBehind, TakesNewest, IsPlacedBehind, IsSpeltBehind, IsFilled, IsInterned}
use Rattle.lean_logs.specs.Growth.{Extends, AreNew, GrowsLean}
use Rattle.lean_logs.proofs.Counts.{select_counts, keep_counts, distinct_counts, group_counts, join_counts, left_join_counts, semi_counts, anti_counts}
use Rattle.lean_logs.proofs.Growth.{extended_along, grows-itself, grows-by_one, grows-along, new_along, none_waits, same_extends, within_along}
use Rattle.lean_logs.proofs.Numbers.{all_has, has_append, less_or}

-- ---- lines that found nothing

module _ (limit : ℕ) where
  pub tells_at_first : (a : Logged) → TellsNew limit a a
  tells_at_first a = record { grows = grows-itself a; within = omega arith; founding = refl; news = tt }

  pub tells_same : (a b : Logged) → b ≡ a → TellsNew limit a b
  tells_same a b same = subst (TellsNew limit a) (sym same) (tells_at_first a)

  pub tells_added : (a b : Logged) (line : Line) → IsAdded limit a line b → founds_something line ≡ false → TellsNew limit a b
  tells_added a b line is none = subst (TellsNew limit a) (sym is.added) (record {
    grows = grows-by_one a line;
    within = let room = is.room in omega (arith, room);
    founding = and_from _ _ (ap not none) refl;
    news = (is.says, tt);
  })

  pub tells_along : (a b c : Logged) → TellsNew limit a b → TellsNew limit b c → TellsNew limit a c
  tells_along a b c first next = record {
    grows = grows-along first.grows next.grows;
    within = within_along limit a b c first.within next.within;
    founding = list_all-append (λ l. not (founds_something l)) next.grows.more first.grows.more ∙ and_from _ _ next.founding first.founding;
    news = new_along a.instances a.log next.grows.more first.grows.more first.news
        (subst (λ E. AreNew a.instances E next.grows.more) first.grows.log (subst (λ I. AreNew I b.log next.grows.more) first.grows.instances next.news));
  }

  pub tells_lean : (a b : Logged) → TellsNew limit a b → GrowsLean limit a b
  tells_lean a b is = record { grows = is.grows; within = is.within; news = is.news; served = none_waits made_of (length a.log) is.grows.more is.founding }

  pub tells_extends : (a b : Logged) → TellsNew limit a b → Extends limit a b
  tells_extends a b is = record { grows = is.grows; within = is.within }

  pub added_extends : (a b : Logged) (line : Line) → IsAdded limit a line b → Extends limit a b
  added_extends a b line is = subst (Extends limit a) (sym is.added) (record { grows = grows-by_one a line; within = let room = is.room in omega (arith, room) })

-- a line that founds nothing is told, or the log stays
module _ {e : Type 0} (limit : ℕ) (a b : Logged) (line : Line) where
  pub tells_of : (r : Result (Option ℕ) e) → founds_something line ≡ false → IfOk r (λ found. IfSome found (λ number. IsAdded limit a line b × (number ≡ length a.log))) → IfOk r (λ found. found ≡ None → b ≡ a)
      → OnErr r (b ≡ a) → TellsNew limit a b
  tells_of (Ok (Some n)) none some same err = tells_added limit a b line some.0 none
  tells_of (Ok None) none some same err = tells_same limit a b (same refl)
  tells_of (Err x) none some same err = tells_same limit a b err

  pub extends_of : (r : Result (Option ℕ) e) → IfOk r (λ found. IfSome found (λ number. IsAdded limit a line b × (number ≡ length a.log))) → IfOk r (λ found. found ≡ None → b ≡ a) → OnErr r (b ≡ a) → Extends limit a b
  extends_of (Ok (Some n)) some same err = added_extends limit a b line some.0
  extends_of (Ok None) some same err = same_extends limit a b (same refl)
  extends_of (Err x) some same err = same_extends limit a b err

  pub longer_of : (r : Result (Option ℕ) e) → IfOk r (λ found. IfSome found (λ number. IsAdded limit a line b × (number ≡ length a.log)))
      → IfOk r (λ found. found ≡ None → stands a.instances a.own a.log line ≡ Ok line → SaysNew a.instances a.log line → limit ≤ length a.log)
      → OnOk r (length a.log < limit → stands a.instances a.own a.log line ≡ Ok line → SaysNew a.instances a.log line → length a.log < length b.log)
  longer_of (Ok (Some n)) some refused = λ room may says. let count : length b.log ≡ length (line ∷ a.log) = ap (λ (l : Logged). length l.log) some.0.added in omega (arith, count)
  longer_of (Ok None) some refused = λ room may says. let full = refused refl may says in absurd (omega (arith, room, full))
  longer_of (Err x) some refused = tt

pub longer_still : (limit : ℕ) (a b c : Logged) → TellsNew limit b c → length a.log < length b.log → length a.log < length c.log
longer_still limit a b c next more = let count : length c.log ≡ length next.grows.more + length b.log = ap length next.grows.log ∙ length-append next.grows.more b.log in omega (arith, more, count)

-- what is told behind a log extends it
pub extended_told : (limit more : ℕ) (a b c : Logged) → Extends limit a b → more ≡ limit → TellsNew more b c → Extends limit a c
extended_told limit more a b c first same next = extended_along limit a b c first (subst (λ n. Extends n b c) same (tells_extends more b c next))

pub told_then : (limit more : ℕ) (a b c : Logged) → TellsNew limit a b → more ≡ limit → TellsNew more b c → TellsNew limit a c
told_then limit more a b c first same next = tells_along limit a b c first (subst (λ n. TellsNew n b c) same next)

pub where_ok : {T E P : Type 0} (r : Result T E) → P → OnOk r P
where_ok (Ok x) p = p
where_ok (Err e) p = tt

-- ---- lines that found something

pub founded_of : (a b : Logged) → FoundsNew a b → IsFounded a b
founded_of a b is = record { instances = is.grows.instances; own = is.grows.own; more = is.grows.more; founding = is.founding; log = is.grows.log; replays = is.replays }

pub founded_itself : (a : Logged) → Replays a.instances a.own a.log → IsFounded a a
founded_itself a replays = record { instances = refl; own = refl; more = []; founding = refl; log = refl; replays = replays }

pub founded_along : (a b c : Logged) → IsFounded a b → IsFounded b c → IsFounded a c
founded_along a b c first next = record {
  instances = next.instances ∙ first.instances;
  own = next.own ∙ first.own;
  more = next.more ++ first.more;
  founding = list_all-append founds_something next.more first.more ∙ and_from _ _ next.founding first.founding;
  log = next.log ∙ ap (λ (log : List Line). next.more ++ log) first.log ∙ sym (append_assoc next.more first.more a.log);
  replays = next.replays;
}

pub founds_at_first : (a : Logged) → Replays a.instances a.own a.log → FoundsNew a a
founds_at_first a replays = record { grows = grows-itself a; founding = refl; news = tt; replays = replays }

pub founds_along : (a b c : Logged) → FoundsNew a b → FoundsNew b c → FoundsNew a c
founds_along a b c first next = record {
  grows = grows-along first.grows next.grows;
  founding = list_all-append founds_something next.grows.more first.grows.more ∙ and_from _ _ next.founding first.founding;
  news = new_along a.instances a.log next.grows.more first.grows.more first.news
      (subst (λ E. AreNew a.instances E next.grows.more) first.grows.log (subst (λ I. AreNew I b.log next.grows.more) first.grows.instances next.news));
  replays = next.replays;
}

pub founds_added : (limit : ℕ) (a b : Logged) (line : Line) → IsAdded limit a line b → founds_something line ≡ true → Replays b.instances b.own b.log → FoundsNew a b
founds_added limit a b line is founds replays = subst (FoundsNew a) (sym is.added) (record {
  grows = grows-by_one a line;
  founding = and_from _ _ founds refl;
  news = (is.says, tt);
  replays = subst (λ (l : Logged). Replays l.instances l.own l.log) is.added replays;
})

-- what may stand behind a log may stand behind one that founded more
pub may_behind : (a b : Logged) (s : Shape) → MayStandBehind a s → IsFounded a b → MayStandBehind b s
may_behind a b s may first c next = may c (founded_along a b c first next)

-- ---- how many operators a shape has

one_counts : (op : OverOne) (x : Shape) → operator_count (one_shape op x) ≡ 1 + operator_count x
one_counts (one_.Select C) x = select_counts C.now x
one_counts (one_.Keep L) x = keep_counts L.now x
one_counts one_.Distinct x = distinct_counts x
one_counts (one_.Group L G) x = group_counts L.now G.now x

two_counts : (op : OverTwo) (x y : Shape) → operator_count (two_shape op x y) ≡ 1 + (operator_count x + operator_count y)
two_counts (two_.Join C) x y = join_counts C.now x y
two_counts (two_.LeftJoin C) x y = left_join_counts C.now x y
two_counts (two_.Semi C) x y = semi_counts C.now x y
two_counts (two_.Anti S M) x y = anti_counts S.now M.now x y

-- ---- shapes

module _ (limit : ℕ) where
  -- a class is itself, and no line is named
  pub class_behind : (a : Logged) (g : ℕ) (p : Placed) → MayStandBehind a (shape.Class g) → Replays a.instances a.own a.log → p.class ≡ g → p.makes.items ≡ [] → IsPlacedBehind a (shape.Class g) p a
  class_behind a g p may replays same none = record {
    founds = founds_at_first a replays;
    count = omega arith;
    named = λ n low high. absurd (omega (arith, low, high));
    newest = inl refl;
    placed = λ l is. subst (λ ms. IsPlaced l.instances l.own l.log (shape.Class g) p.class ms) (sym none)
        (subst (λ c. IsPlaced l.instances l.own l.log (shape.Class g) c []) (sym same) (class_placed l.instances l.own l.log g (may l is)));
  }

  -- ---- an operator over one input

  one-takes : (op : OverOne) (g : ℕ) → has (children (over_one op g)) g ≡ true
  one-takes (one_.Select C) g = or_left _ _ (eq-eqb g g refl)
  one-takes (one_.Keep L) g = or_left _ _ (eq-eqb g g refl)
  one-takes one_.Distinct g = or_left _ _ (eq-eqb g g refl)
  one-takes (one_.Group L G) g = or_left _ _ (eq-eqb g g refl)

  pub one_behind : (a b : Logged) (op : OverOne) (x : Shape) (p : Placed) (e : Spelt) → MayStandBehind a (one_shape op x) → IsPlacedBehind a x p b → e.expr ≡ over_one op p.class → e.makes ≡ p.makes
      → IsSpeltBehind a (one_shape op x) e b
  one_behind a b op x p e may is expr makes = record {
    founds = is.founds;
    count = let count = is.count in let more = one_counts op x in omega (arith, count, more);
    named = λ n low high. ap (λ (m : _). has m.items n) makes ∙ is.named n low high;
    newest = elim is.newest [
      | inl same ↦ inl same
      | inr newest ↦ inr (record { class = p.class; newest = newest; takes = ap (λ x. has (children x) p.class) expr ∙ one-takes op p.class })
    ];
    spelt = λ l later. subst (λ y. IsSpelt l.instances l.own l.log (one_shape op x) y e.makes.items) (sym expr)
        (subst (λ (m : _). IsSpelt l.instances l.own l.log (one_shape op x) (over_one op p.class) m.items) (sym makes)
        (one_spelt l.instances l.own l.log op x p.class p.makes.items (may l (founded_along a b l (founded_of a b is.founds) later)) (is.placed l later)));
  }

  pub one_filled : (a b : Logged) (op : OverOne) (x : Shape) → IsFilled limit a x b → IsFilled limit a (one_shape op x) b
  one_filled a b op x is = record { founds = is.founds; count = let count = is.count in let more = one_counts op x in omega (arith, count, more); full = is.full }

  -- ---- over two

  first-takes : (op : OverTwo) (g h : ℕ) → has (children (over_two op g h)) g ≡ true
  first-takes (two_.Join C) g h = or_left _ _ (eq-eqb g g refl)
  first-takes (two_.LeftJoin C) g h = or_left _ _ (eq-eqb g g refl)
  first-takes (two_.Semi C) g h = or_left _ _ (eq-eqb g g refl)
  first-takes (two_.Anti S M) g h = or_left _ _ (eq-eqb g g refl)

  second-takes : (op : OverTwo) (g h : ℕ) → has (children (over_two op g h)) h ≡ true
  second-takes (two_.Join C) g h = or_right _ _ (or_left _ _ (eq-eqb h h refl))
  second-takes (two_.LeftJoin C) g h = or_right _ _ (or_left _ _ (eq-eqb h h refl))
  second-takes (two_.Semi C) g h = or_right _ _ (or_left _ _ (eq-eqb h h refl))
  second-takes (two_.Anti S M) g h = or_right _ _ (or_left _ _ (eq-eqb h h refl))

  pub two_behind : (a b c : Logged) (op : OverTwo) (x y : Shape) (p q : Placed) (e : Spelt) → MayStandBehind a (two_shape op x y) → IsPlacedBehind a x p b → IsPlacedBehind b y q c
      → e.expr ≡ over_two op p.class q.class → e.makes.items ≡ p.makes.items ++ q.makes.items → IsSpeltBehind a (two_shape op x y) e c
  two_behind a b c op x y p q e may left right expr makes = record {
    founds = founds_along a b c left.founds right.founds;
    count = let one = left.count in let other = right.count in let more = two_counts op x y in omega (arith, one, other, more);
    named = λ n low high. ap (λ ms. has ms n) makes ∙ has_append p.makes.items q.makes.items n (by n low high (less_or n (length b.log)));
    newest = elim right.newest [
      | inl same ↦ elim left.newest [
        | inl still ↦ inl (same ∙ still)
        | inr newest ↦ inr (record { class = p.class; newest = newest ∙ sym (ap (λ (l : Logged). length l.log) same); takes = ap (λ x. has (children x) p.class) expr ∙ first-takes op p.class q.class })
      ]
      | inr newest ↦ inr (record { class = q.class; newest = newest; takes = ap (λ x. has (children x) q.class) expr ∙ second-takes op p.class q.class })
    ];
    spelt = λ l later. subst (λ z. IsSpelt l.instances l.own l.log (two_shape op x y) z e.makes.items) (sym expr)
        (subst (λ ms. IsSpelt l.instances l.own l.log (two_shape op x y) (over_two op p.class q.class) ms) (sym makes)
        (two_spelt l.instances l.own l.log op x y p.class q.class p.makes.items q.makes.items
        (may l (founded_along a b l (founded_of a b left.founds) (founded_along b c l (founded_of b c right.founds) later)))
        (left.placed l (founded_along b c l (founded_of b c right.founds) later)) (right.placed l later)));
  }
    where
      by : (n : ℕ) → length a.log ≤ n → n < length c.log → (n < length b.log) ⊎ (length b.log ≤ n) → (has p.makes.items n ≡ true) ⊎ (has q.makes.items n ≡ true)
      by n low high (inl before) = inl (left.named n low before)
      by n low high (inr behind) = inr (right.named n behind high)

  pub left_filled : (a b : Logged) (op : OverTwo) (x y : Shape) → IsFilled limit a x b → IsFilled limit a (two_shape op x y) b
  left_filled a b op x y is = record { founds = is.founds; count = let count = is.count in let more = two_counts op x y in omega (arith, count, more); full = is.full }

  pub right_filled : (a b c : Logged) (op : OverTwo) (x y : Shape) (p : Placed) → IsPlacedBehind a x p b → IsFilled limit b y c → IsFilled limit a (two_shape op x y) c
  right_filled a b c op x y p left is = record {
    founds = founds_along a b c left.founds is.founds;
    count = let one = left.count in let other = is.count in let more = two_counts op x y in omega (arith, one, other, more);
    full = is.full;
  }

  -- ---- the class of an operator's expression

  -- what an expression of a line takes are classes of earlier lines
  takes-earlier : (instances : List TableInstance) (own : List Aggregation) (E : Log) → Replays instances own E → (n : ℕ) (l : matches.Line) (c : ℕ) → member E n ≡ Some l → has (children l.expr) c ≡ true → c < n
  takes-earlier instances own [] replays n l c there takes = cc
  takes-earlier instances own (k ∷ E) replays n l c there takes = by (takes-earlier instances own E replays.1 n l c) (line_at (k ∷ E) n) refl there
    where
      below : (x : Expr) → list_all (founds E) (children x) ≡ true → has (children x) c ≡ true → c < length E
      below x all in_ = founded E c (all_has (founds E) (children x) c all in_)

      last : (j : Line) → stands instances own E j ≡ Ok j → as_member (length E) (Some j) ≡ Some l → c < length E
      last (Founds x) may is = let it = founds-stands instances own E x _ may in below x (and_parts _ _ it.known).0 (let same : record { class = length E; expr = x } ≡ l = cc in ap (λ (m : matches.Line). has (children m.expr) c) same ∙ takes)
      last (Adds g s x) may is = let it = adds-stands instances own E g s x _ may in below x (and_parts _ _ it.known).0 (let same : record { class = g; expr = x } ≡ l = cc in ap (λ (m : matches.Line). has (children m.expr) c) same ∙ takes)
      last (Unites g h s) may is = cc
      last (Alike i j) may is = cc
      last (Gives g m f) may is = cc

      by : (member E n ≡ Some l → has (children l.expr) c ≡ true → c < n) → (o : Option Line) → line_at (k ∷ E) n ≡ o → as_member n o ≡ Some l → c < n
      by before None at is = cc
      by before (Some j) at is = elim (this-or k E n j at) [
        | inl this ↦ subst (λ m. c < m) (sym this.0) (last j (subst (λ j. stands instances own E j ≡ Ok j) this.1 replays.0) (subst (λ m. as_member m (Some j) ≡ Some l) this.0 is))
        | inr at ↦ before (ap (as_member n) at ∙ is) takes
      ]

  -- so no line has an expression that takes the class of the last one
  pub none_newest : (a : Logged) (x : Expr) (n g : ℕ) → Replays a.instances a.own a.log → TakesNewest a x → member a.log n ≡ Some (record { class = g; expr = x }) → ⊥
  none_newest a x n g replays newest there =
      let earlier = takes-earlier a.instances a.own a.log replays n (record { class = g; expr = x }) newest.class there newest.takes in
      let within = member-within a.log n (record { class = g; expr = x }) there in
      let last = newest.newest in
      omega (arith, earlier, within, last)

  pub expr_behind : (a b c : Logged) (s : Shape) (e : Spelt) (m : Member) (p : Placed) → IsSpeltBehind a s e b → IsInterned limit b e.expr m c → Replays b.instances b.own b.log → Replays c.instances c.own c.log
      → p.class ≡ m.class → p.makes.items ≡ m.line ∷ e.makes.items → IsPlacedBehind a s p c
  expr_behind a b c s e m p spelt is replays after class makes = record {
    founds = founds_along a b c spelt.founds found;
    count = elim is.added [
      | inl same ↦ let count = spelt.count in let now : length c.log ≡ length b.log = ap (λ (l : Logged). length l.log) same in omega (arith, count, now)
      | inr added ↦ let count = spelt.count in let now : length c.log ≡ length (Founds e.expr ∷ b.log) = ap (λ (l : Logged). length l.log) added.0.added in omega (arith, count, now)
    ];
    named = λ n low high. ap (λ ms. has ms n) makes ∙ by n low high (less_or n (length b.log));
    newest = elim is.added [
      | inl same ↦ elim spelt.newest [
        | inl still ↦ inl (same ∙ still)
        | inr newest ↦ absurd (none_newest b e.expr m.line m.class replays newest (subst (λ (l : Logged). member l.log m.line ≡ Some (record { class = m.class; expr = e.expr })) same is.there))
      ]
      | inr added ↦ inr (let now : length c.log ≡ length (Founds e.expr ∷ b.log) = ap (λ (l : Logged). length l.log) added.0.added in let last = added.2 in let own = class in omega (arith, now, last, own))
    ];
    placed = λ l later. subst (λ ms. IsPlaced l.instances l.own l.log s p.class ms) (sym makes)
        (subst (λ g. IsPlaced l.instances l.own l.log s g (m.line ∷ e.makes.items)) (sym class)
        (expr_placed l.instances l.own l.log s e.expr m.line m.class e.makes.items
        (line_has l.instances l.own l.log e.expr m.line (record { class = m.class; expr = e.expr }) later.replays
        (ap (λ E. member E m.line) later.log ∙ member_behind later.more c.log m.line (record { class = m.class; expr = e.expr }) is.there) refl)
        (spelt.spelt l (founded_along b c l (founded_of b c found) later))));
  }
    where
      found : FoundsNew b c
      found = elim is.added [
        | inl same ↦ subst (FoundsNew b) (sym same) (founds_at_first b replays)
        | inr added ↦ founds_added limit b c (Founds e.expr) added.0 refl after
      ]

      by : (n : ℕ) → length a.log ≤ n → n < length c.log → (n < length b.log) ⊎ (length b.log ≤ n) → has (m.line ∷ e.makes.items) n ≡ true
      by n low high (inl before) = or_right _ _ (spelt.named n low before)
      by n low high (inr behind) = elim is.added [
        | inl same ↦ let now : length c.log ≡ length b.log = ap (λ (l : Logged). length l.log) same in absurd (omega (arith, now, high, behind))
        | inr added ↦ or_left _ _ (eq-eqb m.line n (let now : length c.log ≡ length (Founds e.expr ∷ b.log) = ap (λ (l : Logged). length l.log) added.0.added in let at = added.1 in omega (arith, now, at, high, behind)))
      ]

  pub expr_filled : (a b c : Logged) (s : Shape) (e : Spelt) → IsSpeltBehind a s e b → c ≡ b → limit ≤ length b.log → IsFilled limit a s c
  expr_filled a b c s e spelt same full = subst (IsFilled limit a s) (sym same) (record { founds = spelt.founds; count = spelt.count; full = full })
