-- Lines that are alike have one number, so they stand in one place.
use Rattle.std.proofs.Common.{◌≡◌, ◌≢◌, refl, ap, sym, ◌∙◌, subst, ℕ, ◌+◌, ◌%◌, ◌<◌, ◌≤◌, Bool, true, false, ◌||◌, ◌==◌, nat_lt, if◌then◌else◌, List, [], ◌∷◌, ◌++◌, length, map, set, take, drop, get_or, ◌-◌, slice_get, option_map, Option, Some, None, IsTrue, Vec, Global, arith}
use Rattle.std.specs.List.{AllByRecursion}
use Rattle.std.proofs.lemmas.Bool.{lt-ltb, ltb-true, eq-eqb, eqb-true}
use Rattle.std.proofs.lemmas.List.{map-set, get_or-set_same, get_or-set_other, length-map, take_all}
use Rattle.std.proofs.Math.Bool.{or-true}
use Rattle.query.specs.declared.query.TableInstance.{TableInstance}
use Rattle.algebra.specs.declared.expr.Expr.{Expr}
use Rattle.algebra.specs.declared.expr.Expr.TheVariants.{Get, Select, Join, LeftJoin, Semi, Anti, Keep, Distinct, Group}
use Rattle.algebra.specs.Alike.{AreAlike, rooted}
use Rattle.algebra.specs.Columns.{has, columns_at}
use Rattle.algebra.specs.Equality.{same_expr}
use Rattle.algebra.specs.Expressions.{children}
use Rattle.algebra.proofs.Same.{same-expr, equal_expr}
use Rattle.props.specs.Knowledge.{Knowledge}
use Rattle.rules.specs.Matches as matches
use Rattle.derivation.specs.Logs.{Log, member, least, knowledge}
use Rattle.derivation.proofs.Lookups.{member-within}
use Rattle.closure.specs.Closed.{alike}
use Rattle.closure.specs.Operators.{IsUnlike, LineAnswers, ListAnswers, Answers}
use Rattle.closure.specs.Numbers.{expression_number}
use Rattle.closure.specs.Places.{place, AreEntered}

-- ---- the test

pub alike-are : (instances : List TableInstance) (E : Log) (x y : Expr) → alike (knowledge instances E) x y ≡ true → AreAlike (least E) x y
alike-are instances E x y is = equal_expr _ _ is

pub are-alike : (instances : List TableInstance) (E : Log) (x y : Expr) → AreAlike (least E) x y → alike (knowledge instances E) x y ≡ true
are-alike instances E x y is = ap (λ z. alike_to z) is ∙ same-expr (rooted (least E) y)
  where
    alike_to : Expr → Bool
    alike_to z = same_expr z (rooted (least E) y)

-- ---- places

pub place-bound : (E : Log) (x : Expr) → place E x ≤ length E
place-bound E x = let within : place E x < length E + 1 = omega arith in omega (arith, within)

pub place-of-same : (E : Log) (l m : matches.Line) (p : ℕ) → ◌≡◌ {A = Option matches.Line} (Some l) (Some m) → p ≡ place E m.expr → place E l.expr ≡ p
place-of-same E l m p is at = let same : l ≡ m = cc in ap (λ (l : matches.Line). place E l.expr) same ∙ sym at

-- expressions that are alike are one with roots
pub alike-place : (E : Log) (x y : Expr) → AreAlike (least E) x y → place E x ≡ place E y
alike-place E x y are = ap (λ z. expression_number z % (length E + 1)) are

-- ---- lists

pub first-of : (P : ℕ → Type 0) (ns : List ℕ) (d : ℕ) → 1 ≤ length ns → AllByRecursion P ns → P (get_or ns 0 d)
first-of P [] d some all = absurd (omega (arith, some))
first-of P (n ∷ ns) d some all = all.0

whole : (n : ℕ) (ns : List ℕ) → take (length (n ∷ ns) - 1) (drop 1 (n ∷ ns)) ≡ ns
whole n ns = take_all (length (n ∷ ns) - 1) ns (omega arith)

pub rest-of : (P : ℕ → Type 0) (ns : List ℕ) (d : ℕ) → 1 ≤ length ns → P (get_or ns 0 d) → AllByRecursion P (take (length ns - 1) (drop 1 ns)) → AllByRecursion P ns
rest-of P [] d some first rest = absurd (omega (arith, some))
rest-of P (n ∷ ns) d some first rest = (first, subst (AllByRecursion P) (whole n ns) rest)

pub to-rest : (P : ℕ → Type 0) (ns : List ℕ) → 1 ≤ length ns → AllByRecursion P ns → AllByRecursion P (take (length ns - 1) (drop 1 ns))
to-rest P [] some all = absurd (omega (arith, some))
to-rest P (n ∷ ns) some all = subst (AllByRecursion P) (sym (whole n ns)) all.1

pub each-of : (P : ℕ → Type 0) (ns : List ℕ) → AllByRecursion P ns → (n : ℕ) → has ns n ≡ true → P n
each-of P [] all n is = cc
each-of P (k ∷ ns) all n is = by (each-of P ns all.1 n) (k == n) refl is
  where
    by : (has ns n ≡ true → P n) → (b : Bool) → (k == n) ≡ b → (b || has ns n) ≡ true → P n
    by later true e is = subst P (eqb-true k n e) all.0
    by later false e is = later is

-- ---- lines in their places

-- a list where one of those in it is another
pub set-there : (xs : List (Vec ℕ Global)) (p : ℕ) (w : Vec ℕ Global) → p < length xs → columns_at (map (λ v. v.items) (set xs p w)) p ≡ w.items
set-there xs p w lt = ap (λ l. columns_at l p) (map-set (λ v. v.items) xs p w) ∙ get_or-set_same (map (λ v. v.items) xs) p w.items [] (omega (arith, lt, length-map xs (λ v. v.items)))

pub set-elsewhere : (xs : List (Vec ℕ Global)) (p q : ℕ) (w : Vec ℕ Global) → q ≢ p → columns_at (map (λ v. v.items) (set xs p w)) q ≡ columns_at (map (λ v. v.items) xs) q
set-elsewhere xs p q w other = ap (λ l. columns_at l q) (map-set (λ v. v.items) xs p w) ∙ get_or-set_other (map (λ v. v.items) xs) p q w.items [] other

has-last : (ns : List ℕ) (n : ℕ) → has (ns ++ n ∷ []) n ≡ true
has-last [] n = ap (λ b. b || false) (eq-eqb n n refl)
has-last (k ∷ ns) n = ap (λ b. (k == n) || b) (has-last ns n) ∙ or-true _

has-more : (ns : List ℕ) (k n : ℕ) → has ns n ≡ true → has (ns ++ k ∷ []) n ≡ true
has-more [] k n is = cc
has-more (j ∷ ns) k n is = by (has-more ns k n) (j == n) is
  where
    by : (has ns n ≡ true → has (ns ++ k ∷ []) n ≡ true) → (b : Bool) → (b || has ns n) ≡ true → (b || has (ns ++ k ∷ []) n) ≡ true
    by more true is = refl
    by more false is = more is

-- a line that is put to those of its place
module _ (xs : List (Vec ℕ Global)) (p line : ℕ) (old : List ℕ) (w : Vec ℕ Global) (lt : p < length xs) (was : columns_at (map (λ v. v.items) xs) p ≡ old) (new : w.items ≡ old ++ line ∷ []) where
  pub line-entered : has (columns_at (map (λ v. v.items) (set xs p w)) p) line ≡ true
  line-entered = ap (λ ns. has ns line) (set-there xs p w lt ∙ new) ∙ has-last old line

  pub lines-stay : (n q : ℕ) → has (columns_at (map (λ v. v.items) xs) q) n ≡ true → has (columns_at (map (λ v. v.items) (set xs p w)) q) n ≡ true
  lines-stay n q is = by (q == p) refl
    where
      by : (b : Bool) → (q == p) ≡ b → has (columns_at (map (λ v. v.items) (set xs p w)) q) n ≡ true
      by true e =
          let here : q ≡ p = eqb-true q p e in
          ap (λ q. has (columns_at (map (λ v. v.items) (set xs p w)) q) n) here ∙ ap (λ ns. has ns n) (set-there xs p w lt ∙ new)
          ∙ has-more old line n (ap (λ ns. has ns n) (sym was) ∙ sym (ap (λ q. has (columns_at (map (λ v. v.items) xs) q) n) here) ∙ is)
      by false e = ap (λ ns. has ns n) (set-elsewhere xs p q w (λ here. let never : true ≡ false = sym (eq-eqb q p here) ∙ e in cc)) ∙ is

-- one line more stands in its place
pub entered-more : (E : Log) (n : ℕ) (old new : List (List ℕ)) → length new ≡ length E + 1 → ((l : matches.Line) → member E n ≡ Some l → has (columns_at new (place E l.expr)) n ≡ true)
    → ((k p : ℕ) → has (columns_at old p) k ≡ true → has (columns_at new p) k ≡ true) → AreEntered E n old → AreEntered E (n + 1) new
entered-more E n old new count now stays before = record { count = count; entered = λ i l lt at. by i l lt at (i == n) refl }
  where
    by : (i : ℕ) (l : matches.Line) → i < n + 1 → member E i ≡ Some l → (b : Bool) → (i == n) ≡ b → has (columns_at new (place E l.expr)) i ≡ true
    by i l lt at true e =
        let here : i ≡ n = eqb-true i n e in
        subst (λ k. has (columns_at new (place E l.expr)) k ≡ true) (sym here) (now l (ap (member E) (sym here) ∙ at))
    by i l lt at false e =
        let other : i ≢ n = λ here. let never : true ≡ false = sym (eq-eqb i n here) ∙ e in cc in
        stays i (place E l.expr) (before.entered i l (omega (arith, lt, other)) at)

-- ---- the class of a line with an expression

pub alike_found : (instances : List TableInstance) (E : Log) (x : Expr) (line : ℕ) (l : matches.Line) (b : Bool) → member E line ≡ Some l → b ≡ alike (knowledge instances E) x l.expr → b ≡ true → LineAnswers E x line (Some l.class)
alike_found instances E x line l b there is yes_ = record { number = line; line = l; stands = there; class_is = refl; alike = alike-are instances E x l.expr (sym is ∙ yes_) }

pub alike_not : (instances : List TableInstance) (E : Log) (x : Expr) (line : ℕ) (l : matches.Line) (b : Bool) → member E line ≡ Some l → b ≡ alike (knowledge instances E) x l.expr → b ≡ false → LineAnswers E x line None
alike_not instances E x line l b there is no_ = λ m at are.
    let same : m ≡ l = let e : Some m ≡ Some l = sym at ∙ there in cc in
    sym (are-alike instances E x l.expr (subst (λ (m : matches.Line). AreAlike (least E) x m.expr) same are)) ∙ sym is ∙ no_

pub unlike_taken : (E : Log) (x : Expr) (line : ℕ) (l : matches.Line) (b : Bool) → member E line ≡ Some l → (AreAlike (least E) x l.expr → IsTrue b) → b ≡ false → LineAnswers E x line None
unlike_taken E x line l b there to no_ = λ m at are.
    let same : m ≡ l = let e : Some m ≡ Some l = sym at ∙ there in cc in
    sym (to (subst (λ (m : matches.Line). AreAlike (least E) x m.expr) same are)) ∙ no_

pub unlike_none : (E : Log) (x : Expr) (line : ℕ) → member E line ≡ None → LineAnswers E x line None
unlike_none E x line there = λ m at are. absurd (let never : Some m ≡ None = sym at ∙ there in cc)

pub answers-from : (E : Log) (over : List (List ℕ)) (x : Expr) (lines : List ℕ) (found : Option ℕ) → AreEntered E (length E) over → lines ≡ columns_at over (place E x) → ListAnswers E x lines found → Answers E x found
answers-from E over x lines (Some g) entered is found = found
answers-from E over x lines None entered is none = λ n l there are.
    let listed : has lines n ≡ true = ap (λ ns. has ns n) is ∙ ap (λ q. has (columns_at over q) n) (alike-place E x l.expr are) ∙ entered.entered n l (member-within E n l there) there in
    each-of (IsUnlike E x) lines none n listed l there are
