-- What a shape is by lines, where its inputs are: each exit of the functions that spell it.
use Rattle.std.proofs.Common.{◌≡◌, sym, subst, ◌++◌, ◌∷◌, [], ℕ, Result, Ok, Err}
use Rattle.std.specs.Result.{IsErrAnd}
use Rattle.rules.specs.declared.shape.Shape.{Shape}
use Rattle.rules.specs.declared.shape.Shape.TheVariants as shape
use Rattle.derivation.specs.declared.line.Line.TheVariants.{Founds}
use Rattle.derivation.specs.Replay.{Replays, stands}
use Rattle.logs.specs.Logged.{Logged}
use Rattle.bindings.specs.declared.operators.OverOne.{OverOne}
use Rattle.bindings.specs.declared.operators.OverOne.TheVariants as one_
use Rattle.bindings.specs.declared.operators.OverTwo.{OverTwo}
use Rattle.bindings.specs.declared.operators.OverTwo.TheVariants as two_
use Rattle.bindings.specs.Operators.{over_one, over_two, one_shape, two_shape}
use Rattle.bindings.proofs.SpeltShapes.{select_input, keep_input, distinct_input, group_input, join_inputs, left_join_inputs, semi_inputs, anti_inputs}
use Rattle.lean_logs.specs.declared.founded.Placed.{Placed}
use Rattle.lean_logs.specs.declared.founded.Spelt.{Spelt}
use Rattle.lean_logs.specs.declared.lean_log.Member.{Member}
use Rattle.lean_logs.specs.declared.unadded.Unadded.{Unadded}
use Rattle.lean_logs.specs.declared.unadded.Unadded.TheVariants.{Memory, Refused}
use Rattle.lean_logs.specs.Founding.{InternedAs, IsPlacedBehind, IsSpeltBehind, MayStandBehind, PlacedAs, SpeltAs}
use Rattle.lean_logs.proofs.Founding.{class_behind, expr_behind, expr_filled, founded_itself, founded_of, may_behind, one_behind, one_filled, two_behind, left_filled, right_filled}

-- ---- inputs may stand where the operator may

pub one_input : (a : Logged) (op : OverOne) (x : Shape) → MayStandBehind a (one_shape op x) → MayStandBehind a x
one_input a (one_.Select C) x may = λ l is. select_input l.instances l.own l.log C.now x (may l is)
one_input a (one_.Keep K) x may = λ l is. keep_input l.instances l.own l.log K.now x (may l is)
one_input a one_.Distinct x may = λ l is. distinct_input l.instances l.own l.log x (may l is)
one_input a (one_.Group L G) x may = λ l is. group_input l.instances l.own l.log L.now G.now x (may l is)

pub first_input : (a : Logged) (op : OverTwo) (x y : Shape) → MayStandBehind a (two_shape op x y) → MayStandBehind a x
first_input a (two_.Join C) x y may = λ l is. (join_inputs l.instances l.own l.log C.now x y (may l is)).0
first_input a (two_.LeftJoin C) x y may = λ l is. (left_join_inputs l.instances l.own l.log C.now x y (may l is)).0
first_input a (two_.Semi C) x y may = λ l is. (semi_inputs l.instances l.own l.log C.now x y (may l is)).0
first_input a (two_.Anti S M) x y may = λ l is. (anti_inputs l.instances l.own l.log S.now M.now x y (may l is)).0

pub second_input : (a : Logged) (op : OverTwo) (x y : Shape) → MayStandBehind a (two_shape op x y) → MayStandBehind a y
second_input a (two_.Join C) x y may = λ l is. (join_inputs l.instances l.own l.log C.now x y (may l is)).1
second_input a (two_.LeftJoin C) x y may = λ l is. (left_join_inputs l.instances l.own l.log C.now x y (may l is)).1
second_input a (two_.Semi C) x y may = λ l is. (semi_inputs l.instances l.own l.log C.now x y (may l is)).1
second_input a (two_.Anti S M) x y may = λ l is. (anti_inputs l.instances l.own l.log S.now M.now x y (may l is)).1

module _ (limit : ℕ) where
  abbrev pub Places : Logged → Shape → Logged → Result Placed Unadded → Type 0
  Places a x b r = MayStandBehind a x → PlacedAs limit a x b r

  abbrev pub Spells : Logged → Shape → Logged → Result Spelt Unadded → Type 0
  Spells a s b r = MayStandBehind a s → SpeltAs limit a s b r

  -- ---- over one input

  pub one_refused : (a b : Logged) (op : OverOne) (x : Shape) (u : Unadded) → Places a x b (Err u) → Spells a (one_shape op x) b (Err u)
  one_refused a b op x Memory placed may = tt
  one_refused a b op x Refused placed may = one_filled limit a b op x (placed (one_input a op x may))

  pub one_ends : (a b : Logged) (op : OverOne) (x : Shape) (p : Placed) (e : Spelt) → Places a x b (Ok p) → e.expr ≡ over_one op p.class → e.makes ≡ p.makes → Spells a (one_shape op x) b (Ok e)
  one_ends a b op x p e placed expr makes may = one_behind limit a b op x p e may (placed (one_input a op x may)) expr makes

  -- ---- over two

  pub first_refused : (a b : Logged) (op : OverTwo) (x y : Shape) (u : Unadded) → Places a x b (Err u) → Spells a (two_shape op x y) b (Err u)
  first_refused a b op x y Memory placed may = tt
  first_refused a b op x y Refused placed may = left_filled limit a b op x y (placed (first_input a op x y may))

  second-may : (a b : Logged) (op : OverTwo) (x y : Shape) (p : Placed) → IsPlacedBehind a x p b → MayStandBehind a (two_shape op x y) → MayStandBehind b y
  second-may a b op x y p left may = may_behind a b y (second_input a op x y may) (founded_of a b left.founds)

  pub second_refused : (a b c : Logged) (op : OverTwo) (x y : Shape) (p : Placed) (u : Unadded) → Places a x b (Ok p) → Places b y c (Err u) → Spells a (two_shape op x y) c (Err u)
  second_refused a b c op x y p Memory left placed may = tt
  second_refused a b c op x y p Refused left placed may = let first = left (first_input a op x y may) in right_filled limit a b c op x y p first (placed (second-may a b op x y p first may))

  pub two_end : (a b c : Logged) (op : OverTwo) (x y : Shape) (p q : Placed) (e : Spelt) → Places a x b (Ok p) → Places b y c (Ok q) → e.expr ≡ over_two op p.class q.class → e.makes.items ≡ p.makes.items ++ q.makes.items
      → Spells a (two_shape op x y) c (Ok e)
  two_end a b c op x y p q e left right expr makes may = let first = left (first_input a op x y may) in two_behind limit a b c op x y p q e may first (right (second-may a b op x y p first may)) expr makes

  -- ---- the same shape under another name

  pub spells_as : (a b : Logged) (s t : Shape) (r : Result Spelt Unadded) → s ≡ t → Spells a t b r → Spells a s b r
  spells_as a b s t r same spells = subst (λ x. Spells a x b r) (sym same) spells

  -- ---- a class, and the class of an expression

  abbrev pub Interns : Logged → Spelt → Logged → Result Member Unadded → Type 0
  Interns b e c r = stands b.instances b.own b.log (Founds e.expr) ≡ Ok (Founds e.expr) → InternedAs limit b e.expr c r

  -- the expression may be founded
  may-found : (a b : Logged) (s : Shape) (e : Spelt) → IsSpeltBehind a s e b → Replays b.instances b.own b.log → stands b.instances b.own b.log (Founds e.expr) ≡ Ok (Founds e.expr)
  may-found a b s e spelt replays = (spelt.spelt b (founded_itself b replays)).founded

  abbrev pub IsOperator : Shape → Type 0
  IsOperator s = (g : ℕ) → s ≡ shape.Class g → ⊥

  pub expr_refused : (a b c : Logged) (s : Shape) (e : Spelt) (u : Unadded) → IsOperator s → (IsOperator s → Spells a s b (Ok e)) → Replays b.instances b.own b.log → Interns b e c (Err u) → Places a s c (Err u)
  expr_refused a b c s e Memory operator spells replays interns may = tt
  expr_refused a b c s e Refused operator spells replays interns may =
      let spelt = spells operator may in
      let full = interns (may-found a b s e spelt replays) in
      expr_filled limit a b c s e spelt full.0 full.1

  pub expr_ends : (a b c : Logged) (s : Shape) (e : Spelt) (m : Member) (p : Placed) → IsOperator s → (IsOperator s → Spells a s b (Ok e)) → Replays b.instances b.own b.log → Replays c.instances c.own c.log → Interns b e c (Ok m)
      → p.class ≡ m.class → p.makes.items ≡ m.line ∷ e.makes.items → Places a s c (Ok p)
  expr_ends a b c s e m p operator spells replays after interns class makes may =
      let spelt = spells operator may in
      expr_behind limit a b c s e m p spelt (interns (may-found a b s e spelt replays)) replays after class makes

  pub class_ends : (a : Logged) (s : Shape) (g : ℕ) (p : Placed) → s ≡ shape.Class g → Replays a.instances a.own a.log → p.class ≡ g → p.makes.items ≡ [] → Places a s a (Ok p)
  class_ends a s g p is replays class none may =
      subst (λ t. IsPlacedBehind a t p a) (sym is) (class_behind limit a g p (subst (MayStandBehind a) is may) replays class none)

  -- ---- faults that are handed on

  pub spells_on : (a b : Logged) (s : Shape) (r : Result Spelt Unadded) (u : Unadded) → IsErrAnd r (λ e. e ≡ u) → Spells a s b (Err u) → Spells a s b r
  spells_on a b s (Ok x) u is spells = absurd is
  spells_on a b s (Err e) u is spells = subst (λ v. Spells a s b (Err v)) (sym is) spells

  pub places_on : (a b : Logged) (s : Shape) (r : Result Placed Unadded) (u : Unadded) → IsErrAnd r (λ e. e ≡ u) → Places a s b (Err u) → Places a s b r
  places_on a b s (Ok x) u is places = absurd is
  places_on a b s (Err e) u is places = subst (λ v. Places a s b (Err v)) (sym is) places

  pub places_none : (a b : Logged) (s : Shape) → Places a s b (Err Memory)
  places_none a b s may = tt
