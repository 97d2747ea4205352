-- Conjuncts are no ANDs, stand in order, and hold where their conditions do.
use Rattle.std.proofs.Common.{◌≡◌, refl, ap, sym, ◌∙◌, subst, ℕ, suc, ◌+◌, ◌<◌, Bool, true, false, ◌&&◌, List, [], ◌∷◌, ◌++◌, length, map, Ordering, Less, Equal, Greater, arith}
use Rattle.std.specs.Prelude.{slice_index_or}
use Rattle.std.proofs.lemmas.List.{length-append}
use Rattle.std.specs.List.{AllByRecursion, list_all, flat_map}
use Rattle.std.specs.Ordering.{on, nat_cmp, is_lt, ordering_reverse}
use Rattle.std.specs.Cmp.{IsTotalOrder}
use Rattle.std.specs.Cmp.Lexicographic.{slice_cmp, on_texts}
use Rattle.std.proofs.lemmas.Bool.{cond_both}
use Rattle.std.proofs.lemmas.List.Folds.{list_all-append}
use Rattle.std.proofs.Math.Bool.{and-true}
use Rattle.values.proofs.Lists.{all_append}
use Rattle.algebra.specs.declared.condition.Condition.{Condition, roll-Condition, fold-roll-Condition, ind-Condition, map-Condition, out-Condition, roll-out-Condition}
use Rattle.algebra.specs.declared.condition.Condition.TheOpen.{Condition-F}
use Rattle.algebra.specs.declared.condition.Condition.TheVariants.{Not, And, rolls-Compare, rolls-IsNull, rolls-Not, rolls-And, rolls-Or, rolls-Exists, rolls-In}
use Rattle.algebra.specs.ConditionEquality.{same_condition}
use Rattle.algebra.specs.ConjunctOrder.{condition_text, goes_before, put_in_order, in_order, Flat, flat, flat_layer, parts_of, conjuncts, IsPart, IsInOrder, AreConjuncts, TextsRise, AreRising}
use Rattle.algebra.proofs.Ordered.{in_order-all}
use Rattle.algebra.proofs.Same.{equal_condition}
use Rattle.algebra.proofs.Lists.{two}

-- ---- parts

flat-at : (x : Condition-F Condition) (c : Condition) → roll-Condition x ≡ c → flat c ≡ flat_layer (map-Condition Condition Flat flat x)
unfolding flat
flat-at x c is = ap flat (sym is) ∙ fold-roll-Condition Flat flat_layer x

pub flat-And : (a b : Condition) (cs : List Condition) → parts_of (And a b cs) ≡ flat_map parts_of (a ∷ b ∷ cs)
flat-And a b cs = ap (λ f. f.parts) (flat-at (Condition-F.And a b cs) _ (rolls-And a b cs)) ∙ parts-map (a ∷ b ∷ cs)
  where
    parts-map : (ds : List Condition) → flat_map (λ f. f.parts) (map flat ds) ≡ flat_map parts_of ds
    parts-map [] = refl
    parts-map (d ∷ ds) = ap (λ l. parts_of d ++ l) (parts-map ds)

-- a condition is the whole of what is said of it, and its parts are no ANDs
record IsFlat (c : Condition) : Type 0 where
  whole : (flat c).whole ≡ c
  parts : AllByRecursion IsPart (parts_of c)

abbrev Part : Type 0
Part = (c : Condition) × IsFlat c

wholes : (ps : List Part) → map (λ c. c.whole) (map flat (map (λ p. p.0) ps)) ≡ map (λ p. p.0) ps
wholes [] = refl
wholes (p ∷ ps) = two (λ c cs. c ∷ cs) p.1.whole (wholes ps)

all-parts : (ps : List Part) → AllByRecursion IsPart (flat_map (λ c. c.parts) (map flat (map (λ p. p.0) ps)))
all-parts [] = tt
all-parts (p ∷ ps) = all_append IsPart (parts_of p.0) _ p.1.parts (all-parts ps)

-- a condition that stands alone
by-itself : (c : Condition) → flat c ≡ record { whole = c; parts = c ∷ [] } → IsFlat c
by-itself c is = record { whole = ap (λ f. f.whole) is; parts = subst (AllByRecursion IsPart) (sym (ap (λ f. f.parts) is)) (ap (λ f. f.parts) is, tt) }

layer : (y : Condition-F Part) → IsFlat (roll-Condition (map-Condition Part Condition (λ p. p.0) y))
layer (Condition-F.Compare op a b) = subst IsFlat (sym (rolls-Compare op a b)) (by-itself _ (flat-at (Condition-F.Compare op a b) _ (rolls-Compare op a b)))
layer (Condition-F.IsNull a) = subst IsFlat (sym (rolls-IsNull a)) (by-itself _ (flat-at (Condition-F.IsNull a) _ (rolls-IsNull a)))
layer (Condition-F.Not p) = subst IsFlat (sym (rolls-Not p.0)) (by-itself _ (flat-at (Condition-F.Not p.0) _ (rolls-Not p.0) ∙ ap (λ c. record { whole = Not c; parts = Not c ∷ [] }) p.1.whole))
layer (Condition-F.And p q ps) = subst IsFlat (sym (rolls-And p.0 q.0 (map (λ p. p.0) ps))) (record {
  whole = ap (λ f. f.whole) (flat-at (Condition-F.And p.0 q.0 (map (λ p. p.0) ps)) _ (rolls-And p.0 q.0 (map (λ p. p.0) ps))) ∙ rw (p.1.whole, q.1.whole, wholes ps) refl;
  parts = subst (AllByRecursion IsPart) (sym (ap (λ f. f.parts) (flat-at (Condition-F.And p.0 q.0 (map (λ p. p.0) ps)) _ (rolls-And p.0 q.0 (map (λ p. p.0) ps))))) (all-parts (p ∷ q ∷ ps));
})
layer (Condition-F.Or p q ps) =
    subst IsFlat (sym (rolls-Or p.0 q.0 (map (λ p. p.0) ps))) (by-itself _ (flat-at (Condition-F.Or p.0 q.0 (map (λ p. p.0) ps)) _ (rolls-Or p.0 q.0 (map (λ p. p.0) ps))
    ∙ rw (p.1.whole, q.1.whole, wholes ps) refl))
layer (Condition-F.Exists g) = subst IsFlat (sym (rolls-Exists g)) (by-itself _ (flat-at (Condition-F.Exists g) _ (rolls-Exists g)))
layer (Condition-F.In a g k) = subst IsFlat (sym (rolls-In a g k)) (by-itself _ (flat-at (Condition-F.In a g k) _ (rolls-In a g k)))

is-flat : (c : Condition) → IsFlat c
is-flat = ind-Condition IsFlat (λ x y is. subst (λ z. IsFlat (roll-Condition z)) is (layer y))

all-whole : (cs : List Condition) → map (λ c. c.whole) (map flat cs) ≡ cs
all-whole [] = refl
all-whole (c ∷ cs) = two (λ d ds. d ∷ ds) (is-flat c).whole (all-whole cs)

-- a condition that is no AND is its only part
module _ (c : Condition) (not : (a b : Condition) (cs : List Condition) → c ≡ And a b cs → ⊥) where
  alone-at : (x : Condition-F Condition) → roll-Condition x ≡ c → parts_of c ≡ c ∷ []
  alone-at (Condition-F.And a b cs) is = absurd (not a b cs (sym is ∙ rolls-And a b cs))
  alone-at (Condition-F.Compare op a b) is = ap (λ f. f.parts) (flat-at (Condition-F.Compare op a b) c is) ∙ ap (λ d. d ∷ []) (sym (rolls-Compare op a b) ∙ is)
  alone-at (Condition-F.IsNull a) is = ap (λ f. f.parts) (flat-at (Condition-F.IsNull a) c is) ∙ ap (λ d. d ∷ []) (sym (rolls-IsNull a) ∙ is)
  alone-at (Condition-F.Not d) is = ap (λ f. f.parts) (flat-at (Condition-F.Not d) c is) ∙ ap (λ e. e ∷ []) (ap Not (is-flat d).whole ∙ sym (rolls-Not d) ∙ is)
  alone-at (Condition-F.Or a b cs) is =
      ap (λ f. f.parts) (flat-at (Condition-F.Or a b cs) c is)
      ∙ ap (λ d. d ∷ []) (rw ((is-flat a).whole, (is-flat b).whole, all-whole cs) refl ∙ sym (rolls-Or a b cs) ∙ is)
  alone-at (Condition-F.Exists g) is = ap (λ f. f.parts) (flat-at (Condition-F.Exists g) c is) ∙ ap (λ d. d ∷ []) (sym (rolls-Exists g) ∙ is)
  alone-at (Condition-F.In a g k) is = ap (λ f. f.parts) (flat-at (Condition-F.In a g k) c is) ∙ ap (λ d. d ∷ []) (sym (rolls-In a g k) ∙ is)

  pub one-part : parts_of c ≡ c ∷ []
  one-part = alone-at (out-Condition c) (roll-out-Condition c)

-- each condition has a part
some-layer : (y : Condition-F ((c : Condition) × (0 < length (parts_of c)))) (c : Condition) → roll-Condition (map-Condition _ Condition (λ p. p.0) y) ≡ c → 0 < length (parts_of c)
some-layer (Condition-F.And p q ps) c is =
    let parts : parts_of c ≡ parts_of p.0 ++ flat_map parts_of (q.0 ∷ map (λ p. p.0) ps) = ap parts_of (sym is ∙ rolls-And p.0 q.0 (map (λ p. p.0) ps)) ∙ flat-And p.0 q.0 (map (λ p. p.0) ps) in
    let first = p.1 in
    omega (arith, first, ap length parts, length-append (parts_of p.0) (flat_map parts_of (q.0 ∷ map (λ p. p.0) ps)))
some-layer (Condition-F.Compare op a b) c is = omega (arith, ap (λ f. length f.parts) (flat-at (Condition-F.Compare op a b) c is))
some-layer (Condition-F.IsNull a) c is = omega (arith, ap (λ f. length f.parts) (flat-at (Condition-F.IsNull a) c is))
some-layer (Condition-F.Not d) c is = omega (arith, ap (λ f. length f.parts) (flat-at (Condition-F.Not d.0) c is))
some-layer (Condition-F.Or a b cs) c is = omega (arith, ap (λ f. length f.parts) (flat-at (Condition-F.Or a.0 b.0 (map (λ p. p.0) cs)) c is))
some-layer (Condition-F.Exists g) c is = omega (arith, ap (λ f. length f.parts) (flat-at (Condition-F.Exists g) c is))
some-layer (Condition-F.In a g k) c is = omega (arith, ap (λ f. length f.parts) (flat-at (Condition-F.In a g k) c is))

some-part : (c : Condition) → 0 < length (parts_of c)
some-part = ind-Condition (λ c. 0 < length (parts_of c)) (λ x y is. subst (λ z. 0 < length (parts_of (roll-Condition z))) is (some-layer y _ refl))

-- an AND has two parts at least
pub and-is-no-part : (a b : Condition) (cs : List Condition) → IsPart (And a b cs) → ⊥
and-is-no-part a b cs one =
    let first = some-part a in
    let second = some-part b in
    let both : 1 ≡ length (parts_of a) + length (parts_of b ++ flat_map parts_of cs) = sym (ap length one) ∙ ap length (flat-And a b cs) ∙ length-append (parts_of a) (parts_of b ++ flat_map parts_of cs) in
    absurd (omega (arith, first, second, both, length-append (parts_of b) (flat_map parts_of cs)))

-- ---- order

abbrev pub order : Condition → Condition → Ordering
order = on condition_text (slice_cmp nat_cmp)

pub total : IsTotalOrder order
total = on_texts condition_text

pub turned : (c d : Condition) (o : Ordering) → order c d ≡ o → order d c ≡ ordering_reverse o
turned c d o is = total.antisymm d c ∙ ap ordering_reverse is

pub less-only : (o : Ordering) → is_lt o ≡ true → o ≡ Less
less-only Less h = refl
less-only Equal h = absurd (let e : true ≡ false = sym h in cc)
less-only Greater h = absurd (let e : true ≡ false = sym h in cc)

pub before-not-behind : (c d : Condition) → goes_before c d ≡ true → goes_before d c ≡ false
unfolding goes_before
before-not-behind c d h = ap is_lt (turned c d Less (less-only (order c d) h))

pub before-not-same : (c d : Condition) → goes_before c d ≡ true → same_condition c d ≡ false
before-not-same c d h = by (same_condition c d) refl
  where
    by : (b : Bool) → same_condition c d ≡ b → same_condition c d ≡ false
    by false is = is
    by true is =
        let back : goes_before d c ≡ false = before-not-behind c d h in
        let same : c ≡ d = equal_condition c d is in
        absurd (let e : true ≡ false = sym h ∙ ap (λ x. goes_before x d) same ∙ ap (λ x. goes_before d x) (sym same) ∙ back in cc)

-- what goes before a condition goes before what doesn't go before that
before-later : (c d e : Condition) → goes_before c d ≡ true → goes_before e d ≡ false → goes_before c e ≡ true
unfolding goes_before
before-later c d e first later = by (order d e) refl
  where
    by : (o : Ordering) → order d e ≡ o → is_lt (order c e) ≡ true
    by Less is = ap is_lt (total.trans c d e (less-only (order c d) first) is)
    by Equal is =
        let back : order d c ≡ Greater = turned c d Less (less-only (order c d) first) in
        let far : order e c ≡ Greater = sym (total.congr d e c is) ∙ back in
        ap is_lt (turned e c Greater far)
    by Greater is = absurd (let e : true ≡ false = sym (ap is_lt (turned d e Greater is)) ∙ later in cc)

-- ---- lists in order

abbrev IsLater : Condition → Condition → Type 0
IsLater c d = (goes_before d c ≡ false) × (same_condition c d ≡ false)

put-each : (P : Condition → Type 0) (c : Condition) (ds : List Condition) → P c → AllByRecursion P ds → AllByRecursion P (put_in_order c ds)
put-each P c [] first all = (first, tt)
put-each P c (d ∷ ds) first all =
    cond_both (same_condition c d) _ _ (AllByRecursion P) (λ is. all)
    (λ isnt. cond_both (goes_before c d) _ _ (AllByRecursion P) (λ before. (first, all)) (λ after. (all.0, put-each P c ds first all.1)))

later-all : (c d : Condition) (ds : List Condition) → goes_before c d ≡ true → AllByRecursion (IsLater d) ds → AllByRecursion (IsLater c) ds
later-all c d [] before all = tt
later-all c d (e ∷ ds) before all =
    let here : goes_before c e ≡ true = before-later c d e before all.0.0 in
    ((before-not-behind c e here, before-not-same c e here), later-all c d ds before all.1)

pub same-turned : (c d : Condition) → same_condition c d ≡ false → same_condition d c ≡ false
same-turned c d not = by (same_condition d c) refl
  where
    by : (b : Bool) → same_condition d c ≡ b → same_condition d c ≡ false
    by false is = is
    by true is = absurd (let same : d ≡ c = equal_condition d c is in let e : true ≡ false = sym is ∙ ap (λ x. same_condition x c) same ∙ ap (λ x. same_condition c x) (sym same) ∙ not in cc)

put-ordered : (c : Condition) (ds : List Condition) → IsInOrder ds → IsInOrder (put_in_order c ds)
put-ordered c [] ordered = (tt, tt)
put-ordered c (d ∷ ds) ordered =
    cond_both (same_condition c d) _ _ IsInOrder (λ is. ordered)
    (λ isnt. cond_both (goes_before c d) _ _ IsInOrder
    (λ before. (((before-not-behind c d before, isnt), later-all c d ds before ordered.0), ordered))
    (λ after. (put-each (IsLater d) c ds (after, same-turned c d isnt) ordered.0, put-ordered c ds ordered.1)))

pub ordered-all : (cs : List Condition) → IsInOrder (in_order cs)
ordered-all [] = tt
ordered-all (c ∷ cs) = put-ordered c (in_order cs) (ordered-all cs)

in_order-each : (P : Condition → Type 0) (cs : List Condition) → AllByRecursion P cs → AllByRecursion P (in_order cs)
in_order-each P [] all = tt
in_order-each P (c ∷ cs) all = put-each P c (in_order cs) all.0 (in_order-each P cs all.1)

parts-are : (cs : List Condition) → AllByRecursion IsPart (flat_map parts_of cs)
parts-are [] = tt
parts-are (c ∷ cs) = all_append IsPart (parts_of c) _ (is-flat c).parts (parts-are cs)

-- ---- lists that rise

before-before : (c d e : Condition) → goes_before c d ≡ true → goes_before d e ≡ true → goes_before c e ≡ true
before-before c d e first second = before-later c d e first (before-not-behind d e second)

pub rising-tail : (c : Condition) (C : List Condition) → TextsRise (c ∷ C) → TextsRise C
rising-tail c C rise k d l =
    let next : suc k + 1 ≡ suc (k + 1) = omega arith in
    subst (λ (n : ℕ). goes_before (slice_index_or C k d) (slice_index_or (c ∷ C) n d) ≡ true) next (rise (suc k) d (omega (arith, l)))

-- what goes before the first of some that rise, goes before them all
before-all : (c : Condition) (ds : List Condition) → TextsRise ds → ((d : Condition) → 0 < length ds → goes_before c (slice_index_or ds 0 d) ≡ true) → AllByRecursion (IsLater c) ds
before-all c [] rise first = tt
before-all c (d ∷ ds) rise first =
    let here : goes_before c d ≡ true = first d (omega arith) in (
      (before-not-behind c d here, before-not-same c d here),
      before-all c ds (rising-tail d ds rise) (λ e l. before-before c d (slice_index_or ds 0 e) here (rise 0 e (omega (arith, l)))),
    )

rising-ordered : (C : List Condition) → TextsRise C → IsInOrder C
rising-ordered [] rise = tt
rising-ordered (c ∷ C) rise =
    let later : TextsRise C = rising-tail c C rise in
    (before-all c C later (λ e l. rise 0 e (omega (arith, l))), rising-ordered C later)

pub rising_are_conjuncts : (C : List Condition) → AreRising C → AreConjuncts C
rising_are_conjuncts C rise = record { parts = rise.0; ordered = rising-ordered C rise.1 }

pub no_conjuncts : AreConjuncts []
no_conjuncts = record { parts = tt; ordered = tt }

pub are_conjuncts : (cs : List Condition) → AreConjuncts (conjuncts cs)
are_conjuncts cs = record { parts = in_order-each IsPart (flat_map parts_of cs) (parts-are cs); ordered = ordered-all (flat_map parts_of cs) }

-- ---- tests

-- where a test passes an AND as it passes all its parts, it passes conjuncts as it passes their conditions
module _ (p : Condition → Bool) (and : (a b : Condition) (cs : List Condition) → p (And a b cs) ≡ list_all p (a ∷ b ∷ cs)) where
  abbrev Tested : Type 0
  Tested = (c : Condition) × (list_all p (parts_of c) ≡ p c)

  parts-tested : (ps : List Tested) → list_all p (flat_map (λ c. c.parts) (map flat (map (λ c. c.0) ps))) ≡ list_all p (map (λ c. c.0) ps)
  parts-tested [] = refl
  parts-tested (c ∷ ps) = list_all-append p (parts_of c.0) _ ∙ two (λ a b. a && b) c.1 (parts-tested ps)

  single : (c : Condition) → parts_of c ≡ c ∷ [] → list_all p (parts_of c) ≡ p c
  single c is = ap (list_all p) is ∙ and-true (p c)

  tested-layer : (y : Condition-F Tested) (c : Condition) → roll-Condition (map-Condition Tested Condition (λ c. c.0) y) ≡ c → list_all p (parts_of c) ≡ p c
  tested-layer (Condition-F.And a b cs) c is =
      ap (λ f. list_all p f.parts) (flat-at (Condition-F.And a.0 b.0 (map (λ c. c.0) cs)) c is) ∙ parts-tested (a ∷ b ∷ cs)
      ∙ sym (and a.0 b.0 (map (λ c. c.0) cs)) ∙ ap p (sym (rolls-And a.0 b.0 (map (λ c. c.0) cs)) ∙ is)
  tested-layer (Condition-F.Compare op a b) c is = single c (ap (λ f. f.parts) (flat-at (Condition-F.Compare op a b) c is) ∙ ap (λ d. d ∷ []) (sym (rolls-Compare op a b) ∙ is))
  tested-layer (Condition-F.IsNull a) c is = single c (ap (λ f. f.parts) (flat-at (Condition-F.IsNull a) c is) ∙ ap (λ d. d ∷ []) (sym (rolls-IsNull a) ∙ is))
  tested-layer (Condition-F.Not d) c is = single c (ap (λ f. f.parts) (flat-at (Condition-F.Not d.0) c is) ∙ ap (λ e. e ∷ []) (ap Not (is-flat d.0).whole ∙ sym (rolls-Not d.0) ∙ is))
  tested-layer (Condition-F.Or a b cs) c is =
      single c (ap (λ f. f.parts) (flat-at (Condition-F.Or a.0 b.0 (map (λ c. c.0) cs)) c is)
      ∙ ap (λ d. d ∷ []) (rw ((is-flat a.0).whole, (is-flat b.0).whole, all-whole (map (λ c. c.0) cs)) refl ∙ sym (rolls-Or a.0 b.0 (map (λ c. c.0) cs)) ∙ is))
  tested-layer (Condition-F.Exists g) c is = single c (ap (λ f. f.parts) (flat-at (Condition-F.Exists g) c is) ∙ ap (λ d. d ∷ []) (sym (rolls-Exists g) ∙ is))
  tested-layer (Condition-F.In a g k) c is = single c (ap (λ f. f.parts) (flat-at (Condition-F.In a g k) c is) ∙ ap (λ d. d ∷ []) (sym (rolls-In a g k) ∙ is))

  parts-pass : (c : Condition) → list_all p (parts_of c) ≡ p c
  parts-pass = ind-Condition (λ c. list_all p (parts_of c) ≡ p c) (λ x y is. subst (λ z. list_all p (parts_of (roll-Condition z)) ≡ p (roll-Condition z)) is (tested-layer y _ refl))

  flattened-all : (cs : List Condition) → list_all p (flat_map parts_of cs) ≡ list_all p cs
  flattened-all [] = refl
  flattened-all (c ∷ cs) = list_all-append p (parts_of c) (flat_map parts_of cs) ∙ two (λ a b. a && b) (parts-pass c) (flattened-all cs)

  pub conjuncts-all : (cs : List Condition) → list_all p (conjuncts cs) ≡ list_all p cs
  conjuncts-all cs = in_order-all p (flat_map parts_of cs) ∙ flattened-all cs

  pub conjuncts-one : (c : Condition) → list_all p (conjuncts (c ∷ [])) ≡ p c
  conjuncts-one c = conjuncts-all (c ∷ []) ∙ and-true (p c)
