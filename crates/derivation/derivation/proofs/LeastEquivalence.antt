-- The classes that are the same are those of the least equivalence.
use Rattle.std.proofs.Common.{◌≡◌, refl, ap, sym, ◌∙◌, subst, inl, inr, ℕ, ◌<◌, List, [], ◌∷◌, length, Some, Ok, arith}
use Rattle.std.proofs.lemmas.Bool.{eq-eqb, eqb-true}
use Rattle.query.specs.declared.query.TableInstance.{TableInstance}
use Rattle.algebra.specs.declared.expr.Aggregation.{Aggregation}
use Rattle.derivation.specs.declared.line.Line.{Line}
use Rattle.derivation.specs.declared.line.Line.TheVariants.{Founds, Adds, Unites, Alike, Gives}
use Rattle.derivation.specs.declared.line.Step.{Step}
use Rattle.derivation.specs.Laws.{SamenessIsLeast}
use Rattle.derivation.specs.Logs.{Log, line_at, as_member, or_class, class_at, united, least, SameBy, itself, turned, along, by_rule, by_alike}
use Rattle.derivation.specs.Replay.{Replays, stands}
use Rattle.derivation.proofs.Lookups.{here, earlier, this-or, within, member-within, member-stays}
use Rattle.derivation.proofs.Sameness.{united-first, united-relate}
use Rattle.derivation.proofs.Standing.{alike-stands}

-- ---- classes that are the same are equivalent

more : (l : Line) (E : Log) (g h : ℕ) → SameBy E g h → SameBy (l ∷ E) g h
more l E g h (itself k) = itself g
more l E g h (turned x y is) = turned h g (more l E h g is)
more l E g h (along x y z is next) = along g y h (more l E g y is) (more l E y h next)
more l E g h (by_rule n x y s at) = by_rule n g h s (earlier l E n (within E n (Unites g h s) at) ∙ at)
more l E g h (by_alike n i j a b at first second) =
    by_alike n i j a b (earlier l E n (within E n (Alike i j) at) ∙ at) (member-stays l E i a first) (member-stays l E j b second)

module _ (instances : List TableInstance) (own : List Aggregation) where
  equivalent : (E : Log) → Replays instances own E → (g h : ℕ) → least E g ≡ least E h → SameBy E g h
  equivalent [] replays g h is = subst (SameBy [] g) is (itself g)
  equivalent (Founds x ∷ E) replays g h is = more (Founds x) E g h (equivalent E replays.1 g h is)
  equivalent (Adds c s x ∷ E) replays g h is = more (Adds c s x) E g h (equivalent E replays.1 g h is)
  equivalent (Unites a b s ∷ E) replays g h is =
      let l : Line = Unites a b s in
      united-relate (SameBy (l ∷ E)) (λ x y is. turned x y is) (λ x y z is next. along x y z is next) E (λ x y is. more l E x y (equivalent E replays.1 x y is)) a b
      (by_rule (length E) a b s (here l E)) g h is
  equivalent (Alike i j ∷ E) replays g h is =
      let l : Line = Alike i j in
      let stands = alike-stands instances own E i j l replays.0 in
      let first : class_at E i ≡ stands.first.class = ap (or_class i) stands.first_at in
      let second : class_at E j ≡ stands.second.class = ap (or_class j) stands.second_at in
      let new : SameBy (l ∷ E) stands.first.class stands.second.class = by_alike (length E) i j stands.first stands.second (here l E) (member-stays l E i stands.first stands.first_at) (member-stays l E j stands.second stands.second_at) in
      united-relate (SameBy (l ∷ E)) (λ x y is. turned x y is) (λ x y z is next. along x y z is next) E (λ x y is. more l E x y (equivalent E replays.1 x y is)) (class_at E i) (class_at E j)
      (subst (λ c. SameBy (l ∷ E) c (class_at E j)) (sym first) (subst (SameBy (l ∷ E) stands.first.class) (sym second) new)) g h is
  equivalent (Gives c m f ∷ E) replays g h is = more (Gives c m f) E g h (equivalent E replays.1 g h is)

  -- ---- equivalent classes are the same

  stays : (l : Line) (E : Log) (g h : ℕ) → least E g ≡ least E h → least (l ∷ E) g ≡ least (l ∷ E) h
  stays (Founds x) E g h is = is
  stays (Adds c s x) E g h is = is
  stays (Unites a b s) E g h is = ap (united (least E a) (least E b)) is
  stays (Alike i j) E g h is = ap (united (least E (class_at E i)) (least E (class_at E j))) is
  stays (Gives c m f) E g h is = is

  by-rule : (E : Log) (n g h : ℕ) (s : Step) → line_at E n ≡ Some (Unites g h s) → least E g ≡ least E h
  by-rule [] n g h s at = cc
  by-rule (k ∷ E) n g h s at = elim (this-or k E n (Unites g h s) at) [
    | inl last ↦ subst (λ l. least (l ∷ E) g ≡ least (l ∷ E) h) (sym last.1) (united-first (least E g) (least E h))
    | inr later ↦ stays k E g h (by-rule E n g h s later)
  ]

  -- lines that are alike are earlier ones
  low : (E : Log) → Replays instances own E → (n i j : ℕ) → line_at E n ≡ Some (Alike i j) → (i < length E) × (j < length E)
  low [] replays n i j at = cc
  low (k ∷ E) replays n i j at = elim (this-or k E n (Alike i j) at) [
    | inl last ↦
        let stands = alike-stands instances own E i j (Alike i j) (subst (λ l. stands instances own E l ≡ Ok l) last.1 replays.0) in
        let first : i < length E = member-within E i stands.first stands.first_at in
        let second : j < length E = member-within E j stands.second stands.second_at in
        (omega (arith, first), omega (arith, second))
    | inr later ↦
        let both = low E replays.1 n i j later in
        let first : i < length E = both.0 in
        let second : j < length E = both.1 in
        (omega (arith, first), omega (arith, second))
  ]

  class-stays : (k : Line) (E : Log) (i : ℕ) → i < length E → class_at (k ∷ E) i ≡ class_at E i
  class-stays k E i lt = ap (λ o. or_class i (as_member i o)) (earlier k E i lt)

  by-alike : (E : Log) → Replays instances own E → (n i j : ℕ) → line_at E n ≡ Some (Alike i j) → least E (class_at E i) ≡ least E (class_at E j)
  by-alike [] replays n i j at = cc
  by-alike (k ∷ E) replays n i j at = elim (this-or k E n (Alike i j) at) [
    | inl last ↦
        let stands = alike-stands instances own E i j (Alike i j) (subst (λ l. stands instances own E l ≡ Ok l) last.1 replays.0) in
        let first = class-stays k E i (member-within E i stands.first stands.first_at) in
        let second = class-stays k E j (member-within E j stands.second stands.second_at) in
        ap (least (k ∷ E)) first ∙ subst (λ l. least (l ∷ E) (class_at E i) ≡ least (l ∷ E) (class_at E j)) (sym last.1) (united-first (least E (class_at E i)) (least E (class_at E j)))
        ∙ sym (ap (least (k ∷ E)) second)
    | inr later ↦
        let both = low E replays.1 n i j later in
        ap (least (k ∷ E)) (class-stays k E i both.0) ∙ stays k E (class_at E i) (class_at E j) (by-alike E replays.1 n i j later) ∙ sym (ap (least (k ∷ E)) (class-stays k E j both.1))
  ]

  same : (E : Log) → Replays instances own E → (g h : ℕ) → SameBy E g h → least E g ≡ least E h
  same E replays g h (itself k) = refl
  same E replays g h (turned x y is) = sym (same E replays h g is)
  same E replays g h (along x y z is next) = same E replays g y is ∙ same E replays y h next
  same E replays g h (by_rule n x y s at) = by-rule E n g h s at
  same E replays g h (by_alike n i j a b at first second) =
      sym (ap (least E) (ap (or_class i) first)) ∙ by-alike E replays n i j at ∙ ap (least E) (ap (or_class j) second)

pub sameness_least : SamenessIsLeast
sameness_least instances own E replays g h = (
  (λ is. equivalent instances own E replays g h (eqb-true (least E g) (least E h) is)),
  (λ is. eq-eqb (least E g) (least E h) (same instances own E replays g h is)),
)
