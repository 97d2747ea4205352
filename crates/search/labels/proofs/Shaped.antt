-- What is so of each line of a log that replays, whatever the tables hold: its class is founded, it names founded classes, is well formed and has the
-- columns of its class; and classes that are the same have the same columns.
use Rattle.std.proofs.Common.{◌≡◌, refl, ap, sym, ◌∙◌, subst, inl, inr, ◌⊎◌, ℕ, Bool, true, false, ◌==◌, ◌||◌, nat_lt, if◌then◌else◌, List, [], ◌∷◌, length, Some, None, arith}
use Rattle.std.proofs.lemmas.Bool.{eq-eqb, eqb-true}
use Rattle.std.proofs.lemmas.List.{length-map}
use Rattle.query.specs.declared.query.TableInstance.{TableInstance}
use Rattle.query.specs.Rows.{Tables}
use Rattle.algebra.specs.declared.expr.Aggregation.{Aggregation}
use Rattle.algebra.specs.declared.expr.Expr.{Expr}
use Rattle.algebra.specs.Alike.{IsSameIn}
use Rattle.algebra.specs.Expressions.{Classes, classes_pass, columns_of, is_formed}
use Rattle.algebra.proofs.Alike.{alike_is_same}
use Rattle.rules.specs.Matches as matches
use Rattle.derivation.specs.declared.line.Line.{Line}
use Rattle.derivation.specs.declared.line.Line.TheVariants.{Founds, Adds, Unites, Alike, Gives}
use Rattle.derivation.specs.declared.line.Step.{Step}
use Rattle.derivation.specs.Logs.{Log, as_member, class_at, entries, entry, founds, is_founding, least, lesser, line_at, member, or_class, united}
use Rattle.derivation.specs.Replay.{Replays}
use Rattle.derivation.proofs.Agreement.{columns-agree, formed-agree}
use Rattle.derivation.proofs.Lookups.{below, classes-wider, columns-stay, earlier, founded, here, this-or}
use Rattle.derivation.proofs.Sameness.{AreBelow, least-high, same-below, united-relate}
use Rattle.derivation.proofs.Standing.{StandsAdds, StandsAlike, StandsFounds, adds-stands, alike-stands, founds-stands, unites-stands}
use Rattle.labels.specs.Plans.{columns_in}

-- ---- the least of some classes that are united

chosen : (P : ℕ → Type 0) (t : Bool) (x y : ℕ) → P x → P y → P (if t then x else y)
chosen P true x y first second = first
chosen P false x y first second = second

-- it is one of three
united-among : (P : ℕ → Type 0) (a b r : ℕ) → P a → P b → P r → P (united a b r)
united-among P a b r of_a of_b of_r = chosen P (r == a || r == b) (lesser a b) r (chosen P (nat_lt b a) b a of_b of_a) of_r

united-first : (a b : ℕ) → united a b a ≡ lesser a b
united-first a b = rw (eq-eqb a a refl) refl

united-second : (a b : ℕ) → united a b b ≡ lesser a b
united-second a b = by (b == a) (b == b) (eq-eqb b b refl)
  where
    by : (t u : Bool) → u ≡ true → (if t || u then lesser a b else b) ≡ lesser a b
    by true u is = refl
    by false true is = refl
    by false false is = cc

united-lesser : (a b : ℕ) → united a b (lesser a b) ≡ lesser a b
united-lesser a b = by (nat_lt b a) refl
  where
    by : (t : Bool) → nat_lt b a ≡ t → united a b (if t then b else a) ≡ (if t then b else a)
    by true is = united-second a b ∙ ap (λ t. if t then b else a) is
    by false is = united-first a b ∙ ap (λ t. if t then b else a) is

united-again : (a b r : ℕ) → united a b (united a b r) ≡ united a b r
united-again a b r = by (r == a || r == b) refl
  where
    by : (t : Bool) → (r == a || r == b) ≡ t → united a b (if t then lesser a b else r) ≡ (if t then lesser a b else r)
    by true is = united-lesser a b
    by false is = ap (λ t. if t then lesser a b else r) is

-- the least of a class's sames stands for itself
pub least-again : (E : Log) (k : ℕ) → least E (least E k) ≡ least E k
least-again [] k = refl
least-again (Founds x ∷ E) k = least-again E k
least-again (Adds g s x ∷ E) k = least-again E k
least-again (Unites g h s ∷ E) k =
    let stays = united-among (λ c. least E c ≡ c) (least E g) (least E h) (least E k) (least-again E g) (least-again E h) (least-again E k) in
    ap (united (least E g) (least E h)) stays ∙ united-again (least E g) (least E h) (least E k)
least-again (Alike i j ∷ E) k =
    let stays = united-among (λ c. least E c ≡ c) (least E (class_at E i)) (least E (class_at E j)) (least E k) (least-again E (class_at E i)) (least-again E (class_at E j)) (least-again E k) in
    ap (united (least E (class_at E i)) (least E (class_at E j))) stays ∙ united-again (least E (class_at E i)) (least E (class_at E j)) (least E k)
least-again (Gives g m f ∷ E) k = least-again E k

-- ---- lines

founds-stay : (l : Line) (E : Log) (g : ℕ) → founds E g ≡ true → founds (l ∷ E) g ≡ true
founds-stay l E g is = ap is_founding (earlier l E g (founded E g is)) ∙ is

-- a class of a log with one line more is that of the line or an earlier one
founds-or : (l : Line) (E : Log) (g : ℕ) → founds (l ∷ E) g ≡ true → ((g ≡ length E) × (is_founding (Some l) ≡ true)) ⊎ (founds E g ≡ true)
founds-or l E g is = by (g == length E) refl is
  where
    by : (b : Bool) → (g == length E) ≡ b → is_founding (if b then Some l else line_at E g) ≡ true → ((g ≡ length E) × (is_founding (Some l) ≡ true)) ⊎ (founds E g ≡ true)
    by true at is = inl (eqb-true g (length E) at, is)
    by false at is = inr is

member-or : (k : Line) (E : Log) (i : ℕ) (l : matches.Line) → member (k ∷ E) i ≡ Some l → (as_member (length E) (Some k) ≡ Some l) ⊎ (member E i ≡ Some l)
member-or k E i l at = by (i == length E) refl at
  where
    by : (b : Bool) → (i == length E) ≡ b → as_member i (if b then Some k else line_at E i) ≡ Some l → (as_member (length E) (Some k) ≡ Some l) ⊎ (member E i ≡ Some l)
    by true is at = inl (ap (λ n. as_member n (Some k)) (sym (eqb-true i (length E) is)) ∙ at)
    by false is at = inr at

module _ (instances : List TableInstance) (own : List Aggregation) where
  abbrev cols : Log → ℕ → List ℕ
  cols = columns_in instances

  -- classes without rows: of expressions over them the columns alone are looked at
  abbrev V : Log → Classes
  V E = record { rows = λ g e. []; columns = cols E; free = λ g c. false }

  abbrev nothing : Tables
  nothing = record { rows = λ t. []; width = λ t. 0 }

  pub record IsShaped (E : Log) (l : matches.Line) : Type 0 where
    pub class : founds E l.class ≡ true
    pub known : classes_pass (founds E) l.expr ≡ true
    pub formed : is_formed instances own (cols E) l.expr ≡ true
    pub columns : columns_of instances (cols E) l.expr ≡ cols E l.class

  -- a line that founds a class names earlier ones alone
  abbrev pub NamesLower : ℕ → Line → Type 0
  NamesLower g l = (x : Expr) → l ≡ Founds x → classes_pass (λ h. nat_lt h g) x ≡ true

  pub record AreShaped (E : Log) : Type 0 where
    pub low : AreBelow E
    pub lines : (i : ℕ) (l : matches.Line) → member E i ≡ Some l → IsShaped E l
    pub same : (x y : ℕ) → least E x ≡ least E y → cols E x ≡ cols E y
    pub roots : (k : ℕ) → founds E k ≡ true → founds E (least E k) ≡ true
    pub lower : (g : ℕ) (l : Line) → line_at E g ≡ Some l → NamesLower g l

  -- ---- one line more

  module _ (l : Line) (E : Log) where
    agree : (g : ℕ) → founds E g ≡ true → IsSameIn (V E) (V (l ∷ E)) g g
    agree g is = (sym (columns-stay instances l E g (founded E g is)), λ e f. refl)

    known-stay : (x : Expr) → classes_pass (founds E) x ≡ true → classes_pass (founds (l ∷ E)) x ≡ true
    known-stay x known = classes-wider (founds E) (founds (l ∷ E)) (founds-stay l E) x known

    formed-stay : (x : Expr) → classes_pass (founds E) x ≡ true → is_formed instances own (cols E) x ≡ true → is_formed instances own (cols (l ∷ E)) x ≡ true
    formed-stay x known formed = sym (formed-agree instances own nothing (V E) (V (l ∷ E)) (founds E) agree x known) ∙ formed

    columns-as : (x : Expr) → classes_pass (founds E) x ≡ true → columns_of instances (cols (l ∷ E)) x ≡ columns_of instances (cols E) x
    columns-as x known = sym (columns-agree instances own nothing (V E) (V (l ∷ E)) (founds E) agree x known)

    line-stays : (k : matches.Line) → IsShaped E k → IsShaped (l ∷ E) k
    line-stays k is = record {
      class = founds-stay l E k.class is.class;
      known = known-stay k.expr is.known;
      formed = formed-stay k.expr is.known is.formed;
      columns = columns-as k.expr is.known ∙ is.columns ∙ sym (columns-stay instances l E k.class (founded E k.class is.class));
    }

    same-stay : AreShaped E → (x y : ℕ) → least E x ≡ least E y → cols (l ∷ E) x ≡ cols (l ∷ E) y
    same-stay shaped x y is = elim (same-below E shaped.low x y is) [
      | inl one ↦ ap (cols (l ∷ E)) one
      | inr both ↦ columns-stay instances l E x both.0 ∙ shaped.same x y is ∙ sym (columns-stay instances l E y both.1)
    ]

    -- the lines, where the new one has no expression, and where it is of this one
    no-member : as_member (length E) (Some l) ≡ None → AreShaped E → (i : ℕ) (k : matches.Line) → member (l ∷ E) i ≡ Some k → IsShaped (l ∷ E) k
    no-member none shaped i k at = elim (member-or l E i k at) [
      | inl new ↦ absurd (let e : None ≡ Some k = sym none ∙ new in cc)
      | inr old ↦ line-stays k (shaped.lines i k old)
    ]

    one-member : (new : matches.Line) → as_member (length E) (Some l) ≡ Some new → IsShaped (l ∷ E) new → AreShaped E → (i : ℕ) (k : matches.Line) → member (l ∷ E) i ≡ Some k → IsShaped (l ∷ E) k
    one-member new is of shaped i k at = elim (member-or l E i k at) [
      | inl it ↦ subst (IsShaped (l ∷ E)) (let e : Some new ≡ Some k = sym is ∙ it in let same : new ≡ k = cc in same) of
      | inr old ↦ line-stays k (shaped.lines i k old)
    ]

    -- the classes that stand for their sames, where the new line founds none and these stay or are of three
    old-roots : is_founding (Some l) ≡ false → ((k : ℕ) → founds E k ≡ true → founds E (least (l ∷ E) k) ≡ true) → (k : ℕ) → founds (l ∷ E) k ≡ true → founds (l ∷ E) (least (l ∷ E) k) ≡ true
    old-roots none roots k is = elim (founds-or l E k is) [
      | inl new ↦ absurd (let e : false ≡ true = sym none ∙ new.1 in cc)
      | inr old ↦ founds-stay l E (least (l ∷ E) k) (roots k old)
    ]

    lower-stays : NamesLower (length E) l → AreShaped E → (g : ℕ) (k : Line) → line_at (l ∷ E) g ≡ Some k → NamesLower g k
    lower-stays own_lower shaped g k at = elim (this-or l E g k at) [
      | inl is ↦ subst (NamesLower g) is.1 (subst (λ n. NamesLower n l) (sym is.0) own_lower)
      | inr old ↦ shaped.lower g k old
    ]

    none-lower : is_founding (Some l) ≡ false → NamesLower (length E) l
    none-lower none x is = absurd (let e : true ≡ false = ap (λ k. is_founding (Some k)) (sym is) ∙ none in cc)

  founds-shaped : (x : Expr) (E : Log) → AreShaped E → StandsFounds instances own E x → AreShaped (Founds x ∷ E)
  founds-shaped x E shaped is =
      let l : Line = Founds x in
      let top : (length E == length (entries E)) ≡ true = eq-eqb (length E) (length (entries E)) (sym (length-map E entry)) in
      let own_class : founds (l ∷ E) (length E) ≡ true = ap is_founding (here l E) in
      record {
        low = shaped.low;
        lines = one-member l E (record { class = length E; expr = x }) refl (record {
          class = own_class;
          known = known-stay l E x is.known;
          formed = formed-stay l E x is.known is.formed;
          columns = columns-as l E x is.known ∙ sym (rw top refl);
        }) shaped;
        same = same-stay l E shaped;
        roots = λ k founds_k. elim (founds-or l E k founds_k) [
          | inl new ↦ subst (λ c. founds (l ∷ E) c ≡ true) (sym (least-high E shaped.low k (omega (arith, new.0))) ∙ refl) (subst (λ c. founds (l ∷ E) c ≡ true) (sym new.0) own_class)
          | inr old ↦ founds-stay l E (least E k) (shaped.roots k old)
        ];
        lower = lower-stays l E (λ y same. subst (λ z. classes_pass (λ h. nat_lt h (length E)) z ≡ true) (let e : x ≡ y = cc in e) (below E x is.known)) shaped;
      }

  adds-shaped : (g : ℕ) (s : Step) (x : Expr) (E : Log) → AreShaped E → StandsAdds instances own E g s x → AreShaped (Adds g s x ∷ E)
  adds-shaped g s x E shaped is =
      let l : Line = Adds g s x in
      record {
        low = shaped.low;
        lines = one-member l E (record { class = g; expr = x }) refl (line-stays l E (record { class = g; expr = x }) (record { class = is.class; known = is.known; formed = is.formed; columns = is.columns })) shaped;
        same = same-stay l E shaped;
        roots = old-roots l E refl shaped.roots;
        lower = lower-stays l E (none-lower l E refl) shaped;
      }

  -- two classes become the same
  unites-shaped : (l : Line) (E : Log) → AreShaped E → (g h : ℕ) → is_founding (Some l) ≡ false → as_member (length E) (Some l) ≡ None → ((k : ℕ) → least (l ∷ E) k ≡ united (least E g) (least E h) (least E k))
      → AreBelow (l ∷ E) → founds E g ≡ true → founds E h ≡ true → cols E g ≡ cols E h → AreShaped (l ∷ E)
  unites-shaped l E shaped g h none no_expr least_is low first second columns = record {
    low = low;
    lines = no-member l E no_expr shaped;
    same = λ x y is. united-relate (λ x y. cols (l ∷ E) x ≡ cols (l ∷ E) y) (λ x y is. sym is) (λ x y z is next. is ∙ next) E (same-stay l E shaped) g h
        (columns-stay instances l E g (founded E g first) ∙ columns ∙ sym (columns-stay instances l E h (founded E h second))) x y (sym (least_is x) ∙ is ∙ least_is y);
    roots = old-roots l E none (λ k is. subst (λ c. founds E c ≡ true) (sym (least_is k)) (united-among (λ c. founds E c ≡ true) (least E g) (least E h) (least E k) (shaped.roots g first) (shaped.roots h second) (shaped.roots k is)));
    lower = lower-stays l E (none-lower l E none) shaped;
  }

  alike-shaped : (i j : ℕ) (E : Log) → AreShaped E → StandsAlike instances own E i j → AreShaped (Alike i j ∷ E)
  alike-shaped i j E shaped is =
      let first = shaped.lines i is.first is.first_at in
      let second = shaped.lines j is.second is.second_at in
      let one : class_at E i ≡ is.first.class = ap (or_class i) is.first_at in
      let two : class_at E j ≡ is.second.class = ap (or_class j) is.second_at in
      let alike = alike_is_same instances nothing (V E) (least E) (λ x y same. (shaped.same x y same, λ e f. refl)) is.first.expr is.second.expr is.alike in
      let one_founded : founds E (class_at E i) ≡ true = subst (λ c. founds E c ≡ true) (sym one) first.class in
      let two_founded : founds E (class_at E j) ≡ true = subst (λ c. founds E c ≡ true) (sym two) second.class in
      unites-shaped (Alike i j) E shaped (class_at E i) (class_at E j) refl refl (λ k. refl) (founded E (class_at E i) one_founded, founded E (class_at E j) two_founded, shaped.low) one_founded two_founded
      (ap (cols E) one ∙ sym first.columns ∙ alike.0 ∙ second.columns ∙ ap (cols E) (sym two))

  gives-shaped : (l : Line) (E : Log) → AreShaped E → is_founding (Some l) ≡ false → as_member (length E) (Some l) ≡ None → ((k : ℕ) → least (l ∷ E) k ≡ least E k) → AreBelow (l ∷ E) → AreShaped (l ∷ E)
  gives-shaped l E shaped none no_expr least_is low = record {
    low = low;
    lines = no-member l E no_expr shaped;
    same = λ x y is. same-stay l E shaped x y (sym (least_is x) ∙ is ∙ least_is y);
    roots = old-roots l E none (λ k is. subst (λ c. founds E c ≡ true) (sym (least_is k)) (shaped.roots k is));
    lower = lower-stays l E (none-lower l E none) shaped;
  }

  pub are-shaped : (E : Log) → Replays instances own E → AreShaped E
  are-shaped [] replays = record { low = tt; lines = λ i l at. cc; same = λ x y is. refl; roots = λ k is. cc; lower = λ g l at. cc }
  are-shaped (Founds x ∷ E) replays = founds-shaped x E (are-shaped E replays.1) (founds-stands instances own E x (Founds x) replays.0)
  are-shaped (Adds g s x ∷ E) replays = adds-shaped g s x E (are-shaped E replays.1) (adds-stands instances own E g s x (Adds g s x) replays.0)
  are-shaped (Unites g h s ∷ E) replays =
      let shaped = are-shaped E replays.1 in
      let is = unites-stands instances own E g h s (Unites g h s) replays.0 in
      unites-shaped (Unites g h s) E shaped g h refl refl (λ k. refl) (founded E g is.first, founded E h is.second, shaped.low) is.first is.second is.columns
  are-shaped (Alike i j ∷ E) replays = alike-shaped i j E (are-shaped E replays.1) (alike-stands instances own E i j (Alike i j) replays.0)
  are-shaped (Gives g m f ∷ E) replays = let shaped = are-shaped E replays.1 in gives-shaped (Gives g m f) E shaped refl refl (λ k. refl) shaped.low
