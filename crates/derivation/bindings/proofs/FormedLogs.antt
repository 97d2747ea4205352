-- The lines of a log that replays have expressions that are well formed, over classes that are founded, with the columns of their own class; and classes
-- that are the same have the same columns. Here no schema is at hand, and rows don't matter: classes have none.
use Rattle.std.proofs.Common.{◌≡◌, refl, ap, sym, ◌∙◌, subst, inl, inr, ℕ, ◌<◌, true, false, ◌==◌, List, [], ◌∷◌, length, Option, Some, None}
use Rattle.std.proofs.lemmas.Bool.{eq-eqb}
use Rattle.std.proofs.lemmas.List.{length-map}
use Rattle.query.specs.declared.query.TableInstance.{TableInstance}
use Rattle.query.specs.Rows.{Tables}
use Rattle.algebra.specs.declared.expr.Aggregation.{Aggregation}
use Rattle.algebra.specs.declared.expr.Expr.{Expr}
use Rattle.algebra.specs.Alike.{IsSameIn}
use Rattle.algebra.specs.Expressions.{Classes, columns_of, is_formed, classes_pass}
use Rattle.algebra.specs.Classes.{class_columns}
use Rattle.algebra.proofs.Alike.{alike_is_same}
use Rattle.rules.specs.Matches as matches
use Rattle.derivation.specs.declared.line.Line.{Line}
use Rattle.derivation.specs.declared.line.Step.{Step}
use Rattle.derivation.specs.declared.line.Line.TheVariants.{Founds, Adds, Unites, Alike, Gives}
use Rattle.derivation.specs.Logs.{Log, line_at, entry, entries, as_member, member, or_class, class_at, is_founding, founds, least}
use Rattle.derivation.specs.Replay.{Replays}
use Rattle.derivation.proofs.Agreement.{columns-agree, formed-agree}
use Rattle.derivation.proofs.Lookups.{here, earlier, this-or, columns-stay, founded, classes-wider}
use Rattle.derivation.proofs.Sameness.{AreBelow, same-below, united-relate}
use Rattle.derivation.proofs.Standing.{StandsFounds, StandsAdds, StandsUnites, StandsAlike, founds-stands, adds-stands, unites-stands, alike-stands}

module _ (instances : List TableInstance) (own : List Aggregation) where
  abbrev pub cols : Log → ℕ → List ℕ
  cols E = class_columns instances (entries E)

  -- a line whose expression may stand behind the log
  pub record IsKept (E : Log) (l : matches.Line) : Type 0 where
    pub class : founds E l.class ≡ true
    pub known : classes_pass (founds E) l.expr ≡ true
    pub formed : is_formed instances own (cols E) l.expr ≡ true
    pub columns : columns_of instances (cols E) l.expr ≡ cols E l.class

  pub record AreKept (E : Log) : Type 0 where
    pub low : AreBelow E
    pub lines : (i : ℕ) (l : matches.Line) → member E i ≡ Some l → IsKept E l
    pub same : (x y : ℕ) → least E x ≡ least E y → cols E x ≡ cols E y

  -- classes without rows
  abbrev bare : (ℕ → List ℕ) → Classes
  bare columns = record { rows = λ g e. []; columns = columns; free = λ g c. false }

  abbrev no-tables : Tables
  no-tables = record { rows = λ t. []; width = λ t. 0 }

  -- ---- one line more

  module _ (l : Line) (E : Log) where
    founds-stays : (g : ℕ) → founds E g ≡ true → founds (l ∷ E) g ≡ true
    founds-stays g is = ap is_founding (earlier l E g (founded E g is)) ∙ is

    cols-stay : (g : ℕ) → founds E g ≡ true → IsSameIn (bare (cols E)) (bare (cols (l ∷ E))) g g
    cols-stay g is = (sym (columns-stay instances l E g (founded E g is)), λ e f. refl)

    formed-stays : (x : Expr) → classes_pass (founds E) x ≡ true → is_formed instances own (cols E) x ≡ true → is_formed instances own (cols (l ∷ E)) x ≡ true
    formed-stays x known formed = sym (formed-agree instances own no-tables (bare (cols E)) (bare (cols (l ∷ E))) (founds E) cols-stay x known) ∙ formed

    columns-same : (x : Expr) → classes_pass (founds E) x ≡ true → columns_of instances (cols (l ∷ E)) x ≡ columns_of instances (cols E) x
    columns-same x known = sym (columns-agree instances own no-tables (bare (cols E)) (bare (cols (l ∷ E))) (founds E) cols-stay x known)

    kept-stays : (k : matches.Line) → IsKept E k → IsKept (l ∷ E) k
    kept-stays k is = record {
      class = founds-stays k.class is.class;
      known = classes-wider (founds E) (founds (l ∷ E)) founds-stays k.expr is.known;
      formed = formed-stays k.expr is.known is.formed;
      columns = columns-same k.expr is.known ∙ is.columns ∙ sym (columns-stay instances l E k.class (founded E k.class is.class));
    }

    same-stays : AreKept E → (x y : ℕ) → least E x ≡ least E y → cols (l ∷ E) x ≡ cols (l ∷ E) y
    same-stays kept x y is = elim (same-below E kept.low x y is) [
      | inl one ↦ ap (cols (l ∷ E)) one
      | inr both ↦ columns-stay instances l E x both.0 ∙ kept.same x y is ∙ sym (columns-stay instances l E y both.1)
    ]

    -- each line of the longer log is kept where the last one is
    lines-stay : AreKept E → ((k : matches.Line) → as_member (length E) (Some l) ≡ Some k → IsKept (l ∷ E) k) → (i : ℕ) (k : matches.Line) → member (l ∷ E) i ≡ Some k → IsKept (l ∷ E) k
    lines-stay kept last i k at = by (line_at (l ∷ E) i) refl at
      where
        by : (o : Option Line) → line_at (l ∷ E) i ≡ o → as_member i o ≡ Some k → IsKept (l ∷ E) k
        by None there is = cc
        by (Some m) there is = elim (this-or l E i m there) [
          | inl now ↦ last k (sym (ap (λ n. as_member n (Some l)) now.0) ∙ ap (λ m. as_member i (Some m)) now.1 ∙ is)
          | inr before ↦ kept-stays k (kept.lines i k (ap (as_member i) before ∙ is))
        ]

  the-line : {A : Type 0} (a b : A) → Some a ≡ Some b → a ≡ b
  the-line a b is = cc

  founds-kept : (x : Expr) (E : Log) → AreKept E → StandsFounds instances own E x → AreKept (Founds x ∷ E)
  founds-kept x E kept is = record {
    low = kept.low;
    lines = lines-stay l E kept (λ k last. subst (IsKept (l ∷ E)) (the-line _ k last) now);
    same = same-stays l E kept;
  }
    where
      l : Line
      l = Founds x

      top : (length E == length (entries E)) ≡ true
      top = eq-eqb (length E) (length (entries E)) (sym (length-map E entry))

      now : IsKept (l ∷ E) (record { class = length E; expr = x })
      now = record {
        class = ap is_founding (here l E);
        known = classes-wider (founds E) (founds (l ∷ E)) (founds-stays l E) x is.known;
        formed = formed-stays l E x is.known is.formed;
        columns = columns-same l E x is.known ∙ sym (rw top refl);
      }

  adds-kept : (g : ℕ) (s : Step) (x : Expr) (E : Log) → AreKept E → StandsAdds instances own E g s x → AreKept (Adds g s x ∷ E)
  adds-kept g s x E kept is = record {
    low = kept.low;
    lines = lines-stay l E kept (λ k last. subst (IsKept (l ∷ E)) (the-line _ k last) (kept-stays l E (record { class = g; expr = x }) (record { class = is.class; known = is.known; formed = is.formed; columns = is.columns })));
    same = same-stays l E kept;
  }
    where
      l : Line
      l = Adds g s x

  turned : (E : Log) (x y : ℕ) → cols E x ≡ cols E y → cols E y ≡ cols E x
  turned E x y is = sym is

  along : (E : Log) (x y z : ℕ) → cols E x ≡ cols E y → cols E y ≡ cols E z → cols E x ≡ cols E z
  along E x y z one other = one ∙ other

  unites-kept : (g h : ℕ) (s : Step) (E : Log) → AreKept E → StandsUnites instances own E g h s → AreKept (Unites g h s ∷ E)
  unites-kept g h s E kept is = record {
    low = (first, second, kept.low);
    lines = lines-stay l E kept (λ k last. cc);
    same = united-relate (λ x y. cols (l ∷ E) x ≡ cols (l ∷ E) y) (turned (l ∷ E)) (along (l ∷ E)) E (same-stays l E kept) g h
        (columns-stay instances l E g first ∙ is.columns ∙ sym (columns-stay instances l E h second));
  }
    where
      l : Line
      l = Unites g h s

      first : g < length E
      first = founded E g is.first

      second : h < length E
      second = founded E h is.second

  alike-kept : (i j : ℕ) (E : Log) → AreKept E → StandsAlike instances own E i j → AreKept (Alike i j ∷ E)
  alike-kept i j E kept is = record {
    low = (subst (λ g. g < length E) (sym at) (founded E is.first.class one.class), subst (λ g. g < length E) (sym there) (founded E is.second.class other.class), kept.low);
    lines = lines-stay l E kept (λ k last. cc);
    same = united-relate (λ x y. cols (l ∷ E) x ≡ cols (l ∷ E) y) (turned (l ∷ E)) (along (l ∷ E)) E (same-stays l E kept) (class_at E i) (class_at E j)
        (ap (cols (l ∷ E)) at ∙ columns-stay instances l E is.first.class (founded E is.first.class one.class) ∙ sym one.columns ∙ same ∙ other.columns
        ∙ sym (columns-stay instances l E is.second.class (founded E is.second.class other.class)) ∙ sym (ap (cols (l ∷ E)) there));
  }
    where
      l : Line
      l = Alike i j

      one : IsKept E is.first
      one = kept.lines i is.first is.first_at

      other : IsKept E is.second
      other = kept.lines j is.second is.second_at

      at : class_at E i ≡ is.first.class
      at = ap (or_class i) is.first_at

      there : class_at E j ≡ is.second.class
      there = ap (or_class j) is.second_at

      same : columns_of instances (cols E) is.first.expr ≡ columns_of instances (cols E) is.second.expr
      same = (alike_is_same instances no-tables (bare (cols E)) (least E) (λ g h root. (kept.same g h root, λ e f. refl)) is.first.expr is.second.expr is.alike).0

  -- what a log that replays keeps
  pub kept_by : (E : Log) → Replays instances own E → AreKept E
  kept_by [] replays = record { low = tt; lines = λ i l at. cc; same = λ x y is. refl }
  kept_by (Founds x ∷ E) replays = founds-kept x E (kept_by E replays.1) (founds-stands instances own E x (Founds x) replays.0)
  kept_by (Adds g s x ∷ E) replays = adds-kept g s x E (kept_by E replays.1) (adds-stands instances own E g s x (Adds g s x) replays.0)
  kept_by (Unites g h s ∷ E) replays = unites-kept g h s E (kept_by E replays.1) (unites-stands instances own E g h s (Unites g h s) replays.0)
  kept_by (Alike i j ∷ E) replays = alike-kept i j E (kept_by E replays.1) (alike-stands instances own E i j (Alike i j) replays.0)
  kept_by (Gives g m f ∷ E) replays = record {
    low = (kept_by E replays.1).low;
    lines = lines-stay (Gives g m f) E (kept_by E replays.1) (λ k last. cc);
    same = same-stays (Gives g m f) E (kept_by E replays.1);
  }
