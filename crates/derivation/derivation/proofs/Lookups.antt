-- Where the lines of a log stand, and what its classes are once there is one line more.
use Rattle.std.proofs.Common.{◌≡◌, refl, ap, sym, ◌∙◌, inl, inr, ◌⊎◌, ℕ, ◌<◌, Bool, true, false, ◌==◌, nat_lt, List, [], ◌∷◌, length, Option, Some, None, if◌then◌else◌, arith}
use Rattle.std.specs.List.{list_all}
use Rattle.std.proofs.lemmas.Bool.{and_parts, and_from, eq-eqb, ne_eqb, eqb-true, lt-ltb}
use Rattle.std.proofs.lemmas.List.{length-map}
use Rattle.query.specs.declared.query.TableInstance.{TableInstance}
use Rattle.query.specs.Rows.{Tables}
use Rattle.algebra.specs.declared.expr.Expr.{Expr}
use Rattle.algebra.specs.Bags.{Env}
use Rattle.algebra.specs.Classes.{class_columns, class_rows}
use Rattle.algebra.specs.Expressions.{children, conditions, classes_pass}
use Rattle.algebra.proofs.NamedClasses.{all-named}
use Rattle.rules.specs.Matches as matches
use Rattle.derivation.specs.declared.line.Line.{Line}
use Rattle.derivation.specs.Logs.{Log, line_at, entry, entries, as_member, member, is_founding, founds}

-- ---- lines

pub here : (l : Line) (E : Log) → line_at (l ∷ E) (length E) ≡ Some l
here l E = rw (eq-eqb (length E) (length E) refl) refl

pub earlier : (l : Line) (E : Log) (i : ℕ) → i < length E → line_at (l ∷ E) i ≡ line_at E i
earlier l E i lt = rw (ne_eqb i (length E) (λ is. absurd (omega (arith, is, lt)))) refl

-- a line of a log with one more is that one or an earlier one
pub this-or : (k : Line) (E : Log) (i : ℕ) (l : Line) → line_at (k ∷ E) i ≡ Some l → ((i ≡ length E) × (k ≡ l)) ⊎ (line_at E i ≡ Some l)
this-or k E i l at = by (i == length E) refl at
  where
    by : (b : Bool) → (i == length E) ≡ b → (if b then Some k else line_at E i) ≡ Some l → ((i ≡ length E) × (k ≡ l)) ⊎ (line_at E i ≡ Some l)
    by true is at = inl (eqb-true i (length E) is, let e : k ≡ l = cc in e)
    by false is at = inr at

pub within : (E : Log) (i : ℕ) (l : Line) → line_at E i ≡ Some l → i < length E
within [] i l at = cc
within (k ∷ E) i l at = elim (this-or k E i l at) [
  | inl is ↦ omega (arith, is.0)
  | inr later ↦ let lt : i < length E = within E i l later in omega (arith, lt)
]

pub founded : (E : Log) (g : ℕ) → founds E g ≡ true → g < length E
founded E g is = by (line_at E g) refl is
  where
    by : (o : Option Line) → line_at E g ≡ o → is_founding o ≡ true → g < length E
    by None at is = cc
    by (Some l) at is = within E g l at

pub member-within : (E : Log) (i : ℕ) (l : matches.Line) → member E i ≡ Some l → i < length E
member-within E i l is = by (line_at E i) refl is
  where
    by : (o : Option Line) → line_at E i ≡ o → as_member i o ≡ Some l → i < length E
    by None at is = cc
    by (Some k) at is = within E i k at

pub member-stays : (k : Line) (E : Log) (i : ℕ) (l : matches.Line) → member E i ≡ Some l → member (k ∷ E) i ≡ Some l
member-stays k E i l is = ap (as_member i) (earlier k E i (member-within E i l is)) ∙ is

-- ---- classes, once there is one line more

pub columns-stay : (instances : List TableInstance) (l : Line) (E : Log) (g : ℕ) → g < length E → class_columns instances (entries (l ∷ E)) g ≡ class_columns instances (entries E) g
columns-stay instances l E g lt = rw (ne_eqb g (length (entries E)) (λ is. absurd (omega (arith, is, lt, length-map E entry)))) refl

pub rows-stay : (instances : List TableInstance) (D : Tables) (l : Line) (E : Log) (g : ℕ) (e : Env) → g < length E → class_rows instances D (entries (l ∷ E)) g e ≡ class_rows instances D (entries E) g e
rows-stay instances D l E g e lt = rw (ne_eqb g (length (entries E)) (λ is. absurd (omega (arith, is, lt, length-map E entry)))) refl

-- ---- the classes that an expression names

all-wider : (p q : ℕ → Bool) → ((g : ℕ) → p g ≡ true → q g ≡ true) → (xs : List ℕ) → list_all p xs ≡ true → list_all q xs ≡ true
all-wider p q h [] all = refl
all-wider p q h (x ∷ xs) all = let parts = and_parts _ _ all in and_from _ _ (h x parts.0) (all-wider p q h xs parts.1)

-- they pass a test that is passed by whatever passes another
pub classes-wider : (p q : ℕ → Bool) → ((g : ℕ) → p g ≡ true → q g ≡ true) → (x : Expr) → classes_pass p x ≡ true → classes_pass q x ≡ true
classes-wider p q h x pass =
    let parts = and_parts (list_all p (children x)) _ pass in
    and_from _ _ (all-wider p q h (children x) parts.0) (all-named q (conditions x) ∙ all-wider p q h _ (sym (all-named p (conditions x)) ∙ parts.1))

-- those that are founded have numbers of earlier lines
pub below : (E : Log) (x : Expr) → classes_pass (founds E) x ≡ true → classes_pass (λ g. nat_lt g (length E)) x ≡ true
below E x pass = classes-wider (founds E) (λ g. nat_lt g (length E)) (λ g is. lt-ltb g (length E) (founded E g is)) x pass
