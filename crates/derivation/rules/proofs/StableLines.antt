-- What a rule gives depends on named classes alone if what it makes of its lines' expressions does: on their columns, on what mentions these, on facts.
use Rattle.std.proofs.Common.{◌≡◌, refl, ap, sym, ◌∙◌, subst, ℕ, Bool, true, not, ◌&&◌, ◌||◌, ◌==◌, if◌then◌else◌, List, [], ◌∷◌, filter, map, Result, Option, Some, None}
use Rattle.std.specs.List.{AllByRecursion, list_all, list_any}
use Rattle.std.proofs.lemmas.Bool.{and_parts}
use Rattle.values.specs.Faults.{◌>>=◌, wanted}
use Rattle.algebra.specs.declared.condition.Condition.{Condition, roll-Condition, fold-roll-Condition, ind-Condition, map-Condition}
use Rattle.algebra.specs.declared.condition.Condition.TheOpen.{Condition-F}
use Rattle.algebra.specs.declared.expr.Expr.{Expr}
use Rattle.algebra.specs.Columns.{ColumnSet, has}
use Rattle.algebra.specs.Conditions.{Passes, classes_layer, all_classes, Mentions, mentions_layer, mentions, term_columns}
use Rattle.algebra.specs.ConjunctParts.{part, rest, is_without}
use Rattle.algebra.specs.Expressions.{children, classes_pass, subqueries_pass, mentioned}
use Rattle.algebra.proofs.Lists.{two}
use Rattle.props.specs.Knowledge.{Knowledge}
use Rattle.rules.specs.declared.shape.Shape.{Shape}
use Rattle.rules.specs.declared.unfit.Unfit.{Unfit}
use Rattle.rules.specs.declared.unfit.Unfit.TheVariants.{Pattern}
use Rattle.rules.specs.Conjuncts.{is_apart_from}
use Rattle.rules.specs.Matches.{Line, Matched, is_first_same, the_two, one_line, two_lines, unpicked}
use Rattle.rules.specs.Stability.{Agree, IsStable}
use Rattle.rules.proofs.BoundLines.{Placed, Binding, IsBound, Binds, all-placed}
use Rattle.rules.proofs.BoundForms.{one, one-binds, two_first, two_first-binds}

module _ (p : ℕ → Bool) (K L : Knowledge) (agree : Agree p K L) where
  -- ---- what conditions mention

  abbrev P : Condition → Type 0
  P c = all_classes c p ≡ true → (k : ℕ) → mentions c K.columns K.free k ≡ mentions c L.columns L.free k

  abbrev Part : Type 0
  Part = (c : Condition) × P c

  abbrev whole : Condition-F Part → Condition-F Condition
  whole y = map-Condition Part Condition (λ q. q.0) y

  parts-same : (parts : List Part) → list_all (λ d. d p) (map all_classes (map (λ q. q.0) parts)) ≡ true → (k : ℕ)
      → list_any (λ d. d K.columns K.free k) (map mentions (map (λ q. q.0) parts)) ≡ list_any (λ d. d L.columns L.free k) (map mentions (map (λ q. q.0) parts))
  parts-same [] pass k = refl
  parts-same (q ∷ parts) pass k = let both = and_parts _ _ pass in two (λ a b. a || b) (q.1 both.0 k) (parts-same parts both.1 k)

  layer : (y : Condition-F Part) → classes_layer (map-Condition Condition Passes all_classes (whole y)) p ≡ true → (k : ℕ)
      → mentions_layer (map-Condition Condition Mentions mentions (whole y)) K.columns K.free k ≡ mentions_layer (map-Condition Condition Mentions mentions (whole y)) L.columns L.free k
  layer (Condition-F.Compare op a b) pass k = refl
  layer (Condition-F.IsNull a) pass k = refl
  layer (Condition-F.Not q) pass k = q.1 pass k
  layer (Condition-F.And q r qs) pass k = parts-same (q ∷ r ∷ qs) pass k
  layer (Condition-F.Or q r qs) pass k = parts-same (q ∷ r ∷ qs) pass k
  layer (Condition-F.Exists g) pass k = agree.free g k pass
  layer (Condition-F.In a g j) pass k =
      ap (λ b. has (term_columns a) k || b || (j == k && not (has (K.columns g) j))) (agree.free g k pass)
      ∙ ap (λ M. has (term_columns a) k || L.free g k || (j == k && not (has M j))) (agree.columns g pass)

  step : (y : Condition-F Part) → P (roll-Condition (whole y))
  unfolding mentions all_classes
  step y pass k =
      ap (λ m. m K.columns K.free k) (fold-roll-Condition Mentions mentions_layer (whole y))
      ∙ layer y (subst (λ (m : Passes). m p ≡ true) (fold-roll-Condition Passes classes_layer (whole y)) pass) k
      ∙ sym (ap (λ m. m L.columns L.free k) (fold-roll-Condition Mentions mentions_layer (whole y)))

  pub mentions-same : (c : Condition) → P c
  mentions-same = ind-Condition P (λ x y is. subst (λ z. P (roll-Condition z)) is (step y))

  pub mentioned-same : (C : List Condition) → subqueries_pass p C ≡ true → (k : ℕ) → mentioned K.columns K.free C k ≡ mentioned L.columns L.free C k
  mentioned-same [] pass k = refl
  mentioned-same (c ∷ C) pass k = let both = and_parts _ _ pass in two (λ a b. a || b) (mentions-same c both.0 k) (mentioned-same C both.1 k)

  -- ---- lists of conditions that are told apart

  pub without-same : (c : Condition) → all_classes c p ≡ true → (B : List ℕ) → is_without K.columns K.free B c ≡ is_without L.columns L.free B c
  without-same c pass [] = refl
  without-same c pass (k ∷ B) = two (λ a b. not a && b) (mentions-same c pass k) (without-same c pass B)

  pub apart-same : (g : ℕ) → p g ≡ true → (c : Condition) → all_classes c p ≡ true → is_apart_from K g c ≡ is_apart_from L g c
  apart-same g is c pass = ap (λ B. is_without K.columns K.free B c) (agree.columns g is) ∙ without-same c pass (L.columns g)

  pub all-same : (q r : Condition → Bool) → ((c : Condition) → all_classes c p ≡ true → q c ≡ r c) → (C : List Condition) → subqueries_pass p C ≡ true → list_all q C ≡ list_all r C
  all-same q r same [] pass = refl
  all-same q r same (c ∷ C) pass = let both = and_parts _ _ pass in two (λ a b. a && b) (same c both.0) (all-same q r same C both.1)

  pub part-same : (q r : Condition → Bool) → ((c : Condition) → all_classes c p ≡ true → q c ≡ r c) → (C : List Condition) → subqueries_pass p C ≡ true → part q C ≡ part r C
  part-same q r same [] pass = refl
  part-same q r same (c ∷ C) pass = let both = and_parts _ _ pass in two (λ (b : Bool) (D : List Condition). if b then c ∷ D else D) (same c both.0) (part-same q r same C both.1)

  pub rest-same : (q r : Condition → Bool) → ((c : Condition) → all_classes c p ≡ true → q c ≡ r c) → (C : List Condition) → subqueries_pass p C ≡ true → rest q C ≡ rest r C
  rest-same q r same C pass = part-same (λ c. not (q c)) (λ c. not (r c)) (λ c is. ap not (same c is)) C pass

  pub part-apart : (g : ℕ) → p g ≡ true → (C : List Condition) → subqueries_pass p C ≡ true → part (is_apart_from K g) C ≡ part (is_apart_from L g) C
  part-apart g is = part-same (is_apart_from K g) (is_apart_from L g) (apart-same g is)

  pub rest-apart : (g : ℕ) → p g ≡ true → (C : List Condition) → subqueries_pass p C ≡ true → rest (is_apart_from K g) C ≡ rest (is_apart_from L g) C
  rest-apart g is = rest-same (is_apart_from K g) (is_apart_from L g) (apart-same g is)

  -- columns that are told apart
  pub filter-same : (q r : ColumnSet) → ((k : ℕ) → q k ≡ r k) → (M : List ℕ) → filter q M ≡ filter r M
  filter-same q r same [] = refl
  filter-same q r same (k ∷ M) = two (λ (b : Bool) (N : List ℕ). if b then k ∷ N else N) (same k) (filter-same q r same M)

  pub taken-same : (inputs : List ℕ) (g : ℕ) → is_first_same K inputs g ≡ is_first_same L inputs g
  taken-same [] g = refl
  taken-same (c ∷ inputs) g = two (λ a b. a == b) (agree.root c) (agree.root g)

-- ---- the classes that an expression names

module _ (p : ℕ → Bool) where
  abbrev pub Knows : Expr → Type 0
  Knows x = classes_pass p x ≡ true

  pub first-passes : (x : ℕ) (rest : Bool) → (list_all p (x ∷ []) && rest) ≡ true → p x ≡ true
  first-passes x rest known = (and_parts _ _ (and_parts _ _ known).0).0

  -- the sides of a join, and its conditions
  pub sides : (a b : ℕ) (C : List Condition) → (list_all p (a ∷ b ∷ []) && subqueries_pass p C) ≡ true → (p a ≡ true) × (p b ≡ true) × (subqueries_pass p C ≡ true)
  sides a b C known = let parts = and_parts _ _ known in let both = and_parts _ _ parts.0 in (both.0, (and_parts _ _ both.1).0, parts.1)

-- ---- what is bound

-- lines over classes
abbrev pub over : Knowledge → ℕ → List Line → Matched
over K pick lines = record { lines = lines; pick = pick; classes = K }

-- what is bound depends on which classes are the same alone
abbrev pub IsSteady : {X : Type 0} → Binding X → Type 0
IsSteady B = (p : ℕ → Bool) (K L : Knowledge) → Agree p K L → (pick : ℕ) (lines : List Line) → B.bound (over K pick lines) ≡ B.bound (over L pick lines)

abbrev pub BoundIsStable : {X : Type 0} → Binding X → (Knowledge → X → Result Shape Unfit) → Type 0
BoundIsStable {X} B rewrite = (p : ℕ → Bool) (K L : Knowledge) → Agree p K L → (x : X) → Knows p (B.top x) → B.IsSo x → AllByRecursion (λ (b : Placed). Knows p b.1) (B.below x)
    → rewrite K x ≡ rewrite L x

pub bound-stable : {X : Type 0} (B : Binding X) → Binds B → IsSteady B → (rewrite : Knowledge → X → Result Shape Unfit) → BoundIsStable B rewrite
    → IsStable (λ m. wanted Pattern (B.bound m) >>= rewrite m.classes)
bound-stable {X} B binds steady rewrite stable p K L agree pick lines known =
    by (B.bound (over K pick lines)) refl ∙ ap (λ o. wanted Pattern o >>= rewrite L) (steady p K L agree pick lines)
  where
    KnowsLine : Line → Type 0
    KnowsLine l = Knows p l.expr

    at : (x : X) → IsBound B (over K pick lines) x → rewrite K x ≡ rewrite L x
    at x i =
        let all : AllByRecursion KnowsLine (i.first ∷ i.others) = subst (AllByRecursion KnowsLine) i.lines known in
        stable p K L agree x (subst (Knows p) i.top all.0) i.so
        (all-placed K KnowsLine (λ (b : Placed). Knows p b.1) (λ b l placed knows. subst (Knows p) placed.expr knows) (B.below x) i.others i.below all.1)

    by : (o : Option X) → B.bound (over K pick lines) ≡ o → (wanted Pattern o >>= rewrite K) ≡ (wanted Pattern o >>= rewrite L)
    by None bound = refl
    by (Some x) bound = at x (binds (over K pick lines) x bound)

-- ---- what is matched

abbrev pub OneIsStable : (Knowledge → Expr → Result Shape Unfit) → Type 0
OneIsStable rewrite = (p : ℕ → Bool) (K L : Knowledge) → Agree p K L → (x : Expr) → Knows p x → rewrite K x ≡ rewrite L x

abbrev pub TwoAreStable : (Knowledge → Expr → Expr → Result Shape Unfit) → Type 0
TwoAreStable rewrite = (p : ℕ → Bool) (K L : Knowledge) → Agree p K L → (x y : Expr) → Knows p x → Knows p y → rewrite K x y ≡ rewrite L x y

pub one-stable : (rewrite : Knowledge → Expr → Result Shape Unfit) → OneIsStable rewrite → IsStable (λ m. wanted Pattern (one_line m) >>= rewrite m.classes)
one-stable rewrite stable = bound-stable one one-binds (λ p K L agree pick lines. refl) rewrite (λ p K L agree x known so below. stable p K L agree x known)

two-steady : IsSteady two_first
two-steady p K L agree pick lines = ap (unpicked pick) (by lines)
  where
    by : (lines : List Line) → the_two K lines ≡ the_two L lines
    by [] = refl
    by (l ∷ []) = refl
    by (l ∷ k ∷ []) = ap (λ (b : Bool). if b then Some (l.expr, k.expr) else None) (taken-same p K L agree (children l.expr) k.class)
    by (l ∷ k ∷ j ∷ others) = refl

pub two-stable : (rewrite : Knowledge → Expr → Expr → Result Shape Unfit) → TwoAreStable rewrite → IsStable (λ m. wanted Pattern (two_lines m) >>= λ l. rewrite m.classes l.0 l.1)
two-stable rewrite stable = bound-stable two_first two_first-binds two-steady (λ K l. rewrite K l.0 l.1) (λ p K L agree l known so below. stable p K L agree l.0 l.1 known below.0)
