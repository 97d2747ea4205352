-- Labels by their classes: what is asked of all labels is asked of those of one class.
use Rattle.std.proofs.Common.{◌≡◌, refl, ap, sym, ◌∙◌, subst, ℕ, zero, suc, ◌+◌, ◌<◌, Bool, true, false, not, ◌&&◌, ◌||◌, ◌==◌, if◌then◌else◌, List, [], ◌∷◌, ◌++◌, cond, length, map, set, take, get_or, Some, arith}
use Rattle.std.specs.List.{AllByRecursion, list_any}
use Rattle.std.proofs.lemmas.Bool.{and_parts, eq-eqb, eqb-true, ne_eqb}
use Rattle.std.proofs.lemmas.List.{take_more, length-map, get_or-map, get_or-set_same, get_or-set_other}
use Rattle.std.proofs.lemmas.List.Elements.{filter-append}
use Rattle.std.proofs.lemmas.List.Folds.{list_any-append}
use Rattle.physical.specs.RequiredOrders.{same_order}
use Rattle.labels.specs.declared.goal.Goal.{Goal}
use Rattle.labels.specs.declared.goal.Label.{Label}
use Rattle.labels.specs.Offers.{same_goal}
use Rattle.labels.specs.Labels.{Labels, are_once, cost_of}
use Rattle.labels.specs.ByClass.{AreByClass, of_class}

-- ---- of another class

eqb-swap : (a b : ℕ) → (a == b) ≡ (b == a)
eqb-swap a b = by (a == b) refl
  where
    by : (t : Bool) → (a == b) ≡ t → (a == b) ≡ (b == a)
    by true is = is ∙ sym (eq-eqb b a (sym (eqb-true a b is)))
    by false is = is ∙ sym (ne_eqb b a (λ e. let never : true ≡ false = sym (eq-eqb a b (sym e)) ∙ is in cc))

-- goals of two classes are two
apart : (a b : Goal) → (a.class == b.class) ≡ false → same_goal a b ≡ false
apart a b other = ap (λ t. t && same_order a.order b.order) other

any-of-class : (goal : Goal) (labels : Labels) → list_any (λ k. same_goal goal k.goal) labels ≡ list_any (λ k. same_goal goal k.goal) (of_class labels goal.class)
any-of-class goal [] = refl
any-of-class goal (l ∷ labels) = by (any-of-class goal labels) (l.goal.class == goal.class) refl
  where
    by : list_any (λ k. same_goal goal k.goal) labels ≡ list_any (λ k. same_goal goal k.goal) (of_class labels goal.class) → (t : Bool) → (l.goal.class == goal.class) ≡ t
        → list_any (λ k. same_goal goal k.goal) (l ∷ labels) ≡ list_any (λ k. same_goal goal k.goal) (cond t (l ∷ of_class labels goal.class) (of_class labels goal.class))
    by rest true is = ap (λ b. same_goal goal l.goal || b) rest
    by rest false is = ap (λ b. b || list_any (λ k. same_goal goal k.goal) labels) (apart goal l.goal (eqb-swap goal.class l.goal.class ∙ is)) ∙ rest

pub cost-of-class : (goal : Goal) (labels : Labels) → cost_of labels goal ≡ cost_of (of_class labels goal.class) goal
cost-of-class goal [] = refl
cost-of-class goal (l ∷ labels) = by (cost-of-class goal labels) (l.goal.class == goal.class) refl
  where
    by : cost_of labels goal ≡ cost_of (of_class labels goal.class) goal → (t : Bool) → (l.goal.class == goal.class) ≡ t
        → cost_of (l ∷ labels) goal ≡ cost_of (cond t (l ∷ of_class labels goal.class) (of_class labels goal.class)) goal
    by rest true is = ap (λ c. if same_goal l.goal goal then Some l.cost else c) rest
    by rest false is = ap (λ b. if b then Some l.cost else cost_of labels goal) (apart l.goal goal is) ∙ rest

-- ---- no goal twice

bits : (a s o t : Bool) → (not (a || (s || false)) && (o && not t)) ≡ ((not a && o) && not (s || t))
bits true s o t = refl
bits false true true t = refl
bits false true false t = refl
bits false false o t = refl

once-more : (labels : Labels) (l : Label) → are_once (labels ++ l ∷ []) ≡ (are_once labels && not (list_any (λ k. same_goal l.goal k.goal) labels))
once-more [] l = refl
once-more (x ∷ labels) l =
    ap (λ b. not b && are_once (labels ++ l ∷ [])) (list_any-append (λ (k : Label). same_goal k.goal x.goal) labels (l ∷ []))
    ∙ ap (λ b. not (list_any (λ k. same_goal k.goal x.goal) labels || (same_goal l.goal x.goal || false)) && b) (once-more labels l)
    ∙ bits (list_any (λ k. same_goal k.goal x.goal) labels) (same_goal l.goal x.goal) (are_once labels) (list_any (λ k. same_goal l.goal k.goal) labels)

-- the labels so far and one more
pub next-once : (labels : Labels) (i : ℕ) (l : Label) (own : Labels) → i < length labels → l ≡ get_or labels i l → own ≡ of_class (take i labels) l.goal.class
    → are_once (take (i + 1) labels) ≡ (are_once (take i labels) && not (list_any (λ k. same_goal l.goal k.goal) own))
next-once labels i l own inside at owns =
    ap are_once (take_more labels i l inside ∙ ap (λ x. take i labels ++ x ∷ []) (sym at)) ∙ once-more (take i labels) l
    ∙ ap (λ b. are_once (take i labels) && not b) (any-of-class l.goal (take i labels) ∙ ap (list_any (λ k. same_goal l.goal k.goal)) (sym owns))

none-any : (p : Label → Bool) (i : ℕ) (labels : Labels) → not (list_any p labels) ≡ true → not (list_any p (take i labels)) ≡ true
none-any p zero labels h = refl
none-any p (suc i) [] h = refl
none-any p (suc i) (l ∷ labels) h = by (none-any p i labels) (p l) h
  where
    by : (not (list_any p labels) ≡ true → not (list_any p (take i labels)) ≡ true) → (b : Bool) → not (b || list_any p labels) ≡ true → not (b || list_any p (take i labels)) ≡ true
    by rest true h = absurd (cc)
    by rest false h = rest h

some-once : (labels : Labels) (i : ℕ) → are_once labels ≡ true → are_once (take i labels) ≡ true
some-once labels zero h = refl
some-once [] (suc i) h = refl
some-once (l ∷ labels) (suc i) h =
    let both = and_parts (not (list_any (λ k. same_goal k.goal l.goal) labels)) (are_once labels) h in
    ap (λ b. b && are_once (take i labels)) (none-any (λ k. same_goal k.goal l.goal) i labels both.0) ∙ some-once labels i both.1

pub twice-among : (labels : Labels) (i : ℕ) (l : Label) (own : Labels) → i < length labels → l ≡ get_or labels i l → own ≡ of_class (take i labels) l.goal.class
    → list_any (λ k. same_goal l.goal k.goal) own ≡ true → are_once labels ≡ false
twice-among labels i l own inside at owns found = by (are_once labels) refl
  where
    and-false : (b : Bool) → (b && false) ≡ false
    and-false true = refl
    and-false false = refl

    twice : are_once (take (i + 1) labels) ≡ false
    twice = next-once labels i l own inside at owns ∙ ap (λ b. are_once (take i labels) && not b) found ∙ and-false (are_once (take i labels))

    by : (b : Bool) → are_once labels ≡ b → b ≡ false
    by true is = let never : true ≡ false = sym (some-once labels (i + 1) is) ∙ twice in cc
    by false is = refl

-- ---- elements of lists

pub at-all : {X : Type 0} (P : X → Type 0) (xs : List X) (i : ℕ) (x : X) → i < length xs → x ≡ get_or xs i x → AllByRecursion P xs → P x
at-all P [] i x lt at all = absurd (omega (arith, lt))
at-all P (y ∷ xs) zero x lt at all = subst P (sym at) all.0
at-all P (y ∷ xs) (suc i) x lt at all = at-all P xs i x (omega (arith, lt)) at all.1

-- ---- a label more in the list of its class

map-set : {X Y : Type 0} (f : X → Y) (xs : List X) (i : ℕ) (x : X) → map f (set xs i x) ≡ set (map f xs) i (f x)
map-set f [] i x = refl
map-set f (y ∷ xs) zero x = refl
map-set f (y ∷ xs) (suc i) x = ap (λ zs. f y ∷ zs) (map-set f xs i x)

one-of-class : (labels : Labels) (i : ℕ) (l : Label) (c : ℕ) → i < length labels → l ≡ get_or labels i l → of_class (take (i + 1) labels) c ≡ of_class (take i labels) c ++ cond (l.goal.class == c) (l ∷ []) []
one-of-class labels i l c inside at =
    ap (λ ls. of_class ls c) (take_more labels i l inside ∙ ap (λ x. take i labels ++ x ∷ []) (sym at)) ∙ filter-append (λ (l : Label). l.goal.class == c) (take i labels) (l ∷ [])

pub next-in : (labels : Labels) (i : ℕ) (l : Label) (lists news : List Labels) → i < length labels → l ≡ get_or labels i l → l.goal.class < length lists
    → news ≡ set lists l.goal.class (get_or lists l.goal.class [] ++ l ∷ []) → AreByClass (take i labels) lists → AreByClass (take (i + 1) labels) news
next-in labels i l lists news inside at low is before = λ c. ap (λ ls. get_or ls c []) is ∙ by c (l.goal.class == c) refl ∙ sym (one-of-class labels i l c inside at)
  where
    nil-append : (xs : Labels) → xs ++ [] ≡ xs
    nil-append [] = refl
    nil-append (x ∷ xs) = ap (λ ys. x ∷ ys) (nil-append xs)

    by : (c : ℕ) (t : Bool) → (l.goal.class == c) ≡ t → get_or (set lists l.goal.class (get_or lists l.goal.class [] ++ l ∷ [])) c [] ≡ of_class (take i labels) c ++ cond (l.goal.class == c) (l ∷ []) []
    by c true same =
        let here : l.goal.class ≡ c = eqb-true l.goal.class c same in
        ap (λ k. get_or (set lists l.goal.class (get_or lists l.goal.class [] ++ l ∷ [])) k []) (sym here)
        ∙ get_or-set_same lists l.goal.class (get_or lists l.goal.class [] ++ l ∷ []) [] low
        ∙ ap (λ ls. ls ++ l ∷ []) (before l.goal.class) ∙ ap (λ k. of_class (take i labels) k ++ l ∷ []) here
        ∙ sym (ap (λ b. of_class (take i labels) c ++ cond b (l ∷ []) []) same)
    by c false other =
        get_or-set_other lists l.goal.class c (get_or lists l.goal.class [] ++ l ∷ []) [] (λ e. let never : true ≡ false = sym (eq-eqb l.goal.class c (sym e)) ∙ other in cc)
        ∙ before c ∙ sym (nil-append (of_class (take i labels) c)) ∙ sym (ap (λ b. of_class (take i labels) c ++ cond b (l ∷ []) []) other)

-- the same of lists that are kept in another form
module _ {V : Type 0} (f : V → Labels) (vs : List V) where
  at-place : (c : ℕ) (own : V) → c < length vs → own ≡ get_or vs c own → f own ≡ get_or (map f vs) c []
  at-place c own lt at = ap f at ∙ sym (get_or-map f vs c own [] lt)

  pub own-list : (labels : Labels) (c : ℕ) (own : V) → c < length vs → own ≡ get_or vs c own → AreByClass labels (map f vs) → f own ≡ of_class labels c
  own-list labels c own lt at kept = at-place c own lt at ∙ kept c

  pub next-list : (labels : Labels) (i : ℕ) (l : Label) (own new : V) → i < length labels → l ≡ get_or labels i l → l.goal.class < length vs → own ≡ get_or vs l.goal.class own
      → f new ≡ f own ++ l ∷ [] → AreByClass (take i labels) (map f vs) → AreByClass (take (i + 1) labels) (map f (set vs l.goal.class new))
  next-list labels i l own new inside at low own_at news before =
      next-in labels i l (map f vs) (map f (set vs l.goal.class new)) inside at (omega (arith, low, length-map vs f))
      (map-set f vs l.goal.class new ∙ ap (set (map f vs) l.goal.class) (news ∙ ap (λ ls. ls ++ l ∷ []) (at-place l.goal.class own low own_at))) before

-- ---- all labels, class by class

module _ (P : Label → Type 0) where
  pub all-of-class : (labels : Labels) (c : ℕ) → AllByRecursion P labels → AllByRecursion P (of_class labels c)
  all-of-class [] c all = tt
  all-of-class (l ∷ labels) c all = by (all-of-class labels c all.1) (l.goal.class == c)
    where
      by : AllByRecursion P (of_class labels c) → (t : Bool) → AllByRecursion P (cond t (l ∷ of_class labels c) (of_class labels c))
      by rest true = (all.0, rest)
      by rest false = rest

  pub all-classes : (count : ℕ) (labels : Labels) → AllByRecursion (λ l. l.goal.class < count) labels → ((c : ℕ) → c < count → AllByRecursion P (of_class labels c)) → AllByRecursion P labels
  all-classes count [] low each = tt
  all-classes count (l ∷ labels) low each = (own, all-classes count labels low.1 (λ c lt. later c (l.goal.class == c) (each c lt)))
    where
      own : P l
      own = (subst (λ b. AllByRecursion P (cond b (l ∷ of_class labels l.goal.class) (of_class labels l.goal.class))) (eq-eqb l.goal.class l.goal.class refl) (each l.goal.class low.0)).0

      later : (c : ℕ) (t : Bool) → AllByRecursion P (cond t (l ∷ of_class labels c) (of_class labels c)) → AllByRecursion P (of_class labels c)
      later c true all = all.1
      later c false all = all
