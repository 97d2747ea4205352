-- All nodes against all labels: those that fit a line of the class, and the sort by the label's own order, are enough.
use Rattle.std.proofs.Common.{◌≡◌, refl, ap, sym, ◌∙◌, subst, ℕ, zero, suc, ◌+◌, ◌<◌, Bool, true, false, not, ◌&&◌, ◌||◌, ◌==◌, if◌then◌else◌, List, [], ◌∷◌, cond, map, length, take, get_or, ◌++◌, Option, Some, None, Bor, below_more, arith}
use Rattle.std.specs.Prelude.{IsTrue, ◌↔◌}
use Rattle.std.specs.List.{AllByRecursion, list_all}
use Rattle.std.proofs.lemmas.Bool.{and_parts, eq-eqb, eqb-true}
use Rattle.std.proofs.lemmas.List.{take_more}
use Rattle.query.specs.declared.query.TableInstance.{TableInstance}
use Rattle.algebra.specs.Columns.{has, columns_at}
use Rattle.rules.specs.Matches as matches
use Rattle.derivation.specs.Logs.{Log, are_same, founds, line_at, is_founding, least, member}
use Rattle.derivation.proofs.Lookups.{within}
use Rattle.derivation.specs.declared.line.Line.{Line}
use Rattle.logs.specs.Members as members
use Rattle.logs.specs.Sets.{times}
use Rattle.logs.proofs.Times.{times-none}
use Rattle.physical.specs.declared.plan.OrderKey.{OrderKey}
use Rattle.physical.specs.declared.plan.Operator.{Operator}
use Rattle.physical.specs.declared.plan.Node.{Node}
use Rattle.physical.specs.declared.plan.Node.TheVariants.{Implements, Sort}
use Rattle.physical.specs.RequiredOrders.{same_order}
use Rattle.costs.specs.Cardinalities.{rows_at}
use Rattle.labels.specs.declared.bounds.Labelling.{Labelling}
use Rattle.labels.specs.declared.goal.Label.{Label}
use Rattle.labels.specs.Bounding.{IsKeptByAll, LineKeeps, keeps}
use Rattle.labels.specs.ByClass.{of_class}
use Rattle.labels.specs.Labels.{Labels, is_bounded}
use Rattle.labels.specs.Nodes.{HasNodes, fits, fits_line, is_of_line, member_fits, node_fits}
use Rattle.labels.specs.Offers.{goal_of, input_goals, is_any, is_goal, member_goals, operator_goals, where_so}
use Rattle.labels.proofs.Bucketed.{all-classes, all-of-class}
use Rattle.labels.proofs.Least.{same_order-equal}

-- ---- truths

and-so : (a b : Bool) → a ≡ true → b ≡ true → (a && b) ≡ true
and-so true true h k = refl
and-so true false h k = k
and-so false b h k = h

pub all-weaker : {X : Type 0} (p q : X → Bool) → ((x : X) → p x ≡ true → q x ≡ true) → (xs : List X) → list_all p xs ≡ true → list_all q xs ≡ true
all-weaker p q h [] all = refl
all-weaker p q h (x ∷ xs) all =
    let both = and_parts (p x) (list_all p xs) all in
    and-so (q x) (list_all q xs) (h x both.0) (all-weaker p q h xs both.1)

pub at-list : {X : Type 0} (p : X → Bool) (xs : List X) (i : ℕ) (x : X) → i < length xs → x ≡ get_or xs i x → list_all p xs ≡ true → p x ≡ true
at-list p [] i x lt at all = absurd (omega (arith, lt))
at-list p (y ∷ xs) zero x lt at all = ap p at ∙ (and_parts (p y) (list_all p xs) all).0
at-list p (y ∷ xs) (suc i) x lt at all = at-list p xs i x (omega (arith, lt)) at (and_parts (p y) (list_all p xs) all).1

-- the element at a place, and one more of a list
pub read-all : {X : Type 0} (P : X → Type 0) (xs : List X) (i : ℕ) (d : X) → i < length xs → AllByRecursion P xs → P (get_or xs i d)
read-all P [] i d lt all = absurd (omega (arith, lt))
read-all P (y ∷ xs) zero d lt all = all.0
read-all P (y ∷ xs) (suc i) d lt all = read-all P xs i d (omega (arith, lt)) all.1

pub read-next : {X : Type 0} (P : X → Type 0) (xs : List X) (i : ℕ) (d : X) → i < length xs → AllByRecursion P (take i xs) → P (get_or xs i d) → AllByRecursion P (take (i + 1) xs)
read-next {X = X} P xs i d lt all this = subst (AllByRecursion P) (sym (take_more xs i d lt)) (push (take i xs) all)
  where
    push : (ys : List X) → AllByRecursion P ys → AllByRecursion P (ys ++ get_or xs i d ∷ [])
    push [] all = (this, tt)
    push (y ∷ ys) all = (all.0, push ys all.1)

-- a part that doesn't hold
pub lost-line : {X : Type 0} (P : X → Type 0) (xs : List X) (i : ℕ) (d : X) → i < length xs → (b : Bool) → b ≡ false → (IsTrue b ↔ P (get_or xs i d)) → IsTrue false ↔ AllByRecursion P xs
lost-line P xs i d lt b other same = (λ so. absurd (cc), λ all. sym other ∙ same.1 (read-all P xs i d lt all))

-- ---- a line

module _ (by : Labelling) where
  abbrev instances : List TableInstance
  instances = by.derived.log.now.instances

  abbrev E : Log
  E = by.derived.log.now.log

  abbrev cols : ℕ → List ℕ
  cols = columns_at by.derived.columns.now

  pub fit-nodes : (line : ℕ) (nodes : List Node) → list_all (fits_line instances E cols line) nodes ≡ true → list_all (node_fits instances E cols) nodes ≡ true
  fit-nodes line nodes = all-weaker (fits_line instances E cols line) (node_fits instances E cols) (λ node is. (and_parts (is_of_line line node) (node_fits instances E cols node) is).1) nodes

  pub line-kept : (labels : Labels) (line : ℕ) (nodes : List Node) (b : Bool) → HasNodes instances E cols line nodes → list_all (fits_line instances E cols line) nodes ≡ true
      → b ≡ list_all (λ node. list_all (λ l. keeps by l node) labels) nodes → IsTrue b ↔ LineKeeps by labels line
  line-kept labels line nodes b each fit is = (
    λ so node fits. each (λ node. list_all (λ l. keeps by l node) labels) (sym is ∙ so) node fits,
    λ all. is ∙ all-weaker (fits_line instances E cols line) (λ node. list_all (λ l. keeps by l node) labels) all nodes fit,
  )

  -- ---- nodes that aren't offered

  bound-none : (l : Label) (node : Node) → input_goals instances E cols l.goal node ≡ None → keeps by l node ≡ true
  bound-none l node none = ap (is_bounded by.statistics.now instances (rows_at by.cardinalities) by.labels.now l node) none

  no-member : (l : Label) (line : ℕ) (o : Operator) → members.is_member E l.goal.class line ≡ false → keeps by l (Implements line o) ≡ true
  no-member l line o other = bound-none l (Implements line o) (with (member E line) other)
    where
      with : (found : Option matches.Line) → members.is_of E l.goal.class found ≡ false → member_goals instances E cols l.goal line o found ≡ None
      with None is = refl
      with (Some m) is = ap (λ b. if b then operator_goals instances E cols l.goal.order line o m.expr else None) is

  no-fit : (l : Label) (line : ℕ) (o : Operator) → node_fits instances E cols (Implements line o) ≡ false → keeps by l (Implements line o) ≡ true
  no-fit l line o other = bound-none l (Implements line o) (with (member E line) other)
    where
      none-if : {X : Type 0} (b : Bool) (o : Option X) → b ≡ false → (if b then o else None) ≡ None
      none-if true o is = absurd (cc)
      none-if false o is = refl

      either : {X : Type 0} (b : Bool) (o : X) → (if b then o else o) ≡ o
      either true o = refl
      either false o = refl

      with : (found : Option matches.Line) → member_fits instances E cols line o found ≡ false → member_goals instances E cols l.goal line o found ≡ None
      with None is = refl
      with (Some m) is = ap (λ g. if are_same E m.class l.goal.class then g else None) (none-if (fits instances E cols line o m.expr) _ is) ∙ either (are_same E m.class l.goal.class) None

  no-sort : (l : Label) (keys : List OrderKey) → (not (is_any l.goal.order) && same_order keys l.goal.order) ≡ false → keeps by l (Sort keys) ≡ true
  no-sort l keys other = bound-none l (Sort keys) (ap (λ b. where_so b (goal_of E l.goal.class [] ∷ [])) other)

  -- ---- the labels of a class

  module _ (c : ℕ) where
    abbrev AllLines : Labels → Type 0
    AllLines labels = (line : ℕ) → members.is_member E c line ≡ true → LineKeeps by labels line

    later-lines : (l : Label) (labels : Labels) → AllLines (l ∷ labels) → AllLines labels
    later-lines l labels all = λ line is node fits. (and_parts (keeps by l node) (list_all (λ l. keeps by l node) labels) (all line is node fits)).1

    first-lines : (l : Label) (labels : Labels) → l.goal.class ≡ c → AllLines (l ∷ labels) → (line : ℕ) (o : Operator) → keeps by l (Implements line o) ≡ true
    first-lines l labels own all line o = of-class (members.is_member E c line) refl
      where
        fitting : members.is_member E c line ≡ true → (t : Bool) → node_fits instances E cols (Implements line o) ≡ t → keeps by l (Implements line o) ≡ true
        fitting is true fits =
            (and_parts (keeps by l (Implements line o)) (list_all (λ l. keeps by l (Implements line o)) labels)
            (all line is (Implements line o) (and-so (line == line) (node_fits instances E cols (Implements line o)) (eq-eqb line line refl) fits))).0
        fitting is false other = no-fit l line o other

        of-class : (t : Bool) → members.is_member E c line ≡ t → keeps by l (Implements line o) ≡ true
        of-class true is = fitting is (node_fits instances E cols (Implements line o)) refl
        of-class false other = no-member l line o (ap (λ k. members.is_member E k line) own ∙ other)

    by-order : (l : Label) → keeps by l (Sort l.goal.order) ≡ true → (keys : List OrderKey) → keeps by l (Sort keys) ≡ true
    by-order l own keys = so (not (is_any l.goal.order) && same_order keys l.goal.order) refl
      where
        so : (t : Bool) → (not (is_any l.goal.order) && same_order keys l.goal.order) ≡ t → keeps by l (Sort keys) ≡ true
        so true is = ap (λ ks. keeps by l (Sort ks)) (same_order-equal keys l.goal.order (and_parts (not (is_any l.goal.order)) (same_order keys l.goal.order) is).1) ∙ own
        so false other = no-sort l keys other

    all-kept : (labels : Labels) → list_all (λ l. l.goal.class == c) labels ≡ true → AllLines labels → list_all (λ l. keeps by l (Sort l.goal.order)) labels ≡ true → AllByRecursion (IsKeptByAll by) labels
    all-kept [] own lines sorts = tt
    all-kept (l ∷ labels) own lines sorts =
        let owns = and_parts (l.goal.class == c) (list_all (λ l. l.goal.class == c) labels) own in
        let sort_ = and_parts (keeps by l (Sort l.goal.order)) (list_all (λ l. keeps by l (Sort l.goal.order)) labels) sorts in
        (each (eqb-true l.goal.class c owns.0) sort_.0, all-kept labels owns.1 (later-lines l labels lines) sort_.1)
      where
        each : l.goal.class ≡ c → keeps by l (Sort l.goal.order) ≡ true → IsKeptByAll by l
        each own sort_ (Implements line o) = first-lines l labels own lines line o
        each own sort_ (Sort keys) = by-order l sort_ keys

  -- what all nodes keep a given node keeps
  kept-at : (f : Label → Node) (labels : Labels) → AllByRecursion (IsKeptByAll by) labels → list_all (λ l. keeps by l (f l)) labels ≡ true
  kept-at f [] all = refl
  kept-at f (l ∷ labels) all = and-so (keeps by l (f l)) (list_all (λ l. keeps by l (f l)) labels) (all.0 (f l)) (kept-at f labels all.1)

  own-class : (labels : Labels) (c : ℕ) → list_all (λ l. l.goal.class == c) (of_class labels c) ≡ true
  own-class [] c = refl
  own-class (l ∷ labels) c = with (own-class labels c) (l.goal.class == c) refl
    where
      with : list_all (λ l. l.goal.class == c) (of_class labels c) ≡ true → (t : Bool) → (l.goal.class == c) ≡ t → list_all (λ l. l.goal.class == c) (cond t (l ∷ of_class labels c) (of_class labels c)) ≡ true
      with rest true is = and-so (l.goal.class == c) (list_all (λ l. l.goal.class == c) (of_class labels c)) is rest
      with rest false is = rest

  -- ---- the lines of a class, as they are listed

  module _ (c : ℕ) (labels : Labels) (lines : List ℕ) (exact : (n : ℕ) → times n lines ≡ members.once_if (members.is_member E c n)) (own : labels ≡ of_class by.labels.now c) where
    listed : (n : ℕ) → members.is_member E c n ≡ true → has lines n ≡ true
    listed n is = with (has lines n) refl
      where
        with : (t : Bool) → has lines n ≡ t → t ≡ true
        with true at = refl
        with false at = absurd (let never : 0 ≡ members.once_if true = sym (times-none n lines at) ∙ exact n ∙ ap members.once_if is in cc)

    at-listed : (P : ℕ → Type 0) (some : List ℕ) (n : ℕ) → AllByRecursion P some → has some n ≡ true → P n
    at-listed P [] n all is = absurd (cc)
    at-listed P (m ∷ some) n all is = with (at-listed P some n all.1) (m == n) refl is
      where
        with : (has some n ≡ true → P n) → (t : Bool) → (m == n) ≡ t → (t || has some n) ≡ true → P n
        with later true same h = subst P (eqb-true m n same) all.0
        with later false other h = later h

    keep-lines : (some : List ℕ) → AllByRecursion (IsKeptByAll by) labels → AllByRecursion (LineKeeps by labels) some
    keep-lines [] all = tt
    keep-lines (n ∷ some) all = (λ node fits. kept-at (λ l. node) labels all, keep-lines some all)

    pub class-kept : (b : Bool) → b ≡ list_all (λ l. keeps by l (Sort l.goal.order)) labels → AllByRecursion (LineKeeps by labels) lines → IsTrue b ↔ AllByRecursion (IsKeptByAll by) (of_class by.labels.now c)
    class-kept b is all = (
      λ so. subst (AllByRecursion (IsKeptByAll by)) own (all-kept c labels (ap (list_all (λ l. l.goal.class == c)) own ∙ own-class by.labels.now c) (λ n member_. at-listed (LineKeeps by labels) lines n all (listed n member_)) (sym is ∙ so)),
      λ kept. is ∙ kept-at (λ l. Sort l.goal.order) labels (subst (AllByRecursion (IsKeptByAll by)) (sym own) kept),
    )

    pub class-lost : (b : Bool) → b ≡ false → (IsTrue b ↔ AllByRecursion (LineKeeps by labels) lines) → IsTrue false ↔ AllByRecursion (IsKeptByAll by) (of_class by.labels.now c)
    class-lost b other same = (λ so. absurd (cc), λ kept. sym other ∙ same.1 (keep-lines lines (subst (AllByRecursion (IsKeptByAll by)) (sym own) kept)))

  pub none-of-class : (c : ℕ) → of_class by.labels.now c ≡ [] → IsTrue true ↔ AllByRecursion (IsKeptByAll by) (of_class by.labels.now c)
  none-of-class c none = (λ so. subst (AllByRecursion (IsKeptByAll by)) (sym none) tt, λ all. refl)

  pub no-labels : (c : ℕ) (lent : List (Bor Label)) → map (λ l. l.now) lent ≡ of_class by.labels.now c → (length lent == 0) ≡ true → IsTrue true ↔ AllByRecursion (IsKeptByAll by) (of_class by.labels.now c)
  no-labels c [] is none = (λ so. subst (AllByRecursion (IsKeptByAll by)) is tt, λ all. refl)
  no-labels c (l ∷ lent) is none = absurd (let e = eqb-true (length (l ∷ lent)) 0 none in omega (arith, e))

  -- ---- all classes

  pub lost-class : (c : ℕ) (b : Bool) → b ≡ false → (IsTrue b ↔ AllByRecursion (IsKeptByAll by) (of_class by.labels.now c)) → IsTrue false ↔ AllByRecursion (IsKeptByAll by) by.labels.now
  lost-class c b other same = (λ so. absurd (cc), λ all. sym other ∙ same.1 (all-of-class (IsKeptByAll by) by.labels.now c all))

  pub classes-kept : (count : ℕ) → AllByRecursion (λ l. l.goal.class < count) by.labels.now → ((c : ℕ) → c < count → AllByRecursion (IsKeptByAll by) (of_class by.labels.now c)) → IsTrue true ↔ AllByRecursion (IsKeptByAll by) by.labels.now
  classes-kept count low each = (λ so. all-classes (IsKeptByAll by) count by.labels.now low each, λ all. refl)

-- the classes before one, and that one
pub class-more : (P : ℕ → Type 0) (n : ℕ) → ((c : ℕ) → c < n → P c) → P n → (c : ℕ) → c < n + 1 → P c
class-more P n before here = below_more P n before here

-- ---- classes below the length of the log

founded-within : (E : Log) (g : ℕ) → founds E g ≡ true → g < length E
founded-within E g is = with (line_at E g) refl is
  where
    with : (o : Option Line) → line_at E g ≡ o → is_founding o ≡ true → g < length E
    with None at is = absurd (cc)
    with (Some l) at is = within E g l at

pub goals-within : (E : Log) (cols : ℕ → List ℕ) (labels : Labels) → list_all (λ l. is_goal E cols l.goal) labels ≡ true → AllByRecursion (λ l. l.goal.class < length E) labels
goals-within E cols [] all = tt
goals-within E cols (l ∷ labels) all =
    let both = and_parts (is_goal E cols l.goal) (list_all (λ l. is_goal E cols l.goal) labels) all in
    let founded = and_parts (founds E l.goal.class) (least E l.goal.class == l.goal.class) (and_parts (founds E l.goal.class && (least E l.goal.class == l.goal.class)) _ both.0).0 in
    (founded-within E l.goal.class founded.0, goals-within E cols labels both.1)
