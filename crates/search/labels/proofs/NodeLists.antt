-- Nodes of a line, added one by one: they are all that fit.
use Rattle.std.proofs.Common.{◌≡◌, refl, ap, sym, ◌∙◌, subst, ℕ, ◌+◌, ◌<◌, ◌≤◌, Bool, true, false, not, ◌&&◌, ◌||◌, ◌==◌, if◌then◌else◌, List, [], ◌∷◌, ◌++◌, length, take, get_or, Option, Some, None}
use Rattle.std.specs.List.{list_all}
use Rattle.std.proofs.lemmas.Bool.{and_parts, eq-eqb, eqb-true}
use Rattle.std.proofs.lemmas.List.{take_all}
use Rattle.std.proofs.lemmas.List.Folds.{list_all-append, list_all_more}
use Rattle.query.specs.declared.query.TableInstance.{TableInstance}
use Rattle.algebra.specs.declared.condition.Condition.{Condition}
use Rattle.algebra.specs.declared.expr.Expr.{Expr}
use Rattle.algebra.specs.declared.expr.Expr.TheVariants.{Get, Select, Join, LeftJoin, Semi, Anti, Keep, Distinct, Group}
use Rattle.algebra.specs.Equated.{equated}
use Rattle.algebra.specs.Expressions.{is_plain}
use Rattle.rules.specs.Matches as matches
use Rattle.derivation.specs.Logs.{Log, member}
use Rattle.physical.specs.declared.plan.IndexAccess.{IndexAccess}
use Rattle.physical.specs.declared.plan.JoinMethod.TheVariants as join
use Rattle.physical.specs.declared.plan.GroupMethod.TheVariants as group
use Rattle.physical.specs.declared.plan.Matching.{Matching}
use Rattle.physical.specs.declared.plan.Matching.TheVariants as matching
use Rattle.physical.specs.declared.plan.Operator.{Operator}
use Rattle.physical.specs.declared.plan.Operator.TheVariants.{Scan, IndexScan, Filter, FilterSubqueries, JoinRows, IndexJoin, GroupRows, DistinctRows}
use Rattle.physical.specs.declared.plan.Node.{Node}
use Rattle.physical.specs.declared.plan.Node.TheVariants.{Implements, Sort}
use Rattle.certificate.specs.Replay.{accesses}
use Rattle.labels.specs.Candidates.{AreAccesses, joins_hold, line_holds, merges_hold, scans_hold}
use Rattle.labels.specs.Nodes.{Adds, HasNodes, fits, fits_line, member_fits}
use Rattle.labels.proofs.Complete.{complete}

-- ---- truths

and-true : (b : Bool) → (b && true) ≡ b
and-true true = refl
and-true false = refl

and-assoc : (a b c : Bool) → ((a && b) && c) ≡ (a && (b && c))
and-assoc true b c = refl
and-assoc false b c = refl

and-so : (a b : Bool) → a ≡ true → b ≡ true → (a && b) ≡ true
and-so true true h k = refl
and-so true false h k = k
and-so false b h k = h

then-so : (b c : Bool) → (not b || c) ≡ true → b ≡ true → c ≡ true
then-so true c h e = h
then-so false c h e = absurd (cc)

so-then : (b c : Bool) → (b ≡ true → c ≡ true) → (not b || c) ≡ true
so-then true c h = h refl
so-then false c h = refl

all-so : {X : Type 0} (p : X → Bool) → ((x : X) → p x ≡ true) → (xs : List X) → list_all p xs ≡ true
all-so p h [] = refl
all-so p h (x ∷ xs) = and-so (p x) (list_all p xs) (h x) (all-so p h xs)

-- ---- nodes, one by one

pub one-more : (fit : Bool) (node : Node) (old new : List Node) → fit ≡ true → new ≡ old ++ node ∷ [] → Adds old new (λ p. not fit || p node)
one-more fit node old new is news = λ p.
    ap (list_all p) news ∙ list_all-append p old (node ∷ []) ∙ ap (λ b. list_all p old && b) (and-true (p node) ∙ sym (ap (λ b. not b || p node) is))

pub none-more : (so : Bool) (holds : (Node → Bool) → Bool) (old : List Node) → so ≡ false → Adds old old (λ p. not so || holds p)
none-more so holds old is = λ p. sym (ap (λ b. list_all p old && (not b || holds p)) is ∙ and-true (list_all p old))

pub nothing-more : (old : List Node) → Adds old old (λ p. true)
nothing-more old = λ p. sym (and-true (list_all p old))

pub more-where : (so : Bool) (holds : (Node → Bool) → Bool) (old new : List Node) → so ≡ true → Adds old new holds → Adds old new (λ p. not so || holds p)
more-where so holds old new is adds = λ p. adds p ∙ ap (λ b. list_all p old && (not b || holds p)) (sym is)

pub both-more : (f g : (Node → Bool) → Bool) (old mid new : List Node) → Adds old mid f → Adds mid new g → Adds old new (λ p. f p && g p)
both-more f g old mid new first second = λ p. second p ∙ ap (λ b. b && g p) (first p) ∙ and-assoc (list_all p old) (f p) (g p)

pub more-if : (so : Bool) (f g : (Node → Bool) → Bool) (old new : List Node) → so ≡ true → Adds old new f → Adds old new (λ p. if so then f p else g p)
more-if so f g old new is adds = subst (λ b. Adds old new (λ p. if b then f p else g p)) (sym is) adds

pub more-else : (so : Bool) (f g : (Node → Bool) → Bool) (old new : List Node) → so ≡ false → Adds old new g → Adds old new (λ p. if so then f p else g p)
more-else so f g old new is adds = subst (λ b. Adds old new (λ p. if b then f p else g p)) (sym is) adds

-- ---- one after the other of a list

module _ {X : Type 0} (h : (Node → Bool) → X → Bool) (xs : List X) where
  pub none-yet : (old : List Node) → Adds old old (λ p. list_all (h p) (take 0 xs))
  none-yet old = λ p. sym (and-true (list_all p old))

  pub read-more : (old mid new : List Node) (i : ℕ) (d : X) → i < length xs → Adds old mid (λ p. list_all (h p) (take i xs)) → Adds mid new (λ p. h p (get_or xs i d)) → Adds old new (λ p. list_all (h p) (take (i + 1) xs))
  read-more old mid new i d inside before now = λ p.
      both-more (λ p. list_all (h p) (take i xs)) (λ p. h p (get_or xs i d)) old mid new before now p ∙ ap (λ b. list_all p old && b) (sym (list_all_more (h p) xs i d inside))

  pub next-more : (old mid new : List Node) (i : ℕ) (x : X) → i < length xs → x ≡ get_or xs i x → Adds old mid (λ p. list_all (h p) (take i xs)) → Adds mid new (λ p. h p x) → Adds old new (λ p. list_all (h p) (take (i + 1) xs))
  next-more old mid new i x inside at before now = read-more old mid new i x inside before (subst (λ y. Adds mid new (λ p. h p y)) at now)

  pub all-more : (old new : List Node) (i : ℕ) → length xs ≤ i → Adds old new (λ p. list_all (h p) (take i xs)) → Adds old new (λ p. list_all (h p) xs)
  all-more old new i past adds = λ p. adds p ∙ ap (λ ys. list_all p old && list_all (h p) ys) (take_all i xs past)

-- ---- what holds of each operator holds of those of a line

module _ (q : Operator → Bool) (so : (o : Operator) → q o ≡ true) (E : Log) (list : List IndexAccess) where
  tried-hold : (b : IndexAccess → Bool) (o : IndexAccess → Operator) → list_all (λ a. not (b a) || q (o a)) list ≡ true
  tried-hold b o = all-so (λ a. not (b a) || q (o a)) (λ a. so-then (b a) (q (o a)) (λ is. so (o a))) list

  merges-so : (j : Matching) (pair : Option (ℕ × ℕ)) → merges_hold q j pair ≡ true
  merges-so j None = refl
  merges-so j (Some pair) = and-so (q (JoinRows (join.Merge pair.0 pair.1) j)) (q (JoinRows (join.Merge pair.1 pair.0) j)) (so _) (so _)

  joins-so : (j : Matching) (right : ℕ) → joins_hold q E list j right ≡ true
  joins-so j right =
      and-so (q (JoinRows join.NestedLoop j)) (q (JoinRows join.Hash j) && list_all (λ a. not (accesses E a right) || q (IndexJoin a j)) list) (so _)
      (and-so (q (JoinRows join.Hash j)) (list_all (λ a. not (accesses E a right) || q (IndexJoin a j)) list) (so _) (tried-hold (λ a. accesses E a right) (λ a. IndexJoin a j)))

  selects-so : (C : List Condition) (x : ℕ) (b : Bool) → (if b then q (Filter C) && scans_hold q E list C x else q (FilterSubqueries C)) ≡ true
  selects-so C x true = and-so (q (Filter C)) (scans_hold q E list C x) (so _) (tried-hold (λ a. accesses E a x) (λ a. IndexScan a C))
  selects-so C x false = so _

  line-so : (line : ℕ) (x : Expr) → line_holds q E list line x ≡ true
  line-so line (Get o) = and-so (q (Scan o)) (list_all (λ a. not (a.line == line) || q (IndexScan a [])) list) (so _) (tried-hold (λ a. a.line == line) (λ a. IndexScan a []))
  line-so line (Select C x) = selects-so C x (is_plain C)
  line-so line (Join C a b) =
      and-so (joins_hold q E list (matching.Inner C) b) (list_all (λ c. merges_hold q (matching.Inner C) (equated c)) C) (joins-so (matching.Inner C) b)
      (all-so (λ c. merges_hold q (matching.Inner C) (equated c)) (λ c. merges-so (matching.Inner C) (equated c)) C)
  line-so line (LeftJoin C a b) = joins-so (matching.Left C) b
  line-so line (Semi C a b) = joins-so (matching.Semi C) b
  line-so line (Anti S M a b) = joins-so (matching.Anti S M) b
  line-so line (Keep K x) = so _
  line-so line (Distinct x) = and-so (q (DistinctRows group.Hash)) (q (DistinctRows group.Sorted)) (so _) (so _)
  line-so line (Group K G x) = and-so (q (GroupRows group.Hash K G)) (q (GroupRows group.Sorted K G)) (so _) (so _)

-- ---- all of a line

module _ (instances : List TableInstance) (E : Log) (cols : ℕ → List ℕ) (list : List IndexAccess) (line : ℕ) where
  -- nothing fits a line that has no expression
  none-fits : member E line ≡ None → (node : Node) → fits_line instances E cols line node ≡ true → ⊥
  none-fits none (Sort keys) is = absurd (cc)
  none-fits none (Implements n o) is =
      let both = and_parts (n == line) (member_fits instances E cols n o (member E n)) is in
      let absent : member E n ≡ None = ap (member E) (eqb-true n line both.0) ∙ none in
      let never : false ≡ true = sym (ap (member_fits instances E cols n o) absent) ∙ both.1 in
      absurd (cc)

  pub no-nodes : member E line ≡ None → HasNodes instances E cols line []
  no-nodes none = λ p all node is. absurd (none-fits none node is)

  module _ (l : matches.Line) (there : member E line ≡ Some l) where
    abbrev pub if_fits : (Node → Bool) → Operator → Bool
    if_fits p o = not (fits instances E cols line o l.expr) || p (Implements line o)

    pub each-node : (nodes : List Node) → AreAccesses instances E list → Adds [] nodes (λ p. line_holds (if_fits p) E list line l.expr) → HasNodes instances E cols line nodes
    each-node nodes whole adds p all (Sort keys) is = absurd (cc)
    each-node nodes whole adds p all (Implements n o) is =
        let both = and_parts (n == line) (member_fits instances E cols n o (member E n)) is in
        let same : n ≡ line = eqb-true n line both.0 in
        let fit : fits instances E cols line o l.expr ≡ true
        = sym (ap (λ k. member_fits instances E cols k o (member E k)) same ∙ ap (member_fits instances E cols line o) there) ∙ both.1 in
        let held : line_holds (if_fits p) E list line l.expr ≡ true = sym (adds p) ∙ all in
        ap (λ k. p (Implements k o)) same ∙ then-so (fits instances E cols line o l.expr) (p (Implements line o)) (complete instances E cols list whole (if_fits p) line l there held o fit) fit

    pub all-fit : (nodes : List Node) → Adds [] nodes (λ p. line_holds (if_fits p) E list line l.expr) → list_all (fits_line instances E cols line) nodes ≡ true
    all-fit nodes adds = adds (fits_line instances E cols line) ∙ line-so (if_fits (fits_line instances E cols line)) so E list line l.expr
      where
        so : (o : Operator) → if_fits (fits_line instances E cols line) o ≡ true
        so o = so-then (fits instances E cols line o l.expr) (fits_line instances E cols line (Implements line o)) (λ fit.
            and-so (line == line) (member_fits instances E cols line o (member E line)) (eq-eqb line line refl) (ap (member_fits instances E cols line o) there ∙ fit))
