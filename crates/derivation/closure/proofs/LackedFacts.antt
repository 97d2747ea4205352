-- A line that lacks none of the facts that are looked for lacks none at all.
use Rattle.std.proofs.Common.{◌≡◌, refl, ap, sym, ◌∙◌, inl, inr, subst, ℕ, ◌-◌, ◌≤◌, Bool, true, false, not, ◌&&◌, ◌||◌, List, [], ◌∷◌, ◌++◌, length, take, drop, get_or, map, slice_get, Option, Some, None, Vec, Global, arith}
use Rattle.std.proofs.lemmas.List.{take_all}
use Rattle.std.specs.Cmp.{both_ways}
use Rattle.std.specs.List.{AllByRecursion, list_any}
use Rattle.std.specs.List.Sorted.{IsStrictlyIncreasing}
use Rattle.std.proofs.lemmas.Bool.{and_parts, or_cases, or_left, or_right, false_from_ne_true}
use Rattle.query.specs.declared.query.TableInstance.{TableInstance}
use Rattle.algebra.specs.declared.expr.Expr.{Expr}
use Rattle.algebra.specs.declared.expr.Expr.TheVariants.{Get, Select, Join, LeftJoin, Semi, Anti, Keep, Distinct, Group}
use Rattle.algebra.specs.Columns.{has, is_subset, is_same_set, rising}
use Rattle.algebra.specs.Equality.{same_columns}
use Rattle.algebra.proofs.MentionedColumns.{each_has, all_has}
use Rattle.algebra.proofs.Same.{equal_columns}
use Rattle.algebra.proofs.Sets.{rising-again}
use Rattle.props.specs.declared.fact.Fact.{Fact}
use Rattle.props.specs.declared.fact.Fact.TheVariants.{NotNull, WeakKey, StrongKey}
use Rattle.props.specs.Facts.{fact_columns}
use Rattle.props.specs.Given as given
use Rattle.props.specs.Given.{at_places, by_table, gives, is_known, is_single, is_union}
use Rattle.props.specs.Keys.{Key, has_key}
use Rattle.props.specs.Knowledge.{Knowledge}
use Rattle.rules.specs.Matches as matches
use Rattle.rules.proofs.FormedShapes.{rising-equal}
use Rattle.closure.specs.Closed.{lacks_fact}
use Rattle.closure.specs.Learnt.{is_key, are_keys, joins_keys, may_be_key, LacksFact, HasKeys, HasColumn, Told, FactTold, KeysTold, EachTold, LineTold}
use Rattle.closure.proofs.Agreeing.{each-of}

-- ---- keys

-- columns in rising order are those of a list in rising order
key-is : (L C : Key) → IsStrictlyIncreasing L → is_same_set L C ≡ true → L ≡ rising C
key-is L C rise same =
    let parts = and_parts (is_subset L C) (is_subset C L) same in
    sym (rising-again L rise) ∙ rising-equal L C (λ k. both_ways (has L k) (has C k) (λ e. each_has (has C) L parts.0 k e) (λ e. each_has (has L) C parts.1 k e))

itself : (L : Key) → is_same_set L L ≡ true
itself L = let within = all_has (has L) L (λ k in_. in_) in ap (λ b. b && is_subset L L) within ∙ within

any-other : {X : Type 0} (p q : X → Bool) (xs : List X) → ((x : X) → p x ≡ true → q x ≡ true) → list_any p xs ≡ true → list_any q xs ≡ true
any-other p q [] to some = some
any-other p q (x ∷ xs) to some = elim (or_cases (p x) (list_any p xs) some) [
  | inl now ↦ or_left (q x) (list_any q xs) (to x now)
  | inr later ↦ or_right (q x) (list_any q xs) (any-other p q xs to later)
]

any-among : {X Y : Type 0} (p : Y → Bool) (f : X → Y) (xs : List X) → list_any (λ x. p (f x)) xs ≡ list_any p (map f xs)
any-among p f [] = refl
any-among p f (x ∷ xs) = ap (λ b. p (f x) || b) (any-among p f xs)

-- a key that is among others has the columns of one of them
among : (keys : List Key) (L : Key) → has_key keys L ≡ true → list_any (is_same_set L) keys ≡ true
among keys L is = any-other (λ k. same_columns k L) (is_same_set L) keys (λ k same. ap (is_same_set L) (equal_columns k L same) ∙ itself L) is

-- of a list what is so of the first and of the rest
pub all_from : {X : Type 0} (P : X → Type 0) (xs : List X) (x : X) → 1 ≤ length xs → x ≡ get_or xs 0 x → P x → AllByRecursion P (take (length xs - 1) (drop 1 xs)) → AllByRecursion P xs
all_from P [] x some is first rest = absurd (omega (arith, some))
all_from P (y ∷ ys) x some is first rest = (subst P is first, subst (AllByRecursion P) (take_all (length (y ∷ ys) - 1) ys (omega arith)) rest)

module _ (instances : List TableInstance) (K : Knowledge) (l : matches.Line) where
  -- ---- one fact

  pub known_isn't : (f : Fact) (b : Bool) → b ≡ is_known K l.class f → b ≡ true → lacks_fact instances K l f ≡ false
  known_isn't f b is yes_ = ap (λ k. not k && is_subset (fact_columns f) (K.columns l.class) && gives instances K l.class l.expr f) (sym is ∙ yes_)

  -- where nothing is found
  pub none_told : (P : Type 0) (o : Option Fact) → o ≡ None → Told instances K l P o → P
  none_told P (Some f) is told = cc
  none_told P None is told = told

  -- where something is
  pub some_told : (P : Type 0) (o : Option Fact) (f : Fact) → o ≡ Some f → Told instances K l P o → LacksFact instances K l f
  some_told P (Some g) f is told = let same : g ≡ f = cc in subst (LacksFact instances K l) same told
  some_told P None f is told = cc

  -- ---- lists of keys

  abbrev Has : (Key → Bool) → Type 0
  Has = HasKeys instances K l

  abbrev Each : {X : Type 0} → (X → Type 0) → List X → Option Fact → Type 0
  Each = EachTold instances K l

  abbrev Keys : (Key → Bool) → Option Fact → Type 0
  Keys = KeysTold instances K l

  pub key_told : (C key : Key) (found : Option Fact) → key ≡ rising C → lacks_fact instances K l (WeakKey key) ≡ false → FactTold instances K l (StrongKey key) found → Keys (λ L. is_same_set L C) found
  key_told C key (Some f) is weak strong = strong
  key_told C key None is weak strong = λ L rise same.
      let one : key ≡ L = is ∙ sym (key-is L C rise same) in
      record { weak = ap (λ L. lacks_fact instances K l (WeakKey L)) (sym one) ∙ weak; strong = ap (λ L. lacks_fact instances K l (StrongKey L)) (sym one) ∙ strong }

  any-has : {X : Type 0} (f : X → Key → Bool) (xs : List X) → AllByRecursion (λ x. Has (f x)) xs → Has (λ L. list_any (λ x. f x L) xs)
  any-has f [] all = λ L rise some. cc
  any-has f (x ∷ xs) all = λ L rise some. elim (or_cases (f x L) (list_any (λ x. f x L) xs) some) [
    | inl now ↦ all.0 L rise now
    | inr later ↦ any-has f xs all.1 L rise later
  ]

  told-any : {X : Type 0} (f : X → Key → Bool) (xs : List X) (found : Option Fact) → Each (λ x. Has (f x)) xs found → Keys (λ L. list_any (λ x. f x L) xs) found
  told-any f xs (Some g) told = told
  told-any f xs None told = any-has f xs told

  each-has : {X Y : Type 0} (f : X → Y → Key → Bool) (ys : List Y) (xs : List X) → AllByRecursion (λ x. AllByRecursion (λ y. Has (f x y)) ys) xs → AllByRecursion (λ x. Has (λ L. list_any (λ y. f x y L) ys)) xs
  each-has f ys [] all = tt
  each-has f ys (x ∷ xs) all = (any-has (f x) ys all.0, each-has f ys xs all.1)

  told-each : {X Y : Type 0} (f : X → Y → Key → Bool) (ys : List Y) (xs : List X) (found : Option Fact) → Each (λ x. AllByRecursion (λ y. Has (f x y)) ys) xs found → Keys (λ L. list_any (λ x. list_any (λ y. f x y L) ys) xs) found
  told-each f ys xs (Some g) told = told
  told-each f ys xs None told = any-has (λ x L. list_any (λ y. f x y L) ys) xs (each-has f ys xs told)

  told-within : (p q : Key → Bool) (found : Option Fact) → ((L : Key) → q L ≡ true → p L ≡ true) → Keys p found → Keys q found
  told-within p q (Some f) to told = told
  told-within p q None to told = λ L rise is. told L rise (to L is)

  -- those that pass either test
  pub told_also : (p q : Key → Bool) (found : Option Fact) → Has p → Keys q found → Keys (λ L. p L || q L) found
  told_also p q (Some f) first told = told
  told_also p q None first told = λ L rise is. elim (or_cases (p L) (q L) is) [
    | inl one ↦ first L rise one
    | inr other ↦ told L rise other
  ]

  module _ (known : List Key) (keys : List (Vec ℕ Global)) (are : (p : Key → Bool) → list_any (λ key. p key.items) keys ≡ list_any p known) where
    among-told : (found : Option Fact) → Each (λ q. Has (λ L. is_same_set L ([] ++ q.items))) keys found → Keys (λ L. has_key known L) found
    among-told found told = told-within _ _ found (λ L is. are (is_same_set L) ∙ among known L is) (told-any (λ q L. is_same_set L ([] ++ q.items)) keys found told)

    union-told : (more : List Key) (others : List (Vec ℕ Global)) → ((p : Key → Bool) → list_any (λ key. p key.items) others ≡ list_any p more) → (found : Option Fact)
        → Each (λ p. AllByRecursion (λ q. Has (λ L. is_same_set L (p.items ++ q.items))) others) keys found → Keys (is_union known more) found
    union-told more others are-others found told = told-within _ _ found
        (λ L is. are (λ one. list_any (λ q. is_same_set L (one ++ q.items)) others) ∙ ap (λ p. list_any p known) (λ i one. are-others (λ other. is_same_set L (one ++ other)) i) ∙ is)
        (told-each (λ p q L. is_same_set L (p.items ++ q.items)) others keys found told)

  module _ (g : ℕ) (weak strong : List (Vec ℕ Global))
      (are-weak : (p : Key → Bool) → list_any (λ key. p key.items) weak ≡ list_any p (K.facts g).weak_keys)
      (are-strong : (p : Key → Bool) → list_any (λ key. p key.items) strong ≡ list_any p (K.facts g).strong_keys) where
    pub known_told : (found : Option Fact) → AllByRecursion (λ q. Has (λ L. is_same_set L ([] ++ q.items))) weak → Each (λ q. Has (λ L. is_same_set L ([] ++ q.items))) strong found → Keys (is_key K g) found
    known_told found first told = told_also (λ L. is_known K g (WeakKey L)) (λ L. is_known K g (StrongKey L)) found (among-told (K.facts g).weak_keys weak are-weak None first) (among-told (K.facts g).strong_keys strong are-strong found told)

    module _ (h : ℕ) (weak-others strong-others : List (Vec ℕ Global))
        (are-weak-others : (p : Key → Bool) → list_any (λ key. p key.items) weak-others ≡ list_any p (K.facts h).weak_keys)
        (are-strong-others : (p : Key → Bool) → list_any (λ key. p key.items) strong-others ≡ list_any p (K.facts h).strong_keys) where
      pub unions_told : (found : Option Fact) → AllByRecursion (λ p. AllByRecursion (λ q. Has (λ L. is_same_set L (p.items ++ q.items))) weak-others) weak
          → Each (λ p. AllByRecursion (λ q. Has (λ L. is_same_set L (p.items ++ q.items))) strong-others) strong found → Keys (are_keys K g h) found
      unions_told found first told = told_also (is_union (K.facts g).weak_keys (K.facts h).weak_keys) (is_union (K.facts g).strong_keys (K.facts h).strong_keys) found
          (union-told (K.facts g).weak_keys weak are-weak (K.facts h).weak_keys weak-others are-weak-others None first)
          (union-told (K.facts g).strong_keys strong are-strong (K.facts h).strong_keys strong-others are-strong-others found told)

  -- unique lists
  pub unique_told : (t : TableInstance) (lists : List (Vec ℕ Global)) (found : Option Fact) → map (λ v. v.items) lists ≡ map (at_places t) t.entry.unique
      → Each (λ q. Has (λ L. is_same_set L ([] ++ q.items))) lists found → Keys (λ L. by_table (Some t) (WeakKey L)) found
  unique_told t lists found are told = told-within _ _ found
      (λ L is. any-among (is_same_set L) (λ v. v.items) lists ∙ ap (list_any (is_same_set L)) are ∙ sym (any-among (is_same_set L) (at_places t) t.entry.unique) ∙ is)
      (told-any (λ q L. is_same_set L ([] ++ q.items)) lists found told)

  -- ---- whatever a line gives

  or-three : (a b c d : Bool) → (a ≡ true → d ≡ true) → (b ≡ true → d ≡ true) → (c ≡ true → d ≡ true) → (a || b || c) ≡ true → d ≡ true
  or-three true b c d one two three is = one refl
  or-three false true c d one two three is = two refl
  or-three false false c d one two three is = three is

  left-key : (a b : ℕ) (L : Key) → is_key K a L ≡ true → joins_keys K a b L ≡ true
  left-key a b L is = or_left _ _ (or_left _ _ is)

  right-key : (a b : ℕ) (L : Key) → is_key K b L ≡ true → joins_keys K a b L ≡ true
  right-key a b L is = or_left _ _ (or_right (is_key K a L) _ is)

  both-keys : (a b : ℕ) (L : Key) → are_keys K a b L ≡ true → joins_keys K a b L ≡ true
  both-keys a b L is = or_right (is_key K a L || is_key K b L) _ is

  weak-key : (g : ℕ) (L : Key) → is_known K g (WeakKey L) ≡ true → is_key K g L ≡ true
  weak-key g L is = or_left _ _ is

  strong-key : (g : ℕ) (L : Key) → is_known K g (StrongKey L) ≡ true → is_key K g L ≡ true
  strong-key g L is = or_right (is_known K g (WeakKey L)) _ is

  weak-by-line : (x : Expr) (L : Key) → given.by_line instances K x (WeakKey L) ≡ true → may_be_key K instances x L ≡ true
  weak-by-line (Get o) L is = is
  weak-by-line (Select C x) L is = weak-key x L is
  weak-by-line (Join C a b) L is = or-three (given.by_side K C a b (WeakKey L)) (given.by_side K C b a (WeakKey L)) (is_union (K.facts a).weak_keys (K.facts b).weak_keys L) (joins_keys K a b L)
      (λ one. left-key a b L (weak-key a L (and_parts _ (is_single K b C) one).0))
      (λ two. right-key a b L (weak-key b L (and_parts _ (is_single K a C) two).0))
      (λ three. both-keys a b L (or_left _ (is_union (K.facts a).strong_keys (K.facts b).strong_keys L) three)) is
  weak-by-line (LeftJoin C a b) L is = elim (or_cases (given.by_side K C a b (WeakKey L)) (is_union (K.facts a).weak_keys (K.facts b).weak_keys L) is) [
    | inl one ↦ left-key a b L (weak-key a L (and_parts _ (is_single K b C) one).0)
    | inr two ↦ both-keys a b L (or_left _ (is_union (K.facts a).strong_keys (K.facts b).strong_keys L) two)
  ]
  weak-by-line (Semi C a b) L is = weak-key a L is
  weak-by-line (Anti S M a b) L is = weak-key a L is
  weak-by-line (Keep N x) L is = weak-key x L (and_parts _ (is_subset L N) is).0
  weak-by-line (Distinct x) L is = or_left _ _ (weak-key x L is)
  weak-by-line (Group N G x) L is = cc

  by-no-table : (o : Option TableInstance) (L : Key) → by_table o (StrongKey L) ≡ false
  by-no-table None L = refl
  by-no-table (Some t) L = refl

  strong-by-line : (x : Expr) (L : Key) → given.by_line instances K x (StrongKey L) ≡ true → may_be_key K instances x L ≡ true
  strong-by-line (Get o) L is = absurd (let never : false ≡ true = sym (by-no-table (slice_get instances o) L) ∙ is in cc)
  strong-by-line (Select C x) L is = strong-key x L is
  strong-by-line (Join C a b) L is = or-three (given.by_side K C a b (StrongKey L)) (given.by_side K C b a (StrongKey L)) (is_union (K.facts a).strong_keys (K.facts b).strong_keys L) (joins_keys K a b L)
      (λ one. left-key a b L (strong-key a L (and_parts _ (is_single K b C) one).0))
      (λ two. right-key a b L (strong-key b L (and_parts _ (is_single K a C) two).0))
      (λ three. both-keys a b L (or_right (is_union (K.facts a).weak_keys (K.facts b).weak_keys L) _ three)) is
  strong-by-line (LeftJoin C a b) L is = elim (or_cases (given.by_side K C a b (StrongKey L)) (is_union (K.facts a).strong_keys (K.facts b).strong_keys L) is) [
    | inl one ↦ left-key a b L (strong-key a L (and_parts _ (is_single K b C) one).0)
    | inr two ↦ both-keys a b L (or_right (is_union (K.facts a).weak_keys (K.facts b).weak_keys L) _ two)
  ]
  strong-by-line (Semi C a b) L is = strong-key a L is
  strong-by-line (Anti S M a b) L is = strong-key a L is
  strong-by-line (Keep N x) L is = strong-key x L (and_parts _ (is_subset L N) is).0
  strong-by-line (Distinct x) L is = elim (or_cases (is_known K x (StrongKey L)) (is_same_set L (K.columns x)) is) [
    | inl one ↦ or_left _ _ (strong-key x L one)
    | inr two ↦ or_right (is_key K x L) _ two
  ]
  strong-by-line (Group N G x) L is = is

  -- what is lacking is given
  is-given : (f : Fact) → lacks_fact instances K l f ≡ true → (given.by_others K l.class f || given.by_line instances K l.expr f) ≡ true
  is-given f is = (and_parts (given.is_short f) _ (and_parts (not (is_known K l.class f) && is_subset (fact_columns f) (K.columns l.class)) _ is).1).1

  module _ (all : Has (λ L. is_key K l.class L || may_be_key K instances l.expr L)) where
    no-weak : (L : Key) → IsStrictlyIncreasing L → lacks_fact instances K l (WeakKey L) ≡ true → ⊥
    no-weak L rise is =
        let key : (is_key K l.class L || may_be_key K instances l.expr L) ≡ true = elim (or_cases (is_known K l.class (StrongKey L)) (given.by_line instances K l.expr (WeakKey L)) (is-given (WeakKey L) is)) [
          | inl one ↦ or_left _ _ (strong-key l.class L one)
          | inr two ↦ or_right (is_key K l.class L) _ (weak-by-line l.expr L two)
        ] in
        let never : true ≡ false = sym is ∙ (all L rise key).weak in cc

    no-strong : (L : Key) → IsStrictlyIncreasing L → lacks_fact instances K l (StrongKey L) ≡ true → ⊥
    no-strong L rise is =
        let key : (is_key K l.class L || may_be_key K instances l.expr L) ≡ true = elim (or_cases (given.by_others K l.class (StrongKey L)) (given.by_line instances K l.expr (StrongKey L)) (is-given (StrongKey L) is)) [
          | inl one ↦ or_left _ _ (weak-key l.class L (and_parts (is_known K l.class (WeakKey L)) _ one).0)
          | inr two ↦ or_right (is_key K l.class L) _ (strong-by-line l.expr L two)
        ] in
        let never : true ≡ false = sym is ∙ (all L rise key).strong in cc

  no-column : AllByRecursion (HasColumn instances K l) (K.columns l.class) → (c : ℕ) → lacks_fact instances K l (NotNull c) ≡ true → ⊥
  no-column all c is =
      let within = (and_parts (not (is_known K l.class (NotNull c))) _ (and_parts (not (is_known K l.class (NotNull c)) && is_subset (c ∷ []) (K.columns l.class)) _ is).0).1 in
      let listed : has (K.columns l.class) c ≡ true = (and_parts _ _ within).0 in
      let never : true ≡ false = sym is ∙ each-of (HasColumn instances K l) (K.columns l.class) all c listed in cc

  pub line_told : (found : Option Fact) → AllByRecursion (HasColumn instances K l) (K.columns l.class) → Has (is_key K l.class) → Keys (may_be_key K instances l.expr) found → LineTold instances K l found
  line_told (Some f) columns own by_ = by_
  line_told None columns own by_ = each
    where
      all : Has (λ L. is_key K l.class L || may_be_key K instances l.expr L)
      all = told_also (is_key K l.class) (may_be_key K instances l.expr) None own by_

      each : (f : Fact) → IsStrictlyIncreasing (fact_columns f) → lacks_fact instances K l f ≡ false
      each (NotNull c) rise = false_from_ne_true _ (no-column columns c)
      each (WeakKey L) rise = false_from_ne_true _ (no-weak all L rise)
      each (StrongKey L) rise = false_from_ne_true _ (no-strong all L rise)
