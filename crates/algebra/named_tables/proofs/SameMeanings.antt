-- A query means the same over tables that agree where it names them.
use Rattle.std.proofs.Common.{◌≡◌, refl, ap, sym, ◌∙◌, ℕ, zero, suc, ◌==◌, Bool, true, false, ◌&&◌, ◌||◌, List, [], ◌∷◌, ◌++◌, map, filter, flat_map, not, Option, Some, None, option_map, slice_get}
use Rattle.std.proofs.lemmas.Bool.{and_parts}
use Rattle.std.specs.List.{AllByRecursion, list_all}
use mathlib.Core.Path.{fun_ext}
use Rattle.values.specs.Truth.{negation, truth_of, is_true}
use Rattle.schema.specs.Databases.{Row}
use Rattle.query.specs.declared.query.Term.{Term}
use Rattle.query.specs.declared.query.TableReference.{TableReference}
use Rattle.query.specs.declared.query.TableInstance.{TableInstance}
use Rattle.query.specs.declared.query.Cond.{Cond}
use Rattle.query.specs.declared.query.Cond.TheVariants as cond
use Rattle.query.specs.declared.query.From.{From}
use Rattle.query.specs.declared.query.From.TheVariants as from
use Rattle.query.specs.declared.query.Block.{Block}
use Rattle.query.specs.Rows.{Env, Tables, term_value, nulls, count}
use Rattle.query.specs.Bound.{Scope, CondScope, cond_scope, from_scope, block_scope, bound_filter, instance_numbers, names_instance, is_named_by}
use Rattle.query.specs.Meaning.{truth, source, rows, all_of, any_of, is_empty, equals_row, passes, passes_filter, pairs_of, matches, padded, or_else_row, shown}
use Rattle.query.proofs.Equations.{truth-Compare, truth-IsNull, truth-Not, truth-And, truth-Or, truth-Exists, truth-In, source-Table, source-Join, source-LeftJoin, source-Comma, rows-Block}
use Rattle.query.proofs.ScopeEquations.{scope-Not, scope-And, scope-Or, scope-Exists, scope-In, scope-Table, scope-Join, scope-LeftJoin, scope-Comma, scope-Block}
use Rattle.frame.proofs.Induction.{Steps, OfFilter, each-block}
use Rattle.named_tables.specs.Names.{has_instance, OthersDoNotCount}

-- ---- lists

flat_map-same : (f g : Row → List Row) → ((r : Row) → f r ≡ g r) → (L : List Row) → flat_map f L ≡ flat_map g L
flat_map-same f g same L = ap (λ (h : Row → List Row). flat_map h L) (fun_ext same)

filter-same : (p q : Row → Bool) → ((r : Row) → p r ≡ q r) → (L : List Row) → filter p L ≡ filter q L
filter-same p q same L = ap (λ (h : Row → Bool). filter h L) (fun_ext same)

-- ---- instances

either-way : (a b : Bool) → b ≡ true → a || b ≡ true
either-way true b h = refl
either-way false b h = h

named-at : (instances : List TableInstance) (k : ℕ) (o : TableReference) → is_named_by (slice_get instances k) o ≡ true → has_instance instances o.table ≡ true
named-at [] k o h = cc
named-at (t ∷ instances) zero o h = rw h refl
named-at (t ∷ instances) (suc k) o h = either-way (t.table == o.table) (has_instance instances o.table) (named-at instances k o h)

module _ (instances : List TableInstance) (D E : Tables) (rows-are : (n : ℕ) → has_instance instances n ≡ true → D.rows n ≡ E.rows n)
    (width-is : (n : ℕ) → has_instance instances n ≡ true → D.width n ≡ E.width n) where
  abbrev SameCond : Cond → Type 0
  SameCond c = (scope : Scope) → (cond_scope instances c).bound scope ≡ true → (e : Env) → truth c D e ≡ truth c E e

  abbrev SameFrom : From → Type 0
  SameFrom f = (scope : Scope) → (from_scope instances f).bound scope ≡ true → (e : Env) → source f D e ≡ source f E e

  abbrev SameBlock : Block → Type 0
  SameBlock q = (scope : Scope) → (block_scope instances q).bound scope ≡ true → (e : Env) → rows q D e ≡ rows q E e

  -- ---- conditions

  truths-same : (e : Env) (scope : Scope) (cs : List Cond) → AllByRecursion SameCond cs → list_all (λ (c : CondScope). c.bound scope) (map (cond_scope instances) cs) ≡ true
      → map (λ c. truth c D e) cs ≡ map (λ c. truth c E e) cs
  truths-same e scope [] all h = refl
  truths-same e scope (c ∷ cs) all h =
      let parts = and_parts ((cond_scope instances c).bound scope) _ h in
      cc (all.0 scope parts.0 e, truths-same e scope cs all.1 parts.1)

  same-not : (c : Cond) → SameCond c → SameCond (cond.Not c)
  same-not c same scope h e =
      truth-Not c D e ∙ ap negation (same scope (sym (ap (λ (s : CondScope). s.bound scope) (scope-Not instances c)) ∙ h) e) ∙ sym (truth-Not c E e)

  same-and : (cs : List Cond) → AllByRecursion SameCond cs → SameCond (cond.And cs)
  same-and cs all scope h e =
      truth-And cs D e ∙ ap all_of (truths-same e scope cs all (sym (ap (λ (s : CondScope). s.bound scope) (scope-And instances cs)) ∙ h)) ∙ sym (truth-And cs E e)

  same-or : (cs : List Cond) → AllByRecursion SameCond cs → SameCond (cond.Or cs)
  same-or cs all scope h e =
      truth-Or cs D e ∙ ap any_of (truths-same e scope cs all (sym (ap (λ (s : CondScope). s.bound scope) (scope-Or instances cs)) ∙ h)) ∙ sym (truth-Or cs E e)

  same-exists : (q : Block) → SameBlock q → SameCond (cond.Exists q)
  same-exists q same scope h e =
      truth-Exists q D e ∙ ap (λ (L : List Row). truth_of (not (is_empty L))) (same scope (sym (ap (λ (s : CondScope). s.bound scope) (scope-Exists instances q)) ∙ h) e) ∙ sym (truth-Exists q E e)

  same-in : (a : Term) (q : Block) → SameBlock q → SameCond (cond.In a q)
  same-in a q same scope h e =
      let behind = (and_parts _ _ (sym (ap (λ (s : CondScope). s.bound scope) (scope-In instances a q)) ∙ h)).1 in
      let bound = (and_parts _ _ behind).1 in
      truth-In a q D e ∙ ap (λ (L : List Row). any_of (map (equals_row (term_value a e)) L)) (same scope bound e) ∙ sym (truth-In a q E e)

  -- ---- FROMs

  passes-same : (c : Cond) (e : Env) → ((d : Env) → truth c D d ≡ truth c E d) → (s : Row) → passes (truth c) D e s ≡ passes (truth c) E e s
  passes-same c e same s = ap is_true (same (s ∷ e))

  matches-same : (c : Cond) (e : Env) (n : ℕ) → ((d : Env) → truth c D d ≡ truth c E d) → has_instance instances n ≡ true → (l : Row) → matches (truth c) n D e l ≡ matches (truth c) n E e l
  matches-same c e n same h l =
      filter-same (passes (truth c) D e) (passes (truth c) E e) (passes-same c e same) (pairs_of l (D.rows n))
      ∙ ap (λ (R : List Row). filter (passes (truth c) E e) (pairs_of l R)) (rows-are n h)

  padded-same : (c : Cond) (e : Env) (n : ℕ) → ((d : Env) → truth c D d ≡ truth c E d) → has_instance instances n ≡ true → (l : Row) → padded (truth c) n D e l ≡ padded (truth c) n E e l
  padded-same c e n same h l =
      ap (λ (w : ℕ). or_else_row (l ++ nulls w) (matches (truth c) n D e l)) (width-is n h)
      ∙ ap (or_else_row (l ++ nulls (E.width n))) (matches-same c e n same h l)

  same-table : (o : TableReference) → SameFrom (from.Table o)
  same-table o scope h e =
      source-Table o D e ∙ rows-are o.table (named-at instances o.number o (sym (ap (λ s. s.bound scope) (scope-Table instances o)) ∙ h)) ∙ sym (source-Table o E e)

  -- what is known of a join whose names are there
  record JoinBound (f : From) (o : TableReference) (on : Cond) (scope : Scope) : Type 0 where
    left : (from_scope instances f).bound scope ≡ true
    named : has_instance instances o.table ≡ true
    asked : (cond_scope instances on).bound (((from_scope instances f).numbers ++ instance_numbers instances o) ∷ scope) ≡ true

  join-bound : (f : From) (o : TableReference) (on : Cond) (scope : Scope)
      → (from_scope instances f).bound scope && (names_instance instances o && ((cond_scope instances on).plain && (cond_scope instances on).bound (((from_scope instances f).numbers ++ instance_numbers instances o) ∷ scope))) ≡ true
      → JoinBound f o on scope
  join-bound f o on scope h =
      let first = and_parts ((from_scope instances f).bound scope) _ h in
      let second = and_parts (names_instance instances o) _ first.1 in
      let third = and_parts ((cond_scope instances on).plain) _ second.1 in
      record { left = first.0; named = named-at instances o.number o second.0; asked = third.1 }

  same-join : (f : From) (o : TableReference) (on : Cond) → SameFrom f → SameCond on → SameFrom (from.Join f o on)
  same-join f o on same asked scope h e =
      let b = join-bound f o on scope (sym (ap (λ s. s.bound scope) (scope-Join instances f o on)) ∙ h) in
      source-Join f o on D e
      ∙ flat_map-same _ _ (matches-same on e o.table (asked _ b.asked) b.named) (source f D e)
      ∙ ap (flat_map (matches (truth on) o.table E e)) (same scope b.left e)
      ∙ sym (source-Join f o on E e)

  same-left_join : (f : From) (o : TableReference) (on : Cond) → SameFrom f → SameCond on → SameFrom (from.LeftJoin f o on)
  same-left_join f o on same asked scope h e =
      let b = join-bound f o on scope (sym (ap (λ s. s.bound scope) (scope-LeftJoin instances f o on)) ∙ h) in
      source-LeftJoin f o on D e
      ∙ flat_map-same _ _ (padded-same on e o.table (asked _ b.asked) b.named) (source f D e)
      ∙ ap (flat_map (padded (truth on) o.table E e)) (same scope b.left e)
      ∙ sym (source-LeftJoin f o on E e)

  same-comma : (f g : From) → SameFrom f → SameFrom g → SameFrom (from.Comma f g)
  same-comma f g left right scope h e =
      let parts = and_parts ((from_scope instances f).bound scope) _ (sym (ap (λ s. s.bound scope) (scope-Comma instances f g)) ∙ h) in
      source-Comma f g D e
      ∙ ap (λ (R : List Row). flat_map (λ l. pairs_of l R) (source f D e)) (right scope parts.1 e)
      ∙ ap (flat_map (λ l. pairs_of l (source g E e))) (left scope parts.0 e)
      ∙ sym (source-Comma f g E e)

  -- ---- blocks

  filter-is : (c : Option Cond) (scope : Scope) → OfFilter SameCond SameFrom SameBlock c → bound_filter (option_map (cond_scope instances) c) scope ≡ true → (e : Env) (s : Row)
      → passes_filter (option_map truth c) D e s ≡ passes_filter (option_map truth c) E e s
  filter-is None scope same h e s = refl
  filter-is (Some c) scope same h e s = ap is_true (same scope h (s ∷ e))

  same-block : (q : Block) → SameFrom q.from → OfFilter SameCond SameFrom SameBlock q.filter → OfFilter SameCond SameFrom SameBlock q.having → SameBlock q
  same-block q same filtered grouped scope h e =
      let p1 = and_parts _ _ (sym (ap (λ s. s.bound scope) (scope-Block instances q)) ∙ h) in
      let p2 = and_parts _ _ p1.1 in
      let p3 = and_parts _ _ p2.1 in
      let p4 = and_parts _ _ p3.1 in
      let p5 = and_parts _ _ p4.1 in
      let keeps = fun_ext (filter-is q.having _ grouped p5.1 []) in
      let asked = fun_ext (filter-is q.filter _ filtered p4.0 e) in
      rows-Block q D e
      ∙ ap (λ (k : Row → Bool). shown q.distinct q.grouped q.keys q.having_items k q.items e (filter (passes_filter (option_map truth q.filter) D e) (source q.from D e))) keeps
      ∙ ap (λ (k : Row → Bool). shown q.distinct q.grouped q.keys q.having_items (passes_filter (option_map truth q.having) E []) q.items e (filter k (source q.from D e))) asked
      ∙ ap (λ (L : List Row). shown q.distinct q.grouped q.keys q.having_items (passes_filter (option_map truth q.having) E []) q.items e (filter (passes_filter (option_map truth q.filter) E e) L)) (same scope p3.0 e)
      ∙ sym (rows-Block q E e)

  steps : Steps SameCond SameFrom SameBlock
  steps = record {
    compare = λ op a b scope h e. truth-Compare op a b D e ∙ sym (truth-Compare op a b E e);
    is_null = λ a scope h e. truth-IsNull a D e ∙ sym (truth-IsNull a E e);
    not = same-not;
    and = same-and;
    or = same-or;
    exists = same-exists;
    in_ = same-in;
    table = same-table;
    join = same-join;
    left_join = same-left_join;
    comma = same-comma;
    block = same-block;
  }

  pub rows-same : (q : Block) → SameBlock q
  rows-same = each-block SameCond SameFrom SameBlock steps

pub others_do_not_count : OthersDoNotCount
others_do_not_count q D E A bound agree a = record {
  spread = λ r. a.spread r ∙ ap (count r) (rows-same q.tables D E agree.rows agree.width q.block [] bound []);
  ordered = a.ordered;
}
