-- A statement that a text reads as has no subquery in an ON: each production of the grammar gives none.
use Rattle.std.proofs.Common.{◌≡◌, refl, ap, sym, ◌∙◌, subst, inl, inr, ℕ, true, ◌&&◌, List, [], ◌∷◌, map, Option, Some, None, option_map}
use Prim.Native.Nat.{zero, suc}
use Rattle.std.specs.List.{AllByRecursion, list_all}
use Rattle.std.proofs.lemmas.Bool.{and_from}
use Rattle.grammar.specs.Grammars.{separated}
use Rattle.grammar.specs.Words.{Repeats, In, Nested}
use Rattle.sql_parse.specs.declared.class.Clause.{Clause}
use Rattle.sql_parse.specs.declared.class.Clause.TheVariants as clauses
use Rattle.sql_parse.specs.declared.statement.Operator.{Operator}
use Rattle.sql_parse.specs.declared.statement.Term.{Term}
use Rattle.sql_parse.specs.declared.statement.Condition.{Condition}
use Rattle.sql_parse.specs.declared.statement.Condition.TheVariants as c
use Rattle.sql_parse.specs.declared.statement.Condition.TheOpen.{Join-F, Chain-F, Select-F}
use Rattle.sql_parse.specs.declared.statement.Join.{Join, roll-Join, out-roll-Join}
use Rattle.sql_parse.specs.declared.statement.Chain.{Chain, roll-Chain, out-roll-Chain}
use Rattle.sql_parse.specs.declared.statement.Select.{Select, roll-Select, out-roll-Select}
use Rattle.sql_parse.specs.declared.statement.Statement.{Statement}
use Rattle.sql_parse.specs.declared.token.Keyword.TheVariants as k
use Rattle.sql_parse.specs.declared.token.Symbol.TheVariants as s
use Rattle.sql_parse.specs.declared.token.Token.{Token}
use Rattle.sql_parse.specs.declared.token.TokenKind.TheVariants as token
use Rattle.sql_parse.specs.Sql.{Place, of_condition, of_having, of_select, of_count, of_column, Sql, sample, sql, body, null_test, a_comparison, a_null_test, a_membership, a_missing, a_test, a_tested, an_existence, a_primary, a_negation, all_of, any_of, a_conjunction, a_condition, a_join, a_chain, a_from, a_filter, a_select, a_statement}
use Rattle.sql_parse.specs.PlainOns.{plainness, join_ons, chain_ons, select_ons, filter_ons, ons_are_plain, StatementsArePlain}
use Rattle.sql_parse.proofs.PlainParts.{plain-Compare, plain-IsNull, plain-Not, plain-And, plain-Or, plain-Exists, plain-In, ons-join, ons-chain, ons-select}

-- ---- conditions of a WHERE, whose subqueries have such ONs, and of an ON, which has no subquery

abbrev Good : Clause → Condition → Type 0
Good clauses.Where x = (plainness x).ons ≡ true
Good clauses.On x = (plainness x).plain ≡ true

abbrev GoodPlace : (A : Type 0) → Place A → A → Type 0
GoodPlace A (of_condition clause) x = Good clause x
GoodPlace A of_having x = Unit {0}
GoodPlace A of_select q = select_ons q ≡ true
GoodPlace A of_count o = Unit {0}
GoodPlace A of_column column = Unit {0}

good-Compare : (clause : Clause) (a : Term) (op : Operator) (b : Term) → Good clause (c.Compare a op b)
good-Compare clauses.Where a op b = ap (λ p. p.ons) (plain-Compare a op b)
good-Compare clauses.On a op b = ap (λ p. p.plain) (plain-Compare a op b)

good-IsNull : (clause : Clause) (a : Term) → Good clause (c.IsNull a)
good-IsNull clauses.Where a = ap (λ p. p.ons) (plain-IsNull a)
good-IsNull clauses.On a = ap (λ p. p.plain) (plain-IsNull a)

good-Not : (clause : Clause) (x : Condition) → Good clause x → Good clause (c.Not x)
good-Not clauses.Where x good = ap (λ p. p.ons) (plain-Not x) ∙ good
good-Not clauses.On x good = ap (λ p. p.plain) (plain-Not x) ∙ good

all-ons : (xs : List Condition) → AllByRecursion (Good clauses.Where) xs → list_all (λ p. p.ons) (map plainness xs) ≡ true
all-ons [] all = refl
all-ons (x ∷ xs) all = and_from _ _ all.0 (all-ons xs all.1)

all-plain : (xs : List Condition) → AllByRecursion (Good clauses.On) xs → list_all (λ p. p.plain) (map plainness xs) ≡ true
all-plain [] all = refl
all-plain (x ∷ xs) all = and_from _ _ all.0 (all-plain xs all.1)

good-And : (clause : Clause) (xs : List Condition) → AllByRecursion (Good clause) xs → Good clause (c.And xs)
good-And clauses.Where xs all = ap (λ p. p.ons) (plain-And xs) ∙ all-ons xs all
good-And clauses.On xs all = ap (λ p. p.plain) (plain-And xs) ∙ all-plain xs all

good-Or : (clause : Clause) (xs : List Condition) → AllByRecursion (Good clause) xs → Good clause (c.Or xs)
good-Or clauses.Where xs all = ap (λ p. p.ons) (plain-Or xs) ∙ all-ons xs all
good-Or clauses.On xs all = ap (λ p. p.plain) (plain-Or xs) ∙ all-plain xs all

good-all : (clause : Clause) (xs : List Condition) → AllByRecursion (Good clause) xs → Good clause (all_of xs)
good-all clause [] all = good-And clause [] all
good-all clause (x ∷ []) all = all.0
good-all clause (x ∷ y ∷ xs) all = good-And clause (x ∷ y ∷ xs) all

good-any : (clause : Clause) (xs : List Condition) → AllByRecursion (Good clause) xs → Good clause (any_of xs)
good-any clause [] all = good-Or clause [] all
good-any clause (x ∷ []) all = all.0
good-any clause (x ∷ y ∷ xs) all = good-Or clause (x ∷ y ∷ xs) all

good-null : (clause : Clause) (o : Option Token) (a : Term) → Good clause (null_test o a)
good-null clause None a = good-IsNull clause a
good-null clause (Some t) a = good-Not clause (c.IsNull a) (good-IsNull clause a)

-- ---- words one after another

repeats-all : {A : Type 0} (Q : List Token → A → Type 0) (P : A → Type 0) → ((w : List Token) (v : A) → Q w v → P v) → (vs : List A) (w : List Token) → Repeats Q w vs → AllByRecursion P vs
repeats-all Q P each [] w word = tt
repeats-all Q P each (v ∷ vs) w (a, b, split, first, more) = (each a v first, repeats-all Q P each vs b more)

-- ---- each production

module _ (I : (A : Type 0) → Place A → List Token → A → Type 0) (good : (A : Type 0) (p : Place A) (w : List Token) (v : A) → I A p w v → GoodPlace A p v) where
  separated-all : {A : Type 0} (P : A → Type 0) (s : Token) (g : Sql A) → ((w : List Token) (v : A) → In sql I g w v → P v) → (w : List Token) (vs : List A) → In sql I (separated s g) w vs → AllByRecursion P vs
  separated-all P s g each w vs (x, is, (a, b, split, first, more)) =
      subst (AllByRecursion P) (sym is) (each a x.0 first, repeats-all _ P (λ w v (y, same, (a, b, split, sign, word)). subst P (sym same) (each b y.1 word)) x.1 b more)

  good-membership : (w : List Token) (f : Term → Condition) → In sql I a_membership w f → (a : Term) → Good clauses.Where (f a)
  unfolding a_membership
  good-membership w f (x, is, (l, r, split, word, (t, inner, class, opens, nested))) a =
      subst (λ g. Good clauses.Where (g a)) (sym is) (ap (λ p. p.ons) (plain-In a x.0.at x.1) ∙ good Select of_select inner x.1 nested)

  good-comparison : (clause : Clause) (w : List Token) (f : Term → Condition) → In sql I a_comparison w f → (a : Term) → Good clause (f a)
  unfolding a_comparison
  good-comparison clause w f (x, is, word) a = subst (λ g. Good clause (g a)) (sym is) (good-Compare clause a x.0 x.1)

  good-null_test : (clause : Clause) (w : List Token) (f : Term → Condition) → In sql I a_null_test w f → (a : Term) → Good clause (f a)
  unfolding a_null_test
  good-null_test clause w f (x, is, word) a = subst (λ g. Good clause (g a)) (sym is) (good-null clause x a)

  good-missing : (w : List Token) (f : Term → Condition) → In sql I a_missing w f → (a : Term) → Good clauses.Where (f a)
  unfolding a_missing
  good-missing w f (x, is, (y, same, (l, r, split, word, member))) a =
      subst (λ g. Good clauses.Where (g a)) (sym is) (good-Not clauses.Where (x a) (subst (λ g. Good clauses.Where (g a)) (sym same) (good-membership r y.1 member a)))

  good-test : (clause : Clause) (w : List Token) (f : Term → Condition) → In sql I (a_test clause) w f → (a : Term) → Good clause (f a)
  unfolding a_test
  good-test clauses.Where w f (inl word) = good-comparison clauses.Where w f word
  good-test clauses.Where w f (inr (inl word)) = good-null_test clauses.Where w f word
  good-test clauses.Where w f (inr (inr (inl word))) = good-missing w f word
  good-test clauses.Where w f (inr (inr (inr word))) = good-membership w f word
  good-test clauses.On w f (inl word) = good-comparison clauses.On w f word
  good-test clauses.On w f (inr word) = good-null_test clauses.On w f word

  good-tested : (clause : Clause) (w : List Token) (v : Condition) → In sql I (a_tested clause) w v → Good clause v
  unfolding a_tested
  good-tested clause w v (x, is, (l, r, split, term, test)) = subst (Good clause) (sym is) (good-test clause r x.1 test x.0)

  good-existence : (w : List Token) (v : Condition) → In sql I an_existence w v → Good clauses.Where v
  unfolding an_existence
  good-existence w v (q, is, (y, same, (l, r, split, word, (t, inner, class, opens, nested)))) =
      subst (Good clauses.Where) (sym is) (ap (λ p. p.ons) (plain-Exists q) ∙ ap select_ons same ∙ good Select of_select inner y.1 nested)

  good-primary : (clause : Clause) (w : List Token) (v : Condition) → In sql I (a_primary clause) w v → Good clause v
  unfolding a_primary
  good-primary clauses.Where w v (inl (t, inner, class, opens, nested)) = good Condition (of_condition clauses.Where) inner v nested
  good-primary clauses.Where w v (inr (inl word)) = good-existence w v word
  good-primary clauses.Where w v (inr (inr word)) = good-tested clauses.Where w v word
  good-primary clauses.On w v (inl (t, inner, class, opens, nested)) = good Condition (of_condition clauses.On) inner v nested
  good-primary clauses.On w v (inr word) = good-tested clauses.On w v word

  good-negation : (clause : Clause) (w : List Token) (v : Condition) → In sql I (a_negation clause) w v → Good clause v
  unfolding a_negation
  good-negation clause w v (inl (x, is, (y, same, (l, r, split, word, primary)))) =
      subst (Good clause) (sym is) (good-Not clause x (subst (Good clause) (sym same) (good-primary clause r y.1 primary)))
  good-negation clause w v (inr word) = good-primary clause w v word

  good-conjunction : (clause : Clause) (w : List Token) (v : Condition) → In sql I (a_conjunction clause) w v → Good clause v
  unfolding a_conjunction
  good-conjunction clause w v (xs, is, word) = subst (Good clause) (sym is) (good-all clause xs (separated-all (Good clause) (sample (token.Keyword k.And)) (a_negation clause) (good-negation clause) w xs word))

  good-condition : (clause : Clause) (w : List Token) (v : Condition) → In sql I (a_condition clause) w v → Good clause v
  unfolding a_condition
  good-condition clause w v (xs, is, word) = subst (Good clause) (sym is) (good-any clause xs (separated-all (Good clause) (sample (token.Keyword k.Or)) (a_conjunction clause) (good-conjunction clause) w xs word))

  -- ---- FROM

  good-join : (w : List Token) (v : Join) → In sql I a_join w v → join_ons v ≡ true
  unfolding a_join
  good-join w v (x, is, (l, r, split, kind, (m, n, again, table, (y, same, (a, b, last, word, condition))))) =
      let z : Join-F Condition Chain Join Select = record { kind = x.0; table = x.1.0; condition = x.1.1 } in
      ap join_ons is ∙ ons-join (roll-Join z) ∙ ap (λ k. (plainness k.condition).plain) (out-roll-Join z) ∙ ap (λ k. (plainness k).plain) same ∙ good-condition clauses.On b y.1 condition

  good-joins : (joins : List Join) → AllByRecursion (λ j. join_ons j ≡ true) joins → list_all (λ j. j) (map join_ons joins) ≡ true
  good-joins [] all = refl
  good-joins (j ∷ joins) all = and_from _ _ all.0 (good-joins joins all.1)

  good-chain : (w : List Token) (v : Chain) → In sql I a_chain w v → chain_ons v ≡ true
  unfolding a_chain
  good-chain w v (x, is, (l, r, split, table, joins)) =
      let z : Chain-F Condition Chain Join Select = record { table = x.0; joins = x.1 } in
      ap chain_ons is ∙ ons-chain (roll-Chain z) ∙ ap (λ k. list_all (λ j. j) (map join_ons k.joins)) (out-roll-Chain z)
      ∙ good-joins x.1 (repeats-all (In sql I a_join) (λ j. join_ons j ≡ true) good-join x.1 r joins)

  good-chains : (chains : List Chain) → AllByRecursion (λ k. chain_ons k ≡ true) chains → list_all (λ k. k) (map chain_ons chains) ≡ true
  good-chains [] all = refl
  good-chains (k ∷ chains) all = and_from _ _ all.0 (good-chains chains all.1)

  good-from : (w : List Token) (v : List Chain) → In sql I a_from w v → list_all (λ k. k) (map chain_ons v) ≡ true
  unfolding a_from
  good-from w v (x, is, (l, r, split, word, chains)) =
      ap (λ ks. list_all (λ k. k) (map chain_ons ks)) is ∙ good-chains x.1 (separated-all (λ k. chain_ons k ≡ true) (sample (token.Symbol s.Comma)) a_chain good-chain r x.1 chains)

  -- ---- SELECT

  good-filter : (w : List Token) (v : Option Condition) → In sql I a_filter w v → filter_ons (option_map plainness v) ≡ true
  unfolding a_filter
  good-filter w v (inl (x, is, (y, same, (l, r, split, word, condition)))) =
      ap (λ o. filter_ons (option_map plainness o)) is ∙ ap (λ k. (plainness k).ons) same ∙ good-condition clauses.Where r y.1 condition
  good-filter w v (inr word) = ap (λ o. filter_ons (option_map plainness o)) word.1

  good-select : (w : List Token) (v : Select) → In sql I a_select w v → select_ons v ≡ true
  unfolding a_select
  good-select w v (x, is, (a, b, s, head, (d, e, t, list, (f, g, u, from, (h, i, m, filter, rest))))) =
      let z : Select-F Condition Chain Join Select = record { distinct = x.0; list = x.1.0; from = x.1.1.0; filter = x.1.1.1.0; group = x.1.1.1.1.0; having = x.1.1.1.1.1 } in
      ap select_ons is ∙ ons-select (roll-Select z) ∙ ap (λ k. list_all (λ k. k) (map chain_ons k.from) && filter_ons (option_map plainness k.filter)) (out-roll-Select z)
      ∙ and_from _ _ (good-from f x.1.1.0 from) (good-filter h x.1.1.1.0 filter)

  good-body : (A : Type 0) (p : Place A) (w : List Token) (v : A) → In sql I (body A p) w v → GoodPlace A p v
  good-body A (of_condition clause) w v word = good-condition clause w v word
  good-body A of_having w v word = tt
  good-body A of_select w v word = good-select w v word
  good-body A of_count w v word = tt
  good-body A of_column w v word = tt

  good-statement : (w : List Token) (v : Statement) → In sql I a_statement w v → ons_are_plain v ≡ true
  unfolding a_statement
  good-statement w v (x, is, (l, r, split, (y, same, (a, b, again, select, order)), end)) = ap ons_are_plain is ∙ ap ons_are_plain same ∙ good-select a y.0 select

-- ---- the language

nested-good : (d : ℕ) (A : Type 0) (p : Place A) (w : List Token) (v : A) → Nested sql d A p w v → GoodPlace A p v
nested-good zero A p w v word = absurd word
nested-good (suc d) A p w v (x, is, (l, r, split, inner, close)) = subst (GoodPlace A p) (sym is) (good-body (Nested sql d) (nested-good d) A p l x.0 inner)

pub statements_plain : StatementsArePlain
statements_plain bytes s reads = good-statement (Nested sql reads.reads.0) (nested-good reads.reads.0) reads.tokens s reads.reads.1
