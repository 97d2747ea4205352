-- The lists of the grammar, item by item, and parentheses that are opened.
use Rattle.std.proofs.Common.{◌≡◌, ℕ, ◌-◌, ◌<◌, ◌==◌, Bool, true, false, List, [], ◌∷◌, ◌++◌, length, Result, Ok, Err, refl, sym, ap, ◌∙◌, append_assoc, arith, if◌then◌else◌}
use Rattle.grammar.specs.Grammars.{tok, many, after, closed, separated}
use Rattle.grammar.specs.Readers.{◌>>=◌, null, decides, paired, one, sees, first, parse, inside, with_front}
use Rattle.grammar.proofs.Turns.{inside_opened, takes, turn_ok as turn_ok_of, turn_err as turn_err_of, less as less_of}
use Rattle.values.specs.declared.fault.Fault.{Fault}
use Rattle.values.specs.declared.fault.Fault.TheVariants as fault
use Rattle.values.specs.Faults.{Fails}
use Rattle.sql_parse.specs.declared.class.Clause.{Clause}
use Rattle.sql_parse.specs.declared.class.Clause.TheVariants as clauses
use Rattle.sql_parse.specs.declared.fault.ParseRefusal.{ParseRefusal}
use Rattle.sql_parse.specs.declared.token.Keyword.TheVariants as k
use Rattle.sql_parse.specs.declared.token.Symbol.TheVariants as s
use Rattle.sql_parse.specs.declared.token.Token.{Token}
use Rattle.sql_parse.specs.declared.token.TokenKind.TheVariants as token
use Rattle.sql_parse.specs.Classes.{kind_number}
use Rattle.sql_parse.specs.Sql.{Place, Sql, sample, a_name, a_literal, an_operator, a_column, an_alias, a_table, a_term, a_comparison, a_null_test, a_membership, a_missing, a_test, a_tested, an_existence, a_primary, a_negation, a_conjunction, a_condition, a_join_kind, a_join, a_chain, an_aggregate, an_item_value, an_item, a_having_term, a_having_comparison, a_having_null_test, a_having_test, a_having_tested, a_having_primary, a_having_negation, a_having_conjunction, a_direction, a_key, sql}
use Rattle.sql_parse.specs.StatementReading.{reported, reads}
use Rattle.sql_parse.proofs.SqlDecided.{is_decided}

-- a list of these is read by one token of look-ahead
pub record IsLoop {A : Type 0} (g : Sql A) : Type 0 where
  pub decided : decides sql [] (many g) ≡ true
  pub pairs : paired sql g ≡ true

-- A list of these behind one another, with this token between them, is read by one token of look-ahead.
pub record IsList {A : Type 0} (s : Token) (g : Sql A) : Type 0 where
  pub loop : IsLoop (after (tok s) g)
  pub decided : decides sql (kind_number s.kind ∷ []) g ≡ true
  pub pairs : paired sql g ≡ true
  pub solid : null g ≡ false

pub columns_list : IsList (sample (token.Symbol s.Comma)) a_column
unfolding a_name a_column
columns_list = record { loop = record { decided = refl; pairs = refl }; decided = refl; pairs = refl; solid = refl }

pub items_list : IsList (sample (token.Symbol s.Comma)) an_item
unfolding a_name a_column an_alias an_aggregate an_item_value an_item
items_list = record { loop = record { decided = refl; pairs = refl }; decided = refl; pairs = refl; solid = refl }

pub keys_list : IsList (sample (token.Symbol s.Comma)) a_key
unfolding a_name a_column a_direction a_key
keys_list = record { loop = record { decided = refl; pairs = refl }; decided = refl; pairs = refl; solid = refl }

pub negations_list : (clause : Clause) → IsList (sample (token.Keyword k.And)) (a_negation clause)
unfolding a_name a_literal an_operator a_column a_term a_comparison a_null_test a_membership a_missing a_test a_tested an_existence a_primary a_negation
negations_list clauses.Where = record { loop = record { decided = refl; pairs = refl }; decided = refl; pairs = refl; solid = refl }
negations_list clauses.On = record { loop = record { decided = refl; pairs = refl }; decided = refl; pairs = refl; solid = refl }

pub conjunctions_list : (clause : Clause) → IsList (sample (token.Keyword k.Or)) (a_conjunction clause)
unfolding a_name a_literal an_operator a_column a_term a_comparison a_null_test a_membership a_missing a_test a_tested an_existence a_primary a_negation a_conjunction
conjunctions_list clauses.Where = record { loop = record { decided = refl; pairs = refl }; decided = refl; pairs = refl; solid = refl }
conjunctions_list clauses.On = record { loop = record { decided = refl; pairs = refl }; decided = refl; pairs = refl; solid = refl }

pub having_negations_list : IsList (sample (token.Keyword k.And)) a_having_negation
unfolding a_name a_literal an_operator a_column an_aggregate a_having_term a_having_comparison a_having_null_test a_having_test a_having_tested a_having_primary a_having_negation
having_negations_list = record { loop = record { decided = refl; pairs = refl }; decided = refl; pairs = refl; solid = refl }

pub having_conjunctions_list : IsList (sample (token.Keyword k.Or)) a_having_conjunction
unfolding a_name a_literal an_operator a_column an_aggregate a_having_term a_having_comparison a_having_null_test a_having_test a_having_tested a_having_primary a_having_negation a_having_conjunction
having_conjunctions_list = record { loop = record { decided = refl; pairs = refl }; decided = refl; pairs = refl; solid = refl }

pub joins_loop : IsLoop a_join
unfolding a_name a_literal an_operator a_column an_alias a_table a_term a_comparison a_null_test a_test a_tested a_primary a_negation a_conjunction a_condition a_join_kind a_join
joins_loop = record { decided = refl; pairs = refl }

pub chains_list : IsList (sample (token.Symbol s.Comma)) a_chain
unfolding a_name a_literal an_operator a_column an_alias a_table a_term a_comparison a_null_test a_test a_tested a_primary a_negation a_conjunction a_condition a_join_kind a_join a_chain
chains_list = record { loop = record { decided = refl; pairs = refl }; decided = refl; pairs = refl; solid = refl }

-- an item takes a token
pub less : (end depth : ℕ) {A : Type 0} (g : Sql A) → IsLoop g → (ts : List Token) (v : A) (r : List Token) → reads end depth g ts ≡ Ok (v, r) → length r < length ts
less end depth g is = less_of sql is_decided (reported end) depth g is.decided is.pairs

-- an item more
pub turn_ok : (end depth : ℕ) {A : Type 0} (g : Sql A) → IsLoop g → (front : List A) (ts : List Token) (v : A) (r : List Token) (z : Result (List A × List Token) ParseRefusal)
    → sees sql (first sql g) ts ≡ true → reads end depth g ts ≡ Ok (v, r)
    → with_front front (reads end depth (many g) ts) ≡ z → with_front (front ++ v ∷ []) (reads end depth (many g) r) ≡ z
turn_ok end depth g is = turn_ok_of sql is_decided (reported end) depth g is.decided is.pairs

-- what stands behind a separator
behind_ok : (end depth : ℕ) {A : Type 0} (s : Token) (g : Sql A) (ts : List Token) (t : Token) (next : List Token) (v : A) (r : List Token)
    → one sql (reported end) (kind_number s.kind) ts ≡ Ok (t, next) → reads end depth g next ≡ Ok (v, r) → reads end depth (after (tok s) g) ts ≡ Ok (v, r)
behind_ok end depth s g ts t next v r is of = rw (is, of) refl

-- a parenthesis less may be opened
pub opened : (end depth : ℕ) (A : Type 0) (p : Place A) (from ts : List Token) → 0 < depth
    → inside sql (reported end) depth A p from ts ≡ parse sql (reported end) (inside sql (reported end) (depth - 1)) (closed sql A p) ts
opened end depth A p from ts h = inside_opened sql (reported end) depth A p from ts h

-- ---- `g {s g}`

no_front : {A : Type 0} (z : Result (List A × List Token) ParseRefusal) → with_front [] z ≡ z
no_front (Ok x) = refl
no_front (Err e) = refl

fronts : {A : Type 0} (front : List A) (v : A) (z : Result (List A × List Token) ParseRefusal) → with_front (front ++ v ∷ []) z ≡ with_front front (with_front (v ∷ []) z)
fronts front v (Ok x) = simp append_assoc
fronts front v (Err e) = refl

abbrev beside : {A : Type 0} → A → Result (List A × List Token) ParseRefusal → Result ((A × List A) × List Token) ParseRefusal
beside v z = z >>= λ y. Ok ((v, y.0), y.1)

abbrev joined : {A : Type 0} → Result ((A × List A) × List Token) ParseRefusal → Result (List A × List Token) ParseRefusal
joined z = z >>= λ x. Ok (x.0.0 ∷ x.0.1, x.1)

one_more : {A : Type 0} (v : A) (z : Result (List A × List Token) ParseRefusal) → joined (beside v z) ≡ with_front (v ∷ []) z
one_more v (Ok x) = refl
one_more v (Err e) = refl

abbrev tested : Bool → Token × List Token → ParseRefusal → Result (Token × List Token) ParseRefusal
tested b x e = if b then Ok x else Err e

taken : (b : Bool) (x y : Token × List Token) (e : ParseRefusal) → tested b x e ≡ Ok y → x ≡ y
taken true x y e h = cc
taken false x y e h = cc

-- one token is taken
one_less : (end class : ℕ) (ts : List Token) (t : Token) (next : List Token) → one sql (reported end) class ts ≡ Ok (t, next) → length next < length ts
one_less end class [] t next h = cc
one_less end class (u ∷ us) t next h =
    let same : us ≡ next = ap (λ (x : Token × List Token). x.1) (taken (kind_number u.kind == class) (u, us) (t, next) ((reported end).unexpected (u ∷ us)) h) in
    rw (← same) (omega arith)

module _ (end depth : ℕ) {A : Type 0} (s : Token) (g : Sql A) where
  abbrev more : List Token → Result (List A × List Token) ParseRefusal
  more ts = reads end depth (many (after (tok s) g)) ts

  abbrev list : List Token → Result (List A × List Token) ParseRefusal
  list ts = reads end depth (separated s g) ts

  -- no separator follows
  no_more : (ts : List Token) → sees sql (kind_number s.kind ∷ []) ts ≡ false → more ts ≡ Ok ([], ts)
  no_more [] h = refl
  no_more (t ∷ ts) h = rw h refl

  item_then : (ts : List Token) (v : A) (r : List Token) → reads end depth g ts ≡ Ok (v, r) → list ts ≡ with_front (v ∷ []) (more r)
  item_then ts v r h = rw h (one_more v (more r))

  -- behind a separator stands a list again
  list_behind : IsList s g → (r : List Token) (t : Token) (next : List Token) → true ≡ sees sql (kind_number s.kind ∷ []) r → one sql (reported end) (kind_number s.kind) r ≡ Ok (t, next) → more r ≡ list next
  list_behind is r t next seen at = by (reads end depth g next) refl
    where
      by : (y : Result (A × List Token) ParseRefusal) → reads end depth g next ≡ y → more r ≡ list next
      by (Ok x) h =
          let on : with_front (x.0 ∷ []) (more x.1) ≡ with_front [] (more r) = turn_ok end depth (after (tok s) g) is.loop [] r x.0 x.1 (with_front [] (more r)) (sym seen) (behind_ok end depth s g r t next x.0 x.1 at h) refl in
          sym (no_front (more r)) ∙ sym on ∙ sym (item_then next x.0 x.1 h)
      by (Err e) h =
          let fails : reads end depth (after (tok s) g) r ≡ Err e = rw (at, h) refl in
          let ends : with_front [] (more r) ≡ Err e = turn_err_of sql is_decided (reported end) depth (after (tok s) g) is.loop.decided is.loop.pairs [] r e (with_front [] (more r)) (sym seen) fails refl in
          let whole : list next ≡ Err e = rw h refl in
          sym (no_front (more r)) ∙ ends ∙ sym whole

  -- an item and a separator take tokens
  pub list_less : IsList s g → (ts : List Token) (v : A) (r : List Token) (t : Token) (next : List Token) → reads end depth g ts ≡ Ok (v, r) → one sql (reported end) (kind_number s.kind) r ≡ Ok (t, next) → length next < length ts
  list_less is ts v r t next h at =
      let item : length r < length ts = takes sql is_decided (reported end) depth g (kind_number s.kind ∷ []) is.decided is.pairs (λ n. cc (is.solid)) ts v r h in
      let separator : length next < length r = one_less end (kind_number s.kind) r t next at in
      omega arith

  -- an item and a separator more
  pub list_on : IsList s g → (front : List A) (ts : List Token) (v : A) (r : List Token) (t : Token) (next : List Token) (z : Result (List A × List Token) ParseRefusal)
      → reads end depth g ts ≡ Ok (v, r) → true ≡ sees sql (kind_number s.kind ∷ []) r → one sql (reported end) (kind_number s.kind) r ≡ Ok (t, next)
      → with_front front (list ts) ≡ z → with_front (front ++ v ∷ []) (list next) ≡ z
  list_on is front ts v r t next z h seen at so_far =
      ap (with_front (front ++ v ∷ [])) (sym (list_behind is r t next seen at)) ∙ fronts front v (more r) ∙ sym (ap (with_front front) (item_then ts v r h)) ∙ so_far

  -- the last item
  pub list_done : (front : List A) (ts : List Token) (v : A) (r : List Token) (whole : Result (List A × List Token) ParseRefusal) → reads end depth g ts ≡ Ok (v, r) → false ≡ sees sql (kind_number s.kind ∷ []) r
      → with_front front (list ts) ≡ with_front [] whole → whole ≡ Ok (front ++ v ∷ [], r)
  list_done front ts v r whole h none so_far =
      sym (no_front whole) ∙ sym so_far ∙ ap (with_front front) (item_then ts v r h ∙ ap (with_front (v ∷ [])) (no_more r (sym none)))

  -- a fault in an item is one of the list
  pub list_fails : (e : Fault ParseRefusal) (front : List A) (ts : List Token) (whole : Result (List A × List Token) ParseRefusal) → Fails e (reads end depth g ts)
      → with_front front (list ts) ≡ with_front [] whole → Fails e whole
  list_fails fault.Memory front ts whole h so_far = tt
  list_fails (fault.Refused e) front ts whole h so_far =
      let ends : with_front front (list ts) ≡ Err e = rw h refl in
      sym (no_front whole) ∙ sym so_far ∙ ends
