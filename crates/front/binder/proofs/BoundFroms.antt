-- A FROM is bound, if its parts are.
use Rattle.std.proofs.Common.{◌≡◌, refl, ap, sym, ◌∙◌, ℕ, ◌+◌, Bool, true, ◌&&◌, List, [], ◌∷◌, ◌++◌, map, length, length-append, arith}
use Rattle.std.specs.List.{list_all}
use Rattle.std.proofs.lemmas.Bool.{and_parts, and_from}
use Rattle.std.proofs.Math.Bool.{and-true, and_assoc}
use Rattle.schema.specs.declared.schema.Schema.{Schema}
use Rattle.sql_parse.specs.declared.statement.TableName.{TableName}
use Rattle.sql_parse.specs.declared.statement.JoinKind.{JoinKind}
use Rattle.sql_parse.specs.declared.statement.JoinKind.TheVariants as by
use Rattle.sql_parse.specs.declared.statement.Join.{Join, out-Join}
use Rattle.sql_parse.specs.declared.statement.Chain.{Chain, out-Chain}
use Rattle.query.specs.declared.query.TableInstance.{TableInstance}
use Rattle.query.specs.declared.query.TableReference.{TableReference}
use Rattle.query.specs.declared.query.Cond.{Cond}
use Rattle.query.specs.declared.query.From.{From}
use Rattle.query.specs.declared.query.From.TheVariants as from
use Rattle.binder.specs.declared.tables.Numbered.{Numbered}
use Rattle.binder.specs.Scopes.{Scope, Scopes}
use Rattle.binder.specs.Numbers.{enter}
use Rattle.binder.specs.Selects.{FromSoFar, condition_in, join_in, chain_in, joined, through, commas, from_in}
use Rattle.binder.specs.Extents.{of_condition, of_join, of_chain, one_table}
use Rattle.binder.specs.Lent.{width}
use Rattle.query.specs.Bound.{FromScope, CondScope, cond_scope, from_scope, join_scope, instance_numbers}
use Rattle.sql_parse.specs.PlainOns.{Plainness, plainness, join_ons, chain_ons}
use Rattle.binder.proofs.Indexes.{width-append}
use Rattle.binder.proofs.SelectParts.{join_at, chain_at}
use Rattle.binder.proofs.ExtentParts.{extent-join, extent-chain}
use Rattle.sql_parse.proofs.PlainParts.{ons-join, ons-chain}
use Rattle.query.proofs.ScopeEquations.{scope-Table, scope-Join, scope-LeftJoin, scope-Comma}
use Rattle.binder.proofs.Given.{Given, and-then, given-at, weaker}
use Rattle.binder.proofs.Rising.{Rising, rising-append, rising-to, rising-below}
use Rattle.binder.proofs.Growth.{Grown, Within, Entered, grown-more, within-first, within-next, enter-gives}
use Rattle.binder.proofs.NamesThere.{around-more}
use Rattle.binder.proofs.BoundParts.{CondIs, CondBound, FromIs, JoinBound, ChainBound, from-is}
use Rattle.binder.proofs.BoundConditions.{columns_of, columns-all}

sum : (a b c : ℕ) → a + (b + c) ≡ (a + b) + c
sum a b c = omega arith

module _ (S : Schema) (instances : List TableInstance) (T : ℕ) where
  -- ---- a table, and what is joined to it

  table-is : (outer : Scopes) (t : TableName) (n : Numbered) (r : TableReference × Scope × Numbered) → Entered S instances T [] t n r
      → FromIs S instances T (one_table S t).columns true outer n (from_scope instances (from.Table r.0)) r.1 r.2
  table-is outer t n r e = rw (scope-Table instances r.0) (record {
    grown = e.grown;
    rises = e.rises;
    wide = λ within. let wide = e.wide within in omega (arith, wide);
    bound = λ ons within rows fits. e.used within;
  })

  scope-joined : (kind : JoinKind) (f : From) (o : TableReference) (on : Cond) → from_scope instances (joined kind f o on) ≡ join_scope instances (from_scope instances f) o (cond_scope instances on)
  scope-joined by.Inner f o on = scope-Join instances f o on
  scope-joined by.Left f o on = scope-LeftJoin instances f o on

  join-is : (outer : Scopes) (t : TableName) (n : Numbered) (x y : ℕ) (ons : Bool) (p : Plainness) (f : FromScope) (chain : Scope) (k : Numbered) (r : TableReference × Scope × Numbered) (on : CondScope) (m : Numbered)
      → FromIs S instances T x ons outer n f chain k → Entered S instances T chain t k r → CondIs S instances T y p (r.1 ∷ outer) r.2 on m
      → FromIs S instances T (x + ((one_table S t).columns + y)) (ons && p.plain) outer n (join_scope instances f r.0 on) r.1 m
  join-is outer t n x y ons p f chain k r on m left right part =
      let table = (one_table S t).columns in
      let both : Grown S n r.2 (x + table) = grown-more S n k r.2 x table (x + table) left.grown right.grown refl in
      let whole : Grown S k m (table + y) = grown-more S k r.2 m table y (table + y) right.grown part.grown refl in
      let of_left : Within instances T n m → Within instances T n k = λ within. within-first S instances T n k m x (table + y) whole within in
      let of_pair : Within instances T n m → Within instances T n r.2 = λ within. within-first S instances T n r.2 m (x + table) y part.grown within in
      let of_right : Within instances T n m → Within instances T k r.2 = λ within. within-next S instances T n k r.2 x table left.grown (of_pair within) in
      let of_on : Within instances T n m → Within instances T r.2 m = λ within. within-next S instances T n r.2 m (x + table) y both within in
      let pair : Within instances T n m → Rising n.next_column r.2.next_column (f.numbers ++ instance_numbers instances r.0)
      = λ within. rising-append n.next_column k.next_column r.2.next_column f.numbers (instance_numbers instances r.0) (left.rises (of_left within)) (right.rises (of_right within)) in
      let wide : Within instances T n m → length (f.numbers ++ instance_numbers instances r.0) ≡ width r.1
      = λ within. let a = left.wide (of_left within) in let b = right.wide (of_right within) in let c = length-append f.numbers (instance_numbers instances r.0) in omega (arith, a, b, c) in
      record {
        grown = grown-more S n k m x (table + y) (x + (table + y)) left.grown whole refl;
        rises = λ within. let more = part.grown.columns in rising-to n.next_column r.2.next_column m.next_column (f.numbers ++ instance_numbers instances r.0) (omega (arith, more)) (pair within);
        wide = wide;
        bound = λ h within rows fits.
            let tests = and_parts ons p.plain h in
            let more = both.columns in
            and_from _ _ (left.bound tests.0 (of_left within) rows fits)
            (and_from _ _ (right.used (of_right within))
            (and_from _ _ (part.plain tests.1)
            (part.bound (part.whole tests.1) (of_on within) ((f.numbers ++ instance_numbers instances r.0) ∷ rows)
            (wide within, rising-below n.next_column r.2.next_column _ (pair within), around-more n.next_column r.2.next_column outer rows (omega (arith, more)) fits))));
      }

  pub bound-join : (j : Join) → CondBound S instances T (out-Join j).condition → JoinBound S instances T j
  bound-join j part outer before n more ons left is =
      given-at _ (join_in S j outer before left) _ (join_at S j outer before left (out-Join j).condition refl)
      (and-then _ _ (enter S before left.1 (out-Join j).table left.2) _ (enter-gives S instances T left.1 (out-Join j).table left.2 before) (λ right r.
      and-then _ _ (condition_in S (out-Join j).condition (right.1 ∷ outer) right.2) _ (part (right.1 ∷ outer) right.2) (λ on o.
      from-is S instances T _ _ _ _ outer n _ _ right.1 on.1 (ap (λ e. more + e.columns) (extent-join S j)) (ap (λ b. ons && b) (ons-join j)) (scope-joined (out-Join j).kind left.0 right.0 on.0)
      (join-is outer (out-Join j).table n more (of_condition S (out-Join j).condition).columns ons (plainness (out-Join j).condition) (from_scope instances left.0) left.1 left.2 right (cond_scope instances on.0) on.1 is r o))))

  abbrev pub ProvedJoin : Type 0
  ProvedJoin = (j : Join) × JoinBound S instances T j

  abbrev pub joins_of : List ProvedJoin → List Join
  joins_of = map (λ j. j.0)

  through-bound : (js : List ProvedJoin) (outer : Scopes) (before : Scope) (n : Numbered) (more : ℕ) (ons : Bool) (left : FromSoFar) → FromIs S instances T more ons outer n (from_scope instances left.0) left.1 left.2
      → Given (λ r. FromIs S instances T (more + columns_of (map (of_join S) (joins_of js))) (ons && list_all (λ j. j) (map join_ons (joins_of js))) outer n (from_scope instances r.0) r.1 r.2)
      (through (map (join_in S) (joins_of js)) outer before left)
  through-bound [] outer before n more ons left is = from-is S instances T _ more _ ons outer n _ _ left.1 left.2 (omega arith) (and-true ons) refl is
  through-bound (j ∷ js) outer before n more ons left is =
      and-then _ _ (join_in S j.0 outer before left) _ (j.1 outer before n more ons left is) (λ next r.
      rw (← and_assoc ons (join_ons j.0) (list_all (λ j. j) (map join_ons (joins_of js))), sum more (of_join S j.0).columns (columns_of (map (of_join S) (joins_of js))))
      (through-bound js outer before n (more + (of_join S j.0).columns) (ons && join_ons j.0) next r))

  pub bound-chain : (c : Chain) (js : List ProvedJoin) → joins_of js ≡ (out-Chain c).joins → ChainBound S instances T c
  bound-chain c js are outer before n =
      given-at _ (chain_in S c outer before n) _ (chain_at S c outer before n [] (joins_of js) refl are)
      (and-then _ _ (enter S before [] (out-Chain c).table n) _ (enter-gives S instances T [] (out-Chain c).table n before) (λ first f.
      weaker _ _ (through (map (join_in S) (joins_of js)) outer before (from.Table first.0, first.1, first.2)) (through-bound js outer before n (one_table S (out-Chain c).table).columns true (from.Table first.0, first.1, first.2) (table-is outer (out-Chain c).table n first f)) (λ r is.
      from-is S instances T _ _ _ _ outer n _ _ r.1 r.2 (ap (λ e. e.columns) (extent-chain S c) ∙ ap (λ k. (one_table S (out-Chain c).table).columns + k) (columns-all (map (of_join S) (out-Chain c).joins)) ∙ ap (λ l. (one_table S (out-Chain c).table).columns + columns_of (map (of_join S) l)) (sym are))
      (ons-chain c ∙ ap (λ l. list_all (λ j. j) (map join_ons l)) (sym are)) refl is)))

  -- ---- commas

  comma-is : (outer : Scopes) (n : Numbered) (x y : ℕ) (ons others : Bool) (f g : From) (a b : Scope) (k m : Numbered) → FromIs S instances T x ons outer n (from_scope instances f) a k → FromIs S instances T y others outer k (from_scope instances g) b m
      → FromIs S instances T (x + y) (ons && others) outer n (from_scope instances (from.Comma f g)) (a ++ b) m
  comma-is outer n x y ons others f g a b k m left right =
      let of_left : Within instances T n m → Within instances T n k = λ within. within-first S instances T n k m x y right.grown within in
      let of_right : Within instances T n m → Within instances T k m = λ within. within-next S instances T n k m x y left.grown within in
      rw (scope-Comma instances f g) (record {
        grown = grown-more S n k m x y (x + y) left.grown right.grown refl;
        rises = λ within. rising-append n.next_column k.next_column m.next_column _ _ (left.rises (of_left within)) (right.rises (of_right within));
        wide = λ within.
            let first = left.wide (of_left within) in
            let next = right.wide (of_right within) in
            length-append (from_scope instances f).numbers (from_scope instances g).numbers ∙ omega (arith, first, next) ∙ sym (width-append a b);
        bound = λ h within rows fits.
            let tests = and_parts ons others h in
            let more = left.grown.columns in
            and_from _ _ (left.bound tests.0 (of_left within) rows fits) (right.bound tests.1 (of_right within) rows (around-more n.next_column k.next_column outer rows (omega (arith, more)) fits));
      })

  abbrev pub ProvedChain : Type 0
  ProvedChain = (c : Chain) × ChainBound S instances T c

  abbrev pub chains_of : List ProvedChain → List Chain
  chains_of = map (λ c. c.0)

  commas-bound : (cs : List ProvedChain) (outer : Scopes) (n : Numbered) (more : ℕ) (ons : Bool) (left : FromSoFar) → FromIs S instances T more ons outer n (from_scope instances left.0) left.1 left.2
      → Given (λ r. FromIs S instances T (more + columns_of (map (of_chain S) (chains_of cs))) (ons && list_all (λ c. c) (map chain_ons (chains_of cs))) outer n (from_scope instances r.0) r.1 r.2)
      (commas (map (chain_in S) (chains_of cs)) outer left)
  commas-bound [] outer n more ons left is = from-is S instances T _ more _ ons outer n _ _ left.1 left.2 (omega arith) (and-true ons) refl is
  commas-bound (c ∷ cs) outer n more ons left is =
      and-then _ _ (chain_in S c.0 outer left.1 left.2) _ (c.1 outer left.1 left.2) (λ right r.
      rw (← and_assoc ons (chain_ons c.0) (list_all (λ c. c) (map chain_ons (chains_of cs))), sum more (of_chain S c.0).columns (columns_of (map (of_chain S) (chains_of cs))))
      (commas-bound cs outer n (more + (of_chain S c.0).columns) (ons && chain_ons c.0) (from.Comma left.0 right.0, left.1 ++ right.1, right.2)
      (comma-is outer n more (of_chain S c.0).columns ons (chain_ons c.0) left.0 right.0 left.1 right.1 left.2 right.2 is r)))

  pub from-bound : (cs : List ProvedChain) (outer : Scopes) (n : Numbered)
      → Given (λ r. FromIs S instances T (columns_of (map (of_chain S) (chains_of cs))) (list_all (λ c. c) (map chain_ons (chains_of cs))) outer n (from_scope instances r.0) r.1 r.2) (from_in (map (chain_in S) (chains_of cs)) outer n)
  from-bound [] outer n = tt
  from-bound (c ∷ cs) outer n =
      and-then _ _ (chain_in S c.0 outer [] n) _ (c.1 outer [] n) (λ left is. commas-bound cs outer n (of_chain S c.0).columns (chain_ons c.0) left is)
