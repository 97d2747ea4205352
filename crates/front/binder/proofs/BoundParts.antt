-- What it is that each part of a statement is bound: what has numbers grows by the part, and all that the part names is there.
use Rattle.std.proofs.Common.{◌≡◌, ℕ, ◌+◌, Bool, true, ◌&&◌, List, length}
use Rattle.schema.specs.declared.schema.Schema.{Schema}
use Rattle.sql_parse.specs.declared.statement.Condition.{Condition}
use Rattle.sql_parse.specs.declared.statement.Join.{Join}
use Rattle.sql_parse.specs.declared.statement.Chain.{Chain}
use Rattle.sql_parse.specs.declared.statement.Select.{Select}
use Rattle.query.specs.declared.query.TableInstance.{TableInstance}
use Rattle.binder.specs.declared.tables.Numbered.{Numbered}
use Rattle.binder.specs.declared.output.Output.{Output}
use Rattle.binder.specs.Scopes.{Scope, Scopes}
use Rattle.binder.specs.Selects.{FromSoFar, condition_in, join_in, chain_in, select_in}
use Rattle.binder.specs.Extents.{of_condition, of_join, of_chain, of_select}
use Rattle.binder.specs.Lent.{width}
use Rattle.query.specs.Bound as numbers
use Rattle.query.specs.Bound.{CondScope, FromScope, BlockScope, cond_scope, from_scope, block_scope}
use Rattle.sql_parse.specs.PlainOns.{Plainness, plainness, join_ons, chain_ons, select_ons}
use Rattle.binder.proofs.Given.{Given}
use Rattle.binder.proofs.Growth.{Grown, Within}
use Rattle.binder.proofs.NamesThere.{Around}
use Rattle.binder.proofs.Rising.{Rising}

module _ (S : Schema) (instances : List TableInstance) (T : ℕ) where
  -- a condition of so many columns, which became one of this scope, while what has numbers went from n to m
  pub record CondIs (more : ℕ) (p : Plainness) (scopes : Scopes) (n : Numbered) (s : CondScope) (m : Numbered) : Type 0 where
    pub grown : Grown S n m more
    pub whole : p.plain ≡ true → p.ons ≡ true
    pub plain : p.plain ≡ true → s.plain ≡ true
    pub bound : p.ons ≡ true → Within instances T n m → (rows : numbers.Scope) → Around n.next_column scopes rows → s.bound rows ≡ true

  pub record FromIs (more : ℕ) (ons : Bool) (outer : Scopes) (n : Numbered) (s : FromScope) (scope : Scope) (m : Numbered) : Type 0 where
    pub grown : Grown S n m more
    pub rises : Within instances T n m → Rising n.next_column m.next_column s.numbers
    pub wide : Within instances T n m → length s.numbers ≡ width scope
    pub bound : ons ≡ true → Within instances T n m → (rows : numbers.Scope) → Around n.next_column outer rows → s.bound rows ≡ true

  pub record SelectIs (more : ℕ) (ons : Bool) (outer : Scopes) (n : Numbered) (s : BlockScope) (outputs : List Output) (m : Numbered) : Type 0 where
    pub grown : Grown S n m more
    pub single : length outputs ≡ 1 → s.single ≡ true
    pub bound : ons ≡ true → Within instances T n m → (rows : numbers.Scope) → Around n.next_column outer rows → s.bound rows ≡ true

  abbrev pub CondBound : Condition → Type 0
  CondBound c = (scopes : Scopes) (n : Numbered) → Given (λ r. CondIs (of_condition S c).columns (plainness c) scopes n (cond_scope instances r.0) r.1) (condition_in S c scopes n)

  -- behind what its FROM has so far
  abbrev pub JoinBound : Join → Type 0
  JoinBound j = (outer : Scopes) (before : Scope) (n : Numbered) (more : ℕ) (ons : Bool) (left : FromSoFar) → FromIs more ons outer n (from_scope instances left.0) left.1 left.2
      → Given (λ r. FromIs (more + (of_join S j).columns) (ons && join_ons j) outer n (from_scope instances r.0) r.1 r.2) (join_in S j outer before left)

  abbrev pub ChainBound : Chain → Type 0
  ChainBound c = (outer : Scopes) (before : Scope) (n : Numbered) → Given (λ r. FromIs (of_chain S c).columns (chain_ons c) outer n (from_scope instances r.0) r.1 r.2) (chain_in S c outer before n)

  abbrev pub SelectBound : Select → Type 0
  SelectBound q = (outer : Scopes) (n : Numbered) → Given (λ r. SelectIs (of_select S q).columns (select_ons q) outer n (block_scope instances r.0.block) r.0.outputs r.1) (select_in S q outer n)

  -- a condition may be said in other words
  pub cond-is : (x y : ℕ) (p q : Plainness) (scopes : Scopes) (n : Numbered) (s t : CondScope) (m : Numbered) → x ≡ y → p ≡ q → s ≡ t → CondIs y q scopes n t m → CondIs x p scopes n s m
  cond-is x y p q scopes n s t m same like scope is = rw (same, like, scope) is

  pub from-is : (x y : ℕ) (ons others : Bool) (outer : Scopes) (n : Numbered) (s t : FromScope) (scope : Scope) (m : Numbered) → x ≡ y → ons ≡ others → s ≡ t → FromIs y others outer n t scope m → FromIs x ons outer n s scope m
  from-is x y ons others outer n s t scope m same like at is = rw (same, like, at) is
