-- A condition is bound, if its parts are.
use Rattle.std.proofs.Common.{◌≡◌, refl, ap, ◌∙◌, ℕ, ◌+◌, true, false, ◌&&◌, List, [], ◌∷◌, map, fold, length, Some, arith}
use Rattle.std.specs.List.{list_all}
use Rattle.std.proofs.lemmas.Bool.{and_parts, and_from}
use Rattle.schema.specs.declared.schema.Schema.{Schema}
use Rattle.sql_parse.specs.declared.statement.Term as tree
use Rattle.sql_parse.specs.declared.statement.Term.TheVariants as text
use Rattle.sql_parse.specs.declared.statement.Operator.{Operator}
use Rattle.sql_parse.specs.declared.statement.Condition.{Condition}
use Rattle.sql_parse.specs.declared.statement.Condition.TheVariants.{Compare, IsNull, Not, And, Or, Exists, In}
use Rattle.sql_parse.specs.declared.statement.Select.{Select}
use Rattle.query.specs.declared.query.TableInstance.{TableInstance}
use Rattle.query.specs.declared.query.Cond.{Cond}
use Rattle.query.specs.declared.query.Cond.TheVariants as cond
use Rattle.binder.specs.declared.tables.Numbered.{Numbered}
use Rattle.binder.specs.declared.output.Output.{Output}
use Rattle.binder.specs.declared.selects.BoundTerm.{BoundTerm}
use Rattle.binder.specs.declared.fault.BindReason.TheVariants.{MixedKinds}
use Rattle.binder.specs.declared.extent.Extent.{Extent}
use Rattle.binder.specs.Lookups.{refusal}
use Rattle.binder.specs.Scopes.{Scopes, meant}
use Rattle.binder.specs.Kinds.{are_comparable}
use Rattle.binder.specs.Selects.{condition_in, select_in, comparison_in, membership_in, term_in, all_in, one_output}
use Rattle.binder.specs.Extents.{of_condition, of_select, beside, nothing, all_of}
use Rattle.query.specs.Bound as numbers
use Rattle.query.specs.Bound.{CondScope, cond_scope, bound_term}
use Rattle.sql_parse.specs.PlainOns.{Plainness, plainness, all_plain, select_ons}
use Rattle.binder.proofs.SelectParts.{compared, null_tested, negated, conjoined, disjoined, existing, contained}
use Rattle.binder.proofs.ExtentParts.{extent-Compare, extent-IsNull, extent-Not, extent-And, extent-Or, extent-Exists, extent-In}
use Rattle.sql_parse.proofs.PlainParts.{plain-Compare, plain-IsNull, plain-Not, plain-And, plain-Or, plain-Exists, plain-In}
use Rattle.query.proofs.ScopeEquations.{scope-Compare, scope-IsNull, scope-Not, scope-And, scope-Or, scope-Exists, scope-In}
use Rattle.binder.proofs.Given.{Given, and-then, given-from, given-if, given-at, given-ok}
use Rattle.binder.proofs.Growth.{Grown, Within, grown-none, grown-more, within-first, within-next}
use Rattle.binder.proofs.NamesThere.{Around, IsNamed, around-more, meant-there}
use Rattle.binder.proofs.BoundParts.{CondIs, CondBound, SelectBound, cond-is}

-- ---- terms

-- what the term names is there in each scope that fits
abbrev pub IsTerm : Scopes → BoundTerm → Type 0
IsTerm scopes t = (b : ℕ) (rows : numbers.Scope) → Around b scopes rows → bound_term rows t.term ≡ true

pub term-bound : (scopes : Scopes) (a : tree.Term) → Given (IsTerm scopes) (term_in scopes a)
term-bound scopes (text.Column c) =
    and-then (λ found. (b : ℕ) (rows : numbers.Scope) → Around b scopes rows → IsNamed rows found) (IsTerm scopes) (meant c scopes) _
    (given-from _ (meant c scopes) (λ found is b rows fits. given-ok (IsNamed rows) (meant c scopes) found is (meant-there c b scopes rows fits)))
    (λ found named. named)
term-bound scopes (text.Literal v) = λ b rows fits. refl

-- ---- lists

-- the columns of several parts
abbrev pub columns_of : List Extent → ℕ
columns_of [] = 0
columns_of (e ∷ extents) = e.columns + columns_of extents

pub columns-fold : (e : Extent) (extents : List Extent) → (fold beside e extents).columns ≡ e.columns + columns_of extents
columns-fold e [] = omega arith
columns-fold e (f ∷ extents) = columns-fold (beside e f) extents ∙ omega arith

pub columns-all : (extents : List Extent) → (all_of extents).columns ≡ columns_of extents
columns-all extents = columns-fold nothing extents ∙ omega arith

module _ (S : Schema) (instances : List TableInstance) (T : ℕ) where
  abbrev plain_one : Plainness
  plain_one = record { plain = true; ons = true }

  -- a condition without parts
  leaf : (s : CondScope) (scopes : Scopes) (n : Numbered) → s.plain ≡ true → ((b : ℕ) (rows : numbers.Scope) → Around b scopes rows → s.bound rows ≡ true) → CondIs S instances T 0 plain_one scopes n s n
  leaf s scopes n plain bound = record { grown = grown-none S n; whole = λ h. refl; plain = λ h. plain; bound = λ ons within rows fits. bound n.next_column rows fits }

  pub bound-Compare : (a : tree.Term) (op : Operator) (b : tree.Term) → CondBound S instances T (Compare a op b)
  bound-Compare a op b scopes n =
      given-at _ (condition_in S (Compare a op b) scopes n) _ (compared S _ a op b scopes n refl)
      (and-then (λ c. CondIs S instances T 0 plain_one scopes n (cond_scope instances c) n) _ (comparison_in scopes a op b) _
      (and-then (IsTerm scopes) _ (term_in scopes a) _ (term-bound scopes a) (λ left l.
      and-then (IsTerm scopes) _ (term_in scopes b) _ (term-bound scopes b) (λ right r.
      given-if _ (refusal MixedKinds op.at) (are_comparable left.kind right.kind) (cond.Compare op.comparison left.term right.term) (λ fit.
      rw (scope-Compare instances op.comparison left.term right.term) (leaf _ scopes n refl (λ b rows fits. and_from _ _ (l b rows fits) (r b rows fits)))))))
      (λ c is. cond-is S instances T _ 0 _ plain_one scopes n _ _ n (ap (λ e. e.columns) (extent-Compare S a op b)) (plain-Compare a op b) refl is))

  pub bound-IsNull : (a : tree.Term) → CondBound S instances T (IsNull a)
  bound-IsNull a scopes n =
      given-at _ (condition_in S (IsNull a) scopes n) _ (null_tested S _ a scopes n refl)
      (and-then (IsTerm scopes) _ (term_in scopes a) _ (term-bound scopes a) (λ tested t.
      cond-is S instances T _ 0 _ plain_one scopes n _ _ n (ap (λ e. e.columns) (extent-IsNull S a)) (plain-IsNull a) (scope-IsNull instances tested.term) (leaf _ scopes n refl t)))

  pub bound-Not : (c : Condition) → CondBound S instances T c → CondBound S instances T (Not c)
  bound-Not c part scopes n =
      given-at _ (condition_in S (Not c) scopes n) _ (negated S _ c c scopes n refl refl)
      (and-then _ _ (condition_in S c scopes n) _ (part scopes n) (λ r is.
      cond-is S instances T _ (of_condition S c).columns _ (plainness c) scopes n _ _ r.1 (ap (λ e. e.columns) (extent-Not S c)) (plain-Not c) (scope-Not instances r.0) is))

  -- ---- several conditions

  abbrev pub ProvedCondition : Type 0
  ProvedCondition = (c : Condition) × CondBound S instances T c

  abbrev pub conditions_of : List ProvedCondition → List Condition
  conditions_of = map (λ c. c.0)

  record AllIs (more : ℕ) (p : Plainness) (scopes : Scopes) (n : Numbered) (ss : List CondScope) (m : Numbered) : Type 0 where
    pub grown : Grown S n m more
    pub whole : p.plain ≡ true → p.ons ≡ true
    pub plain : p.plain ≡ true → list_all (λ s. s.plain) ss ≡ true
    pub bound : p.ons ≡ true → Within instances T n m → (rows : numbers.Scope) → Around n.next_column scopes rows → list_all (λ s. s.bound rows) ss ≡ true

  abbrev AllGiven : List ProvedCondition → Scopes → Numbered → List Cond × Numbered → Type 0
  AllGiven cs scopes n r = AllIs (columns_of (map (of_condition S) (conditions_of cs))) (all_plain (map plainness (conditions_of cs))) scopes n (map (cond_scope instances) r.0) r.1

  all-more : (x y : ℕ) (p q : Plainness) (scopes : Scopes) (n k m : Numbered) (s : CondScope) (ss : List CondScope) → CondIs S instances T x p scopes n s k → AllIs y q scopes k ss m
      → AllIs (x + y) (record { plain = p.plain && q.plain; ons = p.ons && q.ons }) scopes n (s ∷ ss) m
  all-more x y p q scopes n k m s ss first others = record {
    grown = grown-more S n k m x y (x + y) first.grown others.grown refl;
    whole = λ h. let parts = and_parts p.plain q.plain h in and_from _ _ (first.whole parts.0) (others.whole parts.1);
    plain = λ h. let parts = and_parts p.plain q.plain h in and_from _ _ (first.plain parts.0) (others.plain parts.1);
    bound = λ ons within rows fits.
        let parts = and_parts p.ons q.ons ons in
        let more = first.grown.columns in
        and_from _ _ (first.bound parts.0 (within-first S instances T n k m x y others.grown within) rows fits)
        (others.bound parts.1 (within-next S instances T n k m x y first.grown within) rows (around-more n.next_column k.next_column scopes rows (omega (arith, more)) fits));
  }

  all-bound : (cs : List ProvedCondition) (scopes : Scopes) (n : Numbered) → Given (AllGiven cs scopes n) (all_in (map (condition_in S) (conditions_of cs)) scopes n)
  all-bound [] scopes n = record { grown = grown-none S n; whole = λ h. refl; plain = λ h. refl; bound = λ ons within rows fits. refl }
  all-bound (c ∷ cs) scopes n =
      and-then _ (AllGiven (c ∷ cs) scopes n) (condition_in S c.0 scopes n) _ (c.1 scopes n) (λ first f.
      and-then (AllGiven cs scopes first.1) (AllGiven (c ∷ cs) scopes n) (all_in (map (condition_in S) (conditions_of cs)) scopes first.1) _ (all-bound cs scopes first.1) (λ others o.
      all-more (of_condition S c.0).columns _ (plainness c.0) (all_plain (map plainness (conditions_of cs))) scopes n first.1 others.1 (cond_scope instances first.0) (map (cond_scope instances) others.0) f o))

  pub bound-And : (cs : List ProvedCondition) → CondBound S instances T (And (conditions_of cs))
  bound-And cs scopes n =
      given-at _ (condition_in S (And (conditions_of cs)) scopes n) _ (conjoined S _ (conditions_of cs) (conditions_of cs) scopes n refl refl)
      (and-then (AllGiven cs scopes n) _ (all_in (map (condition_in S) (conditions_of cs)) scopes n) _ (all-bound cs scopes n) (λ r is.
      cond-is S instances T _ _ _ _ scopes n _ _ r.1 (ap (λ e. e.columns) (extent-And S (conditions_of cs)) ∙ columns-all (map (of_condition S) (conditions_of cs))) (plain-And (conditions_of cs)) (scope-And instances r.0)
      (record { grown = is.grown; whole = is.whole; plain = is.plain; bound = is.bound })))

  pub bound-Or : (cs : List ProvedCondition) → CondBound S instances T (Or (conditions_of cs))
  bound-Or cs scopes n =
      given-at _ (condition_in S (Or (conditions_of cs)) scopes n) _ (disjoined S _ (conditions_of cs) (conditions_of cs) scopes n refl refl)
      (and-then (AllGiven cs scopes n) _ (all_in (map (condition_in S) (conditions_of cs)) scopes n) _ (all-bound cs scopes n) (λ r is.
      cond-is S instances T _ _ _ _ scopes n _ _ r.1 (ap (λ e. e.columns) (extent-Or S (conditions_of cs)) ∙ columns-all (map (of_condition S) (conditions_of cs))) (plain-Or (conditions_of cs)) (scope-Or instances r.0)
      (record { grown = is.grown; whole = is.whole; plain = is.plain; bound = is.bound })))

  -- ---- subqueries

  pub bound-Exists : (q : Select) → SelectBound S instances T q → CondBound S instances T (Exists q)
  bound-Exists q part scopes n =
      given-at _ (condition_in S (Exists q) scopes n) _ (existing S _ q q scopes n refl refl)
      (and-then _ _ (select_in S q scopes n) _ (part scopes n) (λ r is.
      cond-is S instances T _ (of_select S q).columns _ (record { plain = false; ons = select_ons q }) scopes n _ _ r.1 (ap (λ e. e.columns) (extent-Exists S q) ∙ omega arith) (plain-Exists q) (scope-Exists instances r.0.block)
      (record { grown = is.grown; whole = λ h. cc h; plain = λ h. cc h; bound = is.bound })))

  one-output : (at : ℕ) (outputs : List Output) → Given (λ o. length outputs ≡ 1) (one_output at outputs)
  one-output at [] = tt
  one-output at (o ∷ []) = refl
  one-output at (o ∷ p ∷ others) = tt

  pub bound-In : (a : tree.Term) (at : ℕ) (q : Select) → SelectBound S instances T q → CondBound S instances T (In a at q)
  bound-In a at q part scopes n =
      given-at _ (condition_in S (In a at q) scopes n) _ (contained S _ a at q q scopes n refl refl)
      (and-then (IsTerm scopes) _ (term_in scopes a) _ (term-bound scopes a) (λ left l.
      and-then _ _ (select_in S q scopes n) _ (part scopes n) (λ query is.
      and-then (λ c. CondIs S instances T (of_select S q).columns (record { plain = false; ons = select_ons q }) scopes n (cond_scope instances c) query.1) _ (membership_in left at query.0) _
      (and-then _ _ (one_output at query.0.outputs) _ (one-output at query.0.outputs) (λ output one.
      given-if _ (refusal MixedKinds at) (are_comparable left.kind (Some output.kind)) (cond.In left.term query.0.block) (λ fit.
      rw (scope-In instances left.term query.0.block) (record {
        grown = is.grown;
        whole = λ h. cc h;
        plain = λ h. cc h;
        bound = λ ons within rows fits. and_from _ _ (l n.next_column rows fits) (and_from _ _ (is.single one) (is.bound ons within rows fits));
      }))))
      (λ c found. cond-is S instances T _ (of_select S q).columns _ (record { plain = false; ons = select_ons q }) scopes n _ _ query.1 (ap (λ e. e.columns) (extent-In S a at q) ∙ omega arith) (plain-In a at q) refl found))))
