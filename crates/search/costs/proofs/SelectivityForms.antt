-- The selectivity of each form of condition: one equation each.
use Rattle.std.proofs.Common.{◌≡◌, ap, sym, ◌∙◌, ℕ, List, ◌∷◌, map, Option}
use Rattle.values.specs.declared.truth.Comparison.{Comparison}
use Rattle.query.specs.declared.query.TableInstance.{TableInstance}
use Rattle.algebra.specs.declared.condition.Term.{Term}
use Rattle.algebra.specs.declared.condition.Condition.{Condition, roll-Condition, fold-roll-Condition, map-Condition}
use Rattle.algebra.specs.declared.condition.Condition.TheVariants.{Compare, IsNull, Not, And, Or, Exists, In, rolls-Compare, rolls-IsNull, rolls-Not, rolls-And, rolls-Or, rolls-Exists, rolls-In}
use Rattle.algebra.specs.declared.condition.Condition.TheOpen.{Condition-F}
use Rattle.statistics.specs.declared.counts.Statistics.{Statistics}
use Rattle.costs.specs.Selectivity.{selectivity, selectivity_layer, compared, share_of_key, greater, term_keys, others, all_of, any_of}

module _ (S : Statistics) (instances : List TableInstance) where
  at : (x : Condition-F Condition) (c : Condition) → roll-Condition x ≡ c → selectivity S instances c ≡ selectivity_layer S instances (map-Condition Condition ℕ (selectivity S instances) x)
  unfolding selectivity
  at x c is = ap (selectivity S instances) (sym is) ∙ fold-roll-Condition ℕ (selectivity_layer S instances) x

  pub selectivity-Compare : (op : Comparison) (a b : Term) → selectivity S instances (Compare op a b) ≡ compared op (share_of_key (greater (term_keys S instances a) (term_keys S instances b)))
  selectivity-Compare op a b = at (Condition-F.Compare op a b) _ (rolls-Compare op a b)

  pub selectivity-IsNull : (a : Term) → selectivity S instances (IsNull a) ≡ 100000
  selectivity-IsNull a = at (Condition-F.IsNull a) _ (rolls-IsNull a)

  pub selectivity-Not : (c : Condition) → selectivity S instances (Not c) ≡ others (selectivity S instances c)
  selectivity-Not c = at (Condition-F.Not c) _ (rolls-Not c)

  pub selectivity-And : (a b : Condition) (cs : List Condition) → selectivity S instances (And a b cs) ≡ all_of (map (selectivity S instances) (a ∷ b ∷ cs))
  selectivity-And a b cs = at (Condition-F.And a b cs) _ (rolls-And a b cs)

  pub selectivity-Or : (a b : Condition) (cs : List Condition) → selectivity S instances (Or a b cs) ≡ any_of (map (selectivity S instances) (a ∷ b ∷ cs))
  selectivity-Or a b cs = at (Condition-F.Or a b cs) _ (rolls-Or a b cs)

  pub selectivity-Exists : (g : ℕ) → selectivity S instances (Exists g) ≡ 500000
  selectivity-Exists g = at (Condition-F.Exists g) _ (rolls-Exists g)

  pub selectivity-In : (a : Term) (g k : ℕ) → selectivity S instances (In a g k) ≡ 500000
  selectivity-In a g k = at (Condition-F.In a g k) _ (rolls-In a g k)

  -- of a comparison, step by step
  pub compare-at : (d : Condition) (op : Comparison) (a b : Term) (first second keys : Option ℕ) (share result : ℕ) → d ≡ Compare op a b → first ≡ term_keys S instances a → second ≡ term_keys S instances b → keys ≡ greater first second
      → share ≡ share_of_key keys → result ≡ compared op share → result ≡ selectivity S instances d
  compare-at d op a b first second keys share result is left right both one all =
      all ∙ ap (compared op) (one ∙ ap share_of_key (both ∙ ap (λ k. greater k second) left ∙ ap (greater (term_keys S instances a)) right)) ∙ sym (ap (selectivity S instances) is ∙ selectivity-Compare op a b)
