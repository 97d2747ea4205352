-- Reading sets of classes.
use Rattle.std.proofs.Common.{◌≡◌, refl, ap, sym, ◌∙◌, subst, ℕ, ◌<◌, ◌≤◌, Bool, true, false, ◌&&◌, ◌==◌, nat_lt, if◌then◌else◌, List, [], length, get_or, arith}
use Rattle.std.proofs.lemmas.Bool.{eq-eqb, eqb-true, ltb-true, lt-ltb}
use Rattle.std.proofs.lemmas.List.{get_or_default}
use Rattle.std.proofs.lemmas.Option.{slice_get-get_or, slice_get_past}
use Rattle.props.specs.declared.fact.FactSets.{FactSets}
use Rattle.props.specs.Facts.{no_facts}
use Rattle.props.specs.Knowledge.{root_of, facts_at, facts_or_none}
use Rattle.logs.specs.declared.sets.ClassSets.{ClassSets}
use Rattle.logs.specs.Sets as spec
use Rattle.algebra.specs.Columns.{has, columns_at}
use Rattle.logs.specs.Sets.{AreSets, facts_of, set_at, times}
use Rattle.logs.proofs.Times.{times-some, times-none}

module _ (s : ClassSets) where
  abbrev sets : List ℕ
  sets = s.sets.items

  abbrev roots : List ℕ
  roots = s.roots.items

  -- the class that stands for the set of a class
  pub root-at : (g d : ℕ) → g < length sets → set_at sets g < length roots → spec.root_of s g ≡ get_or roots (set_at sets g) d
  root-at g d lt within = ap (root_of roots g) (slice_get-get_or sets g 0 lt) ∙ get_or_default roots (set_at sets g) g d within

  pub root-past : (g : ℕ) → length sets ≤ g → spec.root_of s g ≡ g
  root-past g le = ap (root_of roots g) (slice_get_past sets g le)

  -- the facts of its set
  pub facts-here : (g : ℕ) (d : FactSets) → g < length sets → set_at sets g < length s.facts.items → facts_of s g ≡ get_or s.facts.items (set_at sets g) d
  facts-here g d lt within = ap (λ o. facts_or_none (facts_at s.facts.items o)) (slice_get-get_or sets g 0 lt) ∙ ap facts_or_none (slice_get-get_or s.facts.items (set_at sets g) d within)

  pub facts-past : (g : ℕ) → length sets ≤ g → facts_of s g ≡ no_facts
  facts-past g le = ap (λ o. facts_or_none (facts_at s.facts.items o)) (slice_get_past sets g le)

module _ (s : ClassSets) (are : AreSets s) where
  abbrev pub count : ℕ
  count = length s.sets.items

  pub in-roots : (g : ℕ) → g < count → set_at s.sets.items g < length s.roots.items
  in-roots g lt = let le = are.bounded g lt in let same = are.roots in omega (arith, le, same)

  pub in-facts : (g : ℕ) → g < count → set_at s.sets.items g < length s.facts.items
  in-facts g lt = let le = are.bounded g lt in let same = are.facts in omega (arith, le, same)

  pub in-members : (g : ℕ) → g < count → set_at s.sets.items g < length s.members.items
  in-members g lt = let le = are.bounded g lt in let same = are.members in omega (arith, le, same)

  -- classes of one set have one root, and the other way round
  pub one-root : (g h : ℕ) → g < count → h < count → set_at s.sets.items g ≡ set_at s.sets.items h → spec.root_of s g ≡ spec.root_of s h
  one-root g h lt less same = root-at s g 0 lt (in-roots g lt) ∙ ap (λ set. get_or s.roots.items set 0) same ∙ sym (root-at s h 0 less (in-roots h less))

  pub one-set : (g h : ℕ) → g < count → h < count → spec.root_of s g ≡ spec.root_of s h → set_at s.sets.items g ≡ set_at s.sets.items h
  one-set g h lt less same = sym (are.stands g lt).1 ∙ ap (set_at s.sets.items) same ∙ (are.stands h less).1

  -- the test for one root is the test for one set
  pub root-test : (g h : ℕ) → g < count → h < count → (spec.root_of s g == spec.root_of s h) ≡ (set_at s.sets.items g == set_at s.sets.items h)
  root-test g h lt less = by (set_at s.sets.items g == set_at s.sets.items h) refl
    where
      never : (b : Bool) → (spec.root_of s g == spec.root_of s h) ≡ b → (set_at s.sets.items g == set_at s.sets.items h) ≡ false → b ≡ false
      never false is other = refl
      never true is other = absurd (let no : true ≡ false = sym (eq-eqb _ _ (one-set g h lt less (eqb-true _ _ is))) ∙ other in cc)

      by : (b : Bool) → (set_at s.sets.items g == set_at s.sets.items h) ≡ b → (spec.root_of s g == spec.root_of s h) ≡ b
      by true is = eq-eqb _ _ (one-root g h lt less (eqb-true _ _ is))
      by false is = never (spec.root_of s g == spec.root_of s h) refl is

  -- the classes of a class's set
  pub set-times : (g h : ℕ) → h < count → times g (columns_at s.members.items (set_at s.sets.items h)) ≡ (if nat_lt g count && (spec.root_of s g == spec.root_of s h) then 1 else 0)
  set-times g h less = by (has (columns_at s.members.items (set_at s.sets.items h)) g) refl
    where
      outside : (c d : Bool) → has (columns_at s.members.items (set_at s.sets.items h)) g ≡ false → nat_lt g count ≡ c → (spec.root_of s g == spec.root_of s h) ≡ d → times g [] ≡ (if c && d then 1 else 0)
      outside false d absent e f = refl
      outside true false absent e f = refl
      outside true true absent e f =
          let lt : g < count = ltb-true g count e in
          let same : set_at s.sets.items g ≡ set_at s.sets.items h = one-set g h lt less (eqb-true _ _ f) in
          absurd (let never : true ≡ false = sym (subst (λ r. has (columns_at s.members.items r) g ≡ true) same (are.complete g lt)) ∙ absent in cc)

      by : (b : Bool) → has (columns_at s.members.items (set_at s.sets.items h)) g ≡ b → times g (columns_at s.members.items (set_at s.sets.items h)) ≡ (if nat_lt g count && (spec.root_of s g == spec.root_of s h) then 1 else 0)
      by true is =
          let own = are.sound (set_at s.sets.items h) g is in
          let one : times g (columns_at s.members.items (set_at s.sets.items h)) ≡ 1 = (let some = times-some g (columns_at s.members.items (set_at s.sets.items h)) is in let le = are.once (set_at s.sets.items h) g in omega (arith, some, le)) in
          one ∙ sym (ap (λ b. if b && (spec.root_of s g == spec.root_of s h) then 1 else 0) (lt-ltb g count own.0) ∙ ap (λ b. if b then 1 else 0) (eq-eqb _ _ (one-root g h own.0 less own.1)))
      by false absent = times-none g (columns_at s.members.items (set_at s.sets.items h)) absent ∙ outside (nat_lt g count) (spec.root_of s g == spec.root_of s h) absent refl refl

  -- there is no set where there is no class
  pub set-past : (g h : ℕ) → count ≤ h → times g [] ≡ (if nat_lt g count && (spec.root_of s g == spec.root_of s h) then 1 else 0)
  set-past g h le = by (nat_lt g count) (spec.root_of s g == spec.root_of s h) refl refl
    where
      by : (c d : Bool) → nat_lt g count ≡ c → (spec.root_of s g == spec.root_of s h) ≡ d → times g [] ≡ (if c && d then 1 else 0)
      by false d e f = refl
      by true false e f = refl
      by true true e f =
          let own = (are.stands g (ltb-true g count e)).0 in
          let same : spec.root_of s g ≡ spec.root_of s h = eqb-true _ _ f in
          let past : spec.root_of s h ≡ h = root-past s h le in
          absurd (omega (arith, own, same, past, le))
