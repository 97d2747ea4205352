-- What a shape is by lines: what each operator over what its inputs are is, and that it may be founded.
use Rattle.std.proofs.Common.{◌≡◌, refl, ap, sym, ◌∙◌, ℕ, true, ◌&&◌, List, [], ◌∷◌, ◌++◌, length, append_assoc, if◌then◌else◌, Option, Some, None}
use Rattle.std.specs.List.{list_all}
use Rattle.std.specs.Option.{option_and_then}
use Rattle.std.proofs.lemmas.Bool.{and_parts, and_from, lt-ltb}
use Rattle.std.proofs.lemmas.List.Folds.{list_all-append}
use Rattle.values.specs.Faults.{◌>>=◌, wanted_if}
use Rattle.query.specs.declared.query.TableInstance.{TableInstance}
use Rattle.algebra.specs.declared.condition.Condition.{Condition}
use Rattle.algebra.specs.declared.expr.Aggregation.{Aggregation}
use Rattle.algebra.specs.declared.expr.Expr.{Expr}
use Rattle.algebra.specs.Columns.{rising, is_subset}
use Rattle.algebra.specs.Expressions.{columns_of, is_formed, names_own, sides_formed, subqueries_pass}
use Rattle.algebra.proofs.Lists.{two}
use Rattle.algebra.proofs.Same.{same-expr}
use Rattle.rules.specs.declared.shape.Shape.{Shape}
use Rattle.rules.specs.declared.shape.Shape.TheVariants as shape
use Rattle.rules.specs.Matches as matches
use Rattle.derivation.specs.declared.line.Line.TheVariants.{Founds}
use Rattle.derivation.specs.declared.line.LineReason.TheVariants.{UnknownLine, IllFormed}
use Rattle.derivation.specs.Logs.{Log, founds, member}
use Rattle.derivation.specs.Replay.{Replays, is_earlier, is_known}
use Rattle.derivation.specs.Spelling.{spelling, class_with}
use Rattle.derivation.proofs.Lookups.{member-within}
use Rattle.logs.proofs.Equations.{spelt_Class, spelt_Select, spelt_Join, spelt_LeftJoin, spelt_Semi, spelt_Anti, spelt_Keep, spelt_Distinct, spelt_Group, class_Class, with-class}
use Rattle.bindings.specs.declared.operators.OverOne.{OverOne}
use Rattle.bindings.specs.declared.operators.OverOne.TheVariants as one
use Rattle.bindings.specs.declared.operators.OverTwo.{OverTwo}
use Rattle.bindings.specs.declared.operators.OverTwo.TheVariants as two_
use Rattle.rules.specs.Formed.{Formed, are_joined, formed, groups_formed}
use Rattle.bindings.specs.Operators.{over_one, over_two}
use Rattle.bindings.specs.Operators.{one_shape, two_shape}
use Rattle.bindings.specs.Spelt.{cols, HasLine, MayStand, MayBeFounded, IsSpelt, IsPlaced}
use Rattle.bindings.proofs.FormedLogs.{kept_by}
use Rattle.rules.proofs.FormedShapes.{formed_class, formed_select, formed_join, formed_left_join, formed_semi, formed_anti, formed_keep, formed_distinct, formed_group}

-- ---- a line with an expression

pub line_has : (instances : List TableInstance) (own : List Aggregation) (E : Log) (x : Expr) (line : ℕ) (l : matches.Line) → Replays instances own E → member E line ≡ Some l → l.expr ≡ x → HasLine instances E x line l.class
line_has instances own E x line l replays there is =
    let kept = (kept_by instances own E replays).lines line l there in
    record {
      there = there ∙ ap (λ x. Some (record { class = l.class; expr = x })) is;
      founded = kept.class;
      columns = sym kept.columns ∙ ap (columns_of instances (cols instances E)) is;
    }

module _ (instances : List TableInstance) (own : List Aggregation) (E : Log) where
  abbrev F : Shape → Formed
  F = formed instances own (cols instances E) (founds E)

  -- an expression may be founded if its classes are and it is well formed
  may-be-founded : (x : Expr) → is_known E x ≡ true → is_formed instances own (cols instances E) x ≡ true → MayBeFounded instances own E x
  may-be-founded x known formed_ =
      ap (λ b. wanted_if UnknownLine b (Founds x) >>= λ l. wanted_if IllFormed (is_formed instances own (cols instances E) x) l) known
      ∙ ap (λ b. wanted_if IllFormed b (Founds x)) formed_

  -- ---- operators over one class

  record OneFits (s : Shape) (f : ℕ → Expr) (x : Shape) : Type 0 where
    spelt : (makes : List ℕ) → (spelling (member E) s).expr makes ≡ option_and_then (λ p. Some (f p.0, p.1)) ((spelling (member E) x).class makes)
    founded : (g : ℕ) → founds E g ≡ true → cols instances E g ≡ (F x).columns → MayBeFounded instances own E (f g)
    columns : (g : ℕ) → cols instances E g ≡ (F x).columns → columns_of instances (cols instances E) (f g) ≡ (F s).columns

  one-fits : (op : OverOne) (x : Shape) → MayStand instances own E (one_shape op x) → OneFits (one_shape op x) (over_one op) x
  one-fits (one.Select C) x may =
      let is = formed_select instances own (cols instances E) (founds E) C.now x in
      let parts = and_parts _ _ (sym (ap (λ f. f.is_formed) is) ∙ may) in
      let are = and_parts _ _ parts.1 in
      record {
        spelt = spelt_Select (member E) C.now x;
        founded = λ g there same. may-be-founded _ (and_from _ _ (and_from _ _ there refl) are.0) (and_from _ _ are.1 refl);
        columns = λ g same. same ∙ sym (ap (λ f. f.columns) is);
      }
  one-fits (one.Keep L) x may =
      let is = formed_keep instances own (cols instances E) (founds E) L.now x in
      let parts = and_parts _ _ (sym (ap (λ f. f.is_formed) is) ∙ may) in
      record {
        spelt = spelt_Keep (member E) L.now x;
        founded = λ g there same. may-be-founded _ (and_from _ _ (and_from _ _ there refl) refl) (ap (is_subset L.now) same ∙ parts.1);
        columns = λ g same. sym (ap (λ f. f.columns) is);
      }
  one-fits one.Distinct x may =
      let is = formed_distinct instances own (cols instances E) (founds E) x in
      record {
        spelt = spelt_Distinct (member E) x;
        founded = λ g there same. may-be-founded _ (and_from _ _ (and_from _ _ there refl) refl) refl;
        columns = λ g same. same ∙ sym (ap (λ f. f.columns) is);
      }
  one-fits (one.Group L G) x may =
      let is = formed_group instances own (cols instances E) (founds E) L.now G.now x in
      let parts = and_parts _ _ (sym (ap (λ f. f.is_formed) is) ∙ may) in
      record {
        spelt = spelt_Group (member E) L.now G.now x;
        founded = λ g there same. may-be-founded _ (and_from _ _ (and_from _ _ there refl) refl) (ap (groups_formed instances own (cols instances E) (founds E) L.now G.now) same ∙ parts.1);
        columns = λ g same. sym (ap (λ f. f.columns) is);
      }

  -- what is so of an operator over inputs that may stand is so of these
  pub select_input : (C : List Condition) (x : Shape) → MayStand instances own E (shape.Select C x) → MayStand instances own E x
  select_input C x may = (and_parts _ _ (sym (ap (λ f. f.is_formed) (formed_select instances own (cols instances E) (founds E) C x)) ∙ may)).0

  pub keep_input : (L : List ℕ) (x : Shape) → MayStand instances own E (shape.Keep L x) → MayStand instances own E x
  keep_input L x may = (and_parts _ _ (sym (ap (λ f. f.is_formed) (formed_keep instances own (cols instances E) (founds E) L x)) ∙ may)).0

  pub distinct_input : (x : Shape) → MayStand instances own E (shape.Distinct x) → MayStand instances own E x
  distinct_input x may = sym (ap (λ f. f.is_formed) (formed_distinct instances own (cols instances E) (founds E) x)) ∙ may

  pub group_input : (L : List ℕ) (G : List Aggregation) (x : Shape) → MayStand instances own E (shape.Group L G x) → MayStand instances own E x
  group_input L G x may = (and_parts _ _ (sym (ap (λ f. f.is_formed) (formed_group instances own (cols instances E) (founds E) L G x)) ∙ may)).0

  pub one_spelt : (op : OverOne) (x : Shape) (g : ℕ) (makes : List ℕ) → MayStand instances own E (one_shape op x) → IsPlaced instances own E x g makes → IsSpelt instances own E (one_shape op x) (over_one op g) makes
  one_spelt op x g makes may is =
      let fits = one-fits op x may in
      record {
        spelt = λ rest. fits.spelt (makes ++ rest) ∙ ap (option_and_then (λ p. Some (over_one op p.0, p.1))) (is.spelt rest);
        founded = fits.founded g is.founded is.columns;
        columns = fits.columns g is.columns;
        cited = is.cited;
      }

  -- ---- operators over two

  record TwoFit (s : Shape) (f : ℕ → ℕ → Expr) (a b : Shape) : Type 0 where
    spelt : (makes : List ℕ) → (spelling (member E) s).expr makes ≡ option_and_then (λ p. option_and_then (λ q. Some (f p.0 q.0, q.1)) ((spelling (member E) b).class p.1)) ((spelling (member E) a).class makes)
    founded : (g h : ℕ) → founds E g ≡ true → founds E h ≡ true → cols instances E g ≡ (F a).columns → cols instances E h ≡ (F b).columns → MayBeFounded instances own E (f g h)
    columns : (g h : ℕ) → cols instances E g ≡ (F a).columns → cols instances E h ≡ (F b).columns → columns_of instances (cols instances E) (f g h) ≡ (F s).columns

  -- what a join asks
  record Joins (C : List Condition) (a b : Shape) : Type 0 where
    left : (F a).is_formed ≡ true
    right : (F b).is_formed ≡ true
    known : subqueries_pass (founds E) C ≡ true
    named : names_own instances own C ≡ true
    sides : sides_formed C (F a).columns (F b).columns ≡ true

  joins : (C : List Condition) (a b : Shape) → are_joined instances own (cols instances E) (founds E) C (F a) (F b) ≡ true → Joins C a b
  joins C a b is =
      let parts = and_parts _ _ is in
      let inputs = and_parts _ _ parts.0 in
      let own_ = and_parts _ _ parts.1 in
      let conditions = and_parts _ _ own_.0 in
      record { left = inputs.0; right = inputs.1; known = conditions.0; named = conditions.1; sides = own_.1 }

  both-known : (C : List Condition) (g h : ℕ) → founds E g ≡ true → founds E h ≡ true → subqueries_pass (founds E) C ≡ true → (list_all (founds E) (g ∷ h ∷ []) && subqueries_pass (founds E) C) ≡ true
  both-known C g h there also known = and_from _ _ (and_from _ _ there (and_from _ _ also refl)) known

  sides-formed : (C : List Condition) (a b : Shape) (g h : ℕ) → Joins C a b → cols instances E g ≡ (F a).columns → cols instances E h ≡ (F b).columns
      → (names_own instances own C && sides_formed C (cols instances E g) (cols instances E h)) ≡ true
  sides-formed C a b g h j same also = and_from _ _ j.named (two (sides_formed C) same also ∙ j.sides)

  two-fit : (op : OverTwo) (a b : Shape) → MayStand instances own E (two_shape op a b) → TwoFit (two_shape op a b) (over_two op) a b
  two-fit (two_.Join C) a b may =
      let is = formed_join instances own (cols instances E) (founds E) C.now a b in
      let j = joins C.now a b (sym (ap (λ f. f.is_formed) is) ∙ may) in
      record {
        spelt = spelt_Join (member E) C.now a b;
        founded = λ g h there also same so. may-be-founded _ (both-known C.now g h there also j.known) (sides-formed C.now a b g h j same so);
        columns = λ g h same so. two (λ A B. rising (A ++ B)) same so ∙ sym (ap (λ f. f.columns) is);
      }
  two-fit (two_.LeftJoin C) a b may =
      let is = formed_left_join instances own (cols instances E) (founds E) C.now a b in
      let j = joins C.now a b (sym (ap (λ f. f.is_formed) is) ∙ may) in
      record {
        spelt = spelt_LeftJoin (member E) C.now a b;
        founded = λ g h there also same so. may-be-founded _ (both-known C.now g h there also j.known) (sides-formed C.now a b g h j same so);
        columns = λ g h same so. two (λ A B. rising (A ++ B)) same so ∙ sym (ap (λ f. f.columns) is);
      }
  two-fit (two_.Semi C) a b may =
      let is = formed_semi instances own (cols instances E) (founds E) C.now a b in
      let j = joins C.now a b (sym (ap (λ f. f.is_formed) is) ∙ may) in
      record {
        spelt = spelt_Semi (member E) C.now a b;
        founded = λ g h there also same so. may-be-founded _ (both-known C.now g h there also j.known) (sides-formed C.now a b g h j same so);
        columns = λ g h same so. same ∙ sym (ap (λ f. f.columns) is);
      }
  two-fit (two_.Anti S M) a b may =
      let is = formed_anti instances own (cols instances E) (founds E) S.now M.now a b in
      let j = joins (S.now ++ M.now) a b (sym (ap (λ f. f.is_formed) is) ∙ may) in
      record {
        spelt = spelt_Anti (member E) S.now M.now a b;
        founded = λ g h there also same so. may-be-founded _ (both-known (S.now ++ M.now) g h there also j.known) (sides-formed (S.now ++ M.now) a b g h j same so);
        columns = λ g h same so. same ∙ sym (ap (λ f. f.columns) is);
      }

  abbrev Inputs : Shape → Shape → Type 0
  Inputs a b = MayStand instances own E a × MayStand instances own E b

  pub join_inputs : (C : List Condition) (a b : Shape) → MayStand instances own E (shape.Join C a b) → Inputs a b
  join_inputs C a b may = let j = joins C a b (sym (ap (λ f. f.is_formed) (formed_join instances own (cols instances E) (founds E) C a b)) ∙ may) in (j.left, j.right)

  pub left_join_inputs : (C : List Condition) (a b : Shape) → MayStand instances own E (shape.LeftJoin C a b) → Inputs a b
  left_join_inputs C a b may = let j = joins C a b (sym (ap (λ f. f.is_formed) (formed_left_join instances own (cols instances E) (founds E) C a b)) ∙ may) in (j.left, j.right)

  pub semi_inputs : (C : List Condition) (a b : Shape) → MayStand instances own E (shape.Semi C a b) → Inputs a b
  semi_inputs C a b may = let j = joins C a b (sym (ap (λ f. f.is_formed) (formed_semi instances own (cols instances E) (founds E) C a b)) ∙ may) in (j.left, j.right)

  pub anti_inputs : (S M : List Condition) (a b : Shape) → MayStand instances own E (shape.Anti S M a b) → Inputs a b
  anti_inputs S M a b may = let j = joins (S ++ M) a b (sym (ap (λ f. f.is_formed) (formed_anti instances own (cols instances E) (founds E) S M a b)) ∙ may) in (j.left, j.right)

  pub two_spelt : (op : OverTwo) (a b : Shape) (g h : ℕ) (makes more : List ℕ) → MayStand instances own E (two_shape op a b) → IsPlaced instances own E a g makes → IsPlaced instances own E b h more
      → IsSpelt instances own E (two_shape op a b) (over_two op g h) (makes ++ more)
  two_spelt op a b g h makes more may left right =
      let fits = two-fit op a b may in
      record {
        spelt = λ rest. ap (λ ms. (spelling (member E) (two_shape op a b)).expr ms) (append_assoc makes more rest) ∙ fits.spelt (makes ++ (more ++ rest))
            ∙ ap (option_and_then (λ p. option_and_then (λ q. Some (over_two op p.0 q.0, q.1)) ((spelling (member E) b).class p.1))) (left.spelt (more ++ rest))
            ∙ ap (option_and_then (λ q. Some (over_two op g q.0, q.1))) (right.spelt rest);
        founded = fits.founded g h left.founded right.founded left.columns right.columns;
        columns = fits.columns g h left.columns right.columns;
        cited = list_all-append (is_earlier E) makes more ∙ and_from _ _ left.cited right.cited;
      }

  -- ---- classes

  pub class_placed : (g : ℕ) → MayStand instances own E (shape.Class g) → IsPlaced instances own E (shape.Class g) g []
  class_placed g may =
      let is = formed_class instances own (cols instances E) (founds E) g in
      record {
        spelt = class_Class (member E) g;
        founded = sym (ap (λ f. f.is_formed) is) ∙ may;
        columns = sym (ap (λ f. f.columns) is);
        cited = refl;
      }

  pub expr_placed : (s : Shape) (x : Expr) (line class : ℕ) (inner : List ℕ) → HasLine instances E x line class → IsSpelt instances own E s x inner → IsPlaced instances own E s class (line ∷ inner)
  expr_placed s x line class inner has is = record {
    spelt = λ rest. with-class (member E) s no-class (line ∷ inner ++ rest) line (inner ++ rest) refl x rest (Some class) (is.spelt rest) here;
    founded = has.founded;
    columns = has.columns ∙ is.columns;
    cited = and_from _ _ (lt-ltb line (length E) (member-within E line _ has.there)) is.cited;
  }
    where
      no-class : (g : ℕ) → s ≡ shape.Class g → ⊥
      no-class g same =
          let never : ◌≡◌ {A = Option (Expr × List ℕ)} None (Some (x, [])) = sym (spelt_Class (member E) g (inner ++ [])) ∙ ap (λ s. (spelling (member E) s).expr (inner ++ [])) (sym same) ∙ is.spelt [] in
          cc

      here : class_with x (member E line) ≡ Some class
      here = ap (class_with x) has.there ∙ ap (λ b. if b then Some class else None) (same-expr x)
