-- The lines of a condition's subqueries are well formed, and it names the query's own columns.
use Rattle.std.proofs.Common.{◌≡◌, refl, ap, sym, ◌∙◌, ℕ, true, List, [], ◌∷◌, map}
use Rattle.std.specs.List.{list_all, AllByRecursion}
use Rattle.std.proofs.lemmas.Bool.{and_parts, and_from}
use Rattle.values.specs.declared.truth.Comparison.{Comparison}
use Rattle.query.specs.declared.query.Term.{Term}
use Rattle.query.specs.declared.query.TableInstance.{TableInstance}
use Rattle.query.specs.declared.query.Cond.{Cond}
use Rattle.query.specs.declared.query.Cond.TheVariants as cond
use Rattle.query.specs.declared.query.Block.{Block}
use Rattle.query.specs.Bound.{Scope, CondScope, bound_term, cond_scope, block_scope}
use Rattle.query.proofs.ScopeEquations.{scope-Compare, scope-IsNull, scope-Not, scope-And, scope-Or, scope-Exists, scope-In}
use Rattle.algebra.specs.Classes.{AreFormed}
use Rattle.algebra.specs.declared.condition.Condition.{Condition}
use Rattle.algebra.specs.declared.expr.Aggregation.{Aggregation}
use Rattle.algebra.specs.declared.expr.Expr.{Expr}
use Rattle.algebra.specs.Conditions.{all_columns}
use Rattle.algebra.specs.Expressions.{is_query_column}
use Rattle.frame.specs.Frames.{CondLines, AllLines, cond_frame, block_frame, all_frames, framed_as, numbered, first_shown, last}
use Rattle.algebra.proofs.ConditionNames.{columns-Compare, columns-IsNull, columns-Not, columns-Exists, columns-In}
use Rattle.algebra.proofs.ConnectiveParts.{columns-and_of, columns-or_of}
use Rattle.frame.proofs.FormedParts.{AllOwn, GroupsOwn, groups-before, term-own, FormedCond, FormedAll, FormedBlock, CondFormed, BlockFormed}
use Rattle.frame.proofs.FrameEquations.{frame-Compare, frame-IsNull, frame-Not, frame-And, frame-Or, frame-Exists, frame-In}
use Rattle.frame.proofs.FrameShapes.{shape-all, block-shape}

module _ (instances : List TableInstance) (own : List Aggregation) where
  cond-as : (f g : CondLines) (s t : CondScope) (scope : Scope) → f ≡ g → s ≡ t → (t.bound scope ≡ true → GroupsOwn instances own g.lines → FormedCond instances own g) → s.bound scope ≡ true → GroupsOwn instances own f.lines → FormedCond instances own f
  cond-as f g s t scope is as_ h = rw (is, as_) h

  framed-formed : (c : Condition) (lines : List Expr) → AreFormed instances own lines → all_columns c (is_query_column instances own) ≡ true → FormedCond instances own (framed_as c lines)
  framed-formed c lines formed named = record { lines = formed; named = named }

  pub formed-Compare : (op : Comparison) (a b : Term) → CondFormed instances own (cond.Compare op a b)
  formed-Compare op a b scope E all formed =
      cond-as _ _ _ _ scope (ap (λ f. f scope E) (frame-Compare instances op a b)) (scope-Compare instances op a b) (λ bound groups.
      let parts = and_parts (bound_term scope a) (bound_term scope b) bound in
      framed-formed _ E formed (columns-Compare op (numbered scope a) (numbered scope b) (is_query_column instances own) ∙ and_from _ _ (term-own instances own scope all a parts.0) (term-own instances own scope all b parts.1)))

  pub formed-IsNull : (a : Term) → CondFormed instances own (cond.IsNull a)
  formed-IsNull a scope E all formed =
      cond-as _ _ _ _ scope (ap (λ f. f scope E) (frame-IsNull instances a)) (scope-IsNull instances a) (λ bound groups.
      framed-formed _ E formed (columns-IsNull (numbered scope a) (is_query_column instances own) ∙ term-own instances own scope all a bound))

  pub formed-Not : (c : Cond) → CondFormed instances own c → CondFormed instances own (cond.Not c)
  formed-Not c is_formed scope E all formed =
      cond-as _ _ _ _ scope (ap (λ f. f scope E) (frame-Not instances c)) (scope-Not instances c) (λ bound groups.
      let part : FormedCond instances own (cond_frame instances c scope E) = is_formed scope E all formed bound groups in
      framed-formed _ _ part.lines (columns-Not (cond_frame instances c scope E).condition (is_query_column instances own) ∙ part.named))

  all-formed : (cs : List Cond) → AllByRecursion (CondFormed instances own) cs → (scope : Scope) (E : List Expr) → AllOwn instances own scope → AreFormed instances own E → list_all (λ s. s.bound scope) (map (cond_scope instances) cs) ≡ true
      → GroupsOwn instances own (all_frames (map (cond_frame instances) cs) scope E).lines → FormedAll instances own (all_frames (map (cond_frame instances) cs) scope E)
  all-formed [] are_formed scope E all formed bound groups = record { lines = formed; named = refl }
  all-formed (c ∷ cs) are_formed scope E all formed bound groups =
      let framed : CondLines = cond_frame instances c scope E in
      let others : AllLines = all_frames (map (cond_frame instances) cs) scope framed.lines in
      let parts = and_parts ((cond_scope instances c).bound scope) _ bound in
      let before : GroupsOwn instances own framed.lines = groups-before instances own others.lines framed.lines (shape-all instances cs scope framed.lines).grows groups in
      let first : FormedCond instances own framed = are_formed.0 scope E all formed parts.0 before in
      let rest : FormedAll instances own others = all-formed cs are_formed.1 scope framed.lines all first.lines parts.1 groups in
      record {
        lines = rest.lines;
        named = and_from _ _ first.named rest.named;
      }

  pub formed-And : (cs : List Cond) → AllByRecursion (CondFormed instances own) cs → CondFormed instances own (cond.And cs)
  formed-And cs are_formed scope E all formed =
      cond-as _ _ _ _ scope (ap (λ f. f scope E) (frame-And instances cs)) (scope-And instances cs) (λ bound groups.
      let parts : FormedAll instances own (all_frames (map (cond_frame instances) cs) scope E) = all-formed cs are_formed scope E all formed bound groups in
      framed-formed _ _ parts.lines (columns-and_of _ (is_query_column instances own) ∙ parts.named))

  pub formed-Or : (cs : List Cond) → AllByRecursion (CondFormed instances own) cs → CondFormed instances own (cond.Or cs)
  formed-Or cs are_formed scope E all formed =
      cond-as _ _ _ _ scope (ap (λ f. f scope E) (frame-Or instances cs)) (scope-Or instances cs) (λ bound groups.
      let parts : FormedAll instances own (all_frames (map (cond_frame instances) cs) scope E) = all-formed cs are_formed scope E all formed bound groups in
      framed-formed _ _ parts.lines (columns-or_of _ (is_query_column instances own) ∙ parts.named))

  pub formed-Exists : (q : Block) → BlockFormed instances own q → CondFormed instances own (cond.Exists q)
  formed-Exists q is_formed scope E all formed =
      cond-as _ _ _ _ scope (ap (λ f. f scope E) (frame-Exists instances q)) (scope-Exists instances q) (λ bound groups.
      let block : FormedBlock instances own (block_frame instances q) scope E = is_formed scope E all formed bound groups in
      framed-formed _ _ block.lines (columns-Exists (last ((block_frame instances q).lines scope E)) (is_query_column instances own)))

  -- the column of the one item that a block shows
  first-own : (shown : List ℕ) (k : ℕ) → shown ≡ k ∷ [] → list_all (is_query_column instances own) shown ≡ true → is_query_column instances own (first_shown shown) ≡ true
  first-own shown k is all = rw is (and_parts (is_query_column instances own k) true (sym (ap (list_all (is_query_column instances own)) is) ∙ all)).0

  pub formed-In : (a : Term) (q : Block) → BlockFormed instances own q → CondFormed instances own (cond.In a q)
  formed-In a q is_formed scope E all formed =
      cond-as _ _ _ _ scope (ap (λ f. f scope E) (frame-In instances a q)) (scope-In instances a q) (λ bound groups.
      let parts = and_parts (bound_term scope a) _ bound in
      let inner = and_parts (block_scope instances q).single ((block_scope instances q).bound scope) parts.1 in
      let block : FormedBlock instances own (block_frame instances q) scope E = is_formed scope E all formed inner.1 groups in
      let one = (block-shape instances q scope E).single inner.0 in
      framed-formed _ _ block.lines (columns-In (numbered scope a) (last ((block_frame instances q).lines scope E)) (first_shown ((block_frame instances q).shown scope)) (is_query_column instances own)
      ∙ and_from _ _ (term-own instances own scope all a parts.0) (first-own ((block_frame instances q).shown scope) one.0 one.1 block.shown)))
