-- A relation that was made in one environment serves in another that reads the same; and the relations of plans that go from row to row.
use Rattle.std.proofs.Common.{◌≡◌, ap, sym, ◌∙◌, ℕ, zero, suc, ◌+◌, ◌<◌, ◌≤◌, List, [], ◌∷◌, ◌++◌, length, get_or, set, slice_get, true, Some, take, map, refl, subst, arith}
use mathlib.Core.List.{map-map}
use Rattle.std.proofs.lemmas.List.{get_or-map, length-map}
use Rattle.std.proofs.lemmas.Option.{slice_get-get_or}
use Rattle.values.proofs.Lists.{map_next}
use Rattle.algebra.specs.Columns.{has}
use Rattle.algebra.specs.Bags.{Env, lay, same_on}
use Rattle.algebra.proofs.UniqueRows.{same_on-reads}
use Rattle.physical.specs.declared.plan.Plan.{Plan}
use Rattle.physical.specs.Outputs.{Output}
use Rattle.relations.specs.declared.relation.Relation.{Relation}
use Rattle.relations.specs.Parts.{row_at}
use Rattle.relations.specs.Relations.{AreOutputs, IsOutput, numbered_env, numbers_of, rows_of}
use Rattle.joins.proofs.JoinRows.{pair-laid}
use Rattle.operators.specs.RowReadings.{AreReadings, IsReading}

-- a relation's rows in another environment
rows-laid : (r : Relation) (e d : Env) → rows_of r d ≡ map (λ s. lay (has r.heading.columns) s d) (rows_of r e)
rows-laid r e d =
    (λ i. map (λ n. pair-laid r.heading (row_at r.rows.parts.items n) e d i) (numbers_of r))
    ∙ sym (map-map (λ s. lay (has r.heading.columns) s d) (numbered_env r e) (numbers_of r))

output-serves : (x : Output) (K : List ℕ) (e d : Env) (r : Relation) → IsReading x K → same_on K e d ≡ true → IsOutput x.columns (x.rows e) e r → IsOutput x.columns (x.rows d) d r
output-serves x K e d r fits same is = record {
  columns_are = is.columns_are;
  rows_are = rows-laid r e d ∙ ap (λ L. map (λ s. lay (has L) s d) (rows_of r e)) is.columns_are ∙ ap (map (λ s. lay (has x.columns) s d)) is.rows_are ∙ sym (fits e d (λ c in_. same_on-reads K e d c same in_));
}

-- ---- what inputs read

pub readings-more : (inputs : List Output) (reads : List (List ℕ)) (x : Output) (K : List ℕ) → AreReadings inputs reads → IsReading x K → AreReadings (inputs ++ x ∷ []) (reads ++ K ∷ [])
readings-more [] [] x K all is = (is, tt)
readings-more [] (L ∷ reads) x K all is = absurd all
readings-more (y ∷ inputs) [] x K all is = absurd all
readings-more (y ∷ inputs) (L ∷ reads) x K all is = (all.0, readings-more inputs reads x K all.1 is)

pub readings-length : (inputs : List Output) (reads : List (List ℕ)) → AreReadings inputs reads → length reads ≡ length inputs
readings-length [] [] all = refl
readings-length [] (K ∷ reads) all = absurd all
readings-length (x ∷ inputs) [] all = absurd all
readings-length (x ∷ inputs) (K ∷ reads) all = let rest = readings-length inputs reads all.1 in omega (arith, rest)

-- ---- inputs that go from one row to another

outputs-length : (inputs : List Output) (e : Env) (relations : List Relation) → AreOutputs inputs e relations → length relations ≡ length inputs
outputs-length [] e [] all = refl
outputs-length [] e (r ∷ relations) all = absurd all
outputs-length (x ∷ inputs) e [] all = absurd all
outputs-length (x ∷ inputs) e (r ∷ relations) all = let rest = outputs-length inputs e relations all.1 in omega (arith, rest)

-- the first of the inputs have their relations at the new row d, and the others still at the last one
abbrev pub AreMoved : ℕ → List Output → Env → Env → List Relation → Type 0
AreMoved zero inputs e d relations = AreOutputs inputs e relations
AreMoved (suc i) [] e d [] = Unit {0}
AreMoved (suc i) [] e d (r ∷ relations) = ⊥
AreMoved (suc i) (x ∷ inputs) e d [] = ⊥
AreMoved (suc i) (x ∷ inputs) e d (r ∷ relations) = IsOutput x.columns (x.rows d) d r × AreMoved i inputs e d relations

pub moved-length : (i : ℕ) (inputs : List Output) (e d : Env) (relations : List Relation) → AreMoved i inputs e d relations → length relations ≡ length inputs
moved-length zero inputs e d relations all = outputs-length inputs e relations all
moved-length (suc i) [] e d [] all = refl
moved-length (suc i) [] e d (r ∷ relations) all = absurd all
moved-length (suc i) (x ∷ inputs) e d [] all = absurd all
moved-length (suc i) (x ∷ inputs) e d (r ∷ relations) all = let rest = moved-length i inputs e d relations all.1 in omega (arith, rest)

pub moved-stay : (i : ℕ) (inputs : List Output) (reads : List (List ℕ)) (L : List ℕ) (e d : Env) (relations : List Relation) → i < length inputs → AreReadings inputs reads → L ≡ get_or reads i L → same_on L e d ≡ true
    → AreMoved i inputs e d relations → AreMoved (suc i) inputs e d relations
moved-stay i [] reads L e d relations lt readings at same all = absurd (omega (arith, lt))
moved-stay i (x ∷ inputs) [] L e d relations lt readings at same all = absurd readings
moved-stay zero (x ∷ inputs) (K ∷ reads) L e d [] lt readings at same all = absurd all
moved-stay (suc i) (x ∷ inputs) (K ∷ reads) L e d [] lt readings at same all = absurd all
moved-stay zero (x ∷ inputs) (K ∷ reads) L e d (r ∷ relations) lt readings at same all = (output-serves x K e d r readings.0 (subst (λ M. same_on M e d ≡ true) at same) all.0, all.1)
moved-stay (suc i) (x ∷ inputs) (K ∷ reads) L e d (r ∷ relations) lt readings at same all = (all.0, moved-stay i inputs reads L e d relations (omega (arith, lt)) readings.1 at same all.1)

pub moved-again : (i : ℕ) (inputs : List Output) (x : Output) (e d : Env) (relations : List Relation) (r : Relation) → slice_get inputs i ≡ Some x → IsOutput x.columns (x.rows d) d r
    → AreMoved i inputs e d relations → AreMoved (suc i) inputs e d (set relations i r)
moved-again i [] x e d relations r at is all = cc at
moved-again zero (y ∷ inputs) x e d [] r at is all = absurd all
moved-again (suc i) (y ∷ inputs) x e d [] r at is all = absurd all
moved-again zero (y ∷ inputs) x e d (s ∷ relations) r at is all = let same : y ≡ x = cc at in (rw (same) is, all.1)
moved-again (suc i) (y ∷ inputs) x e d (s ∷ relations) r at is all = (all.0, moved-again i inputs x e d relations r at is all.1)

pub moved-all : (i : ℕ) (inputs : List Output) (e d : Env) (relations : List Relation) → length inputs ≤ i → AreMoved i inputs e d relations → AreOutputs inputs d relations
moved-all zero [] e d [] le all = tt
moved-all zero [] e d (r ∷ relations) le all = absurd all
moved-all zero (x ∷ inputs) e d relations le all = absurd (omega (arith, le))
moved-all (suc i) [] e d [] le all = tt
moved-all (suc i) [] e d (r ∷ relations) le all = absurd all
moved-all (suc i) (x ∷ inputs) e d [] le all = absurd all
moved-all (suc i) (x ∷ inputs) e d (r ∷ relations) le all = (all.0, moved-all i inputs e d relations (omega (arith, le)) all.1)

-- ---- plans, whose outputs the inputs are

pub plan-at : (f : Plan → Output) (plans : List Plan) (i : ℕ) (plan : Plan) → i < length plans → plan ≡ get_or plans i plan → slice_get (map f plans) i ≡ Some (f plan)
plan-at f plans i plan lt is =
    let size = length-map plans f in
    slice_get-get_or (map f plans) i (f plan) (omega (arith, size, lt)) ∙ ap Some (get_or-map f plans i plan (f plan) lt ∙ ap f (sym is))

pub readings-next : (f : Plan → Output) (plans : List Plan) (reads more : List (List ℕ)) (i : ℕ) (plan : Plan) (K : List ℕ) → i < length plans → plan ≡ get_or plans i plan → AreReadings (map f (take i plans)) reads → IsReading (f plan) K
    → more ≡ reads ++ K ∷ [] → AreReadings (map f (take (i + 1) plans)) more
readings-next f plans reads more i plan K lt at all is same =
    rw (map_next f plans i plan lt at, same) (readings-more (map f (take i plans)) reads (f plan) K all is)
