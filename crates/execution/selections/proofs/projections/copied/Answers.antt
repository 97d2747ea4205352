use Rattle.std.proofs.Common.{◌≡◌, ap, sym, subst, ◌∙◌, ℕ, List, [], ◌∷◌, length, map}
use Rattle.std.specs.List.{AllByRecursion}
use Rattle.std.proofs.lemmas.List.FromFn.{length-map-range_with_len}
use Rattle.std.proofs.lemmas.List.{length-map}
use Rattle.schema.specs.Databases.{Row}
use Rattle.algebra.specs.Columns.{has}
use Rattle.algebra.specs.Bags.{Env, lay}
use Rattle.relations.specs.Relations.{env_of, numbered_env, rows_of}
use Rattle.joins.proofs.Outputs.{restated}
use Rattle.relations.proofs.RelationRows.{made-even}
use Rattle.selections.proofs.projections.copied.Goals as goal

pub made-requires : goal.made-requires
made-requires c =
    let r = c.args.input.now in
    let made : List Env = rows_of r (env_of c.args.env.now) in
    let many : length made ≡ r.rows.count = length-map-range_with_len (numbered_env r (env_of c.args.env.now)) 0 r.rows.count in
    record {
      even = subst (AllByRecursion (λ (part : List Row). length part ≡ r.rows.count)) (sym c.in_ok-parts.ensures) (made-even c.as_slice.result.now made r.rows.count many);
      each = ap length c.in_ok-parts.ensures ∙ length-map c.as_slice.result.now (λ k. map (λ (f : Env). f k ∷ []) made) ∙ ap length (c.as_slice.ensures.columns ∙ sym c.in_ok-copy.ensures);
    }

pub returns : goal.returns
returns c =
    let r = c.args.input.now in
    let e = env_of c.args.env.now in
    let made : List Env = rows_of r e in
    restated c.made.result _ _ _ _ e c.in_ok-copy.ensures
    (ap (λ (K : List ℕ). map (λ f. lay (has K) f e) made) c.in_ok-copy.ensures)
    (c.made.ensures made e (length-map-range_with_len (numbered_env r e) 0 r.rows.count) (c.in_ok-parts.ensures ∙ ap (λ (K : List ℕ). map (λ k. map (λ (f : Env). f k ∷ []) made) K) (c.as_slice.ensures.columns ∙ sym c.in_ok-copy.ensures)))
