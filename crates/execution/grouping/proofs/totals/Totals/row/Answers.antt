use Rattle.std.proofs.Common.{◌≡◌, refl, ap, sym, subst, ◌∙◌, List, [], ◌∷◌, length, map}
use Rattle.std.specs.List.{AllByRecursion}
use Rattle.std.proofs.lemmas.List.{length-map}
use Rattle.schema.specs.Databases.{Row}
use Rattle.algebra.specs.Bags.{Env}
use Rattle.algebra.specs.Expressions.{with_aggregates}
use Rattle.relations.specs.Relations.{env_of}
use Rattle.relations.proofs.RelationRows.{made-even}
use Rattle.grouping.proofs.Zips.{zip-length}
use Rattle.grouping.proofs.totals.Totals.row.Goals as goal

pub made-requires : goal.made-requires
made-requires c =
    let made : List Env = with_aggregates c.args.added.now c.requires.0 (env_of c.args.env.now) ∷ [] in
    let parts = c.in_ok-parts.ensures c.requires.0 c.requires.1 in
    record {
      even = subst (AllByRecursion (λ (part : List Row). length part ≡ 1)) (sym parts) (made-even _ made 1 refl);
      each = ap length parts ∙ length-map _ (λ k. map (λ (f : Env). f k ∷ []) made) ∙ ap length c.as_slice.ensures.columns;
    }

pub parts-requires : goal.parts-requires
parts-requires c = zip-length _ c.args.added.now c.args.self.now.running.items c.requires.1.held

pub returns : goal.returns
returns c = λ rows totals.
    let e = env_of c.args.env.now in
    let made : List Env = with_aggregates c.args.added.now rows e ∷ [] in
    c.made.ensures made e refl (c.in_ok-parts.ensures rows totals ∙ ap (map (λ k. map (λ (f : Env). f k ∷ []) made)) c.as_slice.ensures.columns)
