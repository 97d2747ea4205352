use Rattle.std.proofs.Common.{ap, sym, ◌∙◌, List, [], length, map, zero-add}
use Rattle.std.proofs.lemmas.List.{length-map}
use Rattle.schema.specs.declared.schema.Schema.{Schema}
use Rattle.query.specs.Rows.{tables_of}
use Rattle.algebra.specs.Bags.{Env, nulls}
use Rattle.physical.specs.Outputs.{output_rows}
use Rattle.cursors.specs.Cursors.{Progress}
use Rattle.measures.proofs.counting.counted.Goals as goal

pub loop-cursor-init : goal.loop-cursor-init
loop-cursor-init c =
    let rows : Schema → List Env = λ S. output_rows c.args.sources.instances.now (tables_of S c.args.sources.tables.now) c.args.plan.now nulls in
    let none : Schema = record { tables = [] } in
    record {
      all = λ S. sym (zero-add (length c.in_ok-cursor.cursor.to_come) ∙ ap (λ (p : Progress). length p.to_come) (c.in_ok-cursor.ensures S) ∙ length-map (rows S) (λ (e : Env). map e []));
      handed = ap (λ (p : Progress). p.handed) (c.in_ok-cursor.ensures none);
      fault = ap (λ (p : Progress). p.fault) (c.in_ok-cursor.ensures none);
    }
