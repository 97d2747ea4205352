use Rattle.std.proofs.Common.{◌∙◌, ap, subst, length, map, Err}
use Rattle.std.proofs.lemmas.Result.{err_from_is_err_and}
use Rattle.schema.specs.declared.schema.Schema.{Schema}
use Rattle.schema.specs.Databases.{Stored}
use Rattle.pipeline.specs.EndToEnd.{TablesReported, IsLoadFault}
use Rattle.pipeline.proofs.Answered.{of_fault}
use Rattle.pipeline.proofs.Prepared.{from_files, satisfied_by}
use Rattle.pipeline.proofs.preparation.loaded.Goals as goal

pub returns-in_err-load_all-clause-fails : goal.returns-in_err-load_all-clause-fails
returns-in_err-load_all-clause-fails g c =
    let p = err_from_is_err_and c.from_residual-in_err-load_all.result c.from_residual-in_err-load_all.ensures.1 in
    of_fault c.from_residual-in_err-load_all.result c.in_err-load_all.field-0.0 _ (p.1 ∙ ap Err p.2)
    (subst (λ (S : Schema). IsLoadFault S (map g.R.TableInput.remaining c.args.tables.now) c.in_err-load_all.field-0.0) (ap (λ (s : Stored). s.schema) c.in_ok-database.ensures) c.in_err-load_all.ensures.fails)

pub returns-clause-loaded : goal.returns-clause-loaded
returns-clause-loaded g c =
    let same = ap (λ (s : Stored). s.schema) c.in_ok-database.ensures in
    from_files c.args.schema.now (map g.R.TableInput.remaining c.args.tables.now) (length c.args.tables.now) c.load_all.new.database
    (c.in_ok-load_all.ensures.schema ∙ same) c.requires
    (subst (λ (S : Schema). TablesReported S (map g.R.TableInput.remaining c.args.tables.now) (length c.args.tables.now) c.load_all.new.database.tables) same c.in_ok-load_all.ensures.reported)
    (satisfied_by c.database.inside.schema.now c.database.inside.tables.items c.load_all.new.database c.database.view_is c.database.invariant)
