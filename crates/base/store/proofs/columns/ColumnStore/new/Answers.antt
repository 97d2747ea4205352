use Rattle.std.proofs.Common.{◌∙◌, ◌++◌, ◌∷◌, [], List, take, map, refl, sym, ap, arith}
use Rattle.std.proofs.lemmas.List.{map_push, take_all}
use Rattle.values.proofs.Lists.{take_next}
use Rattle.schema.specs.declared.schema.Column.{Column}
use Rattle.schema.specs.declared.schema.Kind.{Kind}
use Rattle.store.specs.StoredColumns.{Kept, kind_of}
use Rattle.store.specs.declared.cells.ColumnCells.{ColumnCells}
use Rattle.store.proofs.ColumnRows.{has_push}
use Rattle.store.proofs.columns.ColumnStore.new.Goals as goal

pub loop-column-init : goal.loop-column-init
loop-column-init c = rw c.in_ok-kept.ensures.items (record { kinds = refl; empty = tt })

pub loop-column-preserved : goal.loop-column-preserved
loop-column-preserved c =
    let next = take_next c.args.columns.now c.loop-column.column-index c.column-item.result (omega arith) c.column-item.is in
    rw (c.in_ok-push.ensures.items, next) (record {
      kinds = map_push (λ (k : ColumnCells). kind_of k.entries) c.loop-column.kept.items c.new.result ∙ ap (λ (ks : List Kind). ks ++ kind_of c.new.result.entries ∷ []) c.loop-column.invariant.kinds ∙ ap (λ (k : Kind). map (λ (x : Column). x.kind) (take c.loop-column.column-index c.args.columns.now) ++ k ∷ []) c.new.ensures.kind ∙ sym (map_push (λ (x : Column). x.kind) (take c.loop-column.column-index c.args.columns.now) c.column-item.result);
      empty = has_push 0 c.loop-column.kept.items c.new.result c.loop-column.invariant.empty c.new.ensures.empty;
    })

pub invariant_of-result : goal.invariant_of-result
invariant_of-result c = c.loop-column.invariant.empty

pub returns : goal.returns
returns c =
    let all = take_all c.loop-column.column-index c.args.columns.now (omega arith) in
    ap (λ (ks : List Kind). let k : Kept = record { kinds = ks; rows = [] } in k) (c.loop-column.invariant.kinds ∙ ap (λ (cs : List Column). map (λ (x : Column). x.kind) cs) all)
