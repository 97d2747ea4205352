-- Where the search for a column's name ends.
use Rattle.std.proofs.Common.{◌≡◌, ap, sym, ◌∙◌, ℕ, ◌<◌, suc, List, ◌++◌, length, get_or, drop, drop-cons, Some, codes}
use Rattle.schema.specs.declared.schema.Column.{Column}
use Rattle.query.specs.declared.query.TableInstance.{TableInstance}
use Rattle.explain.specs.Names.{own_column, name_or, stored_text}

-- a table instance has the column
pub stored-here : (tables : List TableInstance) (i c : ℕ) (t : TableInstance) (column : Column) → i < length tables → t ≡ get_or tables i t → Some column ≡ own_column t c
    → stored_text (drop i tables) c ≡ t.name ++ (codes "." ++ column.name)
stored-here tables i c t column inside is has =
    ap (λ xs. stored_text xs c) (drop-cons tables i t inside)
    ∙ ap (λ u. name_or u (own_column u c) (stored_text (drop (suc i) tables) c)) (sym is)
    ∙ ap (λ o. name_or t o (stored_text (drop (suc i) tables) c)) (sym has)
