-- What several operators select, one above the other.
use Rattle.std.proofs.Common.{◌≡◌, refl, ap, ◌∙◌, ℕ, List, [], ◌∷◌, ◌++◌}
use Rattle.std.proofs.lemmas.List.{map-append}
use Rattle.std.proofs.lemmas.List.Elements.{filter-append}
use Rattle.algebra.specs.Bags.{Env, lay, nulls}
use Rattle.algebra.specs.Columns.{has}
use Rattle.algebra.specs.Conditions.{holds}
use Rattle.physical.specs.Outputs.{no_classes}
use Rattle.selections.specs.declared.selecting.Selecting.{Selecting}
use Rattle.selections.specs.declared.selecting.Selecting.TheVariants.{Filter, Projection}
use Rattle.selections.specs.Selecting.{columns_above, rows_above, selecting_columns, selecting_rows}

-- one more above the others
pub columns-more : (above : List Selecting) (how : Selecting) (K : List ℕ) → columns_above (above ++ how ∷ []) K ≡ selecting_columns how (columns_above above K)
columns-more [] how K = refl
columns-more (h ∷ above) how K = columns-more above how (selecting_columns h K)

pub rows-more : (above : List Selecting) (how : Selecting) (rows : List Env) → rows_above (above ++ how ∷ []) rows ≡ selecting_rows how (rows_above above rows) nulls
rows-more [] how rows = refl
rows-more (h ∷ above) how rows = rows-more above how (selecting_rows h rows nulls)

-- of rows behind others
selecting-append : (how : Selecting) (X Y : List Env) → selecting_rows how (X ++ Y) nulls ≡ selecting_rows how X nulls ++ selecting_rows how Y nulls
selecting-append (Filter C) X Y = filter-append (holds no_classes C.now) X Y
selecting-append (Projection K) X Y = map-append (λ r. lay (has K.now) r nulls) X Y

pub rows-append : (above : List Selecting) (X Y : List Env) → rows_above above (X ++ Y) ≡ rows_above above X ++ rows_above above Y
rows-append [] X Y = refl
rows-append (h ∷ above) X Y = ap (rows_above above) (selecting-append h X Y) ∙ rows-append above (selecting_rows h X nulls) (selecting_rows h Y nulls)

-- of no rows
pub rows-none : (above : List Selecting) → rows_above above [] ≡ []
rows-none [] = refl
rows-none (Filter C ∷ above) = rows-none above
rows-none (Projection K ∷ above) = rows-none above
