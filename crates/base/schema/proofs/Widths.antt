-- Rows of one width.
use Rattle.std.proofs.Common.{◌≡◌, refl, ap, ℕ, zero, suc, ◌<◌, List, [], ◌∷◌, length, slice_index_or, arith}
use Rattle.std.specs.List.{AllByRecursion}
use Rattle.schema.specs.declared.schema.Column.{Column}
use Rattle.schema.specs.Databases.{Row, FitsColumns, HaveWidth}

-- each of them is that wide
pub row_width : (width : ℕ) (rows : List Row) (i : ℕ) → HaveWidth width rows → i < length rows → length (slice_index_or rows i []) ≡ width
row_width width [] i have below = absurd (omega (arith, below))
row_width width (r ∷ rows) zero have below = have.0
row_width width (r ∷ rows) (suc i) have below = row_width width rows i have.1 (omega (arith, below))

-- rows that fit columns are as wide as these
pub fits_length : (cs : List Column) (row : Row) → FitsColumns cs row → length row ≡ length cs
fits_length [] [] h = refl
fits_length [] (v ∷ vs) h = absurd h
fits_length (c ∷ cs) [] h = absurd h
fits_length (c ∷ cs) (v ∷ vs) h = ap suc (fits_length cs vs h.1)

pub fits_width : (cs : List Column) (rows : List Row) → AllByRecursion (FitsColumns cs) rows → HaveWidth (length cs) rows
fits_width cs [] h = tt
fits_width cs (r ∷ rows) h = (fits_length cs r h.0, fits_width cs rows h.1)
