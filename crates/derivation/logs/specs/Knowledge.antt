-- What is known of a log, as code keeps it.
use Rattle.std.specs.Prelude.{◌≡◌, ℕ, ◌+◌, ◌<◌, ◌≤◌, ◌==◌, true, false, nat_lt, if◌then◌else◌, List, length}
use Rattle.query.specs.declared.query.TableInstance.{TableInstance}
use Rattle.algebra.specs.declared.expr.Expr.{Expr}
use Rattle.algebra.specs.Classes.{class_free}
use Rattle.algebra.specs.Columns.{ColumnSet, has, columns_at}
use Rattle.algebra.specs.Expressions.{classes_pass, columns_of, free_of}
use Rattle.props.specs.Knowledge.{Knowledge}
use Rattle.derivation.specs.declared.line.Line.{Line}
use Rattle.derivation.specs.declared.line.Line.TheVariants.{Founds, Adds, Unites, Alike, Gives}
use Rattle.derivation.specs.Logs.{Log, entries, class_at, knowledge}
use Rattle.logs.specs.declared.known.Known.{Known}
use Rattle.logs.specs.Sets as sets
use Rattle.logs.specs.Sets.{AreSets, AreAlike, has_room, root_of, facts_of}

-- ---- kept from line to line

abbrev pub known_by : Known → Knowledge
known_by k = record {
  columns = columns_at k.columns.items;
  free = λ g. has (columns_at k.free.items g);
  root = root_of k.sets;
  facts = facts_of k.sets;
}

-- the lists have an entry for each class; that of free columns may end before
pub record AreInStep (k : Known) : Type 0 where
  pub sets : AreSets k.sets
  pub columns : length k.columns.items ≡ length k.sets.sets.items
  pub free : length k.free.items ≤ length k.sets.sets.items

-- one class more, with its columns and free columns
pub record HasClass (k : Known) (columns : List ℕ) (free : ColumnSet) (l : Known) : Type 0 where
  pub count : length l.columns.items ≡ length k.columns.items + 1
  pub columns_ : (g : ℕ) → columns_at l.columns.items g ≡ (if g == length k.columns.items then columns else columns_at k.columns.items g)
  pub free_ : (g c : ℕ) → has (columns_at l.free.items g) c ≡ (if g == length k.columns.items then free c else has (columns_at k.free.items g) c)

-- the same lists
pub record IsAlike (k l : Known) : Type 0 where
  pub columns : l.columns.items ≡ k.columns.items
  pub free : l.free.items ≡ k.free.items
  pub sets : AreAlike k.sets l.sets

-- there is room for one class more
pub record HasRoom (k : Known) : Type 0 where
  pub columns : has_room k.columns
  pub sets : sets.HasRoom k.sets

-- the columns of an expression over the classes, and its free columns
abbrev pub expr_columns : List TableInstance → Known → Expr → List ℕ
expr_columns instances k x = columns_of instances (columns_at k.columns.items) x

abbrev pub expr_free : Known → Expr → ColumnSet
expr_free k x = free_of (columns_at k.columns.items) (λ g. has (columns_at k.free.items g)) x

-- the classes of which a line says something are those of earlier lines
abbrev pub NamesEarlier : Log → Line → Type 0
NamesEarlier E (Founds x) = classes_pass (λ g. nat_lt g (length E)) x ≡ true
NamesEarlier E (Adds g s x) = g < length E
NamesEarlier E (Unites g h s) = (g < length E) × (h < length E)
NamesEarlier E (Alike i j) = (i < length E) × (class_at E i < length E) × (class_at E j < length E)
NamesEarlier E (Gives g m f) = g < length E

-- the first class has no free columns
abbrev pub IsClosed : List TableInstance → Log → Type 0
IsClosed instances E = (c : ℕ) → class_free instances (entries E) 0 c ≡ false

-- what is known by the lines of a log
pub record IsKnown (instances : List TableInstance) (E : Log) (k : Known) : Type 0 where
  pub step : AreInStep k
  pub count : length k.columns.items ≡ length E
  pub known : known_by k ≡ knowledge instances E
