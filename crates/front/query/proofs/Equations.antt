-- What each form of condition, FROM and block means, in the computing form: one equation for each variant.
use Rattle.std.proofs.Common.{◌≡◌, refl, ◌+◌, List, [], ◌∷◌, map, filter, flat_map, not, Option, Some, None, ap, sym, ◌∙◌, option_map}
use Rattle.values.specs.declared.truth.Comparison.{Comparison}
use Rattle.values.specs.Truth.{negation, truth_of, is_null, compare}
use Rattle.query.specs.declared.query.Term.{Term}
use Rattle.query.specs.declared.query.TableReference.{TableReference}
use Rattle.query.specs.declared.query.Cond.{Cond, roll-Cond}
use Rattle.query.specs.declared.query.Cond.TheVariants.{Compare, IsNull, Not, And, Or, Exists, In, rolls-Compare, rolls-IsNull, rolls-Not, rolls-And, rolls-Or, rolls-Exists, rolls-In}
use Rattle.query.specs.declared.query.Cond.TheOpen.{Cond-F, From-F, Block-F}
use Rattle.query.specs.declared.query.Cond.TheFolds.{fold-roll-Cond, fold-roll-From, fold_out-Block, map-Cond, map-From, map-Block}
use Rattle.query.specs.declared.query.From.{From, roll-From}
use Rattle.query.specs.declared.query.From.TheVariants.{Join, LeftJoin, Comma, rolls-Table, rolls-Join, rolls-LeftJoin, rolls-Comma}
use Rattle.query.specs.declared.query.From.TheVariants as from
use Rattle.query.specs.declared.query.Block.{Block, out-Block}
use Rattle.query.specs.Rows.{Env, Tables, term_value}
use Rattle.query.specs.Meaning.{CondMeaning, RowsMeaning, Width, truth, source, rows, from_width, all_of, any_of, is_empty, equals_row, cond_layer, from_layer, block_layer, width_layer, passes_filter, pairs_of, matches, padded, shown}

truth_roll : (x : Cond-F Cond From Block) → truth (roll-Cond x) ≡ cond_layer (map-Cond Cond From Block CondMeaning RowsMeaning RowsMeaning truth source rows x)
unfolding truth source rows
truth_roll x = fold-roll-Cond CondMeaning RowsMeaning RowsMeaning cond_layer from_layer block_layer x

source_roll : (x : From-F Cond From Block) → source (roll-From x) ≡ from_layer (map-From Cond From Block CondMeaning RowsMeaning RowsMeaning truth source rows x)
unfolding truth source rows
source_roll x = fold-roll-From CondMeaning RowsMeaning RowsMeaning cond_layer from_layer block_layer x

rows_roll : (q : Block) → rows q ≡ block_layer (map-Block Cond From Block CondMeaning RowsMeaning RowsMeaning truth source rows (out-Block q))
unfolding truth source rows
rows_roll q = fold_out-Block CondMeaning RowsMeaning RowsMeaning cond_layer from_layer block_layer q

width_roll : (x : From-F Cond From Block) → from_width (roll-From x) ≡ width_layer (map-From Cond From Block (Unit {0}) Width (Unit {0}) (λ c. tt) from_width (λ q. tt) x)
unfolding from_width
width_roll x = fold-roll-From (Unit {0}) Width (Unit {0}) (λ c. tt) width_layer (λ q. tt) x

truth_at : (x : Cond-F Cond From Block) (c : Cond) → roll-Cond x ≡ c → (D : Tables) (e : Env) → truth c D e ≡ cond_layer (map-Cond Cond From Block CondMeaning RowsMeaning RowsMeaning truth source rows x) D e
truth_at x c is D e = ap (λ y. truth y D e) (sym is) ∙ ap (λ m. m D e) (truth_roll x)

source_at : (x : From-F Cond From Block) (f : From) → roll-From x ≡ f → (D : Tables) (e : Env) → source f D e ≡ from_layer (map-From Cond From Block CondMeaning RowsMeaning RowsMeaning truth source rows x) D e
source_at x f is D e = ap (λ y. source y D e) (sym is) ∙ ap (λ m. m D e) (source_roll x)

width_at : (x : From-F Cond From Block) (f : From) → roll-From x ≡ f → (D : Tables) → from_width f D ≡ width_layer (map-From Cond From Block (Unit {0}) Width (Unit {0}) (λ c. tt) from_width (λ q. tt) x) D
width_at x f is D = ap (λ y. from_width y D) (sym is) ∙ ap (λ m. m D) (width_roll x)

-- ---- conditions

truths-map : (D : Tables) (e : Env) (cs : List Cond) → map (λ m. m D e) (map truth cs) ≡ map (λ c. truth c D e) cs
truths-map D e [] = refl
truths-map D e (c ∷ cs) = ap (λ ts. truth c D e ∷ ts) (truths-map D e cs)

pub truth-Compare : (c : Comparison) (a b : Term) (D : Tables) (e : Env) → truth (Compare c a b) D e ≡ compare c (term_value a e) (term_value b e)
truth-Compare c a b = truth_at (Cond-F.Compare c a b) _ (rolls-Compare c a b)

pub truth-IsNull : (a : Term) (D : Tables) (e : Env) → truth (IsNull a) D e ≡ truth_of (is_null (term_value a e))
truth-IsNull a = truth_at (Cond-F.IsNull a) _ (rolls-IsNull a)

pub truth-Not : (c : Cond) (D : Tables) (e : Env) → truth (Not c) D e ≡ negation (truth c D e)
truth-Not c = truth_at (Cond-F.Not c) _ (rolls-Not c)

pub truth-And : (cs : List Cond) (D : Tables) (e : Env) → truth (And cs) D e ≡ all_of (map (λ c. truth c D e) cs)
truth-And cs D e = truth_at (Cond-F.And cs) _ (rolls-And cs) D e ∙ ap all_of (truths-map D e cs)

pub truth-Or : (cs : List Cond) (D : Tables) (e : Env) → truth (Or cs) D e ≡ any_of (map (λ c. truth c D e) cs)
truth-Or cs D e = truth_at (Cond-F.Or cs) _ (rolls-Or cs) D e ∙ ap any_of (truths-map D e cs)

pub truth-Exists : (q : Block) (D : Tables) (e : Env) → truth (Exists q) D e ≡ truth_of (not (is_empty (rows q D e)))
truth-Exists q = truth_at (Cond-F.Exists q) _ (rolls-Exists q)

pub truth-In : (a : Term) (q : Block) (D : Tables) (e : Env) → truth (In a q) D e ≡ any_of (map (equals_row (term_value a e)) (rows q D e))
truth-In a q = truth_at (Cond-F.In a q) _ (rolls-In a q)

-- ---- FROMs

pub source-Table : (o : TableReference) (D : Tables) (e : Env) → source (from.Table o) D e ≡ D.rows o.table
source-Table o = source_at (From-F.Table o) _ (rolls-Table o)

pub source-Join : (f : From) (o : TableReference) (on : Cond) (D : Tables) (e : Env) → source (Join f o on) D e ≡ flat_map (matches (truth on) o.table D e) (source f D e)
source-Join f o on = source_at (From-F.Join f o on) _ (rolls-Join f o on)

pub source-LeftJoin : (f : From) (o : TableReference) (on : Cond) (D : Tables) (e : Env) → source (LeftJoin f o on) D e ≡ flat_map (padded (truth on) o.table D e) (source f D e)
source-LeftJoin f o on = source_at (From-F.LeftJoin f o on) _ (rolls-LeftJoin f o on)

pub source-Comma : (f g : From) (D : Tables) (e : Env) → source (Comma f g) D e ≡ flat_map (λ l. pairs_of l (source g D e)) (source f D e)
source-Comma f g = source_at (From-F.Comma f g) _ (rolls-Comma f g)

pub width-Table : (o : TableReference) (D : Tables) → from_width (from.Table o) D ≡ D.width o.table
width-Table o = width_at (From-F.Table o) _ (rolls-Table o)

pub width-Join : (f : From) (o : TableReference) (on : Cond) (D : Tables) → from_width (Join f o on) D ≡ from_width f D + D.width o.table
width-Join f o on = width_at (From-F.Join f o on) _ (rolls-Join f o on)

pub width-LeftJoin : (f : From) (o : TableReference) (on : Cond) (D : Tables) → from_width (LeftJoin f o on) D ≡ from_width f D + D.width o.table
width-LeftJoin f o on = width_at (From-F.LeftJoin f o on) _ (rolls-LeftJoin f o on)

pub width-Comma : (f g : From) (D : Tables) → from_width (Comma f g) D ≡ from_width f D + from_width g D
width-Comma f g = width_at (From-F.Comma f g) _ (rolls-Comma f g)

-- ---- blocks

rows_layer : (x : Block-F Cond From Block) (o h : Option Cond) → block_layer (map-Block Cond From Block CondMeaning RowsMeaning RowsMeaning truth source rows (record x { filter = o; having = h }))
    ≡ (λ D e. shown x.distinct x.grouped x.keys x.having_items (passes_filter (option_map truth h) D []) x.items e (filter (passes_filter (option_map truth o) D e) (source x.from D e)))
rows_layer x None None = refl
rows_layer x None (Some d) = refl
rows_layer x (Some c) None = refl
rows_layer x (Some c) (Some d) = refl

pub rows-Block : (q : Block) (D : Tables) (e : Env)
    → rows q D e ≡ shown q.distinct q.grouped q.keys q.having_items (passes_filter (option_map truth q.having) D []) q.items e (filter (passes_filter (option_map truth q.filter) D e) (source q.from D e))
rows-Block q D e = ap (λ m. m D e) (rows_roll q ∙ rows_layer (out-Block q) (out-Block q).filter (out-Block q).having)
