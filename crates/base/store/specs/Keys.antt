-- Keys of rows: lists of values, which are equal where they are the same lists.
use Rattle.std.specs.Prelude.{◌≡◌, Bool, true, flat_map}
use Rattle.std.proofs.Common.{refl, sym, ap}
use Rattle.std.specs.Bool.{Decides}
use Rattle.std.specs.Hash.{HashWrites}
use Rattle.std.specs.Cmp.{IsEquivalence, both_ways}
use Rattle.std.specs.Cmp.Lexicographic.{pointwise, pointwise_decides}
use Rattle.std.proofs.lemmas.Bool.Decides.{Decides-int_eq}
use Rattle.std.proofs.lemmas.Slice.Eq.{bytes_eq-Decides}
use Rattle.values.specs.declared.value.Value.{Value}
use Rattle.values.specs.declared.value.Value.TheVariants as value
use Rattle.values.specs.contracts.value.ValuePartialEq.TheImpl as value_eq
use Rattle.values.specs.contracts.value.ValueHash.TheImpl as value_hash
use Rattle.schema.specs.Databases.{Row}

abbrev pub key_eq : Row → Row → Bool
key_eq = pointwise value_eq.ghosts.eq

-- what a key feeds a hasher: what its values do
abbrev pub key_writes : Row → HashWrites
key_writes = flat_map value_hash.ghosts.hash_input

-- ---- the laws

pub value_decides : (a b : Value) → Decides (value_eq.ghosts.eq a b) (a ≡ b)
value_decides value.Null value.Null = ((λ t. refl), (λ e. refl))
value_decides value.Null (value.Int n) = ((λ t. cc t), (λ e. cc e))
value_decides value.Null (value.Text t) = ((λ q. cc q), (λ e. cc e))
value_decides (value.Int m) value.Null = ((λ q. cc q), (λ e. cc e))
value_decides (value.Int m) (value.Int n) = ((λ q. ap value.Int ((Decides-int_eq m n).0 q)), (λ e. (Decides-int_eq m n).1 (cc e)))
value_decides (value.Int m) (value.Text t) = ((λ q. cc q), (λ e. cc e))
value_decides (value.Text s) value.Null = ((λ q. cc q), (λ e. cc e))
value_decides (value.Text s) (value.Int n) = ((λ q. cc q), (λ e. cc e))
value_decides (value.Text s) (value.Text t) = ((λ q. ap value.Text ((bytes_eq-Decides s t).0 q)), (λ e. (bytes_eq-Decides s t).1 (cc e)))

pub key_decides : (x y : Row) → Decides (key_eq x y) (x ≡ y)
key_decides = pointwise_decides value_decides

pub key_equiv : IsEquivalence key_eq
key_equiv = record {
  refl = λ x. (key_decides x x).1 refl;
  symm = λ x y. both_ways (key_eq x y) (key_eq y x) (λ t. (key_decides y x).1 (sym ((key_decides x y).0 t))) (λ t. (key_decides x y).1 (sym ((key_decides y x).0 t)));
  congr = λ x y z t. ap (λ (w : Row). key_eq w z) ((key_decides x y).0 t);
}

pub key_alike : (x y : Row) → key_eq x y ≡ true → key_writes x ≡ key_writes y
key_alike x y t = ap key_writes ((key_decides x y).0 t)
