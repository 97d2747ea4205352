-- How many items an array has, and how many members an object.
use Rattle.std.proofs.Common.{◌≡◌, ℕ, List, true, false, length, map, Option, Some, None, Ok, Err, String, Global, ◌==◌, refl, sym, ◌∙◌}
use Rattle.std.proofs.lemmas.Bool.{eq-eqb, ne_eqb, eqb-true}
use Rattle.std.proofs.lemmas.List.{length-map}
use Rattle.serde_json.specs.Data.{Data, Members}
use Rattle.serde_json.specs.Events.{members_len}
use Rattle.serde_json.specs.Find.{as_array, as_object}
use Rattle.serde_json.specs.View.{view, items_view, members_view}
use Rattle.serde_json.specs.declared.value.Value.{Value}
use Rattle.serde_json.proofs.Views.{members_len-members_view}
use Rattle.json_parts.specs.Spelling.{HasKeys}
use Rattle.json_parts.proofs.Reading.{list_of_views}
use Rattle.schema.specs.declared.schema.Column.{Column}
use Rattle.statistics.specs.declared.fault.StatisticsRefusal.TheVariants.{Shape}
use Rattle.statistics.specs.Entries.{items_in, has_members, is_object_of, none_known, fourth_in, column_keys_in}

pub items_right : (n : ℕ) (d : Data) (vs : List Value) → Some (items_view vs) ≡ as_array d → length vs ≡ n → items_in n d ≡ Ok (map view vs)
unfolding items_in
items_right n d vs e h = rw (← e, list_of_views vs, length-map vs view, eq-eqb (length vs) n h) refl

pub items_wrong : (n : ℕ) (d : Data) (vs : List Value) → Some (items_view vs) ≡ as_array d → (length vs ≡ n → ⊥) → items_in n d ≡ Err Shape
unfolding items_in
items_wrong n d vs e h = rw (← e, list_of_views vs, length-map vs view, ne_eqb (length vs) n h) refl

-- ---- members

pub object_of : (n : ℕ) (d : Data) → HasKeys n d → is_object_of n d ≡ true
unfolding is_object_of
object_of n d (ms, is, same) = rw is (eq-eqb (members_len ms) n same)

-- it has another number of members
pub not_object_of : (n k : ℕ) (d : Data) → HasKeys k d → (k ≡ n → ⊥) → is_object_of n d ≡ false
unfolding is_object_of
not_object_of n k d (ms, is, same) ne = rw is (ne_eqb (members_len ms) n (λ e. ne (sym same ∙ e)))

pub object_counted : (n : ℕ) (d : Data) → is_object_of n d ≡ true → HasKeys n d
unfolding is_object_of
object_counted n d e = by (as_object d) refl e
  where
    by : (o : Option Members) → as_object d ≡ o → has_members n o ≡ true → HasKeys n d
    by None p e = cc e
    by (Some ms) p e = (ms, p, eqb-true (members_len ms) n e)

pub members_counted : (n : ℕ) (d : Data) (m : List (String Global × Value)) → Some (members_view m) ≡ as_object d → is_object_of n d ≡ (length m == n)
unfolding is_object_of
members_counted n d m e = rw (← e, members_len-members_view m) refl

pub no_object : (n : ℕ) (d : Data) → None ≡ as_object d → is_object_of n d ≡ false
unfolding is_object_of
no_object n d e = rw (← e) refl

-- ---- the member that may be left out

pub of_three : (columns : List Column) (d : Data) → is_object_of 3 d ≡ true → column_keys_in columns d ≡ Ok (none_known columns)
unfolding column_keys_in
of_three columns d is = rw is refl

pub of_four : (columns : List Column) (d : Data) → is_object_of 3 d ≡ false → column_keys_in columns d ≡ fourth_in columns d
unfolding column_keys_in
of_four columns d is = rw is refl
