-- Bytes as JSON, how many members an object has, and an array's items as a list.
use Rattle.std.proofs.Common.{◌≡◌, ℕ, List, [], ◌∷◌, length, map, Bool, true, false, cond, Some, None, Result, Ok, Err, String, Global, ◌==◌, refl, ap}
use Rattle.std.specs.Str.{IsUtf8, is_utf8}
use Rattle.std.proofs.lemmas.Bool.{eq-eqb, ne_eqb, eqb-true}
use Rattle.std.proofs.lemmas.Str.{is_utf8-from_IsUtf8, IsUtf8-from_is_utf8}
use Rattle.serde_json.specs.Data.{Data}
use Rattle.serde_json.specs.Events.{members_len}
use Rattle.serde_json.specs.Read as json
use Rattle.serde_json.specs.Find.{as_object, as_array}
use Rattle.serde_json.specs.View.{view, items_view, members_view}
use Rattle.serde_json.specs.declared.value.Value.{Value}
use Rattle.serde_json.proofs.Views.{members_len-members_view}
use Rattle.values.specs.Faults.{wanted}
use Rattle.values.proofs.Results.{both_ok, wanted_ok, wanted_if_ok}
use Rattle.json_parts.specs.Parts.{json_in, keys_in, items_in, list_of}
use Rattle.json_parts.specs.Spelling.{HasKeys}

module _ {R : Type 0} (r : R) where
  -- ---- bytes

  pub json_ok : (bytes : List ℕ) (d : Data) → IsUtf8 bytes → json.read bytes ≡ Some d → json_in r bytes ≡ Ok d
  unfolding json_in
  json_ok bytes d u e = rw (is_utf8-from_IsUtf8 bytes u, e) refl

  by_test : (b : Bool) (x : Result Data R) → (b ≡ true → x ≡ Err r) → cond b x (Err r) ≡ Err r
  by_test true x h = h refl
  by_test false x h = refl

  pub json_err : (bytes : List ℕ) → (IsUtf8 bytes → json.read bytes ≡ None) → json_in r bytes ≡ Err r
  unfolding json_in
  json_err bytes h = by_test (is_utf8 bytes) (wanted r (json.read bytes)) (λ t. rw (h (IsUtf8-from_is_utf8 bytes t)) refl)

  by_utf8 : (b : Bool) (bytes : List ℕ) (x : Result Data R) (d : Data) → is_utf8 bytes ≡ b → cond b x (Err r) ≡ Ok d → IsUtf8 bytes × (x ≡ Ok d)
  by_utf8 true bytes x d p e = (IsUtf8-from_is_utf8 bytes p, e)
  by_utf8 false bytes x d p e = cc e

  pub json_spelt : (bytes : List ℕ) (d : Data) → json_in r bytes ≡ Ok d → IsUtf8 bytes × (json.read bytes ≡ Some d)
  unfolding json_in
  json_spelt bytes d e =
      let is = by_utf8 (is_utf8 bytes) bytes (wanted r (json.read bytes)) d refl e in
      (is.0, wanted_ok r (json.read bytes) d is.1)

  -- ---- members

  pub keys_right : (n : ℕ) (d : Data) (m : List (String Global × Value)) → Some (members_view m) ≡ as_object d → length m ≡ n → keys_in r n d ≡ Ok tt
  unfolding keys_in
  keys_right n d m e h = rw (← e, members_len-members_view m, eq-eqb (length m) n h) refl

  pub keys_wrong : (n : ℕ) (d : Data) (m : List (String Global × Value)) → Some (members_view m) ≡ as_object d → (length m ≡ n → ⊥) → keys_in r n d ≡ Err r
  unfolding keys_in
  keys_wrong n d m e h = rw (← e, members_len-members_view m, ne_eqb (length m) n h) refl

  pub keys_read : (n : ℕ) (d : Data) → HasKeys n d → keys_in r n d ≡ Ok (tt {0})
  unfolding keys_in
  keys_read n d (ms, is, same) = rw (is, eq-eqb (members_len ms) n same) refl

  pub keys_spelt : (n : ℕ) (d : Data) (u : Unit {0}) → keys_in r n d ≡ Ok u → HasKeys n d
  unfolding keys_in
  keys_spelt n d u e =
      let (ms, p, q) = both_ok (wanted r (as_object d)) _ u e in
      (ms, wanted_ok r (as_object d) ms p, eqb-true (members_len ms) n (wanted_if_ok r (members_len ms == n) tt u q).0)

-- ---- items

pub list_of_views : (vs : List Value) → list_of (items_view vs) ≡ map view vs
unfolding list_of
list_of_views [] = refl
list_of_views (v ∷ vs) = ap (λ ds. view v ∷ ds) (list_of_views vs)

pub items_right : {R : Type 0} (r : R) (d : Data) (vs : List Value) → Some (items_view vs) ≡ as_array d → items_in r d ≡ Ok (map view vs)
unfolding items_in
items_right r d vs e = rw (← e, list_of_views vs) refl
