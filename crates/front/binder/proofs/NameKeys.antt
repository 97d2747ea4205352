-- Maps whose keys are names.
use Rattle.std.proofs.Common.{◌≡◌, ℕ, List, Bool, true, false, cond, Some, bytes_eq, refl, ap, sym, ◌∙◌, ◌⊎◌, inl, inr}
use Rattle.std.specs.Borrow.{Bor}
use Rattle.std.specs.HashMap as hash
use Rattle.std.specs.HashMap.{HashMap}
use Rattle.std.proofs.lemmas.Map.Text.{hash_map_updates_str}
use Rattle.std.proofs.lemmas.Slice.Eq.{bytes_eq-Decides}

module _ {X S : Type 0} (name : List ℕ) (m n : HashMap (Bor (List ℕ)) X S) (x : X) where
  -- q is the name, and has got the value
  abbrev pub IsNew : List ℕ → Type 0
  IsNew q = (q ≡ name) × (hash.get_by (λ k. bytes_eq q k.now) n ≡ Some x) × (bytes_eq q name ≡ true) × (bytes_eq name q ≡ true)

  -- q is another name, and has what it had
  abbrev pub IsOld : List ℕ → Type 0
  IsOld q = (hash.get_by (λ k. bytes_eq q k.now) n ≡ hash.get_by (λ k. bytes_eq q k.now) m) × (bytes_eq q name ≡ false) × (bytes_eq name q ≡ false)

  -- what the map has at each name after one has got a value
  pub after-insert : hash.UpdatesBy (λ a b. bytes_eq a.now b.now) (λ k. bytes_eq name k.now) m n (Some x) → (q : List ℕ) → IsNew q ⊎ IsOld q
  after-insert up q = step (bytes_eq name q) refl (bytes_eq q name) refl
    where
      now : (b : Bool) → bytes_eq name q ≡ b → hash.get_by (λ k. bytes_eq q k.now) n ≡ cond b (Some x) (hash.get_by (λ k. bytes_eq q k.now) m)
      now b e = hash_map_updates_str name m n (Some x) up q ∙ ap (λ b. cond b (Some x) (hash.get_by (λ k. bytes_eq q k.now) m)) e

      step : (a : Bool) → bytes_eq name q ≡ a → (b : Bool) → bytes_eq q name ≡ b → IsNew q ⊎ IsOld q
      step true e true f = inl ((bytes_eq-Decides q name).0 f, now true e, f, e)
      step true e false f = let t : bytes_eq q name ≡ true = (bytes_eq-Decides q name).1 (sym ((bytes_eq-Decides name q).0 e)) in cc (t, f)
      step false e true f = let t : bytes_eq name q ≡ true = (bytes_eq-Decides name q).1 (sym ((bytes_eq-Decides q name).0 f)) in cc (t, e)
      step false e false f = inr (now false e, f, e)
