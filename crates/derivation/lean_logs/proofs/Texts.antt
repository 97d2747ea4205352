-- A line that is entered by a text is found by it, and so are those before.
use Rattle.std.proofs.Common.{◌≡◌, refl, ap, ◌∙◌, inl, inr, ℕ, Bool, true, false, cond, bytes_eq, if◌then◌else◌, List, [], ◌∷◌, ◌++◌, String, Vec, Some, string_bytes}
use Rattle.std.specs.HashMap as hash
use Rattle.std.specs.HashMap.{HashMap, get_by_text}
use Rattle.std.specs.Map.{lookup}
use Rattle.std.specs.String.{string_eq}
use Rattle.std.proofs.lemmas.Map.Text.{hash_map_updates_text}
use Rattle.std.proofs.lemmas.Slice.Eq.{bytes_eq-Decides}
use Rattle.algebra.specs.declared.expr.Expr.{Expr}
use Rattle.algebra.specs.Columns.{has}
use Rattle.lean_logs.specs.Texts.{expr_text, items_of, lines_by, IsEntered}
use Rattle.lean_logs.proofs.Numbers.{has_append, has_first}

module _ {Y A S : Type 0} (m n : HashMap (String Y) (Vec ℕ A) S) (text : List ℕ) (w : Vec ℕ A) (line : ℕ)
    (updates : hash.UpdatesBy string_eq (λ k. bytes_eq text (string_bytes k)) m n (Some w)) (items : w.items ≡ lines_by m text ++ (line ∷ [])) where
  lines-by : (t : List ℕ) → (b : Bool) → bytes_eq text t ≡ b → lines_by n t ≡ (if b then lines_by m text ++ (line ∷ []) else lines_by m t)
  lines-by t true is = ap items_of (hash_map_updates_text text m n (Some w) updates t ∙ ap (λ b. cond b (Some w) (get_by_text m t)) is) ∙ items
  lines-by t false is = ap items_of (hash_map_updates_text text m n (Some w) updates t ∙ ap (λ b. cond b (Some w) (get_by_text m t)) is)

  pub stays_entered : (x : Expr) (k : ℕ) → IsEntered m x k → IsEntered n x k
  stays_entered x k in_ = by (bytes_eq text (expr_text x)) refl
    where
      by : (b : Bool) → bytes_eq text (expr_text x) ≡ b → IsEntered n x k
      by true is = ap (λ ns. has ns k) (lines-by (expr_text x) true is) ∙ has_append (lines_by m text) (line ∷ []) k (inl (ap (λ t. has (lines_by m t) k) ((bytes_eq-Decides text (expr_text x)).0 is) ∙ in_))
      by false is = ap (λ ns. has ns k) (lines-by (expr_text x) false is) ∙ in_

  pub entered_there : (x : Expr) → text ≡ expr_text x → IsEntered n x line
  entered_there x same = ap (λ ns. has ns line) (lines-by (expr_text x) true ((bytes_eq-Decides text (expr_text x)).1 same)) ∙ has_append (lines_by m text) (line ∷ []) line (inr (has_first line []))

-- a map with the same entries has the same lines
pub same_entered : {Y A S : Type 0} (m n : HashMap (String Y) (Vec ℕ A) S) → n.entries ≡ m.entries → (x : Expr) (k : ℕ) → IsEntered m x k → IsEntered n x k
same_entered m n same x k in_ = ap (λ es. has (items_of (lookup (λ t. bytes_eq (expr_text x) (string_bytes t)) es)) k) same ∙ in_
