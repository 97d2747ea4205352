-- What tests find among the rows of a projection, and among distinct rows, they find among those of the input.
use Rattle.std.proofs.Common.{◌≡◌, refl, ap, sym, ◌∙◌, Bool, true, false, not, ◌&&◌, ◌||◌, ℕ, List, [], ◌∷◌}
use Rattle.std.specs.List.{list_any}
use Rattle.algebra.specs.Bags.{Env, Test, Bag, lay, same_on, keep, distinct_on, distinct}
use Rattle.algebra.specs.Columns.{ColumnSet, has}
use Rattle.algebra.proofs.SameBags.{lay-alike}
use Rattle.laws.specs.Fitting.{Fits}
use Rattle.laws.specs.Rewriting.{ReadsOnly}
use Rattle.subquery_rules.proofs.FoundRows.{any-mapped, some-filtered}

-- a test that reads these columns alone finds a row in both lists or in none
abbrev pub FoundAlike : ColumnSet → List Env → List Env → Type 0
FoundAlike M xs ys = (t : Test) → ReadsOnly M t → list_any t xs ≡ list_any t ys

pub keep-found : (S : ColumnSet) (x : Bag) (e : Env) → FoundAlike S (keep S x e) (x e)
keep-found S x e t reads = any-mapped t t (λ r. lay S r e) (λ r. reads (lay S r e) r (λ c kept. rw kept refl)) (x e)

-- a test that doesn't tell rows of one kind apart finds the first of a kind where it finds one of it
any-kind : (L : List ℕ) (t : Test) → ((r s : Env) → same_on L r s ≡ true → t r ≡ t s) → (rows : List Env) → list_any t (distinct_on L rows) ≡ list_any t rows
any-kind L t alike [] = refl
any-kind L t alike (r ∷ rows) =
    ap (λ b. t r || b) (some-filtered (λ s. not (same_on L r s)) t (distinct_on L rows))
    ∙ others (distinct_on L rows)
    ∙ ap (λ b. t r || b) (any-kind L t alike rows)
  where
    by : (a h b m n : Bool) → (h ≡ true → a ≡ b) → (a || m) ≡ (a || n) → (a || ((not h && b) || m)) ≡ (a || (b || n))
    by true h b m n same later = refl
    by false true true m n same later = cc (same refl)
    by false true false m n same later = later
    by false false b m n same later = ap (λ v. b || v) later

    others : (D : List Env) → (t r || list_any (λ s. not (same_on L r s) && t s) D) ≡ (t r || list_any t D)
    others [] = refl
    others (s ∷ D) = by (t r) (same_on L r s) (t s) _ _ (alike r s) (others D)

pub distinct-found : (L : List ℕ) (F : ColumnSet) (x : Bag) → Fits (has L) F x → (e : Env) (t : Test) → list_any t (distinct L x e) ≡ list_any t (x e)
distinct-found L F x fits e t =
    any-mapped t on laid (λ r. refl) (distinct_on L (x e))
    ∙ any-kind L on (λ r s same. ap t (lay-alike L r s e same)) (x e)
    ∙ sym (any-mapped t on laid (λ r. refl) (x e))
    ∙ ap (list_any t) (sym (fits e e (λ c free. refl)))
  where
    laid : Env → Env
    laid r = lay (has L) r e

    on : Test
    on r = t (laid r)
