-- Rows of the input for which a subquery has a row, or has none: the laws by which they are a semijoin or an antijoin.
use Rattle.std.proofs.Common.{◌≡◌, refl, ap, sym, ◌∙◌, ℕ, Bool, true, false, not, ◌&&◌, ◌||◌, if◌then◌else◌, List, [], ◌∷◌, map, filter}
use Rattle.std.specs.List.{list_any}
use Rattle.algebra.specs.Columns.{ColumnSet}
use Rattle.algebra.specs.Bags.{Env, Test, Bag, SameBag, lay, has_match, select, semi, anti}
use Rattle.algebra.proofs.BagSums.{if_passes, total-filter, total-same}
use Rattle.laws.specs.Fitting.{Fits, SameIn}
use Rattle.laws.specs.Rewriting.{AreApart}
use Rattle.laws.proofs.JoinSums.{when_both, total_laid}

-- one of the mapped rows passes where one does, by a test that agrees
pub any-mapped : (t u : Test) (g : Env → Env) → ((s : Env) → t (g s) ≡ u s) → (rows : List Env) → list_any t (map g rows) ≡ list_any u rows
any-mapped t u g same [] = refl
any-mapped t u g same (s ∷ rows) = rw (same s, any-mapped t u g same rows) refl

-- a test of the subquery's rows at a row
abbrev pub At : Type 0
At = Env → Test

module _ (n : At) (m : Test) (X B F G : ColumnSet) (x b : Bag) (fits_x : Fits X F x) (fits_b : Fits B G b) (apart : AreApart X G) (alike : (r s : Env) → n r (lay B s r) ≡ m (lay B s r)) where
  -- the subquery reads no column of the input, so its rows at a row are those of the environment, laid over the row
  found_at : (e r : Env) → list_any (n (lay X r e)) (b (lay X r e)) ≡ has_match m B (b e) (lay X r e)
  found_at e r =
      ap (list_any (n d)) (fits_b e d unread) ∙ any-mapped (n d) (λ s. m (lay B s d)) (λ s. lay B s d) (alike d) (b e)
    where
      d : Env
      d = lay X r e

      off : (h : Bool) (c : ℕ) → X c ≡ h → G c ≡ true → e c ≡ (if h then r c else e c)
      off true c is read = cc (apart c is, read)
      off false c is read = refl

      unread : SameIn G e d
      unread c read = off (X c) c refl read

  -- the rows for which the answer passes
  abbrev pub answered : (Bool → Bool) → Bag
  answered h e = filter (λ r. h (has_match m B (b e) r)) (x e)

  -- the selection asks for the answer and for others of rows
  found-rows : (h : Bool → Bool) (c q : Test) → ((r : Env) → c r ≡ (h (list_any (n r) (b r)) && q r)) → SameBag (select c x) (select q (answered h))
  found-rows h c q parts e f =
      total-filter f c (x e)
      ∙ total_laid X F x fits_x e (if_passes c f)
      ∙ total-same _ _ each (x e)
      ∙ sym (total-filter f q (answered h e) ∙ total-filter (if_passes q f) (λ r. h (has_match m B (b e) r)) (x e) ∙ total_laid X F x fits_x e _)
    where
      each : (r : Env) → if_passes c f (lay X r e) ≡ (if h (has_match m B (b e) (lay X r e)) then if_passes q f (lay X r e) else 0)
      each r =
          ap (λ v. if v then f (lay X r e) else 0) (parts (lay X r e) ∙ ap (λ v. h v && q (lay X r e)) (found_at e r))
          ∙ when_both (h (has_match m B (b e) (lay X r e))) (q (lay X r e)) (f (lay X r e))

  pub found_is_semi : (c q : Test) → ((r : Env) → c r ≡ (list_any (n r) (b r) && q r)) → SameBag (select c x) (select q (semi m B x b))
  found_is_semi = found-rows (λ v. v)

  pub unfound_is_anti : (c q : Test) → ((r : Env) → c r ≡ (not (list_any (n r) (b r)) && q r)) → SameBag (select c x) (select q (anti m B x b))
  unfound_is_anti = found-rows not

-- ---- rows of a part of a class

-- some row of the part is one that passes
pub some-filtered : (p t : Test) (rows : List Env) → list_any t (filter p rows) ≡ list_any (λ s. p s && t s) rows
some-filtered p t [] = refl
some-filtered p t (s ∷ rows) = by (p s) (some-filtered p t rows)
  where
    by : (v : Bool) → list_any t (filter p rows) ≡ list_any (λ s. p s && t s) rows → list_any t (if v then s ∷ filter p rows else filter p rows) ≡ ((v && t s) || list_any (λ s. p s && t s) rows)
    by true later = ap (λ b. t s || b) later
    by false later = later
