-- What each of several calls does to a log, they do to it together.
use Rattle.std.proofs.Common.{◌≡◌, refl, ap, sym, ◌∙◌, subst, ℕ, ◌+◌, ◌<◌, ◌≤◌, true, false, not, List, [], ◌∷◌, ◌++◌, filter, length, max, append_assoc, if◌then◌else◌, arith}
use Rattle.std.specs.List.{list_all}
use Rattle.std.proofs.lemmas.Bool.{and_parts, not-true}
use Rattle.std.proofs.lemmas.List.{length-append}
use Rattle.query.specs.declared.query.TableInstance.{TableInstance}
use Rattle.algebra.specs.Columns.{has}
use Rattle.derivation.specs.declared.line.Line.{Line}
use Rattle.derivation.specs.Logs.{Log}
use Rattle.logs.specs.Logged.{Logged, with_line}
use Rattle.bindings.specs.Founding.{founds_something}
use Rattle.bindings.specs.Lean.{SaysNew, made_of}
use Rattle.lean_logs.proofs.Numbers.{has_first}
use Rattle.lean_logs.specs.Growth.{Grows, Extends, IsWithin, AreNew, waiting, waiting_behind, GrowsLean, FillsLean}

abbrev pub grows-itself : (l : Logged) → Grows l l
grows-itself l = record { instances = refl; own = refl; more = []; log = refl }

abbrev pub grows-by_one : (l : Logged) (line : Line) → Grows l (with_line l line)
grows-by_one l line = record { instances = refl; own = refl; more = line ∷ []; log = refl }

abbrev pub grows-along : {a b c : Logged} → Grows a b → Grows b c → Grows a c
grows-along {a} {b} {c} first next = record {
  instances = next.instances ∙ first.instances;
  own = next.own ∙ first.own;
  more = next.more ++ first.more;
  log = next.log ∙ ap (λ (log : List Line). next.more ++ log) first.log ∙ sym (append_assoc next.more first.more a.log);
}

pub within_along : (limit : ℕ) (a b c : Logged) → IsWithin limit a b → IsWithin limit b c → IsWithin limit a c
within_along limit a b c first next = let one = first in let other = next in omega arith

pub extended_by_one : (limit : ℕ) (a b : Logged) (line : Line) → length a.log < limit → b ≡ with_line a line → Extends limit a b
extended_by_one limit a b line room added = subst (Extends limit a) (sym added) (record { grows = grows-by_one a line; within = omega arith })

pub extended_along : (limit : ℕ) (a b c : Logged) → Extends limit a b → Extends limit b c → Extends limit a c
extended_along limit a b c first next = record {
  grows = grows-along first.grows next.grows;
  within = within_along limit a b c first.within next.within;
}

pub same_extends : (limit : ℕ) (a b : Logged) → b ≡ a → Extends limit a b
same_extends limit a b same = subst (Extends limit a) (sym same) (record { grows = grows-itself a; within = omega arith })

-- what is longer by a line is longer after whatever comes then
pub longer_then : (limit : ℕ) (a b c : Logged) (line : Line) → b ≡ with_line a line → Extends limit b c → length a.log < length c.log
longer_then limit a b c line added next =
    let one : length b.log ≡ length (line ∷ a.log) = ap (λ (l : Logged). length l.log) added in
    let more : length c.log ≡ length next.grows.more + length b.log = ap length next.grows.log ∙ length-append next.grows.more b.log in
    omega (arith, one, more)

-- ---- lines that say something new

pub new_along : (instances : List TableInstance) (E : Log) (more lines : List Line) → AreNew instances E lines → AreNew instances (lines ++ E) more → AreNew instances E (more ++ lines)
new_along instances E [] lines first next = first
new_along instances E (l ∷ more) lines first next = (subst (λ F. SaysNew instances F l) (sym (append_assoc more lines E)) next.0, new_along instances E more lines first next.1)

-- ---- lines that wait

pub waiting_along : (names : Line → List ℕ) (k : ℕ) (more lines : List Line) → waiting names k lines ≡ [] → waiting names k (more ++ lines) ≡ waiting names (length lines + k) more
waiting_along names k [] lines none = none
waiting_along names k (l ∷ more) lines none =
    let count : length (more ++ lines) + k ≡ length more + (length lines + k) = (let sum : length (more ++ lines) ≡ length more + length lines = length-append more lines in omega (arith, sum)) in
    let rest : waiting names k (more ++ lines) ≡ waiting names (length lines + k) more = waiting_along names k more lines none in
    ap (λ n. waiting_behind names l n (waiting names k (more ++ lines))) count ∙ ap (waiting_behind names l (length more + (length lines + k))) rest

-- lines that found nothing leave none waiting
none-behind : (names : Line → List ℕ) (k : ℕ) (l : Line) (lines : List Line) → founds_something l ≡ false → waiting names k lines ≡ [] → waiting names k (l ∷ lines) ≡ []
none-behind names k l lines is rest =
    ap (λ b. if b then (length lines + k) ∷ filter (λ n. not (has (names l) n)) (waiting names k lines) else filter (λ n. not (has (names l) n)) (waiting names k lines)) is
    ∙ ap (filter (λ n. not (has (names l) n))) rest

pub none_waits : (names : Line → List ℕ) (k : ℕ) (lines : List Line) → list_all (λ l. not (founds_something l)) lines ≡ true → waiting names k lines ≡ []
none_waits names k [] all = refl
none_waits names k (l ∷ lines) all = none-behind names k l lines (not-true _ (and_parts _ _ all).0) (none_waits names k lines (and_parts _ _ all).1)

none-added : (more lines : List Line) (limit : ℕ) → length (more ++ lines) ≤ max limit (length lines) → limit ≤ length lines → more ≡ []
none-added [] lines limit within full = refl
none-added (l ∷ more) lines limit within full = let count : length ((l ∷ more) ++ lines) ≡ length (l ∷ more) + length lines = length-append (l ∷ more) lines in absurd (omega (arith, count, within, full))

-- ---- lean growth

module _ (limit : ℕ) where
  pub lean_at_first : (a : Logged) → GrowsLean limit a a
  lean_at_first a = record { grows = grows-itself a; within = omega arith; news = tt; served = refl }

  pub same_lean : (a b : Logged) → b ≡ a → GrowsLean limit a b
  same_lean a b same = subst (GrowsLean limit a) (sym same) (lean_at_first a)

  pub lean_extends : (a b : Logged) → GrowsLean limit a b → Extends limit a b
  lean_extends a b is = record { grows = is.grows; within = is.within }

  pub fills_extends : (a b : Logged) → FillsLean limit a b → Extends limit a b
  fills_extends a b is = record { grows = is.grows; within = is.within }

  pub new-next : {a b c : Logged} (first : Grows a b) (next : Grows b c) → AreNew a.instances a.log first.more → AreNew b.instances b.log next.more → AreNew a.instances a.log (next.more ++ first.more)
  new-next {a} {b} {c} first next one other = new_along a.instances a.log next.more first.more one
      (subst (λ E. AreNew a.instances E next.more) first.log (subst (λ I. AreNew I b.log next.more) first.instances other))

  pub served-next : (names : Line → List ℕ) {a b c : Logged} (first : Grows a b) (next : Grows b c) → waiting names (length a.log) first.more ≡ [] → waiting names (length a.log) (next.more ++ first.more) ≡ waiting names (length b.log) next.more
  served-next names {a} {b} {c} first next none =
      waiting_along names (length a.log) next.more first.more none
      ∙ ap (λ k. waiting names k next.more) (sym (ap length first.log ∙ length-append first.more a.log))

  pub lean_along : (a b c : Logged) → GrowsLean limit a b → GrowsLean limit b c → GrowsLean limit a c
  lean_along a b c first next = record {
    grows = grows-along first.grows next.grows;
    within = within_along limit a b c first.within next.within;
    news = new-next first.grows next.grows first.news next.news;
    served = served-next made_of first.grows next.grows first.served ∙ next.served;
  }

  pub lean_fills : (a b : Logged) → GrowsLean limit a b → FillsLean limit a b
  lean_fills a b is = record { grows = is.grows; within = is.within; news = is.news; served = λ n waits. let never : false ≡ true = sym (ap (λ w. has w n) is.served) ∙ waits in cc }

  pub lean_then_fills : (a b c : Logged) → GrowsLean limit a b → FillsLean limit b c → FillsLean limit a c
  lean_then_fills a b c first next = record {
    grows = grows-along first.grows next.grows;
    within = within_along limit a b c first.within next.within;
    news = new-next first.grows next.grows first.news next.news;
    served = λ n waits. next.served n (sym (ap (λ w. has w n) (served-next made_of first.grows next.grows first.served)) ∙ waits);
  }

  -- to a full log nothing is added
  full-stays : (b c : Logged) → Grows b c → IsWithin limit b c → limit ≤ length b.log → (c.log ≡ b.log)
  full-stays b c grows within full =
      let none : grows.more ≡ [] = none-added grows.more b.log limit (subst (λ L. length L ≤ max limit (length b.log)) grows.log within) full in
      grows.log ∙ ap (λ (m : List Line). m ++ b.log) none

  pub fills_along : (a b c : Logged) → FillsLean limit a b → FillsLean limit b c → FillsLean limit a c
  fills_along a b c first next = by (waiting made_of (length a.log) first.grows.more) refl
    where
      by : (w : List ℕ) → waiting made_of (length a.log) first.grows.more ≡ w → FillsLean limit a c
      by [] is = lean_then_fills a b c (record { grows = first.grows; within = first.within; news = first.news; served = is }) next
      by (m ∷ w) is =
          let full : limit ≤ length b.log = (first.served m (ap (λ w. has w m) is ∙ has_first m w)).0 in
          let same : c.log ≡ b.log = full-stays b c next.grows next.within full in
          record {
            grows = record { instances = next.grows.instances ∙ first.grows.instances; own = next.grows.own ∙ first.grows.own; more = first.grows.more; log = same ∙ first.grows.log };
            within = within_along limit a b c first.within next.within;
            news = first.news;
            served = λ n waits. let at = first.served n waits in (subst (λ L. limit ≤ length L) (sym same) at.0, subst (λ L. length L ≤ n + 2) (sym same) at.1);
          }
