-- What passes and single lines do to a log, one after the other.
use Rattle.std.proofs.Common.{◌≡◌, ◌↔◌, ap, ◌∙◌, subst, ℕ, ◌+◌, ◌≤◌, true, false, List, length, IsTrue, Result, Ok, Err, OnOk, arith}
use Rattle.std.proofs.lemmas.List.{length-append}
use Rattle.query.specs.declared.query.TableInstance.{TableInstance}
use Rattle.derivation.specs.Logs.{Log}
use Rattle.logs.specs.Logged.{Logged}
use Rattle.lean_logs.specs.Growth.{Grows, Extends, FillsLean, GrowsLean}
use Rattle.lean_logs.proofs.Growth.{extended_along, fills_along, lean_along, lean_at_first, lean_extends, lean_fills}
use Rattle.closure.specs.declared.lacks.Missing.{Missing}
use Rattle.closure.specs.Closed.{IsClosed}
use Rattle.closure.specs.Lacking.{IsMissing}
use Rattle.closure.proofs.Lacking.{missing_open}

-- a log that lacks something isn't closed
pub not_closed : (instances : List TableInstance) (E : Log) (m : Missing) → IsMissing instances E m → IsTrue false ↔ IsClosed instances E
not_closed instances E m lacks = (λ never. absurd (let e : false ≡ true = never in cc), λ closed. absurd (missing_open instances E m lacks closed))

pub longer : (a b : Logged) → Grows a b → length a.log ≤ length b.log
longer a b grows = let count : length b.log ≡ length grows.more + length a.log = ap length grows.log ∙ length-append grows.more a.log in omega (arith, count)

-- so far, and what comes then
pub record IsGrown (limit : ℕ) (a b : Logged) : Type 0 where
  pub extends : Extends limit a b
  pub lean : GrowsLean limit a b

pub grown_at_first : (limit : ℕ) (a : Logged) → IsGrown limit a a
grown_at_first limit a = record { extends = lean_extends limit a a (lean_at_first limit a); lean = lean_at_first limit a }

pub grown_along : (limit more : ℕ) (a b c : Logged) → IsGrown limit a b → more ≡ limit → Extends more b c → GrowsLean more b c → IsGrown limit a c
grown_along limit more a b c first same extends lean = record {
  extends = extended_along limit a b c first.extends (subst (λ n. Extends n b c) same extends);
  lean = lean_along limit a b c first.lean (subst (λ n. GrowsLean n b c) same lean);
}

-- the same of a log that may become full while something is founded
pub record IsFilling (limit : ℕ) (a b : Logged) : Type 0 where
  pub extends : Extends limit a b
  pub fills : FillsLean limit a b

pub filling_at_first : (limit : ℕ) (a : Logged) → IsFilling limit a a
filling_at_first limit a = record { extends = lean_extends limit a a (lean_at_first limit a); fills = lean_fills limit a a (lean_at_first limit a) }

pub filling_along : (limit more : ℕ) (a b c : Logged) → IsFilling limit a b → more ≡ limit → Extends more b c → FillsLean more b c → IsFilling limit a c
filling_along limit more a b c first same extends fills = record {
  extends = extended_along limit a b c first.extends (subst (λ n. Extends n b c) same extends);
  fills = fills_along limit a b c first.fills (subst (λ n. FillsLean n b c) same fills);
}

pub where_ok : {T E P : Type 0} (r : Result T E) → P → OnOk r P
where_ok (Ok x) p = p
where_ok (Err e) p = tt
