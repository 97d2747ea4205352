-- Logs in which classes are founded behind what stands there, and what a rule gives in such.
use Rattle.std.specs.Prelude.{◌≡◌, ℕ, Bool, true, List, ◌++◌, Some}
use Rattle.std.specs.List.{list_all}
use Rattle.derivation.specs.declared.line.Line.{Line}
use Rattle.derivation.specs.Logs.{is_founding}
use Rattle.derivation.specs.Replay.{Replays}
use Rattle.logs.specs.Logged.{Logged}
use Rattle.bindings.specs.declared.binding.Binding.{Binding}
use Rattle.bindings.specs.declared.rule_results.RuleResult.{RuleResult}
use Rattle.bindings.specs.Bindings.{given_by_binding}
use Rattle.bindings.specs.Results.{IsResult}

-- whether a line founds something
abbrev pub founds_something : Line → Bool
founds_something l = is_founding (Some l)

-- behind the lines of one log another has lines that found something, and no others
pub record IsFounded (old new : Logged) : Type 0 where
  pub instances : new.instances ≡ old.instances
  pub own : new.own ≡ old.own
  pub more : List Line
  pub founding : list_all founds_something more ≡ true
  pub log : new.log ≡ more ++ old.log
  pub replays : Replays new.instances new.own new.log

-- what the rule of a binding gives in a log may stand there, and also once more is founded
abbrev pub IsResultBehind : Logged → Binding → Type 0
IsResultBehind old b = (g : RuleResult) → given_by_binding old.instances old.log b ≡ Some g → (new : Logged) → IsFounded old new → IsResult new.instances new.own new.log b g.class g.shape
