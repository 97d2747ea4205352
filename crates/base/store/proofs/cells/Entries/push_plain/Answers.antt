use Rattle.std.proofs.Common.{rules}
use Rattle.values.specs.declared.value.Value.TheVariants as value
use Rattle.store.proofs.cells.Entries.push_plain.Goals as goal

pub returns-in_ok-push-in-Numbers-clause-read : goal.returns-in_ok-push-in-Numbers-clause-read
returns-in_ok-push-in-Numbers-clause-read c = (value.Int c.in-Some.number, search rules, search rules)

pub returns-in_ok-push-in-Texts-clause-read : goal.returns-in_ok-push-in-Texts-clause-read
returns-in_ok-push-in-Texts-clause-read c = (value.Text c.in-Ok.text.now, search rules, search rules)
