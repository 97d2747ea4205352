use Rattle.std.proofs.Common.{◌≡◌, ap, ◌∙◌, ◌==◌, if◌then◌else◌, length, []}
use Rattle.algebra.specs.Columns.{columns_at, rising}
use Rattle.logs.proofs.NotedLines.{idle-class}
use Rattle.logs.proofs.known.Known.put_idle.Goals as goal

pub returns-clause-class : goal.returns-clause-class
returns-clause-class c =
    let columns = c.args.self.now.columns.items in
    let none : c.from_vec.result ≡ [] = c.from_vec.ensures ∙ ap rising c.new.ensures.items in
    idle-class c.args.self.now c.put.new.self c.requires.step c.put.ensures.count (λ g. c.put.ensures.columns g ∙ ap (λ own. if g == length columns then own else columns_at columns g) none) c.put.ensures.free
