use Rattle.std.proofs.Common.{◌++◌, ◌∙◌}
use Rattle.store.proofs.FrontRecords.{on_both, front_named, begun}
use Rattle.store.proofs.records.Parsing.take_records.Goals as goal

pub returns-then-self-clause-read : goal.returns-then-self-clause-read
returns-then-self-clause-read g c = λ records rest b h.
    let (seen, is, w) = begun c.args.columns.now records c.args.self.now.rows.rows rest (rw c.if-self.true at b) in
    on_both c.take_rows.result _ _ _ (λ named p. front_named c.args.columns.now (records ++ rest) seen c.take_rows.new.self.named c.take_rows.new.self.rows.rows c.take_rows.new.self.fault (named ∙ c.if-self.true) is p) c.take_rows.ensures.named (c.take_rows.ensures.read seen rest w h)

pub returns-else-self-clause-read : goal.returns-else-self-clause-read
returns-else-self-clause-read g c = λ records rest b h.
    let none = rw c.if-self.false at b in
    rw none.0 (c.take_first.ensures.read rest none.1 h)
