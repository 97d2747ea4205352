use Rattle.store.proofs.records.Parsing.end.Goals as goal

pub returns : goal.returns
returns c = λ cs records few h. rw c.new.ensures (c.fault_at_end.ensures cs records c.args.self.rows.rows few h)
