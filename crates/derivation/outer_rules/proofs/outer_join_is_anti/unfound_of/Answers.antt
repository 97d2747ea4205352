use Rattle.outer_rules.proofs.outer_join_is_anti.unfound_of.Goals as goal

pub returns-in-Keep-Select-LeftJoin : goal.returns-in-Keep-Select-LeftJoin
returns-in-Keep-Select-LeftJoin c = rw (c.in-Keep-Select-LeftJoin.is-0, c.in-Keep-Select-LeftJoin.is-1, c.in-Keep-Select-LeftJoin.is-2) c.unfound.ensures
