use Rattle.seed.proofs.nodes.Nodes.+split.Given as goal

abbrev pub decreases-split : goal.decreases-split
decreases-split l = l.depth
