-- What is estimated of a log.
use Rattle.costs.specs.Cardinalities.{AreRows}
use Rattle.join_trees.specs.declared.log_estimates.LogEstimates.{LogEstimates}

-- the cardinalities are those of the log's classes, by the statistics
abbrev pub AreOfLog : LogEstimates → Type 0
AreOfLog e = AreRows e.statistics.now e.log.now.instances e.log.now.log e.cardinalities.now
