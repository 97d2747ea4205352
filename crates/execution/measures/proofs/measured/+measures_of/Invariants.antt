use Rattle.std.proofs.Common.{◌∷◌, take}
use Rattle.schema.specs.declared.schema.Schema.{Schema}
use Rattle.query.specs.Rows.{tables_of}
use Rattle.physical.specs.declared.plan.Plan.{out-Plan}
use Rattle.measures.specs.Measures.{AreMeasured, plan_if}
use Rattle.measures.proofs.RunPlans.{plans_below}
use Rattle.measures.proofs.measured.+measures_of.Given as goal

-- the root and the nodes of the inputs so far are measured
abbrev pub invariant-loop-place : goal.invariant-loop-place
invariant-loop-place g l = (S : Schema) → AreMeasured l.fn.sources.instances.now (tables_of S l.fn.sources.tables.now) (plan_if l.fn.is_repeated l.fn.plan ∷ plans_below l.fn.is_repeated l.are_repeated (take l.place (out-Plan l.fn.plan).inputs)) l.all.items
