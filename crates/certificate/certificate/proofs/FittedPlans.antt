-- Whether a plan fits a log, by what code computes of the two.
use Rattle.std.proofs.Common.{◌≡◌, refl, ap, ◌∙◌, ℕ, Bool, List, length, Ok}
use Rattle.values.specs.Faults.{◌>>=◌}
use Rattle.query.specs.declared.query.Query.{Query}
use Rattle.query.specs.declared.query.TableInstance.{TableInstance}
use Rattle.algebra.specs.Classes.{class_columns}
use Rattle.derivation.specs.Logs.{Log, entries}
use Rattle.physical.specs.declared.node_orders.Delivered.{Delivered}
use Rattle.physical.specs.declared.plan.OrderKey.{OrderKey}
use Rattle.physical.specs.declared.plan.Plan.{Plan}
use Rattle.physical.specs.EachOrder.{order_of, each_order}
use Rattle.physical.specs.RequiredOrders.{begins_with}
use Rattle.physical.proofs.DeliveredOrders.{each-is}
use Rattle.certificate.specs.QueryOrders.{query_order}
use Rattle.certificate.specs.Replay.{plan_fits, fitted_plan, is_delivered, root}

-- the order that a plan delivers, made with those of its inputs
pub delivered_is : (q : Query) (plan : Plan) (ordered : Bool) (instances : List TableInstance) (d : Delivered) (order : List OrderKey) → instances ≡ q.tables → d ≡ each_order instances plan → order ≡ order_of d → ordered ≡ begins_with order (query_order q)
    → ordered ≡ is_delivered q plan
delivered_is q plan ordered instances d order same_instances is at e =
    e ∙ ap (λ o. begins_with o (query_order q)) (at ∙ ap order_of (is ∙ ap (λ us. each_order us plan) same_instances) ∙ each-is q.tables plan)

pub fitted_by : (q : Query) (E : Log) (plan : Plan) (instances : List TableInstance) (cols : ℕ → List ℕ) (ordered : Bool) (g n : ℕ) → instances ≡ q.tables → cols ≡ class_columns instances (entries E) → ordered ≡ is_delivered q plan → g ≡ root q → n ≡ length E
    → fitted_plan q E plan ≡ (plan_fits instances E cols plan ordered g n >>= λ m. Ok plan)
fitted_by q E plan instances cols ordered g n same_instances columns delivers class count = rw (columns, same_instances, delivers, class, count) refl
