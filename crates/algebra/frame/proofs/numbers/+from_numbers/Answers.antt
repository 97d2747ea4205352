use Rattle.std.proofs.Common.{◌≡◌, ◌∙◌, subst, List, ℕ, ◌++◌, IfOk}
use Rattle.algebra.proofs.Lists.{two}
use Rattle.frame.proofs.QueryNumbers.{numbers-Table, numbers-Join, numbers-LeftJoin, numbers-Comma}
use Rattle.frame.proofs.numbers.+from_numbers.Goals as goal

pub returns-in-Table : goal.returns-in-Table
returns-in-Table t c =
    subst (λ (s : List ℕ). IfOk c.instance_numbers.result (λ numbers. numbers.items ≡ s)) (numbers-Table c.args.instances.now c.args.from.now c.in-Table.reference c.in-Table.is) c.instance_numbers.ensures

pub returns-in_ok-instance_numbers-in-Join : goal.returns-in_ok-instance_numbers-in-Join
returns-in_ok-instance_numbers-in-Join t c =
    subst (λ (s : List ℕ). IfOk c.append.result (λ numbers. numbers.items ≡ s))
    (two (λ a b. a ++ b) c.in_ok-numbers-in-Join.ensures c.in_ok-instance_numbers-in-Join.ensures
    ∙ numbers-Join c.args.instances.now c.args.from.now c.in-Join.left c.get.result.now c.in-Join.reference c.in-Join.field-2 c.in-Join.is c.get.ensures)
    c.append.ensures

pub returns-in_ok-instance_numbers-in-LeftJoin : goal.returns-in_ok-instance_numbers-in-LeftJoin
returns-in_ok-instance_numbers-in-LeftJoin t c =
    subst (λ (s : List ℕ). IfOk c.append-in-LeftJoin.result (λ numbers. numbers.items ≡ s))
    (two (λ a b. a ++ b) c.in_ok-numbers-in-LeftJoin.ensures c.in_ok-instance_numbers-in-LeftJoin.ensures
    ∙ numbers-LeftJoin c.args.instances.now c.args.from.now c.in-LeftJoin.left c.get-in-LeftJoin.result.now c.in-LeftJoin.reference c.in-LeftJoin.field-2 c.in-LeftJoin.is c.get-in-LeftJoin.ensures)
    c.append-in-LeftJoin.ensures

pub returns-in_ok-from_numbers-in-Comma : goal.returns-in_ok-from_numbers-in-Comma
returns-in_ok-from_numbers-in-Comma t c =
    subst (λ (s : List ℕ). IfOk c.append-in-Comma.result (λ numbers. numbers.items ≡ s))
    (two (λ a b. a ++ b) c.in_ok-numbers-in-Comma.ensures c.in_ok-from_numbers-in-Comma.ensures
    ∙ numbers-Comma c.args.instances.now c.args.from.now c.in-Comma.left c.in-Comma.right c.get-in-Comma.result.now c.get-in-Comma-2.result.now c.in-Comma.is c.get-in-Comma.ensures c.get-in-Comma-2.ensures)
    c.append-in-Comma.ensures
