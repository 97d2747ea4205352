use Rattle.std.proofs.Common.{◌-◌, ◌<◌, length, refl}
use Rattle.std.proofs.lemmas.Result.{err_from_is_err_and}
use Rattle.sql_parse.proofs.TokenLists.{stands_first, stands_next, stands_last, read_all, some_left, none_left, shorter, fault_only, fault_reported}
use Rattle.sql_parse.proofs.lexer.tokens.Goals as goal

pub loop-rest-init : goal.loop-rest-init
loop-rest-init c = (c.trimmed-rest.utf8, rw (c.new-tokens.ensures.items, c.trimmed-rest.ensures) (stands_first c.args.text.now))

pub returns-in_err-kind-clause-only : goal.returns-in_err-kind-clause-only
returns-in_err-kind-clause-only c = λ tokens are.
    let p = err_from_is_err_and c.from_residual.result c.from_residual.ensures.1 in
    let rest = c.loop-rest.rest.now in
    rw (p.1, p.2) (fault_only c.args.text.now c.loop-rest.tokens.items rest c.in_err-kind.field-0.0 c.loop-rest.invariant.1
    (some_left (length rest) c.is_empty.result c.loop-rest-test.true c.is_empty.ensures) c.in_err-kind.ensures tokens are)

pub returns-in_err-kind-clause-fault : goal.returns-in_err-kind-clause-fault
returns-in_err-kind-clause-fault c =
    let p = err_from_is_err_and c.from_residual.result c.from_residual.ensures.1 in
    let rest = c.loop-rest.rest.now in
    rw (p.1, p.2) (fault_reported c.args.text.now c.loop-rest.tokens.items rest c.in_err-kind.field-0.0 c.loop-rest.invariant.1
    (some_left (length rest) c.is_empty.result c.loop-rest-test.true c.is_empty.ensures) c.in_err-kind.ensures)

pub loop-rest-smaller : goal.loop-rest-smaller
loop-rest-smaller c =
    let text = c.args.text.now in
    let rest = c.loop-rest.rest.now in
    let l : length c.trimmed-rest-in-loop-rest.result.now < length rest = rw c.trimmed-rest-in-loop-rest.ensures (shorter (length text - length rest) rest c.in_ok-kind.behind.now c.in_ok-kind.kind c.in_ok-kind.ensures) in l

pub loop-rest-preserved : goal.loop-rest-preserved
loop-rest-preserved c =
    let text = c.args.text.now in
    let rest = c.loop-rest.rest.now in (
      c.trimmed-rest-in-loop-rest.utf8,
      rw (c.in_ok-push.ensures.items, c.trimmed-rest-in-loop-rest.ensures)
          (stands_next text c.loop-rest.tokens.items rest c.in_ok-kind.behind.now c.in_ok-kind.kind (length text - length rest) c.loop-rest.invariant.1 refl
          (some_left (length rest) c.is_empty.result c.loop-rest-test.true c.is_empty.ensures) c.in_ok-kind.ensures),
    )

pub returns-clause-found : goal.returns-clause-found
returns-clause-found c =
    let rest = c.loop-rest.rest.now in
    stands_last c.args.text.now c.loop-rest.tokens.items rest c.loop-rest.invariant.1 (none_left (length rest) c.is_empty.result c.loop-rest-test.false c.is_empty.ensures)

pub returns-clause-only : goal.returns-clause-only
returns-clause-only c = λ tokens are.
    let rest = c.loop-rest.rest.now in
    read_all c.args.text.now c.loop-rest.tokens.items rest c.loop-rest.invariant.1 (none_left (length rest) c.is_empty.result c.loop-rest-test.false c.is_empty.ensures) tokens are
