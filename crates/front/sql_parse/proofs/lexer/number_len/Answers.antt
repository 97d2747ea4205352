use Rattle.std.proofs.Common.{◌-◌, length, take, drop, arith}
use Rattle.std.proofs.lemmas.List.{length-take, length-drop}
use Rattle.std.proofs.lemmas.List.Sums.{prefix_len-le-length}
use Rattle.std.specs.Char.{is_ascii_digit}
use Rattle.sql_parse.proofs.lexer.number_len.Goals as goal

pub overflow_add-result : goal.overflow_add-result
overflow_add-result c =
    let bs = c.args.bytes.now in
    omega (arith, prefix_len-le-length is_ascii_digit (take (length bs - 1) (drop 1 bs)), length-take (length bs - 1) (drop 1 bs), length-drop 1 bs)
