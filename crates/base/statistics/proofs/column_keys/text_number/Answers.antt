use Rattle.std.proofs.Common.{ap, ◌∙◌, ◌-◌, length, take, drop}
use Rattle.statistics.specs.ColumnKeys.{bytes_hash, hash_behind}
use Rattle.statistics.proofs.TextHashes.{four-bytes}
use Rattle.statistics.proofs.column_keys.text_number.Goals as goal

pub loop-rest-preserved : goal.loop-rest-preserved
loop-rest-preserved c =
    let rest = c.loop-rest.rest.now in
    ap (λ n. bytes_hash n (take (length rest - 4) (drop 4 rest))) (c.hash_behind-hash.ensures ∙ ap (hash_behind c.loop-rest.hash) c.from.ensures)
    ∙ four-bytes c.loop-rest.hash c.from_le_bytes-four.result rest c.in-len4-up.len_at_least c.from_le_bytes-four.ensures
    ∙ c.loop-rest.invariant
