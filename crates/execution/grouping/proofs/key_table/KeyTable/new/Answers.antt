use Rattle.std.proofs.Common.{◌≡◌, ap, sym, ◌∙◌, ◌∷◌, ◌++◌, [], List, get_or, length, map, replicate, arith}
use Rattle.std.proofs.lemmas.List.{get_or-replicate, length-map, length-replicate, map-append, replicate_more}
use Rattle.values.specs.declared.value.Value.{Value}
use Rattle.relations.specs.MadeColumns.{made_values}
use Rattle.grouping.specs.KeyBuckets.{key_hash}
use Rattle.grouping.proofs.key_table.KeyTable.new.Goals as goal

pub loop-preserved : goal.loop-preserved
loop-preserved c =
    ap (map made_values) c.in_ok-push.ensures.items ∙ map-append made_values c.loop.columns.items (c.new.result ∷ []) ∙ ap (λ l. l ++ made_values c.new.result ∷ []) c.loop.invariant
    ∙ ap (λ v. replicate c.loop.counter [] ++ v ∷ []) c.new.ensures ∙ replicate_more c.loop.counter []

pub returns : goal.returns
returns c =
    let columns = c.loop.columns.items in
    let none : List Value = [] in
    let none-long = length-replicate c.loop.counter none in
    let inv : map made_values columns ≡ replicate c.loop.counter [] = c.loop.invariant in
    record {
      width_is = omega (arith, sym (length-map columns made_values), ap length inv, none-long);
      columns_are = λ place below. ap (λ (l : List (List Value)). get_or l place []) inv ∙ get_or-replicate c.loop.counter place [] [] (omega (arith, below));
      wide = tt;
      hashed = record { hashes_are = c.in_ok-new.ensures.hashes; chained = c.in_ok-new.ensures.chained };
    }
