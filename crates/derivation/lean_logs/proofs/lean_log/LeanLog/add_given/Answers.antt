use Rattle.std.proofs.Common.{sym, subst, Err}
use Rattle.algebra.proofs.MentionedColumns.{on_ok}
use Rattle.derivation.specs.Replay.{Replays}
use Rattle.logs.specs.Logged.{Logged}
use Rattle.bindings.specs.Bindings.{GivesBinding}
use Rattle.bindings.specs.Founding.{IsResultBehind}
use Rattle.lean_logs.specs.Founding.{SpeltAs}
use Rattle.lean_logs.proofs.Growth.{extended_along}
use Rattle.lean_logs.proofs.Results.{class_given, filled_given, given_may, given_result, given_shallow, given_spelt, spelt_given}
use Rattle.lean_logs.proofs.lean_log.LeanLog.add_given.Goals as goal

pub result_may_stand-requires : goal.result_may_stand-requires
result_may_stand-requires c = subst (λ (l : Logged). GivesBinding l.instances l.log c.args.binding) (sym c.log.ensures) (record { given = c.args.given.now; is = c.requires })

pub unite_with-requires-clause-result : goal.unite_with-requires-clause-result
unite_with-requires-clause-result c =
    given_result c.args.self.now c.args.binding c.args.given.now c.requires (subst (λ l. IsResultBehind l c.args.binding) c.log.ensures c.result_may_stand.ensures)
    (subst (λ (l : Logged). Replays l.instances l.own l.log) c.log-2.ensures c.lines-replays.ensures.replays)

pub returns-in-Class-clause-fills : goal.returns-in-Class-clause-fills
returns-in-Class-clause-fills c =
    let replays = subst (λ (l : Logged). Replays l.instances l.own l.log) c.log-2.ensures c.lines-replays.ensures.replays in
    on_ok c.unite_with.result (λ told. (class_given c.args.limit c.args.self.now c.unite_with.new.self c.args.given.now replays told).fills) c.unite_with.ensures.told

pub returns-in-Class-clause-lean : goal.returns-in-Class-clause-lean
returns-in-Class-clause-lean c =
    let replays = subst (λ (l : Logged). Replays l.instances l.own l.log) c.log-2.ensures c.lines-replays.ensures.replays in
    on_ok c.unite_with.result (λ told. (class_given c.args.limit c.args.self.now c.unite_with.new.self c.args.given.now replays told).lean) c.unite_with.ensures.told

pub add_spelt-requires : goal.add_spelt-requires
add_spelt-requires c =
    let a = c.args.self.now in
    let g = c.args.given.now in
    let behind = subst (λ l. IsResultBehind l c.args.binding) c.log.ensures c.result_may_stand.ensures in
    let spelt = c.in-Ok.ensures.spelt c.in_default.not-Class (given_may a c.args.binding g c.requires behind) in
    let both = given_spelt a c.spell.new.self c.args.binding g c.in-Ok.spelt c.requires behind spelt (subst (λ (l : Logged). Replays l.instances l.own l.log) c.log-in-Ok.ensures c.lines-spelt.ensures.replays) in
    record { result = both.0; spelt = both.1 }

pub returns-in-Ok : goal.returns-in-Ok
returns-in-Ok c =
    let a = c.args.self.now in
    let g = c.args.given.now in
    let behind = subst (λ l. IsResultBehind l c.args.binding) c.log.ensures c.result_may_stand.ensures in
    let spelt = c.in-Ok.ensures.spelt c.in_default.not-Class (given_may a c.args.binding g c.requires behind) in
    let given = spelt_given c.args.limit a c.spell.new.self c.add_spelt.new.self g c.in-Ok.spelt (given_shallow c.results_are_shallow.ensures a c.args.binding g c.requires)
    (subst (λ (l : Logged). Replays l.instances l.own l.log) c.log-2.ensures c.lines-replays.ensures.replays) (subst (λ (l : Logged). Replays l.instances l.own l.log) c.log-in-Ok.ensures c.lines-spelt.ensures.replays)
    c.spell.ensures.extends.within spelt in
    record {
      extends = extended_along _ _ _ _ c.spell.ensures.extends c.add_spelt.ensures.extends;
      fills = on_ok c.add_spelt.result (λ told. (given told).fills) c.add_spelt.ensures.told;
      lean = on_ok c.add_spelt.result (λ told. (given told).lean) c.add_spelt.ensures.told;
      added = on_ok c.add_spelt.result (λ told. (given told).added) c.add_spelt.ensures.told;
    }

pub returns-in-Err-Refused : goal.returns-in-Err-Refused
returns-in-Err-Refused c =
    let a = c.args.self.now in
    let g = c.args.given.now in
    let behind = subst (λ l. IsResultBehind l c.args.binding) c.log.ensures c.result_may_stand.ensures in
    let filled = subst (λ u. SpeltAs c.args.limit a g.shape c.spell.new.self (Err u)) c.in-Err-Refused.field-0-is (c.in-Err-Refused.ensures.spelt c.in_default.not-Class (given_may a c.args.binding g c.requires behind)) in
    let given = filled_given c.args.limit a c.spell.new.self g (given_shallow c.results_are_shallow.ensures a c.args.binding g c.requires) c.spell.ensures.extends.within filled in
    record { extends = c.spell.ensures.extends; fills = given.fills; lean = given.lean; added = given.added }
