use Rattle.std.proofs.Common.{sym, subst, Some}
use Rattle.props.specs.Knowledge.{Knowledge}
use Rattle.rules.specs.declared.shape.Shape.{Shape}
use Rattle.derivation.specs.Logs.{knowledge}
use Rattle.closure.specs.Operators.{StandsAs}
use Rattle.closure.proofs.Unique.{stands_class, stands_select, stands_join, stands_left_join, stands_semi, stands_anti, stands_keep, stands_distinct, stands_group}
use Rattle.closure.proofs.standing.+class_of.Goals as goal

pub returns-in-Class : goal.returns-in-Class
returns-in-Class t c =
    subst (λ (s : Shape). StandsAs (knowledge c.args.log.now.instances c.args.log.now.log) c.args.log.now.log s (Some c.in-Class.class)) (sym c.in-Class.is) (stands_class c.args.log.now.instances c.args.log.now.log c.requires.united c.in-Class.class)

pub returns-in_ok-found-in-Select : goal.returns-in_ok-found-in-Select
returns-in_ok-found-in-Select t c =
    let K : Knowledge = knowledge c.args.log.now.instances c.args.log.now.log in
    subst (λ (s : Shape). StandsAs K c.args.log.now.log s c.in_ok-found-in-Select.found) (sym c.in-Select.is)
    (stands_select c.args.log.now.instances c.args.log.now.log c.requires.united _ c.in-Select.x _ _ (subst (λ (s : Shape). StandsAs K c.args.log.now.log s c.in_ok-x-in-Select.x) c.get.ensures c.in_ok-x-in-Select.ensures) c.in_ok-found-in-Select.ensures)

pub returns-in_ok-found-in-Join : goal.returns-in_ok-found-in-Join
returns-in_ok-found-in-Join t c =
    let K : Knowledge = knowledge c.args.log.now.instances c.args.log.now.log in
    subst (λ (s : Shape). StandsAs K c.args.log.now.log s c.in_ok-found-in-Join.found) (sym c.in-Join.is)
    (stands_join c.args.log.now.instances c.args.log.now.log c.requires.united _ c.in-Join.a c.in-Join.b _ _ _
    (subst (λ (s : Shape). StandsAs K c.args.log.now.log s c.in_ok-a-in-Join.a) c.get-in-Join.ensures c.in_ok-a-in-Join.ensures)
    (subst (λ (s : Shape). StandsAs K c.args.log.now.log s c.in_ok-b-in-Join.b) c.get-in-Join-2.ensures c.in_ok-b-in-Join.ensures) c.in_ok-found-in-Join.ensures)

pub returns-in_ok-found-in-LeftJoin : goal.returns-in_ok-found-in-LeftJoin
returns-in_ok-found-in-LeftJoin t c =
    let K : Knowledge = knowledge c.args.log.now.instances c.args.log.now.log in
    subst (λ (s : Shape). StandsAs K c.args.log.now.log s c.in_ok-found-in-LeftJoin.found) (sym c.in-LeftJoin.is)
    (stands_left_join c.args.log.now.instances c.args.log.now.log c.requires.united _ c.in-LeftJoin.a c.in-LeftJoin.b _ _ _
    (subst (λ (s : Shape). StandsAs K c.args.log.now.log s c.in_ok-a-in-LeftJoin.a) c.get-in-LeftJoin.ensures c.in_ok-a-in-LeftJoin.ensures)
    (subst (λ (s : Shape). StandsAs K c.args.log.now.log s c.in_ok-b-in-LeftJoin.b) c.get-in-LeftJoin-2.ensures c.in_ok-b-in-LeftJoin.ensures) c.in_ok-found-in-LeftJoin.ensures)

pub returns-in_ok-found-in-Semi : goal.returns-in_ok-found-in-Semi
returns-in_ok-found-in-Semi t c =
    let K : Knowledge = knowledge c.args.log.now.instances c.args.log.now.log in
    subst (λ (s : Shape). StandsAs K c.args.log.now.log s c.in_ok-found-in-Semi.found) (sym c.in-Semi.is)
    (stands_semi c.args.log.now.instances c.args.log.now.log c.requires.united _ c.in-Semi.a c.in-Semi.b _ _ _
    (subst (λ (s : Shape). StandsAs K c.args.log.now.log s c.in_ok-a-in-Semi.a) c.get-in-Semi.ensures c.in_ok-a-in-Semi.ensures)
    (subst (λ (s : Shape). StandsAs K c.args.log.now.log s c.in_ok-b-in-Semi.b) c.get-in-Semi-2.ensures c.in_ok-b-in-Semi.ensures) c.in_ok-found-in-Semi.ensures)

pub returns-in_ok-found-in-Anti : goal.returns-in_ok-found-in-Anti
returns-in_ok-found-in-Anti t c =
    let K : Knowledge = knowledge c.args.log.now.instances c.args.log.now.log in
    subst (λ (s : Shape). StandsAs K c.args.log.now.log s c.in_ok-found-in-Anti.found) (sym c.in-Anti.is)
    (stands_anti c.args.log.now.instances c.args.log.now.log c.requires.united _ _ c.in-Anti.a c.in-Anti.b _ _ _
    (subst (λ (s : Shape). StandsAs K c.args.log.now.log s c.in_ok-a-in-Anti.a) c.get-in-Anti.ensures c.in_ok-a-in-Anti.ensures)
    (subst (λ (s : Shape). StandsAs K c.args.log.now.log s c.in_ok-b-in-Anti.b) c.get-in-Anti-2.ensures c.in_ok-b-in-Anti.ensures) c.in_ok-found-in-Anti.ensures)

pub returns-in_ok-found-in-Keep : goal.returns-in_ok-found-in-Keep
returns-in_ok-found-in-Keep t c =
    let K : Knowledge = knowledge c.args.log.now.instances c.args.log.now.log in
    subst (λ (s : Shape). StandsAs K c.args.log.now.log s c.in_ok-found-in-Keep.found) (sym c.in-Keep.is)
    (stands_keep c.args.log.now.instances c.args.log.now.log c.requires.united _ c.in-Keep.x _ _ (subst (λ (s : Shape). StandsAs K c.args.log.now.log s c.in_ok-x-in-Keep.x) c.get-in-Keep.ensures c.in_ok-x-in-Keep.ensures) c.in_ok-found-in-Keep.ensures)

pub returns-in_ok-found-in-Distinct : goal.returns-in_ok-found-in-Distinct
returns-in_ok-found-in-Distinct t c =
    let K : Knowledge = knowledge c.args.log.now.instances c.args.log.now.log in
    subst (λ (s : Shape). StandsAs K c.args.log.now.log s c.in_ok-found-in-Distinct.found) (sym c.in-Distinct.is)
    (stands_distinct c.args.log.now.instances c.args.log.now.log c.requires.united c.in-Distinct.x _ _ (subst (λ (s : Shape). StandsAs K c.args.log.now.log s c.in_ok-x-in-Distinct.x) c.get-in-Distinct.ensures c.in_ok-x-in-Distinct.ensures) c.in_ok-found-in-Distinct.ensures)

pub returns-in_ok-found-in-Group : goal.returns-in_ok-found-in-Group
returns-in_ok-found-in-Group t c =
    let K : Knowledge = knowledge c.args.log.now.instances c.args.log.now.log in
    subst (λ (s : Shape). StandsAs K c.args.log.now.log s c.in_ok-found-in-Group.found) (sym c.in-Group.is)
    (stands_group c.args.log.now.instances c.args.log.now.log c.requires.united _ _ c.in-Group.x _ _ (subst (λ (s : Shape). StandsAs K c.args.log.now.log s c.in_ok-x-in-Group.x) c.get-in-Group.ensures c.in_ok-x-in-Group.ensures) c.in_ok-found-in-Group.ensures)
