use Rattle.std.proofs.Common.{◌≡◌, sym, ap, ◌∙◌, subst, Bool, IfOk}
use Rattle.change_laws.specs.Fit.{rows_are_fit, relation_is_fit, destroying_is_fit, structure_is_fit, index_is_fit, permits_may_go, rules_may_go}
use Rattle.change_check.specs.BySchema.{is_of_rows}
use Rattle.change_check.proofs.BySchema.{same_stand, so_on_true}
use Rattle.change_check.proofs.ByKind.{of_rows, of_relation, of_destroying, of_structure, of_index, of_view, of_permit, of_rule, of_permits, of_rules}
use Rattle.change_check.proofs.checking.change_is_fit.Goals as goal

pub returns-in-Rows-clause-known : goal.returns-in-Rows-clause-known
returns-in-Rows-clause-known g c = λ db e.
    let arm = c.in-Rows in
    subst (λ (b : Bool). IfOk c.rows_are_fit.result (λ fit. fit ≡ b)) ((λ i. rows_are_fit db arm.rel (c.items.ensures i) (c.items-in-Rows.ensures i)) ∙ of_rows db c.args.change.now arm.rel arm.remove arm.add arm.is)
    (c.rows_are_fit.ensures.known db e)

pub returns-in-Rows-clause-by_schema : goal.returns-in-Rows-clause-by_schema
returns-in-Rows-clause-by_schema g c = λ s e no. absurd (cc (sym (ap is_of_rows c.in-Rows.is) ∙ no))

pub returns-in-Rows-clause-rows_by_schema : goal.returns-in-Rows-clause-rows_by_schema
returns-in-Rows-clause-rows_by_schema g c = λ s e rel remove add is.
    so_on_true c.rows_are_fit.result (same_stand s _ _ _ _ _ rel remove add (sym c.in-Rows.is ∙ is) c.items.ensures c.items-in-Rows.ensures) (c.rows_are_fit.ensures.by_schema s e)

pub returns-in-Create-clause-known : goal.returns-in-Create-clause-known
returns-in-Create-clause-known g c = λ db e.
    let arm = c.in-Create in
    subst (λ (b : Bool). IfOk c.relation_is_fit.result (λ fit. fit ≡ b)) (ap (relation_is_fit db arm.info) c.items-in-Create.ensures ∙ of_relation db c.args.change.now arm.info arm.rows arm.is)
    (c.relation_is_fit.ensures.known db (g.B.Base.own c.args.base.now db e))

pub returns-in-Create-clause-by_schema : goal.returns-in-Create-clause-by_schema
returns-in-Create-clause-by_schema g c = λ db e no.
    let arm = c.in-Create in
    subst (λ (b : Bool). IfOk c.relation_is_fit.result (λ fit. fit ≡ b)) (ap (relation_is_fit db arm.info) c.items-in-Create.ensures ∙ of_relation db c.args.change.now arm.info arm.rows arm.is)
    (c.relation_is_fit.ensures.known db e)

pub returns-in-Create-clause-rows_by_schema : goal.returns-in-Create-clause-rows_by_schema
returns-in-Create-clause-rows_by_schema g c = λ s e rel remove add is. absurd (cc (sym c.in-Create.is ∙ is))

pub returns-in-Destroy-clause-known : goal.returns-in-Destroy-clause-known
returns-in-Destroy-clause-known g c = λ db e.
    let arm = c.in-Destroy in
    subst (λ (b : Bool). IfOk c.destroying_is_fit.result (λ fit. fit ≡ b)) (ap (destroying_is_fit db) c.items-in-Destroy.ensures ∙ of_destroying db c.args.change.now arm.rels arm.is)
    (c.destroying_is_fit.ensures.known db (g.B.Base.own c.args.base.now db e))

pub returns-in-Destroy-clause-by_schema : goal.returns-in-Destroy-clause-by_schema
returns-in-Destroy-clause-by_schema g c = λ db e no.
    let arm = c.in-Destroy in
    subst (λ (b : Bool). IfOk c.destroying_is_fit.result (λ fit. fit ≡ b)) (ap (destroying_is_fit db) c.items-in-Destroy.ensures ∙ of_destroying db c.args.change.now arm.rels arm.is)
    (c.destroying_is_fit.ensures.known db e)

pub returns-in-Destroy-clause-rows_by_schema : goal.returns-in-Destroy-clause-rows_by_schema
returns-in-Destroy-clause-rows_by_schema g c = λ s e rel remove add is. absurd (cc (sym c.in-Destroy.is ∙ is))

pub returns-in-Modify-clause-known : goal.returns-in-Modify-clause-known
returns-in-Modify-clause-known g c = λ db e.
    let arm = c.in-Modify in
    subst (λ (b : Bool). IfOk c.structure_is_fit.result (λ fit. fit ≡ b)) (ap (structure_is_fit db arm.rel arm.to) c.items-in-Modify.ensures ∙ of_structure db c.args.change.now arm.rel arm.to arm.keys arm.is)
    (c.structure_is_fit.ensures.known db (g.B.Base.own c.args.base.now db e))

pub returns-in-Modify-clause-by_schema : goal.returns-in-Modify-clause-by_schema
returns-in-Modify-clause-by_schema g c = λ db e no.
    let arm = c.in-Modify in
    subst (λ (b : Bool). IfOk c.structure_is_fit.result (λ fit. fit ≡ b)) (ap (structure_is_fit db arm.rel arm.to) c.items-in-Modify.ensures ∙ of_structure db c.args.change.now arm.rel arm.to arm.keys arm.is)
    (c.structure_is_fit.ensures.known db e)

pub returns-in-Modify-clause-rows_by_schema : goal.returns-in-Modify-clause-rows_by_schema
returns-in-Modify-clause-rows_by_schema g c = λ s e rel remove add is. absurd (cc (sym c.in-Modify.is ∙ is))

pub returns-in-Index-clause-known : goal.returns-in-Index-clause-known
returns-in-Index-clause-known g c = λ db e.
    let arm = c.in-Index in
    subst (λ (b : Bool). IfOk c.index_is_fit.result (λ fit. fit ≡ b)) (ap (index_is_fit db arm.rel arm.name) c.items-in-Index.ensures ∙ of_index db c.args.change.now arm.rel arm.name arm.keys arm.is)
    (c.index_is_fit.ensures.known db (g.B.Base.own c.args.base.now db e))

pub returns-in-Index-clause-by_schema : goal.returns-in-Index-clause-by_schema
returns-in-Index-clause-by_schema g c = λ db e no.
    let arm = c.in-Index in
    subst (λ (b : Bool). IfOk c.index_is_fit.result (λ fit. fit ≡ b)) (ap (index_is_fit db arm.rel arm.name) c.items-in-Index.ensures ∙ of_index db c.args.change.now arm.rel arm.name arm.keys arm.is)
    (c.index_is_fit.ensures.known db e)

pub returns-in-Index-clause-rows_by_schema : goal.returns-in-Index-clause-rows_by_schema
returns-in-Index-clause-rows_by_schema g c = λ s e rel remove add is. absurd (cc (sym c.in-Index.is ∙ is))

pub returns-in-DropPermits-clause-known : goal.returns-in-DropPermits-clause-known
returns-in-DropPermits-clause-known g c = λ db e.
    let arm = c.in-DropPermits in
    subst (λ (b : Bool). IfOk c.permits_may_go.result (λ fit. fit ≡ b)) (ap (permits_may_go db arm.rel) c.items-in-DropPermits.ensures ∙ of_permits db c.args.change.now arm.rel arm.numbers arm.is)
    (c.permits_may_go.ensures.known db (g.B.Base.own c.args.base.now db e))

pub returns-in-DropPermits-clause-by_schema : goal.returns-in-DropPermits-clause-by_schema
returns-in-DropPermits-clause-by_schema g c = λ db e no.
    let arm = c.in-DropPermits in
    subst (λ (b : Bool). IfOk c.permits_may_go.result (λ fit. fit ≡ b)) (ap (permits_may_go db arm.rel) c.items-in-DropPermits.ensures ∙ of_permits db c.args.change.now arm.rel arm.numbers arm.is)
    (c.permits_may_go.ensures.known db e)

pub returns-in-DropPermits-clause-rows_by_schema : goal.returns-in-DropPermits-clause-rows_by_schema
returns-in-DropPermits-clause-rows_by_schema g c = λ s e rel remove add is. absurd (cc (sym c.in-DropPermits.is ∙ is))

pub returns-in-DropRules-clause-known : goal.returns-in-DropRules-clause-known
returns-in-DropRules-clause-known g c = λ db e.
    let arm = c.in-DropRules in
    subst (λ (b : Bool). IfOk c.rules_may_go.result (λ fit. fit ≡ b)) (ap (rules_may_go db arm.rel) c.items-in-DropRules.ensures ∙ of_rules db c.args.change.now arm.rel arm.numbers arm.is)
    (c.rules_may_go.ensures.known db (g.B.Base.own c.args.base.now db e))

pub returns-in-DropRules-clause-by_schema : goal.returns-in-DropRules-clause-by_schema
returns-in-DropRules-clause-by_schema g c = λ db e no.
    let arm = c.in-DropRules in
    subst (λ (b : Bool). IfOk c.rules_may_go.result (λ fit. fit ≡ b)) (ap (rules_may_go db arm.rel) c.items-in-DropRules.ensures ∙ of_rules db c.args.change.now arm.rel arm.numbers arm.is)
    (c.rules_may_go.ensures.known db e)

pub returns-in-DropRules-clause-rows_by_schema : goal.returns-in-DropRules-clause-rows_by_schema
returns-in-DropRules-clause-rows_by_schema g c = λ s e rel remove add is. absurd (cc (sym c.in-DropRules.is ∙ is))

pub returns-in-Permit-clause-known : goal.returns-in-Permit-clause-known
returns-in-Permit-clause-known g c = λ db e.
    let arm = c.in-Permit in
    subst (λ (b : Bool). IfOk c.permit_is_fit.result (λ fit. fit ≡ b)) (of_permit db c.args.change.now arm.rel arm.permit arm.is) (c.permit_is_fit.ensures.known db (g.B.Base.own c.args.base.now db e))

pub returns-in-Permit-clause-by_schema : goal.returns-in-Permit-clause-by_schema
returns-in-Permit-clause-by_schema g c = λ db e no.
    let arm = c.in-Permit in
    subst (λ (b : Bool). IfOk c.permit_is_fit.result (λ fit. fit ≡ b)) (of_permit db c.args.change.now arm.rel arm.permit arm.is) (c.permit_is_fit.ensures.known db e)

pub returns-in-Permit-clause-rows_by_schema : goal.returns-in-Permit-clause-rows_by_schema
returns-in-Permit-clause-rows_by_schema g c = λ s e rel remove add is. absurd (cc (sym c.in-Permit.is ∙ is))

pub returns-in-Rule-clause-known : goal.returns-in-Rule-clause-known
returns-in-Rule-clause-known g c = λ db e.
    let arm = c.in-Rule in
    subst (λ (b : Bool). IfOk c.rule_is_fit.result (λ fit. fit ≡ b)) (of_rule db c.args.change.now arm.rel arm.rule arm.is) (c.rule_is_fit.ensures.known db (g.B.Base.own c.args.base.now db e))

pub returns-in-Rule-clause-by_schema : goal.returns-in-Rule-clause-by_schema
returns-in-Rule-clause-by_schema g c = λ db e no.
    let arm = c.in-Rule in
    subst (λ (b : Bool). IfOk c.rule_is_fit.result (λ fit. fit ≡ b)) (of_rule db c.args.change.now arm.rel arm.rule arm.is) (c.rule_is_fit.ensures.known db e)

pub returns-in-Rule-clause-rows_by_schema : goal.returns-in-Rule-clause-rows_by_schema
returns-in-Rule-clause-rows_by_schema g c = λ s e rel remove add is. absurd (cc (sym c.in-Rule.is ∙ is))

pub returns-in-View-clause-known : goal.returns-in-View-clause-known
returns-in-View-clause-known g c = λ db e.
    let arm = c.in-View in
    subst (λ (b : Bool). IfOk c.view_is_fit.result (λ fit. fit ≡ b)) (of_view db c.args.change.now arm.info arm.query arm.is) (c.view_is_fit.ensures.known db (g.B.Base.own c.args.base.now db e))

pub returns-in-View-clause-by_schema : goal.returns-in-View-clause-by_schema
returns-in-View-clause-by_schema g c = λ db e no.
    let arm = c.in-View in
    subst (λ (b : Bool). IfOk c.view_is_fit.result (λ fit. fit ≡ b)) (of_view db c.args.change.now arm.info arm.query arm.is) (c.view_is_fit.ensures.known db e)

pub returns-in-View-clause-rows_by_schema : goal.returns-in-View-clause-rows_by_schema
returns-in-View-clause-rows_by_schema g c = λ s e rel remove add is. absurd (cc (sym c.in-View.is ∙ is))
