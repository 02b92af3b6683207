use Rattle.std.proofs.Common.{◌≡◌, ap, ◌∙◌, subst, Bool, ◌&&◌, IfOk}
use Rattle.std.specs.List.{list_all}
use Rattle.calculus.specs.IsDatabase.{are_stored, attrs_stand, keys_stand}
use Rattle.calculus.specs.Keys.{same_key}
use Rattle.calculus.specs.Lists.{differ_by, is_any}
use Rattle.calculus.specs.Stored.{attrs_at}
use Rattle.calculus.specs.Structures.{is_structure}
use Rattle.quel_meaning.specs.Fit.{columns_fit, is_entry, is_new}
use Rattle.quel_meaning.specs.FitQueries.{can_be_ranged_over}
use Rattle.tree_check.proofs.UtilityForms.{of_create, of_destroy, of_modify, of_index, of_copy, of_view, of_permit, of_rule, of_permits, of_rules}
use Rattle.tree_check.proofs.utilities.utility_fits.Goals as goal

pub returns-in-Create-clause-known : goal.returns-in-Create-clause-known
returns-in-Create-clause-known g c = λ db h.
    let arm = c.in-Create in
    subst (λ (b : Bool). IfOk c.relation_is_new.result (λ fit. fit ≡ b)) (ap (λ attrs. is_new db arm.rel.owner arm.rel.name && (attrs_stand attrs && are_stored attrs)) c.items.ensures ∙ of_create db c.args.user.now c.args.work.now arm.rel arm.attrs arm.is) (c.relation_is_new.ensures.known db h)

pub returns-in-Destroy-clause-known : goal.returns-in-Destroy-clause-known
returns-in-Destroy-clause-known g c = λ db h.
    let arm = c.in-Destroy in
    subst (λ (b : Bool). IfOk c.may_go.result (λ fit. fit ≡ b)) (ap (λ rels. list_all (is_entry db) rels && differ_by same_key rels) c.items-in-Destroy.ensures ∙ of_destroy db c.args.user.now c.args.work.now arm.rels arm.is) (c.may_go.ensures.known db h)

pub returns-in-Modify-clause-known : goal.returns-in-Modify-clause-known
returns-in-Modify-clause-known g c = λ db h.
    let arm = c.in-Modify in
    subst (λ (b : Bool). IfOk c.may_be_stored.result (λ fit. fit ≡ b)) (ap (λ keys. can_be_ranged_over db arm.rel && (is_structure arm.to && keys_stand (attrs_at db arm.rel) keys)) c.items-in-Modify.ensures ∙ of_modify db c.args.user.now c.args.work.now arm.rel arm.to arm.keys arm.is) (c.may_be_stored.ensures.known db h)

pub returns-in-Index-clause-known : goal.returns-in-Index-clause-known
returns-in-Index-clause-known g c = λ db h.
    let arm = c.in-Index in
    subst (λ (b : Bool). IfOk c.index_is_new.result (λ fit. fit ≡ b)) (ap (λ keys. can_be_ranged_over db arm.rel && (is_new db c.args.user.now arm.name && (is_any keys && keys_stand (attrs_at db arm.rel) keys))) c.items-in-Index.ensures ∙ of_index db c.args.user.now c.args.work.now arm.rel arm.name arm.keys arm.is) (c.index_is_new.ensures.known db h)

pub returns-in-Copy-clause-known : goal.returns-in-Copy-clause-known
returns-in-Copy-clause-known g c = λ db h.
    let arm = c.in-Copy in
    subst (λ (b : Bool). IfOk c.may_be_copied.result (λ fit. fit ≡ b)) (ap (λ columns. can_be_ranged_over db arm.rel && columns_fit db arm.rel columns) c.items-in-Copy.ensures ∙ of_copy db c.args.user.now c.args.work.now arm.rel arm.columns _ _ arm.is) (c.may_be_copied.ensures.known db h)

pub returns-in-View-clause-known : goal.returns-in-View-clause-known
returns-in-View-clause-known g c = λ db h.
    let arm = c.in-View in
    subst (λ (b : Bool). IfOk c.new_view_fits.result (λ fit. fit ≡ b)) (of_view db c.args.user.now c.args.work.now arm.rel arm.query arm.is) (c.new_view_fits.ensures.known db h)

pub returns-in-Permit-clause-known : goal.returns-in-Permit-clause-known
returns-in-Permit-clause-known g c = λ db h.
    let arm = c.in-Permit in
    subst (λ (b : Bool). IfOk c.permit_fits.result (λ fit. fit ≡ b)) (of_permit db c.args.user.now c.args.work.now arm.rel arm.permit arm.is) (c.permit_fits.ensures.known db h)

pub returns-in-Rule-clause-known : goal.returns-in-Rule-clause-known
returns-in-Rule-clause-known g c = λ db h.
    let arm = c.in-Rule in
    subst (λ (b : Bool). IfOk c.row_qual_fits.result (λ fit. fit ≡ b)) (of_rule db c.args.user.now c.args.work.now arm.rel arm.rule arm.is) (c.row_qual_fits.ensures.known db h)

pub returns-in-DropPermits-clause-known : goal.returns-in-DropPermits-clause-known
returns-in-DropPermits-clause-known g c = λ db h.
    let arm = c.in-DropPermits in
    subst (λ (b : Bool). IfOk c.can_be_ranged_over.result (λ fit. fit ≡ b)) (of_permits db c.args.user.now c.args.work.now arm.rel _ arm.is) (c.can_be_ranged_over.ensures.known db h)

pub returns-in-DropRules-clause-known : goal.returns-in-DropRules-clause-known
returns-in-DropRules-clause-known g c = λ db h.
    let arm = c.in-DropRules in
    subst (λ (b : Bool). IfOk c.can_be_ranged_over-in-DropRules.result (λ fit. fit ≡ b)) (of_rules db c.args.user.now c.args.work.now arm.rel _ arm.is) (c.can_be_ranged_over-in-DropRules.ensures.known db h)
