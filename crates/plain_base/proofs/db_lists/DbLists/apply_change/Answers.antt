use Rattle.std.proofs.Common.{◌≡◌, sym, ap, ◌∙◌, subst, OnOk}
use Rattle.calculus.specs.declared.change.DbChange.TheVariants as change
use Rattle.calculus.specs.Change.{laid}
use Rattle.calculus.specs.IsDatabase.{IsDatabase}
use Rattle.plain_base.proofs.db_lists.DbLists.apply_change.Goals as goal

pub change_rows-requires : goal.change_rows-requires
change_rows-requires c = subst (λ ch. IsDatabase (laid c.args.self.now ch)) (c.in-Rows.is ∙ sym (λ j. change.Rows c.in-Rows.rel (c.items.ensures j) (c.items-in-Rows.ensures j))) c.requires.leaves_a_database

pub returns-in-Rows-clause-ok : goal.returns-in-Rows-clause-ok
returns-in-Rows-clause-ok c =
    subst (λ ch. OnOk c.change_rows.result (c.change_rows.new.self ≡ laid c.args.self.now ch)) ((λ j. change.Rows c.in-Rows.rel (c.items.ensures j) (c.items-in-Rows.ensures j)) ∙ sym c.in-Rows.is) c.change_rows.ensures.ok

pub returns-in-Rows-clause-err : goal.returns-in-Rows-clause-err
returns-in-Rows-clause-err c = c.change_rows.ensures.err

pub create-requires : goal.create-requires
create-requires c = subst (λ ch. IsDatabase (laid c.args.self.now ch)) (c.in-Create.is ∙ sym (λ j. change.Create c.in-Create.info (c.items-in-Create.ensures j))) c.requires.leaves_a_database

pub returns-in-Create-clause-ok : goal.returns-in-Create-clause-ok
returns-in-Create-clause-ok c =
    subst (λ ch. OnOk c.create.result (c.create.new.self ≡ laid c.args.self.now ch)) ((λ j. change.Create c.in-Create.info (c.items-in-Create.ensures j)) ∙ sym c.in-Create.is) c.create.ensures.ok

pub returns-in-Create-clause-err : goal.returns-in-Create-clause-err
returns-in-Create-clause-err c = c.create.ensures.err

pub destroy-requires : goal.destroy-requires
destroy-requires c = subst (λ ch. IsDatabase (laid c.args.self.now ch)) (c.in-Destroy.is ∙ sym (λ j. change.Destroy (c.items-in-Destroy.ensures j))) c.requires.leaves_a_database

pub returns-in-Destroy-clause-ok : goal.returns-in-Destroy-clause-ok
returns-in-Destroy-clause-ok c = c.destroy.ensures ∙ ap (laid c.args.self.now) ((λ j. change.Destroy (c.items-in-Destroy.ensures j)) ∙ sym c.in-Destroy.is)

pub modify-requires : goal.modify-requires
modify-requires c = subst (λ ch. IsDatabase (laid c.args.self.now ch)) (c.in-Modify.is) c.requires.leaves_a_database

pub returns-in-Modify-clause-ok : goal.returns-in-Modify-clause-ok
returns-in-Modify-clause-ok c =
    subst (λ ch. OnOk c.modify.result (c.modify.new.self ≡ laid c.args.self.now ch)) (sym c.in-Modify.is) c.modify.ensures.ok

pub returns-in-Modify-clause-err : goal.returns-in-Modify-clause-err
returns-in-Modify-clause-err c = c.modify.ensures.err

pub create_index-requires : goal.create_index-requires
create_index-requires c = subst (λ ch. IsDatabase (laid c.args.self.now ch)) (c.in-Index.is) c.requires.leaves_a_database

pub returns-in-Index-clause-ok : goal.returns-in-Index-clause-ok
returns-in-Index-clause-ok c =
    subst (λ ch. OnOk c.create_index.result (c.create_index.new.self ≡ laid c.args.self.now ch)) (sym c.in-Index.is) c.create_index.ensures.ok

pub returns-in-Index-clause-err : goal.returns-in-Index-clause-err
returns-in-Index-clause-err c = c.create_index.ensures.err

pub create_view-requires : goal.create_view-requires
create_view-requires c = subst (λ ch. IsDatabase (laid c.args.self.now ch)) (c.in-View.is) c.requires.leaves_a_database

pub returns-in-View-clause-ok : goal.returns-in-View-clause-ok
returns-in-View-clause-ok c =
    subst (λ ch. OnOk c.create_view.result (c.create_view.new.self ≡ laid c.args.self.now ch)) (sym c.in-View.is) c.create_view.ensures.ok

pub returns-in-View-clause-err : goal.returns-in-View-clause-err
returns-in-View-clause-err c = c.create_view.ensures.err

pub create_permit-requires : goal.create_permit-requires
create_permit-requires c = subst (λ ch. IsDatabase (laid c.args.self.now ch)) (c.in-Permit.is) c.requires.leaves_a_database

pub returns-in-Permit-clause-ok : goal.returns-in-Permit-clause-ok
returns-in-Permit-clause-ok c =
    subst (λ ch. OnOk c.create_permit.result (c.create_permit.new.self ≡ laid c.args.self.now ch)) (sym c.in-Permit.is) c.create_permit.ensures.ok

pub returns-in-Permit-clause-err : goal.returns-in-Permit-clause-err
returns-in-Permit-clause-err c = c.create_permit.ensures.err

pub create_rule-requires : goal.create_rule-requires
create_rule-requires c = subst (λ ch. IsDatabase (laid c.args.self.now ch)) (c.in-Rule.is) c.requires.leaves_a_database

pub returns-in-Rule-clause-ok : goal.returns-in-Rule-clause-ok
returns-in-Rule-clause-ok c =
    subst (λ ch. OnOk c.create_rule.result (c.create_rule.new.self ≡ laid c.args.self.now ch)) (sym c.in-Rule.is) c.create_rule.ensures.ok

pub returns-in-Rule-clause-err : goal.returns-in-Rule-clause-err
returns-in-Rule-clause-err c = c.create_rule.ensures.err

pub drop_permits-requires : goal.drop_permits-requires
drop_permits-requires c = subst (λ ch. IsDatabase (laid c.args.self.now ch)) (c.in-DropPermits.is ∙ sym (λ j. change.DropPermits c.in-DropPermits.rel (c.items-in-DropPermits.ensures j))) c.requires.leaves_a_database

pub returns-in-DropPermits-clause-ok : goal.returns-in-DropPermits-clause-ok
returns-in-DropPermits-clause-ok c = c.drop_permits.ensures ∙ ap (laid c.args.self.now) ((λ j. change.DropPermits c.in-DropPermits.rel (c.items-in-DropPermits.ensures j)) ∙ sym c.in-DropPermits.is)

pub drop_rules-requires : goal.drop_rules-requires
drop_rules-requires c = subst (λ ch. IsDatabase (laid c.args.self.now ch)) (c.in-DropRules.is ∙ sym (λ j. change.DropRules c.in-DropRules.rel (c.items-in-DropRules.ensures j))) c.requires.leaves_a_database

pub returns-in-DropRules-clause-ok : goal.returns-in-DropRules-clause-ok
returns-in-DropRules-clause-ok c = c.drop_rules.ensures ∙ ap (laid c.args.self.now) ((λ j. change.DropRules c.in-DropRules.rel (c.items-in-DropRules.ensures j)) ∙ sym c.in-DropRules.is)
