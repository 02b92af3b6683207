use Rattle.std.proofs.Common.{refl, sym, ap, ◌∙◌, subst, not, ◌==◌, ◌∷◌, [], cond}
use Rattle.std.specs.Prelude.{OnOk}
use Rattle.calculus.specs.Change.{index_info}
use Rattle.quel_tree.specs.Permits.{rule, permit}
use Rattle.stored_database.specs.Moves.{coming}
use Rattle.catalog_moves.specs.Files.{files_of}
use Rattle.catalog_moves.specs.Moves.{AreRows, entry_with}
use Rattle.plain_base.specs.Shown.{database_of}
use Rattle.catalog_moves.proofs.Lawful.{rows_on_relation, modify_on_relation, index_on_relation, index_is_new}
use Rattle.catalog_moves.proofs.Spelled.{view_fits, permit_fits, rule_fits}
use Rattle.catalog_moves.proofs.OfChanges.{created_comes, viewed_comes, indexed_comes, permitted_comes, ruled_comes, rows_come, modify_comes, the_relation, nothing_comes}
use Rattle.stored_database.specs.Trees.{cut, parts_from, tree_bytes}
use Rattle.catalog_moves.proofs.moving.put_coming.Goals as goal

pub returns-in-Create-clause-rows : goal.returns-in-Create-clause-rows
returns-in-Create-clause-rows c none =
    subst (λ cat. OnOk c.put_created.result (AreRows cat c.put_created.new.rows)) (sym (created_comes (files_of c.args.files.now) c.args.file c.args.used (database_of c.args.plain.now) c.args.change.now c.in-Create.info c.in-Create.rows c.in-Create.is))
    (c.put_created.ensures none)

pub returns-in-Destroy-clause-rows : goal.returns-in-Destroy-clause-rows
unfolding coming
returns-in-Destroy-clause-rows c none =
    subst (λ cat. AreRows cat c.args.rows.now) (sym (nothing_comes (files_of c.args.files.now) c.args.file c.args.used (database_of c.args.plain.now) c.args.change.now _ c.in-Destroy.is refl)) none

pub returns-in-DropPermits-clause-rows : goal.returns-in-DropPermits-clause-rows
unfolding coming
returns-in-DropPermits-clause-rows c none =
    subst (λ cat. AreRows cat c.args.rows.now) (sym (nothing_comes (files_of c.args.files.now) c.args.file c.args.used (database_of c.args.plain.now) c.args.change.now _ c.in-DropPermits.is refl)) none

pub returns-in-DropRules-clause-rows : goal.returns-in-DropRules-clause-rows
unfolding coming
returns-in-DropRules-clause-rows c none =
    subst (λ cat. AreRows cat c.args.rows.now) (sym (nothing_comes (files_of c.args.files.now) c.args.file c.args.used (database_of c.args.plain.now) c.args.change.now _ c.in-DropRules.is refl)) none

pub returns-in-View-clause-rows : goal.returns-in-View-clause-rows
returns-in-View-clause-rows c none =
    subst (λ cat. OnOk c.put_viewed.result (AreRows cat c.put_viewed.new.rows)) (sym (viewed_comes (files_of c.args.files.now) c.args.file c.args.used (database_of c.args.plain.now) c.args.change.now c.in-View.info c.in-View.query c.in-View.is))
    (c.put_viewed.ensures none (view_fits (database_of c.args.plain.now) c.args.change.now c.in-View.info c.in-View.query c.in-View.is c.requires.lawful.leaves_a_database))

pub returns-in-Permit-clause-rows : goal.returns-in-Permit-clause-rows
returns-in-Permit-clause-rows c none =
    subst (λ cat. OnOk c.put_permitted.result (AreRows cat c.put_permitted.new.rows)) (sym (permitted_comes (files_of c.args.files.now) c.args.file c.args.used (database_of c.args.plain.now) c.args.change.now c.in-Permit.rel c.in-Permit.permit c.in-Permit.is ∙ sym (ap (λ n. record { entries = []; columns = []; parts = parts_from n 2 c.in-Permit.permit.number 0 (cut (tree_bytes permit c.in-Permit.permit)) }) c.place-in-Permit.ensures.file)))
    (c.put_permitted.ensures none (permit_fits (database_of c.args.plain.now) c.args.change.now c.in-Permit.rel c.in-Permit.permit c.in-Permit.is c.requires.lawful.leaves_a_database))

pub returns-in-Rule-clause-rows : goal.returns-in-Rule-clause-rows
returns-in-Rule-clause-rows c none =
    subst (λ cat. OnOk c.put_ruled.result (AreRows cat c.put_ruled.new.rows)) (sym (ruled_comes (files_of c.args.files.now) c.args.file c.args.used (database_of c.args.plain.now) c.args.change.now c.in-Rule.rel c.in-Rule.rule c.in-Rule.is ∙ sym (ap (λ n. record { entries = []; columns = []; parts = parts_from n 1 c.in-Rule.rule.number 0 (cut (tree_bytes rule c.in-Rule.rule)) }) c.place-in-Rule.ensures.file)))
    (c.put_ruled.ensures none (rule_fits (database_of c.args.plain.now) c.args.change.now c.in-Rule.rel c.in-Rule.rule c.in-Rule.is c.requires.lawful.leaves_a_database))

pub returns-in-Index-clause-rows : goal.returns-in-Index-clause-rows
returns-in-Index-clause-rows c none =
    subst (λ cat. OnOk c.put_indexed.result (AreRows cat c.put_indexed.new.rows)) (sym (indexed_comes (files_of c.args.files.now) c.args.file c.args.used (database_of c.args.plain.now) c.args.change.now c.in-Index.base c.in-Index.name c.in-Index.keys c.in-Index.is
    (index_on_relation (database_of c.args.plain.now) c.args.change.now c.in-Index.base c.in-Index.name c.in-Index.keys c.in-Index.is c.requires.lawful) (index_is_new (database_of c.args.plain.now) c.args.change.now c.in-Index.base c.in-Index.name c.in-Index.keys c.in-Index.is c.requires.lawful)
    ∙ sym (ap (λ n. record { entries = entry_with c.args.file n 0 0 (index_info c.in-Index.base c.in-Index.name c.in-Index.keys) ∷ []; columns = []; parts = [] }) c.place-in-Index.ensures.file)))
    (c.put_indexed.ensures none)

pub returns-in-Rows-clause-rows : goal.returns-in-Rows-clause-rows
returns-in-Rows-clause-rows c none =
    let r = the_relation (database_of c.args.plain.now) c.in-Rows.rel (rows_on_relation (database_of c.args.plain.now) c.args.change.now c.in-Rows.rel c.in-Rows.remove c.in-Rows.add c.in-Rows.is c.requires.lawful) in
    subst (λ cat. OnOk c.put_resized.result (AreRows cat c.put_resized.new.rows)) (sym (rows_come (database_of c.args.plain.now) c.requires.base c.in-Rows.rel r.0 r.1 (files_of c.args.files.now) c.args.file c.args.used c.args.change.now c.in-Rows.remove c.in-Rows.add c.in-Rows.is
    ∙ sym (ap (λ n. record { entries = cond (not (n == c.args.used)) (entry_with c.args.file 0 1 c.args.used r.0.info ∷ []) []; columns = []; parts = [] }) c.place.ensures.used)))
    (c.put_resized.ensures.rows none r.0 r.1)

pub returns-in-Modify-clause-rows : goal.returns-in-Modify-clause-rows
returns-in-Modify-clause-rows c none =
    let r = the_relation (database_of c.args.plain.now) c.in-Modify.rel (modify_on_relation (database_of c.args.plain.now) c.args.change.now c.in-Modify.rel c.in-Modify.to c.in-Modify.keys c.in-Modify.is c.requires.lawful) in
    subst (λ cat. OnOk c.put_modified.result (AreRows cat c.put_modified.new.rows)) (sym (modify_comes (database_of c.args.plain.now) c.requires.base c.in-Modify.rel r.0 r.1 (files_of c.args.files.now) c.args.file c.args.used c.args.change.now c.in-Modify.to c.in-Modify.keys c.in-Modify.is))
    (c.put_modified.ensures.rows none r.0 r.1)
