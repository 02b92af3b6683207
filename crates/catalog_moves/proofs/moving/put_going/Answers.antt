use Rattle.std.proofs.Common.{refl, sym, ap, ◌∙◌, subst, not, ◌==◌, ◌∷◌, [], cond, filter}
use Rattle.std.specs.Prelude.{OnOk}
use Rattle.std.specs.List.{flat_map}
use Rattle.calculus.specs.Database.{rules_on, permits_on}
use Rattle.calculus.specs.Lists.{has_number}
use Rattle.stored_database.specs.Moves.{going, rows_of, destroyed}
use Rattle.catalog_moves.specs.Files.{files_of}
use Rattle.catalog_moves.specs.Moves.{AreRows, entry_with}
use Rattle.plain_base.specs.Shown.{database_of}
use Rattle.quel_tree.specs.Permits.{rule, permit}
use Rattle.stored_database.specs.Trees.{cut, parts_from, tree_bytes}
use Rattle.catalog_moves.proofs.Lawful.{rows_on_relation, modify_on_relation}
use Rattle.catalog_moves.proofs.OfChanges.{rows_go, modify_goes, destroy_goes, the_relation, nothing_goes, permits_go, rules_go}
use Rattle.catalog_moves.proofs.moving.put_going.Goals as goal

pub returns-in-Create-clause-rows : goal.returns-in-Create-clause-rows
unfolding going
returns-in-Create-clause-rows c none bases =
    subst (λ cat. AreRows cat c.args.rows.now) (sym (nothing_goes (files_of c.args.files.now) c.args.file c.args.used (database_of c.args.plain.now) c.args.change.now _ c.in-Create.is refl)) none

pub returns-in-Index-clause-rows : goal.returns-in-Index-clause-rows
unfolding going
returns-in-Index-clause-rows c none bases =
    subst (λ cat. AreRows cat c.args.rows.now) (sym (nothing_goes (files_of c.args.files.now) c.args.file c.args.used (database_of c.args.plain.now) c.args.change.now _ c.in-Index.is refl)) none

pub returns-in-View-clause-rows : goal.returns-in-View-clause-rows
unfolding going
returns-in-View-clause-rows c none bases =
    subst (λ cat. AreRows cat c.args.rows.now) (sym (nothing_goes (files_of c.args.files.now) c.args.file c.args.used (database_of c.args.plain.now) c.args.change.now _ c.in-View.is refl)) none

pub returns-in-Permit-clause-rows : goal.returns-in-Permit-clause-rows
unfolding going
returns-in-Permit-clause-rows c none bases =
    subst (λ cat. AreRows cat c.args.rows.now) (sym (nothing_goes (files_of c.args.files.now) c.args.file c.args.used (database_of c.args.plain.now) c.args.change.now _ c.in-Permit.is refl)) none

pub returns-in-Rule-clause-rows : goal.returns-in-Rule-clause-rows
unfolding going
returns-in-Rule-clause-rows c none bases =
    subst (λ cat. AreRows cat c.args.rows.now) (sym (nothing_goes (files_of c.args.files.now) c.args.file c.args.used (database_of c.args.plain.now) c.args.change.now _ c.in-Rule.is refl)) none

pub returns-in-Rows-clause-rows : goal.returns-in-Rows-clause-rows
returns-in-Rows-clause-rows c none bases =
    let r = the_relation (database_of c.args.plain.now) c.in-Rows.rel (rows_on_relation (database_of c.args.plain.now) c.args.change.now c.in-Rows.rel c.in-Rows.remove c.in-Rows.add c.in-Rows.is c.requires.lawful) in
    subst (λ cat. OnOk c.put_resized.result (AreRows cat c.put_resized.new.rows)) (sym (rows_go (database_of c.args.plain.now) c.requires.base c.in-Rows.rel r.0 r.1 (files_of c.args.files.now) c.args.file c.args.used c.args.change.now c.in-Rows.remove c.in-Rows.add c.in-Rows.is
    ∙ sym (λ i. record { entries = cond (not (c.place-lies.ensures.used i == c.args.used)) (entry_with (c.place-lies.ensures.file i) 0 1 (c.place-lies.ensures.used i) r.0.info ∷ []) []; columns = []; parts = [] })))
    (c.put_resized.ensures.rows none r.0 r.1)

pub returns-in-DropPermits-clause-rows : goal.returns-in-DropPermits-clause-rows
returns-in-DropPermits-clause-rows c none bases =
    subst (λ cat. OnOk c.put_dropped_permits.result (AreRows cat c.put_dropped_permits.new.rows)) (sym (permits_go (files_of c.args.files.now) c.args.file c.args.used (database_of c.args.plain.now) c.args.change.now c.in-DropPermits.rel c.in-DropPermits.numbers c.in-DropPermits.is
    ∙ sym (ap (λ n. record { entries = []; columns = []; parts = flat_map (λ p. parts_from n 2 p.number 0 (cut (tree_bytes permit p))) (filter (λ p. has_number c.in-DropPermits.numbers p.number) (permits_on (database_of c.args.plain.now) c.in-DropPermits.rel)) }) c.place-below.ensures.file)))
    (subst (λ numbers. OnOk c.put_dropped_permits.result (AreRows (record { entries = []; columns = []; parts = flat_map (λ p. parts_from c.place-below.result.0 2 p.number 0 (cut (tree_bytes permit p))) (filter (λ p. has_number numbers p.number) (permits_on (database_of c.args.plain.now) c.in-DropPermits.rel)) }) c.put_dropped_permits.new.rows)) c.items-in-DropPermits.ensures (c.put_dropped_permits.ensures.rows none))

pub returns-in-DropRules-clause-rows : goal.returns-in-DropRules-clause-rows
returns-in-DropRules-clause-rows c none bases =
    subst (λ cat. OnOk c.put_dropped_rules.result (AreRows cat c.put_dropped_rules.new.rows)) (sym (rules_go (files_of c.args.files.now) c.args.file c.args.used (database_of c.args.plain.now) c.args.change.now c.in-DropRules.rel c.in-DropRules.numbers c.in-DropRules.is
    ∙ sym (ap (λ n. record { entries = []; columns = []; parts = flat_map (λ p. parts_from n 1 p.number 0 (cut (tree_bytes rule p))) (filter (λ p. has_number c.in-DropRules.numbers p.number) (rules_on (database_of c.args.plain.now) c.in-DropRules.rel)) }) c.place-below-in-DropRules.ensures.file)))
    (subst (λ numbers. OnOk c.put_dropped_rules.result (AreRows (record { entries = []; columns = []; parts = flat_map (λ p. parts_from c.place-below-in-DropRules.result.0 1 p.number 0 (cut (tree_bytes rule p))) (filter (λ p. has_number numbers p.number) (rules_on (database_of c.args.plain.now) c.in-DropRules.rel)) }) c.put_dropped_rules.new.rows)) c.items-in-DropRules.ensures (c.put_dropped_rules.ensures.rows none))

pub returns-in-Modify-clause-rows : goal.returns-in-Modify-clause-rows
returns-in-Modify-clause-rows c none bases =
    let r = the_relation (database_of c.args.plain.now) c.in-Modify.rel (modify_on_relation (database_of c.args.plain.now) c.args.change.now c.in-Modify.rel c.in-Modify.to c.in-Modify.keys c.in-Modify.is c.requires.lawful) in
    subst (λ cat. OnOk c.put_unmodified.result (AreRows cat c.put_unmodified.new.rows)) (sym (modify_goes (database_of c.args.plain.now) c.requires.base c.in-Modify.rel r.0 r.1 (files_of c.args.files.now) c.args.file c.args.used c.args.change.now c.in-Modify.to c.in-Modify.keys c.in-Modify.is))
    (c.put_unmodified.ensures.rows none r.0 r.1 bases)

pub returns-in-Destroy-clause-rows : goal.returns-in-Destroy-clause-rows
returns-in-Destroy-clause-rows c none bases =
    subst (λ cat. OnOk c.put_all_destroyed.result (AreRows cat c.put_all_destroyed.new.rows)) (sym (destroy_goes (files_of c.args.files.now) c.args.file c.args.used (database_of c.args.plain.now) c.args.change.now c.in-Destroy.rels c.in-Destroy.is))
    (subst (λ rels. OnOk c.put_all_destroyed.result (AreRows (rows_of (files_of c.args.files.now) (destroyed rels (database_of c.args.plain.now))) c.put_all_destroyed.new.rows)) c.items.ensures (c.put_all_destroyed.ensures.rows none bases))

pub put_all_destroyed-requires : goal.put_all_destroyed-requires
put_all_destroyed-requires c = c.requires.base

pub put_unmodified-requires : goal.put_unmodified-requires
put_unmodified-requires c = c.requires.base

pub put_dropped_permits-requires : goal.put_dropped_permits-requires
put_dropped_permits-requires c = c.requires.base

pub put_dropped_rules-requires : goal.put_dropped_rules-requires
put_dropped_rules-requires c = c.requires.base
