use Rattle.std.proofs.Common.{sym, ap, ◌∙◌, List, [], ◌∷◌, ◌++◌, map}
use Rattle.calculus.specs.declared.schema.RelInfo.{RelInfo}
use Rattle.calculus.specs.Catalogue.{relation_row, relation_info, all_entries}
use Rattle.calculus.specs.Database.{Db, Relation, View, Index}
use Rattle.calculus.specs.Rows.{Row}
use Rattle.plain_base.proofs.CatalogueLists.{lists_joined, one_each}
use Rattle.plain_base.proofs.db_lists.DbLists.put_relation_list.Goals as goal

pub returns : goal.returns
returns c =
    lists_joined (λ (i : RelInfo). relation_row i ∷ []) c.args.self.now c.push_relation_row-2.new.rows.items c.push_relation_rows.new.rows.items c.push_relation_rows-2.new.rows.items
    c.push_relation_rows-3.new.rows.items
    (c.in_ok-push_relation_row-2.ensures
    ∙ ap (λ (ys : List Row). ys ++ relation_row c.args.attribute.now ∷ [])
    (c.in_ok-push_relation_row.ensures ∙ ap (λ (ys : List Row). ys ++ relation_row c.args.relation.now ∷ []) c.requires.empty)
    ∙ ap (λ (i : RelInfo). relation_row i ∷ relation_row c.args.attribute.now ∷ []) c.requires.relation
    ∙ ap (λ (i : RelInfo). relation_row (relation_info c.args.self.now) ∷ relation_row i ∷ []) c.requires.attribute)
    (c.in_ok-push_relation_rows.ensures
    ∙ ap (λ (rs : List Relation). c.push_relation_row-2.new.rows.items ++ map relation_row (map (λ r. r.info) rs))
    (c.deref.ensures.value ∙ ap (λ (db : Db). db.relations) c.self.view_is)
    ∙ ap (λ (ys : List Row). c.push_relation_row-2.new.rows.items ++ ys) (sym (one_each relation_row (map (λ r. r.info) c.args.self.now.relations))))
    (c.in_ok-push_relation_rows-2.ensures
    ∙ ap (λ (vs : List View). c.push_relation_rows.new.rows.items ++ map relation_row (map (λ v. v.info) vs))
    (c.deref-2.ensures.value ∙ ap (λ (db : Db). db.views) c.self.view_is)
    ∙ ap (λ (ys : List Row). c.push_relation_rows.new.rows.items ++ ys) (sym (one_each relation_row (map (λ v. v.info) c.args.self.now.views))))
    (c.in_ok-push_relation_rows-3.ensures
    ∙ ap (λ (xs : List Index). c.push_relation_rows-2.new.rows.items ++ map relation_row (map (λ x. x.info) xs))
    (c.deref-3.ensures.value ∙ ap (λ (db : Db). db.indexes) c.self.view_is)
    ∙ ap (λ (ys : List Row). c.push_relation_rows-2.new.rows.items ++ ys) (sym (one_each relation_row (map (λ x. x.info) c.args.self.now.indexes))))
    ∙ one_each relation_row (all_entries c.args.self.now)
