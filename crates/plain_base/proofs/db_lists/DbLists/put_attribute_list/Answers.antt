use Rattle.std.proofs.Common.{ap, ◌∙◌, List, ◌++◌, map}
use Rattle.std.specs.List.{flat_map}
use Rattle.calculus.specs.declared.schema.RelInfo.{RelInfo}
use Rattle.calculus.specs.Catalogue.{attribute_rows, relation_info}
use Rattle.calculus.specs.Database.{Db, Relation, View, Index}
use Rattle.calculus.specs.Rows.{Row}
use Rattle.plain_base.proofs.CatalogueLists.{lists_joined}
use Rattle.plain_base.proofs.db_lists.DbLists.put_attribute_list.Goals as goal

pub returns : goal.returns
returns c =
    lists_joined attribute_rows c.args.self.now c.push_rows_of-2.new.rows.items c.push_attribute_rows.new.rows.items c.push_attribute_rows-2.new.rows.items
    c.push_attribute_rows-3.new.rows.items
    (c.in_ok-push_rows_of-2.ensures
    ∙ ap (λ (ys : List Row). ys ++ attribute_rows c.args.attribute.now)
    (c.in_ok-push_rows_of.ensures ∙ ap (λ (ys : List Row). ys ++ attribute_rows c.args.relation.now) c.requires.empty)
    ∙ ap (λ (i : RelInfo). attribute_rows i ++ attribute_rows c.args.attribute.now) c.requires.relation
    ∙ ap (λ (i : RelInfo). attribute_rows (relation_info c.args.self.now) ++ attribute_rows i) c.requires.attribute)
    (c.in_ok-push_attribute_rows.ensures
    ∙ ap (λ (rs : List Relation). c.push_rows_of-2.new.rows.items ++ flat_map attribute_rows (map (λ r. r.info) rs))
    (c.deref.ensures.value ∙ ap (λ (db : Db). db.relations) c.self.view_is))
    (c.in_ok-push_attribute_rows-2.ensures
    ∙ ap (λ (vs : List View). c.push_attribute_rows.new.rows.items ++ flat_map attribute_rows (map (λ v. v.info) vs))
    (c.deref-2.ensures.value ∙ ap (λ (db : Db). db.views) c.self.view_is))
    (c.in_ok-push_attribute_rows-3.ensures
    ∙ ap (λ (xs : List Index). c.push_attribute_rows-2.new.rows.items ++ flat_map attribute_rows (map (λ x. x.info) xs))
    (c.deref-3.ensures.value ∙ ap (λ (db : Db). db.indexes) c.self.view_is))
