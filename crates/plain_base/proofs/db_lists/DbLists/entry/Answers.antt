use Rattle.std.proofs.Common.{ap, ◌∙◌, Some, None}
use Rattle.calculus.specs.Database.{Db}
use Rattle.plain_base.proofs.Finds.{entry_first, entry_second, entry_third, among_relations, among_views, among_indexes}
use Rattle.plain_base.proofs.db_lists.DbLists.entry.Goals as goal

pub returns-in-Some : goal.returns-in-Some
returns-in-Some c =
    entry_first c.args.self.now c.args.key.now c.in-Some.info.now
    (among_relations c.args.key.now (Some c.in-Some.info.now) c.deref.result.now c.args.self.now.relations
    (c.deref.ensures.value ∙ ap (λ (db : Db). db.relations) c.self.view_is) c.in-Some.ensures)

pub returns-in-Some-about : goal.returns-in-Some-about
returns-in-Some-about c =
    entry_second c.args.self.now c.args.key.now c.in-Some-about.info.now
    (among_relations c.args.key.now None c.deref.result.now c.args.self.now.relations
    (c.deref.ensures.value ∙ ap (λ (db : Db). db.relations) c.self.view_is) (rw c.in_default.is at c.about.ensures))
    (among_views c.args.key.now (Some c.in-Some-about.info.now) c.deref-2.result.now c.args.self.now.views
    (c.deref-2.ensures.value ∙ ap (λ (db : Db). db.views) c.self.view_is) c.in-Some-about.ensures)

pub returns : goal.returns
returns c =
    entry_third c.args.self.now c.args.key.now _
    (among_relations c.args.key.now None c.deref.result.now c.args.self.now.relations
    (c.deref.ensures.value ∙ ap (λ (db : Db). db.relations) c.self.view_is) (rw c.in_default.is at c.about.ensures))
    (among_views c.args.key.now None c.deref-2.result.now c.args.self.now.views
    (c.deref-2.ensures.value ∙ ap (λ (db : Db). db.views) c.self.view_is) (rw c.in_default-about.is at c.about-2.ensures))
    (among_indexes c.args.key.now _ c.deref-3.result.now c.args.self.now.indexes
    (c.deref-3.ensures.value ∙ ap (λ (db : Db). db.indexes) c.self.view_is) c.about-3.ensures)
