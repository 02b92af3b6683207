use Rattle.std.proofs.Common.{refl, Bool, [], OnOk, cond, subst, sym, ◌∙◌}
use Rattle.plain_base.specs.Shown.{database_of}
use Rattle.catalog_moves.specs.Gone.{tree_parts}
use Rattle.catalog_moves.specs.Moves.{CameParts}
use Rattle.catalog_moves.proofs.Coming.{parts_none}
use Rattle.catalog_moves.proofs.gone_trees.put_listed.Goals as goal

pub returns-clause-came : goal.returns-clause-came
returns-clause-came c =
    subst (λ (b : Bool). OnOk c.put_trees.result (CameParts c.args.rows.now.items c.put_trees.new.rows.items (cond b (tree_parts c.args.sort (database_of c.args.plain.now) c.args.place.now) [])))
    (sym (sym (c.requires.listed c.args.place.now.key) ∙ sym c.has.ensures ∙ c.if-not-has.false)) c.put_trees.ensures.came

pub returns-clause-same : goal.returns-clause-same
returns-clause-same c = c.put_trees.ensures.same

pub returns-then-not-has-clause-came : goal.returns-then-not-has-clause-came
returns-then-not-has-clause-came c =
    subst (λ (b : Bool). CameParts c.args.rows.now.items c.args.rows.now.items (cond b (tree_parts c.args.sort (database_of c.args.plain.now) c.args.place.now) []))
    (sym (sym (c.requires.listed c.args.place.now.key) ∙ sym c.has.ensures ∙ c.if-not-has.true)) (parts_none _ _ refl)
