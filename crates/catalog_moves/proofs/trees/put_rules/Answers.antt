use Rattle.std.proofs.Common.{refl, sym, subst}
use Rattle.quel_tree.specs.Message.{most_tree_levels}
use Rattle.quel_tree.specs.Permits.{rule}
use Rattle.stored_database.specs.Parts.{of_rule}
use Rattle.stored_database.specs.Trees.{cut, parts_from, tree_bytes}
use Rattle.catalog_moves.proofs.Coming.{parts_none, flat_more, all_at}
use Rattle.std.specs.List.{flat_map}
use Rattle.catalog_moves.specs.Moves.{CameParts}
use Rattle.catalog_moves.proofs.Whole.{whole}
use Rattle.catalog_moves.proofs.trees.put_rules.Goals as goal

pub loop-rule-init : goal.loop-rule-init
loop-rule-init c fits = parts_none c.args.rows.now.items c.args.rows.now.items refl

pub loop-rule-preserved : goal.loop-rule-preserved
loop-rule-preserved c fits =
    flat_more (λ r. parts_from c.args.file of_rule r.number 0 (cut (tree_bytes rule r))) c.args.rules.now c.loop-rule.rule-index c.rule-item.result c.loop-rule-test.true c.rule-item.is
    c.args.rows.now.items c.loop-rule.rows.items c.put_tree.new.rows.items (c.loop-rule.invariant fits)
    (c.in_ok-put_tree.ensures (subst (λ r. (rule most_tree_levels).Fits r) (sym c.rule-item.is) (all_at (λ r. (rule most_tree_levels).Fits r) c.args.rules.now c.loop-rule.rule-index _ c.loop-rule-test.true fits)))

pub returns : goal.returns
returns c fits =
    whole (λ xs. CameParts c.args.rows.now.items c.loop-rule.rows.items (flat_map (λ r. parts_from c.args.file of_rule r.number 0 (cut (tree_bytes rule r))) xs)) c.args.rules.now c.loop-rule.rule-index c.loop-rule-test.false
    (c.loop-rule.invariant fits)
