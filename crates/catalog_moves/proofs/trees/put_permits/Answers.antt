use Rattle.std.proofs.Common.{refl, sym, subst}
use Rattle.quel_tree.specs.Message.{most_tree_levels}
use Rattle.quel_tree.specs.Permits.{permit}
use Rattle.stored_database.specs.Parts.{of_permit}
use Rattle.stored_database.specs.Trees.{cut, parts_from, tree_bytes}
use Rattle.catalog_moves.proofs.Coming.{parts_none, flat_more, all_at}
use Rattle.std.specs.List.{flat_map}
use Rattle.catalog_moves.specs.Moves.{CameParts}
use Rattle.catalog_moves.proofs.Whole.{whole}
use Rattle.catalog_moves.proofs.trees.put_permits.Goals as goal

pub loop-permit-init : goal.loop-permit-init
loop-permit-init c fits = parts_none c.args.rows.now.items c.args.rows.now.items refl

pub loop-permit-preserved : goal.loop-permit-preserved
loop-permit-preserved c fits =
    flat_more (λ r. parts_from c.args.file of_permit r.number 0 (cut (tree_bytes permit r))) c.args.permits.now c.loop-permit.permit-index c.permit-item.result c.loop-permit-test.true c.permit-item.is
    c.args.rows.now.items c.loop-permit.rows.items c.put_tree.new.rows.items (c.loop-permit.invariant fits)
    (c.in_ok-put_tree.ensures (subst (λ r. (permit most_tree_levels).Fits r) (sym c.permit-item.is) (all_at (λ r. (permit most_tree_levels).Fits r) c.args.permits.now c.loop-permit.permit-index _ c.loop-permit-test.true fits)))

pub returns : goal.returns
returns c fits =
    whole (λ xs. CameParts c.args.rows.now.items c.loop-permit.rows.items (flat_map (λ r. parts_from c.args.file of_permit r.number 0 (cut (tree_bytes permit r))) xs)) c.args.permits.now c.loop-permit.permit-index c.loop-permit-test.false
    (c.loop-permit.invariant fits)
