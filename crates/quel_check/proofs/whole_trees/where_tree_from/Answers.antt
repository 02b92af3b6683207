use Rattle.std.proofs.Common.{◌≡◌, ◌≤◌, subst, flat_map, length}
use Rattle.std.proofs.lemmas.Result.{IfOk-weaker}
use Rattle.quel_meaning.specs.WrittenParts.{aggregates_in_item}
use Rattle.quel_check.proofs.Among.{where_from}
use Rattle.quel_check.proofs.whole_trees.where_tree_from.Goals as goal

pub returns : goal.returns
returns c =
    IfOk-weaker c.qual_tree_behind.result _ _
    (λ found h. where_from _ _ _ _ _ c.slot_behind_items.result found
    (subst (λ items. length (flat_map aggregates_in_item items) ≤ 65535 → c.slot_behind_items.result ≡ length (flat_map aggregates_in_item items)) c.items_of.ensures c.slot_behind_items.ensures) h)
    c.qual_tree_behind.ensures
