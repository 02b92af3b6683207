use Rattle.std.proofs.Common.{rules, ◌∙◌, ℕ, List, Bor}
use Rattle.std.proofs.lemmas.Iterator.{items_from_drains, YieldsList-from_slice, YieldsList-from_map_by}
use Rattle.std.proofs.lemmas.Iterator.Consumers.{YieldsList-at}
use Rattle.std.proofs.lemmas.List.{map-id}
use Rattle.page_chain.proofs.LookUp.{collected}
use Rattle.page_chain.proofs.going.GoingRows.of.Goals as goal

pub invariant_of-result : goal.invariant_of-result
invariant_of-result c =
    let ran = c.in_ok-sorted.ensures.ran in
    let items = items_from_drains {v = λ (k : Bor (List ℕ)). k.now} ran.0 ran.1
    (YieldsList-from_map_by _ (λ (k : Bor (List ℕ)). k.now) (λ (row : List ℕ). row) (YieldsList-at c.map.ensures.source (YieldsList-from_slice c.args.rows.now c.iter.ensures.rest)) c.map.ensures.closure (λ x r q k. (search rules, search rules))) in
    collected c.args.rows.now ran.0 c.in_ok-sorted.sorted (items ∙ map-id c.args.rows.now) ran.2.0
