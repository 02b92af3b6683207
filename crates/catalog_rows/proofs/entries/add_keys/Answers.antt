use Rattle.std.proofs.Common.{◌∙◌, ◌++◌, length, append_assoc, arith}
use Rattle.catalog_rows.proofs.Fields.{zeros_behind}
use Rattle.catalog_rows.proofs.entries.add_keys.Goals as goal

pub returns : goal.returns
returns c =
    let keys = c.args.keys.now in
    c.in_ok-extend_from_slice-2.ensures.items
    ∙ (λ i. (c.in_ok-extend_from_slice.ensures.items ∙ (λ i. c.in_ok-push.ensures.items i ++ keys)) i ++ zeros_behind (length keys) (omega (arith, c.requires)) i)
    ∙ simp append_assoc
