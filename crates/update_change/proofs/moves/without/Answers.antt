use Rattle.std.proofs.Common.{◌≡◌, ap, ◌∙◌, not, filter, rules}
use Rattle.std.proofs.lemmas.Fn.{filter_same}
use Rattle.calculus.specs.Rows.{Row, has, set_of}
use Rattle.update_change.proofs.Joined.{set_of-kept}
use Rattle.update_change.proofs.moves.without.Goals as goal

pub returns : goal.returns
returns c =
    let test = λ (row : Row). not (has c.args.others.now row) in
    let kept : c.retain.new.self.items ≡ filter test c.args.rows =
    filter_same _ test _ (λ x b f h. search rules) _ _ c.retain.ensures.filtered ∙ ap (filter test) c.into_rows-rows.ensures.rows in
    c.of_rows.ensures ∙ ap set_of kept ∙ set_of-kept test c.args.rows c.into_rows-rows.ensures.ascend
