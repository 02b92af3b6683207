use Rattle.std.proofs.Common.{◌∙◌, ap, ◌||◌}
use Rattle.std.specs.Str.{bytes_eq}
use Rattle.std.specs.List.{list_any}
use Rattle.std.proofs.lemmas.List.{take_all}
use Rattle.quel_refusals.proofs.Twice.{among_more, title_more, sorted_by}
use Rattle.quel_refusals.proofs.repeated.sorts_among.Goals as goal

pub loop-target-preserved : goal.loop-target-preserved
loop-target-preserved c = λ n.
    among_more (λ k. k.now) _ c.loop-target.titles.keys c.insert_full.new.self.keys c.in_ok-insert_full.ensures.keys n
    ∙ ap (λ b. b || bytes_eq n c.target-item.result.name) (c.loop-target.invariant n)
    ∙ title_more c.args.targets.now c.loop-target.target-index c.target-item.result c.loop-target-test.true c.target-item.is n

pub returns : goal.returns
returns c =
    c.all_among.ensures
    ∙ sorted_by (λ k. k.now) c.loop-target.titles.keys c.args.targets.now
    (λ n. c.loop-target.invariant n ∙ ap (list_any (λ t. bytes_eq t.name n)) (take_all c.loop-target.target-index c.args.targets.now c.loop-target-test.false)) c.args.sort.now
