use Rattle.std.proofs.Common.{◌≡◌, sym, ap, ◌∙◌, true, false, ◌&&◌}
use Rattle.std.specs.List.{list_all, list_any}
use Rattle.std.specs.Str.{bytes_eq}
use Rattle.std.proofs.lemmas.List.{take_all}
use Rattle.std.proofs.lemmas.List.Folds.{list_all_more, list_all_at}
use Rattle.quel_refusals.proofs.repeated.all_among.Goals as goal

pub loop-name-preserved : goal.loop-name-preserved
loop-name-preserved c =
    let yes : c.is_among.result ≡ true = cc (c.if-not-is_among.false) in
    list_all_more (λ k. list_any (λ m. bytes_eq k.0 m.now) c.args.titles.now.keys) c.args.sort.now c.loop-name.name-index c.loop-name-item.result c.loop-name-test.true
    ∙ (λ i. c.loop-name.invariant i && (ap (λ k. list_any (λ m. bytes_eq k.0 m.now) c.args.titles.now.keys) (sym c.loop-name-item.is) ∙ sym c.is_among.ensures ∙ yes) i)

pub returns-then-not-is_among : goal.returns-then-not-is_among
returns-then-not-is_among c =
    let no : c.is_among.result ≡ false = cc (c.if-not-is_among.true) in
    sym (list_all_at (λ k. list_any (λ m. bytes_eq k.0 m.now) c.args.titles.now.keys) c.args.sort.now c.loop-name.name-index c.loop-name-item.result c.loop-name-test.true
    (ap (λ k. list_any (λ m. bytes_eq k.0 m.now) c.args.titles.now.keys) (sym c.loop-name-item.is) ∙ sym c.is_among.ensures ∙ no))

pub returns : goal.returns
returns c = sym c.loop-name.invariant ∙ ap (list_all (λ k. list_any (λ m. bytes_eq k.0 m.now) c.args.titles.now.keys)) (take_all c.loop-name.name-index c.args.sort.now c.loop-name-test.false)
