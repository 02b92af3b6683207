use Rattle.std.proofs.Common.{rules, ◌≡◌, sym, ap, ◌∙◌, [], length, arith}
use Rattle.std.proofs.lemmas.Bool.{eqb-true}
use Rattle.std.proofs.lemmas.List.{drop_all}
use Rattle.quel_meaning.specs.Tables.{sorted}
use Rattle.stage_proc.proofs.Keys.{sorted_by_keys, stays}
use Rattle.stage_proc.proofs.sorting.sorted.Goals as goal

pub returns-then-is_empty : goal.returns-then-is_empty
returns-then-is_empty c =
    let none : c.args.keys.now ≡ [] = drop_all 0 c.args.keys.now (omega (arith, eqb-true (length c.args.keys.now) 0 (sym c.is_empty.ensures ∙ c.if-is_empty.true))) in
    sym (ap (λ keys. sorted keys c.args.rows.items) none ∙ stays c.args.rows.items c.requires)

pub returns : goal.returns
returns c =
    sorted_by_keys c.args.keys.now c.args.rows.items c.sort_unstable_by.new.self.items c.requires c.sort_unstable_by.ensures.permutation c.sort_unstable_by.ensures.sorted
    (λ a r f' called. search rules)
