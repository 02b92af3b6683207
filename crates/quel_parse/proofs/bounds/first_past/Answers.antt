use Rattle.std.proofs.Common.{◌≡◌, ◌∙◌, rules, refl, sym, arith, [], drop}
use Rattle.std.proofs.lemmas.List.{drop_all}
use Rattle.quel_grammar.specs.Bounds.{first_past}
use Rattle.quel_parse.proofs.Passing.{left, stops, goes_on, ends}
use Rattle.quel_parse.proofs.bounds.first_past.Goals as goal

pub loop-token-init : goal.loop-token-init
unfolding first_past
loop-token-init c = rw c.has_keys-keyed.ensures (refl, refl, omega arith, omega arith)

pub returns-then-is_past : goal.returns-then-is_past
returns-then-is_past c =
    let here = left c.args.tokens.now c.loop-token.token-index c.token-item.result c.loop-token-test.true c.token-item.is in
    sym (stops c.has_keys-keyed.result _ _ _ _ here (sym c.is_past.ensures ∙ c.if-is_past.true)) ∙ c.loop-token.invariant.0

pub loop-token-preserved : goal.loop-token-preserved
loop-token-preserved c =
    let here = left c.args.tokens.now c.loop-token.token-index c.token-item.result c.loop-token-test.true c.token-item.is in (
      rw (c.open_behind-opened.ensures.value, c.commas_behind-commas.ensures.value)
          (sym (goes_on c.has_keys-keyed.result _ _ _ _ here (sym c.is_past.ensures ∙ c.if-is_past.false)) ∙ c.loop-token.invariant.0),
      omega (arith, c.loop-token.invariant.1),
      omega (arith, c.open_behind-opened.ensures.within, c.loop-token.invariant.2),
      omega (arith, c.commas_behind-commas.ensures.within, c.loop-token.invariant.3),
    )

pub returns : goal.returns
returns c =
    let nothing : drop c.loop-token.token-index c.args.tokens.now ≡ [] = drop_all c.loop-token.token-index c.args.tokens.now (search rules) in
    sym (ends c.has_keys-keyed.result _ _ nothing) ∙ c.loop-token.invariant.0
