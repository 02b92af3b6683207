use Rattle.std.proofs.Common.{rules, ◌≡◌, ◌≤◌, ◌<◌, ◌+◌, ◌∙◌, length, length-append, length-drop, drop, arith, [], ◌∷◌, Some, sym, ap}
use Rattle.std.proofs.lemmas.List.{nil_from_length}
use Rattle.quel_grammar.specs.Pieces.{pieces_from}
use Rattle.quel_lexer.proofs.Cutting.{Cut, starts, passes, takes, is_front, at_end, at_bad, behind_fits}
use Rattle.quel_lexer.proofs.lexed.cut.Goals as goal

pub loop-rest-init : goal.loop-rest-init
loop-rest-init c = rw (c.requires.no_tokens, c.requires.no_spans, c.behind-rest.ensures) (starts c.args.text.now c.args.from, behind_fits c.args.text.now c.args.from (search rules) (search rules), omega arith)

pub returns-then-is_empty-clause-front : goal.returns-then-is_empty-clause-front
returns-then-is_empty-clause-front c =
    let cut = c.loop-rest.invariant.0 in
    let nothing : c.loop-rest.rest.now ≡ [] = nil_from_length _ (search rules) in
    is_front _ _ _ _ cut (at_end _ _ _ _ _ cut nothing)

pub returns-in_default-clause-front : goal.returns-in_default-clause-front
returns-in_default-clause-front c =
    let cut = c.loop-rest.invariant.0 in
    is_front _ _ _ _ cut (at_bad _ _ _ _ _ cut (search rules) (sym c.in_ok-piece.ensures.piece ∙ c.in_default.is))

pub returns-then-last-clause-front : goal.returns-then-last-clause-front
returns-then-last-clause-front c =
    let cut = c.loop-rest.invariant.0 in
    let within : (0 < c.in-Some.len) × (c.in-Some.len ≤ length c.loop-rest.rest.now) = rw c.in-Some.is at c.in_ok-piece.ensures.within in
    let taken = takes _ _ _ _ _ _ c.in-Token.token cut within.0 within.1 (sym c.in_ok-piece.ensures.piece ∙ c.in-Some.is ∙ ap (λ p. Some (p, c.in-Some.len)) c.in-Token.is) in
    let cut2 : Cut (pieces_from c.args.text.now c.args.from) c.put.new.tokens.items c.put.new.spans.items (c.loop-rest.at + c.in-Some.len) (drop c.in-Some.len c.loop-rest.rest.now) =
    rw (c.in_ok-put.ensures.tokens, c.in_ok-put.ensures.spans) taken in
    is_front _ _ _ _ cut2 tt

pub loop-rest-preserved-else-last : goal.loop-rest-preserved-else-last
loop-rest-preserved-else-last c =
    let cut = c.loop-rest.invariant.0 in
    let within : (0 < c.in-Some.len) × (c.in-Some.len ≤ length c.loop-rest.rest.now) = rw c.in-Some.is at c.in_ok-piece.ensures.within in
    let taken = takes _ _ _ _ _ _ c.in-Token.token cut within.0 within.1 (sym c.in_ok-piece.ensures.piece ∙ c.in-Some.is ∙ ap (λ p. Some (p, c.in-Some.len)) c.in-Token.is) in
    rw (c.in_ok-put.ensures.tokens, c.in_ok-put.ensures.spans, c.split_at.ensures.back) (
      taken,
      omega (arith, length-drop c.in-Some.len c.loop-rest.rest.now, within.0, within.1, c.loop-rest.invariant.1),
      omega (arith, length-append c.loop-rest.tokens.items (c.in-Token.token ∷ []), c.loop-rest-test.true),
    )

pub loop-rest-preserved : goal.loop-rest-preserved
loop-rest-preserved c =
    let cut = c.loop-rest.invariant.0 in
    let within : (0 < c.in-Some.len) × (c.in-Some.len ≤ length c.loop-rest.rest.now) = rw c.in-Some.is at c.in_ok-piece.ensures.within in
    rw c.split_at.ensures.back (
      passes _ _ _ _ _ _ cut within.0 within.1 (sym c.in_ok-piece.ensures.piece ∙ c.in-Some.is ∙ ap (λ p. Some (p, c.in-Some.len)) c.in_default-piece.is),
      omega (arith, length-drop c.in-Some.len c.loop-rest.rest.now, within.0, within.1, c.loop-rest.invariant.1),
      c.loop-rest.invariant.2,
    )
