use Rattle.std.proofs.Common.{◌≡◌, ◌∙◌, take, sym, ap}
use Rattle.quel_grammar.specs.Bounds.{first_past}
use Rattle.quel_parse.specs.Next.{IsFrontRead}
use Rattle.quel_parse.proofs.FirstTokens.{decided_blank, decided_text, decided_all, taken_within, sure_whole}
use Rattle.quel_parse.proofs.next.decided.Goals as goal

pub returns-then-is_blank-clause-next : goal.returns-then-is_blank-clause-next
returns-then-is_blank-clause-next c = decided_blank c.args.text.now c.args.from c.in_ok-lexed.lexed c.in_ok-lexed.ensures.front (sym c.is_blank.ensures ∙ c.if-is_blank.true)

pub returns-clause-next : goal.returns-clause-next
returns-clause-next c =
    let read : IsFrontRead c.in_ok-lexed.lexed.tokens.items c.in_ok-front.front = rw c.deref.ensures.value at c.in_ok-front.ensures in
    let past : c.first_past-past.result ≡ first_past (take c.in_ok-front.front.taken c.in_ok-lexed.lexed.tokens.items) =
    c.first_past-past.ensures ∙ ap first_past (c.split_at.ensures.front ∙ ap (take c.in_ok-front.front.taken) c.deref-2.ensures.value) in
    rw c.when.ensures (
    decided_text c.args.text.now c.args.from c.in_ok-lexed.lexed c.in_ok-lexed.ensures.front (sym c.is_blank.ensures ∙ c.if-is_blank.false)
    c.in_ok-front.front read c.first_past-past.result past c.is_sure-sure.result c.is_sure-sure.ensures c.answer.result c.answer.ensures
    )

pub returns-clause-all : goal.returns-clause-all
returns-clause-all c = λ most one.
    let read : IsFrontRead c.in_ok-lexed.lexed.tokens.items c.in_ok-front.front = rw c.deref.ensures.value at c.in_ok-front.ensures in
    let past : c.first_past-past.result ≡ first_past (take c.in_ok-front.front.taken c.in_ok-lexed.lexed.tokens.items) =
    c.first_past-past.ensures ∙ ap first_past (c.split_at.ensures.front ∙ ap (take c.in_ok-front.front.taken) c.deref-2.ensures.value) in
    rw c.when.ensures (
    decided_all c.in_ok-lexed.lexed c.in_ok-front.front.taken c.first_past-past.result c.is_sure-sure.result c.answer.result c.is_sure-sure.ensures
    (sure_whole c.in_ok-lexed.lexed c.in_ok-front.front.taken c.first_past-past.result (taken_within _ c.in_ok-front.front read) past (λ more. c.in_ok-lexed.ensures.all one more ∙ most))
    )
