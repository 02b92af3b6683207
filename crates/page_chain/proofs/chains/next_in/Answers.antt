use Rattle.std.proofs.Common.{◌≡◌, inl, inr, sym, ap, ◌∙◌, true, false}
use Rattle.page_chain.specs.Pages.{may_follow}
use Rattle.page_chain.proofs.Linking.{follows_none, to_follow}
use Rattle.page_chain.proofs.chains.next_in.Goals as goal

pub returns-then-not-page_ok : goal.returns-then-not-page_ok
returns-then-not-page_ok c = sym (follows_none c.args.bound c.args.page c.args.bytes.now (inl (λ is. let e : c.page_ok.result ≡ true = c.page_ok.ensures.1 is in let n : c.page_ok.result ≡ false = c.if-not-page_ok.true in cc)))

pub returns-then-may_go_on : goal.returns-then-may_go_on
returns-then-may_go_on c =
    sym (to_follow c.args.bound c.args.page c.next_of-next.result c.args.bytes.now (c.page_ok.ensures.0 c.if-not-page_ok.false) (sym c.next_of-next.ensures) (sym c.may_go_on.ensures ∙ c.if-may_go_on.true))

pub returns-else-may_go_on : goal.returns-else-may_go_on
returns-else-may_go_on c = sym (follows_none c.args.bound c.args.page c.args.bytes.now (inr (ap (may_follow c.args.bound c.args.page) (sym c.next_of-next.ensures) ∙ sym c.may_go_on.ensures ∙ c.if-may_go_on.false)))
