use Rattle.std.proofs.Common.{refl, sym, ap, ◌∙◌, Some, None, if◌then◌else◌, arith}
use Rattle.page_chain.specs.Pages.{next_of}
use Rattle.page_chain.proofs.Linking.{there_follows, to_follow}
use Rattle.page_chain.specs.Chains.{OffPage}
use Rattle.page_chain.proofs.Handed.{store_carried}
use Rattle.page_chain.proofs.chains.chain_page.Goals as goal

pub returns-in-Some-clause-there : goal.returns-in-Some-clause-there
returns-in-Some-clause-there g c m known =
    let its = there_follows c.args.bound c.args.page c.in-Some.next c.in_ok-is_there.is_there c.get.new.out (sym c.next_there.ensures ∙ c.in-Some.is) in
    c.in_ok-is_there.ensures.page m known ∙ ap (λ b. if b then Some c.get.new.out else None) its.0

pub returns-in-Some-clause-follows : goal.returns-in-Some-clause-follows
returns-in-Some-clause-follows g c =
    let its = there_follows c.args.bound c.args.page c.in-Some.next c.in_ok-is_there.is_there c.get.new.out (sym c.next_there.ensures ∙ c.in-Some.is) in
    to_follow c.args.bound c.args.page c.in-Some.next c.get.new.out its.1 its.2 its.3

pub returns-in-Some-clause-page : goal.returns-in-Some-clause-page
returns-in-Some-clause-page g c = (there_follows c.args.bound c.args.page c.in-Some.next c.in_ok-is_there.is_there c.get.new.out (sym c.next_there.ensures ∙ c.in-Some.is)).1

pub returns-in-Some-clause-next : goal.returns-in-Some-clause-next
returns-in-Some-clause-next g c = sym (there_follows c.args.bound c.args.page c.in-Some.next c.in_ok-is_there.is_there c.get.new.out (sym c.next_there.ensures ∙ c.in-Some.is)).2

pub returns-in-Some-clause-may : goal.returns-in-Some-clause-may
returns-in-Some-clause-may g c = (there_follows c.args.bound c.args.page c.in-Some.next c.in_ok-is_there.is_there c.get.new.out (sym c.next_there.ensures ∙ c.in-Some.is)).3

pub returns-in-None-clause-cause : goal.returns-in-None-clause-cause
returns-in-None-clause-cause g c = record {
  later = c.in_ok-is_there.ensures.cause.later;
  caused = (λ m known. record { of_file = refl; of_page = refl; off = ap (next_of c.args.bound c.args.page) (c.in_ok-is_there.ensures.page m known) ∙ sym c.next_there.ensures ∙ c.in-None.is }, c.in_ok-is_there.ensures.cause.caused);
}

pub returns-in-Some-clause-came : goal.returns-in-Some-clause-came
returns-in-Some-clause-came g c = c.get.ensures.came

pub returns-in-None-clause-came : goal.returns-in-None-clause-came
returns-in-None-clause-came g c = c.get.ensures.came

pub returns-in-Some-clause-only_read : goal.returns-in-Some-clause-only_read
returns-in-Some-clause-only_read g c = c.get.ensures.only_read

pub returns-in-None-clause-only_read : goal.returns-in-None-clause-only_read
returns-in-None-clause-only_read g c = c.get.ensures.only_read

pub returns-in-Some-clause-same : goal.returns-in-Some-clause-same
returns-in-Some-clause-same g c = c.get.ensures.same

pub returns-in-None-clause-same : goal.returns-in-None-clause-same
returns-in-None-clause-same g c = c.get.ensures.same

pub returns-in-Some-clause-reads : goal.returns-in-Some-clause-reads
returns-in-Some-clause-reads g c = c.get.ensures.reads

pub returns-in-None-clause-reads : goal.returns-in-None-clause-reads
returns-in-None-clause-reads g c = c.get.ensures.reads

pub returns-in-Some-clause-kept : goal.returns-in-Some-clause-kept
returns-in-Some-clause-kept g c = c.get.ensures.kept

pub returns-in-None-clause-kept : goal.returns-in-None-clause-kept
returns-in-None-clause-kept g c = c.get.ensures.kept

pub returns-in-Some-clause-last : goal.returns-in-Some-clause-last
returns-in-Some-clause-last g c = c.in_ok-is_there.ensures.last

pub returns-in-Some-clause-cause : goal.returns-in-Some-clause-cause
returns-in-Some-clause-cause g c = record { later = c.in_ok-is_there.ensures.cause.later; caused = c.in_ok-is_there.ensures.cause.caused }

pub returns-in_err-is_there-clause-came : goal.returns-in_err-is_there-clause-came
returns-in_err-is_there-clause-came g c = c.get.ensures.came

pub returns-in_err-is_there-clause-only_read : goal.returns-in_err-is_there-clause-only_read
returns-in_err-is_there-clause-only_read g c = c.get.ensures.only_read

pub returns-in_err-is_there-clause-same : goal.returns-in_err-is_there-clause-same
returns-in_err-is_there-clause-same g c = c.get.ensures.same

pub returns-in_err-is_there-clause-reads : goal.returns-in_err-is_there-clause-reads
returns-in_err-is_there-clause-reads g c = c.get.ensures.reads

pub returns-in_err-is_there-clause-kept : goal.returns-in_err-is_there-clause-kept
returns-in_err-is_there-clause-kept g c = c.get.ensures.kept

pub returns-in_err-is_there-clause-cause : goal.returns-in_err-is_there-clause-cause
returns-in_err-is_there-clause-cause g c =
    store_carried (g.S.PageStore.pages c.args.store.now) (OffPage c.args.file c.args.page c.args.bound) (g.S.PageStore.faults c.args.store.now) (g.S.PageStore.faults c.args.store.now) (g.S.PageStore.faults c.get.new.self) c.in_err-is_there.field-0.0 (omega arith) c.in_err-is_there.ensures.cause c.from_residual.result c.from_residual.ensures.1
