use Rattle.std.proofs.Common.{subst, sym, true≢false, arith, ◌∙◌, ◌+◌}
use Rattle.catalog.proofs.Rises.{rises_less, then_rises}
use Rattle.db_disk.specs.Head.{IsHead}
use Rattle.db_disk.proofs.Loading.{for_whom, lies_for, no_header_none, own_name, unborn_none}
use Rattle.db_disk.proofs.Headless.{at_birth, at_header, same_page, without_header}
use Rattle.db_disk.proofs.Damaged.{without_birth}
use Rattle.db_disk.proofs.load.load.Goals as goal

pub returns-in-Of-clause-knows : goal.returns-in-Of-clause-knows
returns-in-Of-clause-knows g c = λ m db is stands agree.
    let named = subst (IsHead m) c.in-Of.is (c.in_ok-dba.ensures.head m is) in
    c.load_for.ensures.knows m db (c.read_head.ensures.same ∙ is) stands (own_name m db c.in-Of.dba stands named.1) agree

pub returns-in-Of-clause-cause : goal.returns-in-Of-clause-cause
returns-in-Of-clause-cause g c =
    for_whom _ _ c.in-Of.dba _ _ _ _ c.in_ok-dba.ensures.cause.caused c.read_head.ensures.same
    (λ m is. (subst (IsHead m) c.in-Of.is (c.in_ok-dba.ensures.head m is)).1) c.load_for.ensures.cause

pub returns-in-NoHeader-clause-cause : goal.returns-in-NoHeader-clause-cause
returns-in-NoHeader-clause-cause g c = record {
  later = c.read_head.ensures.cause.later;
  caused = (λ m is. no_header_none m record { file = 0; page = 0 } (subst (IsHead m) c.in-NoHeader.is (c.in_ok-dba.ensures.head m is)).1, c.in_ok-dba.ensures.cause.caused);
}

pub returns-in-Unborn-clause-cause : goal.returns-in-Unborn-clause-cause
returns-in-Unborn-clause-cause g c = record {
  later = c.read_head.ensures.cause.later;
  caused = (λ m is. unborn_none m record { file = 0; page = 1 } (subst (IsHead m) c.in-Unborn.is (c.in_ok-dba.ensures.head m is)), c.in_ok-dba.ensures.cause.caused);
}

pub returns-in-Of-clause-lies : goal.returns-in-Of-clause-lies
returns-in-Of-clause-lies g c = λ m is.
    let named = subst (IsHead m) c.in-Of.is (c.in_ok-dba.ensures.head m is) in
    lies_for c.load_for.result m c.in-Of.dba named.1 (c.load_for.ensures.lies m (c.read_head.ensures.same ∙ is)) c.load_for.ensures.dba

pub returns-in-Of-clause-reads : goal.returns-in-Of-clause-reads
returns-in-Of-clause-reads g c = λ m all is has.
    rises_less (2 + all) (all + 2) _ _ (omega arith) (then_rises 2 all _ _ _ c.read_head.ensures.reads (c.load_for.ensures.reads m all (c.read_head.ensures.same ∙ is) has))

pub returns-in-Of-clause-came : goal.returns-in-Of-clause-came
returns-in-Of-clause-came g c = λ s came. c.load_for.ensures.came s (c.read_head.ensures.came s came)

pub returns-in-Of-clause-only_read : goal.returns-in-Of-clause-only_read
returns-in-Of-clause-only_read g c = λ s read. c.load_for.ensures.only_read s (c.read_head.ensures.only_read s read)

pub returns-in-Of-clause-same : goal.returns-in-Of-clause-same
returns-in-Of-clause-same g c = c.load_for.ensures.same ∙ c.read_head.ensures.same

pub returns-in-NoHeader-clause-came : goal.returns-in-NoHeader-clause-came
returns-in-NoHeader-clause-came g c = c.read_head.ensures.came

pub returns-in-NoHeader-clause-only_read : goal.returns-in-NoHeader-clause-only_read
returns-in-NoHeader-clause-only_read g c = c.read_head.ensures.only_read

pub returns-in-NoHeader-clause-same : goal.returns-in-NoHeader-clause-same
returns-in-NoHeader-clause-same g c = c.read_head.ensures.same

pub returns-in-Unborn-clause-came : goal.returns-in-Unborn-clause-came
returns-in-Unborn-clause-came g c = c.read_head.ensures.came

pub returns-in-Unborn-clause-only_read : goal.returns-in-Unborn-clause-only_read
returns-in-Unborn-clause-only_read g c = c.read_head.ensures.only_read

pub returns-in-Unborn-clause-same : goal.returns-in-Unborn-clause-same
returns-in-Unborn-clause-same g c = c.read_head.ensures.same

pub returns-in-Of-clause-at_head : goal.returns-in-Of-clause-at_head
returns-in-Of-clause-at_head g c = λ m page is e. absurd (c.load_for.ensures.headed page e)

pub returns-in-NoHeader-clause-at_head : goal.returns-in-NoHeader-clause-at_head
returns-in-NoHeader-clause-at_head g c = λ m page is e. at_header m page (subst (IsHead m) c.in-NoHeader.is (c.in_ok-dba.ensures.head m is)).0 (same_page 0 page e)

pub returns-in-Unborn-clause-at_head : goal.returns-in-Unborn-clause-at_head
returns-in-Unborn-clause-at_head g c = λ m page is e. at_birth m page (subst (IsHead m) c.in-Unborn.is (c.in_ok-dba.ensures.head m is)) (same_page 1 page e)

pub returns-in-NoHeader-clause-no_head : goal.returns-in-NoHeader-clause-no_head
returns-in-NoHeader-clause-no_head g c = λ m page is e. without_header m (subst (IsHead m) c.in-NoHeader.is (c.in_ok-dba.ensures.head m is)).1

pub returns-in-Of-clause-at_catalog : goal.returns-in-Of-clause-at_catalog
returns-in-Of-clause-at_catalog g c = λ m file page known head e. c.load_for.ensures.at_catalog m file page (c.read_head.ensures.same ∙ known) e

pub returns-in-NoHeader-clause-at_catalog : goal.returns-in-NoHeader-clause-at_catalog
returns-in-NoHeader-clause-at_catalog g c = λ m file page known head e.
    absurd (true≢false (sym head ∙ without_header m (subst (IsHead m) c.in-NoHeader.is (c.in_ok-dba.ensures.head m known)).1))

pub returns-in-Unborn-clause-at_catalog : goal.returns-in-Unborn-clause-at_catalog
returns-in-Unborn-clause-at_catalog g c = λ m file page known head e.
    absurd (true≢false (sym head ∙ without_birth m (subst (IsHead m) c.in-Unborn.is (c.in_ok-dba.ensures.head m known))))
