use Rattle.std.proofs.Common.{subst, arith}
use Rattle.page_chain.proofs.Carried.{cause_carried}
use Rattle.catalog.specs.Knows.{NoDatabaseAt}
use Rattle.catalog.specs.Loading.{IfKnown, NoCatalogueIn}
use Rattle.catalog.proofs.ReadRows.{first_page, no_catalogue}
use Rattle.catalog.proofs.catalog.Catalog.load.Goals as goal

pub returns-in_err-chains-clause-cause : goal.returns-in_err-chains-clause-cause
returns-in_err-chains-clause-cause g c =
    cause_carried (g.S.PageStore.pages c.args.store.now) (g.S.PageStore.pages c.args.store.now) NoCatalogueIn (NoDatabaseAt c.args.dba)
    (g.S.PageStore.faults c.args.store.now) (g.S.PageStore.faults c.args.store.now) (g.S.PageStore.faults c.read_chains.new.store) c.in_err-chains.field-0.0 (omega arith)
    (λ a at m known. no_catalogue c.args.dba m a (at m known)) c.in_err-chains.ensures.cause c.from_residual.result c.from_residual.ensures.1

pub returns-in-Some-clause-knows : goal.returns-in-Some-clause-knows
returns-in-Some-clause-knows g c m db known stands named owners =
    subst (IfKnown m db) c.in-Some.is (c.in_ok-catalog.ensures.known m db (c.in_ok-chains.ensures.found m known) (record { stands = stands; dba_is = named; owners = owners }))

pub returns-clause-cause : goal.returns-clause-cause
returns-clause-cause g c = record {
  later = c.in_ok-chains.ensures.cause.later;
  caused = (
    λ m known. (
      λ db stands named owners.
          subst (IfKnown m db) c.in-None.is (c.in_ok-catalog.ensures.known m db (c.in_ok-chains.ensures.found m known) (record { stands = stands; dba_is = named; owners = owners })),
      first_page m _ (c.in_ok-chains.ensures.found m known),
    ),
    c.in_ok-chains.ensures.cause.caused,
  );
}

pub returns-in-Some-clause-lies : goal.returns-in-Some-clause-lies
returns-in-Some-clause-lies g c m known = c.in_ok-catalog.ensures.lies m (c.in_ok-chains.ensures.found m known) c.in-Some.catalog c.in-Some.is

pub returns-in-Some-clause-dba : goal.returns-in-Some-clause-dba
returns-in-Some-clause-dba g c = c.in_ok-catalog.ensures.dba c.in-Some.catalog c.in-Some.is

pub returns-clause-came : goal.returns-clause-came
returns-clause-came g c = c.read_chains.ensures.came

pub returns-in-Some-clause-came : goal.returns-in-Some-clause-came
returns-in-Some-clause-came g c = c.read_chains.ensures.came

pub returns-in_err-chains-clause-came : goal.returns-in_err-chains-clause-came
returns-in_err-chains-clause-came g c = c.read_chains.ensures.came

pub returns-clause-only_read : goal.returns-clause-only_read
returns-clause-only_read g c = c.read_chains.ensures.only_read

pub returns-in-Some-clause-only_read : goal.returns-in-Some-clause-only_read
returns-in-Some-clause-only_read g c = c.read_chains.ensures.only_read

pub returns-in_err-chains-clause-only_read : goal.returns-in_err-chains-clause-only_read
returns-in_err-chains-clause-only_read g c = c.read_chains.ensures.only_read

pub returns-clause-same : goal.returns-clause-same
returns-clause-same g c = c.read_chains.ensures.same

pub returns-in-Some-clause-same : goal.returns-in-Some-clause-same
returns-in-Some-clause-same g c = c.read_chains.ensures.same

pub returns-in_err-chains-clause-same : goal.returns-in_err-chains-clause-same
returns-in_err-chains-clause-same g c = c.read_chains.ensures.same

pub returns-clause-reads : goal.returns-clause-reads
returns-clause-reads g c = c.read_chains.ensures.reads

pub returns-in-Some-clause-reads : goal.returns-in-Some-clause-reads
returns-in-Some-clause-reads g c = c.read_chains.ensures.reads

pub returns-in_err-chains-clause-reads : goal.returns-in_err-chains-clause-reads
returns-in_err-chains-clause-reads g c = c.read_chains.ensures.reads
