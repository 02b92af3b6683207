use Rattle.std.proofs.Common.{◌∙◌, ap, arith}
use Rattle.heap_am.specs.Heap.{HeapFault}
use Rattle.plain_base.specs.Shown.{database_of}
use Rattle.calculus.specs.Schema.{schema_of}
use Rattle.page_chain.proofs.Carried.{cause_carried}
use Rattle.catalog.specs.Knows.{KnowsNone}
use Rattle.catalog.proofs.Filled.{at_fault_none, knows_same, knows_with, may_come, rows_are, rows_keep_schema, taken_is_in}
use Rattle.catalog.proofs.LiesRead.{lies_same, lies_with}
use Rattle.catalog.proofs.catalog.Catalog.read.Goals as goal

pub returns-in_err-rows-clause-cause : goal.returns-in_err-rows-clause-cause
returns-in_err-rows-clause-cause g c =
    cause_carried (g.S.PageStore.pages c.args.store.now) (g.S.PageStore.pages c.args.store.now) (HeapFault c.args.file) (KnowsNone c.args.self.now)
    (g.S.PageStore.faults c.args.store.now) (g.S.PageStore.faults c.args.store.now) (g.S.PageStore.faults c.relation_rows.new.store) c.in_err-rows.field-0.0 (omega arith)
    (λ a at m known. at_fault_none c.args.self.now m c.args.key.now c.args.file a c.requires.stored c.requires.file (at m known))
    c.in_err-rows.ensures.cause c.from_residual.result c.from_residual.ensures.1

pub returns-then-branch-clause-knows : goal.returns-then-branch-clause-knows
returns-then-branch-clause-knows g c m db known is k =
    knows_with c.args.self.now c.take.new.self m db c.args.key.now c.in_ok-rows.rows (c.in_ok-take.ensures.taken c.if-branch.true)
    (may_come c.args.self.now m db c.args.key.now c.args.file c.in_ok-rows.rows is k c.requires.unread c.requires.stored c.requires.file (λ placed are. c.in_ok-rows.ensures.known m placed known are)) k

pub returns-then-branch-clause-rows : goal.returns-then-branch-clause-rows
returns-then-branch-clause-rows g c m db known is k =
    rows_are c.take.new.self m db c.args.key.now (returns-then-branch-clause-knows g c m db known is k)
    (taken_is_in c.args.self.now c.take.new.self c.args.key.now c.in_ok-rows.rows (c.in_ok-take.ensures.taken c.if-branch.true))

pub returns-then-branch-clause-schema : goal.returns-then-branch-clause-schema
returns-then-branch-clause-schema g c =
    (λ i. schema_of ((c.in_ok-take.ensures.taken c.if-branch.true).plain i)) ∙ rows_keep_schema (database_of c.args.self.now.plain) c.args.key.now c.in_ok-rows.rows

pub returns-else-branch-clause-cause : goal.returns-else-branch-clause-cause
returns-else-branch-clause-cause g c = record {
  later = c.in_ok-rows.ensures.cause.later;
  caused = (
    λ m known db is k.
        (c.in_ok-take.ensures.refused c.if-branch.false
        (may_come c.args.self.now m db c.args.key.now c.args.file c.in_ok-rows.rows is k c.requires.unread c.requires.stored c.requires.file (λ placed are. c.in_ok-rows.ensures.known m placed known are)).lawful),
    c.in_ok-rows.ensures.cause.caused,
  );
}

pub returns-then-branch-clause-lies : goal.returns-then-branch-clause-lies
returns-then-branch-clause-lies g c m known lies =
    lies_with c.args.self.now c.take.new.self m c.args.key.now c.args.file c.in_ok-rows.rows lies c.requires.unread c.requires.stored c.requires.file
    (c.in_ok-rows.ensures.exact m known) (c.in_ok-take.ensures.taken c.if-branch.true)

pub returns-then-branch-clause-files : goal.returns-then-branch-clause-files
returns-then-branch-clause-files g c = (c.in_ok-take.ensures.taken c.if-branch.true).files

pub returns-then-branch-clause-loaded : goal.returns-then-branch-clause-loaded
returns-then-branch-clause-loaded g c = taken_is_in c.args.self.now c.take.new.self c.args.key.now c.in_ok-rows.rows (c.in_ok-take.ensures.taken c.if-branch.true)

pub returns-in_err-take-clause-knows : goal.returns-in_err-take-clause-knows
returns-in_err-take-clause-knows g c m db known is k = knows_same c.args.self.now c.take.new.self m db c.in_err-take.ensures.err k

pub returns-in_err-take-clause-lies : goal.returns-in_err-take-clause-lies
returns-in_err-take-clause-lies g c m known lies = lies_same c.args.self.now c.take.new.self m c.in_err-take.ensures.err lies

pub returns-in_err-take-clause-schema : goal.returns-in_err-take-clause-schema
returns-in_err-take-clause-schema g c = ap schema_of c.in_err-take.ensures.err.plain

pub returns-in_err-take-clause-files : goal.returns-in_err-take-clause-files
returns-in_err-take-clause-files g c = c.in_err-take.ensures.err.files

pub returns-else-branch-clause-knows : goal.returns-else-branch-clause-knows
returns-else-branch-clause-knows g c m db known is k = knows_same c.args.self.now c.take.new.self m db (c.in_ok-take.ensures.kept c.if-branch.false) k

pub returns-else-branch-clause-lies : goal.returns-else-branch-clause-lies
returns-else-branch-clause-lies g c m known lies = lies_same c.args.self.now c.take.new.self m (c.in_ok-take.ensures.kept c.if-branch.false) lies

pub returns-else-branch-clause-schema : goal.returns-else-branch-clause-schema
returns-else-branch-clause-schema g c = ap schema_of (c.in_ok-take.ensures.kept c.if-branch.false).plain

pub returns-else-branch-clause-files : goal.returns-else-branch-clause-files
returns-else-branch-clause-files g c = (c.in_ok-take.ensures.kept c.if-branch.false).files

pub returns-in_err-rows-clause-came : goal.returns-in_err-rows-clause-came
returns-in_err-rows-clause-came g c = c.relation_rows.ensures.came

pub returns-in_err-rows-clause-only_read : goal.returns-in_err-rows-clause-only_read
returns-in_err-rows-clause-only_read g c = c.relation_rows.ensures.only_read

pub returns-in_err-rows-clause-same : goal.returns-in_err-rows-clause-same
returns-in_err-rows-clause-same g c = c.relation_rows.ensures.same

pub returns-in_err-rows-clause-reads : goal.returns-in_err-rows-clause-reads
returns-in_err-rows-clause-reads g c = c.relation_rows.ensures.reads

pub returns-in_err-put-clause-came : goal.returns-in_err-put-clause-came
returns-in_err-put-clause-came g c = c.relation_rows.ensures.came

pub returns-in_err-put-clause-only_read : goal.returns-in_err-put-clause-only_read
returns-in_err-put-clause-only_read g c = c.relation_rows.ensures.only_read

pub returns-in_err-put-clause-same : goal.returns-in_err-put-clause-same
returns-in_err-put-clause-same g c = c.relation_rows.ensures.same

pub returns-in_err-put-clause-reads : goal.returns-in_err-put-clause-reads
returns-in_err-put-clause-reads g c = c.relation_rows.ensures.reads

pub returns-in_err-take-clause-came : goal.returns-in_err-take-clause-came
returns-in_err-take-clause-came g c = c.relation_rows.ensures.came

pub returns-in_err-take-clause-only_read : goal.returns-in_err-take-clause-only_read
returns-in_err-take-clause-only_read g c = c.relation_rows.ensures.only_read

pub returns-in_err-take-clause-same : goal.returns-in_err-take-clause-same
returns-in_err-take-clause-same g c = c.relation_rows.ensures.same

pub returns-in_err-take-clause-reads : goal.returns-in_err-take-clause-reads
returns-in_err-take-clause-reads g c = c.relation_rows.ensures.reads

pub returns-then-branch-clause-came : goal.returns-then-branch-clause-came
returns-then-branch-clause-came g c = c.relation_rows.ensures.came

pub returns-then-branch-clause-only_read : goal.returns-then-branch-clause-only_read
returns-then-branch-clause-only_read g c = c.relation_rows.ensures.only_read

pub returns-then-branch-clause-same : goal.returns-then-branch-clause-same
returns-then-branch-clause-same g c = c.relation_rows.ensures.same

pub returns-then-branch-clause-reads : goal.returns-then-branch-clause-reads
returns-then-branch-clause-reads g c = c.relation_rows.ensures.reads

pub returns-else-branch-clause-came : goal.returns-else-branch-clause-came
returns-else-branch-clause-came g c = c.relation_rows.ensures.came

pub returns-else-branch-clause-only_read : goal.returns-else-branch-clause-only_read
returns-else-branch-clause-only_read g c = c.relation_rows.ensures.only_read

pub returns-else-branch-clause-same : goal.returns-else-branch-clause-same
returns-else-branch-clause-same g c = c.relation_rows.ensures.same

pub returns-else-branch-clause-reads : goal.returns-else-branch-clause-reads
returns-else-branch-clause-reads g c = c.relation_rows.ensures.reads

pub returns-then-branch-clause-cause : goal.returns-then-branch-clause-cause
returns-then-branch-clause-cause g c = record { later = c.in_ok-rows.ensures.cause.later; caused = c.in_ok-rows.ensures.cause.caused }
