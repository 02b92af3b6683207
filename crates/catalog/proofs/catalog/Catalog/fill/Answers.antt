use Rattle.std.proofs.Common.{◌∙◌, refl, sym, ap, subst, arith}
use Rattle.calculus.specs.Database.{is_relation}
use Rattle.calculus.specs.Stored.{rows_at}
use Rattle.catalog_moves.specs.Files.{files_of}
use Rattle.catalog.specs.Filling.{IsFileOf}
use Rattle.catalog.proofs.LiesRead.{lies_same}
use Rattle.catalog.proofs.Filled.{knows_same, no_file_none, other_rows_are, rows_are}
use Rattle.catalog.proofs.InMemory.{known_loaded, known_none, known_read, not_known}
use Rattle.catalog.proofs.Rises.{rises_as}
use Rattle.catalog.proofs.Outcomes.{cause_on}
use Rattle.catalog.proofs.Steps.{knows_same as knows_still, lies_still}
use Rattle.catalog.specs.Knows.{KnowsNone}
use Rattle.calculus.specs.Schema.{schema_of}
use Rattle.catalog.proofs.catalog.Catalog.fill.Goals as goal

pub returns-then-has-clause-rows : goal.returns-then-has-clause-rows
returns-then-has-clause-rows g c m db known is k = rows_are c.args.self.now m db c.args.key.now k (sym c.has.ensures ∙ c.if-has.true)

pub returns-then-not-branch-clause-rows : goal.returns-then-not-branch-clause-rows
returns-then-not-branch-clause-rows g c m db known is k =
    ap (λ d. rows_at d c.args.key.now) c.in_ok-is_stored.ensures.same ∙ other_rows_are c.args.self.now m db c.args.key.now k (sym c.in_ok-is_stored.ensures.there ∙ c.if-not-branch.true)

pub read-requires-clause-file : goal.read-requires-clause-file
read-requires-clause-file g c =
    subst (λ d. IsFileOf d (files_of c.args.self.now.files) c.args.key.now c.in-Some.file) (sym c.in_ok-file.ensures.same) (c.in_ok-file.ensures.there c.in-Some.file c.in-Some.is)

pub returns-in-Some-clause-knows : goal.returns-in-Some-clause-knows
returns-in-Some-clause-knows g c m db known is k =
    c.read.ensures.knows m db known is
    (knows_same c.args.self.now (record c.args.self.now { plain = c.relation_file.new.plain }) m db
    (record { plain = c.in_ok-file.ensures.same ∙ c.in_ok-is_stored.ensures.same; loaded = λ key. refl; files = refl; ends_stay = refl }) k)

pub returns-in-None-clause-cause : goal.returns-in-None-clause-cause
returns-in-None-clause-cause g c = record {
  later = omega arith;
  caused = (
    λ m known. no_file_none c.args.self.now m c.args.key.now (record { file = 5; page = 0 })
        (sym c.in_ok-is_stored.ensures.there ∙ c.if-not-branch.false) (c.in_ok-file.ensures.none c.in-None.is),
    refl,
  );
}

pub returns-in-Some-clause-lies : goal.returns-in-Some-clause-lies
returns-in-Some-clause-lies g c m known lies =
    c.read.ensures.lies m known
    (lies_same c.args.self.now (record c.args.self.now { plain = c.relation_file.new.plain }) m
    (record { plain = c.in_ok-file.ensures.same ∙ c.in_ok-is_stored.ensures.same; loaded = λ key. refl; files = refl; ends_stay = refl }) lies)

pub returns-then-has-clause-known : goal.returns-then-has-clause-known
returns-then-has-clause-known g c = known_loaded c.args.self.now c.args.key.now (sym c.has.ensures ∙ c.if-has.true)

pub returns-then-not-branch-clause-known : goal.returns-then-not-branch-clause-known
returns-then-not-branch-clause-known g c =
    known_none (record c.args.self.now { plain = c.is_stored.new.plain }) c.args.key.now
    (ap (λ d. is_relation d c.args.key.now) c.in_ok-is_stored.ensures.same ∙ sym c.in_ok-is_stored.ensures.there ∙ c.if-not-branch.true)

pub returns-in-Some-clause-files : goal.returns-in-Some-clause-files
returns-in-Some-clause-files g c = ap files_of c.read.ensures.files

pub returns-in-Some-clause-reads : goal.returns-in-Some-clause-reads
returns-in-Some-clause-reads g c = rises_as _ _ _ _ (c.in_ok-file.ensures.there c.in-Some.file c.in-Some.is).pages c.read.ensures.reads

pub returns-in-Some-clause-again : goal.returns-in-Some-clause-again
returns-in-Some-clause-again g c = λ is.
    not_known c.args.self.now c.args.key.now _ (sym c.has.ensures ∙ c.if-has.false) (sym c.in_ok-is_stored.ensures.there ∙ c.if-not-branch.false) is

pub returns-in-Some-clause-known : goal.returns-in-Some-clause-known
returns-in-Some-clause-known g c = known_read c.read.result c.read.new.self c.args.key.now c.read.ensures.loaded

pub returns-in_err-is_stored-clause-knows : goal.returns-in_err-is_stored-clause-knows
returns-in_err-is_stored-clause-knows g c m db known is k = knows_still c.args.self.now c.is_stored.new.plain m db c.is_stored.ensures.same k

pub returns-in_err-is_stored-clause-lies : goal.returns-in_err-is_stored-clause-lies
returns-in_err-is_stored-clause-lies g c m known lies = lies_still c.args.self.now c.is_stored.new.plain m c.is_stored.ensures.same lies

pub returns-in_err-is_stored-clause-schema : goal.returns-in_err-is_stored-clause-schema
returns-in_err-is_stored-clause-schema g c = ap schema_of c.is_stored.ensures.same

pub returns-then-not-branch-clause-knows : goal.returns-then-not-branch-clause-knows
returns-then-not-branch-clause-knows g c m db known is k = knows_still c.args.self.now c.is_stored.new.plain m db c.is_stored.ensures.same k

pub returns-then-not-branch-clause-lies : goal.returns-then-not-branch-clause-lies
returns-then-not-branch-clause-lies g c m known lies = lies_still c.args.self.now c.is_stored.new.plain m c.is_stored.ensures.same lies

pub returns-then-not-branch-clause-schema : goal.returns-then-not-branch-clause-schema
returns-then-not-branch-clause-schema g c = ap schema_of c.is_stored.ensures.same

pub returns-in_err-file-clause-knows : goal.returns-in_err-file-clause-knows
returns-in_err-file-clause-knows g c m db known is k = knows_still c.args.self.now c.relation_file.new.plain m db (c.relation_file.ensures.same ∙ c.is_stored.ensures.same) k

pub returns-in_err-file-clause-lies : goal.returns-in_err-file-clause-lies
returns-in_err-file-clause-lies g c m known lies = lies_still c.args.self.now c.relation_file.new.plain m (c.relation_file.ensures.same ∙ c.is_stored.ensures.same) lies

pub returns-in_err-file-clause-schema : goal.returns-in_err-file-clause-schema
returns-in_err-file-clause-schema g c = ap schema_of (c.relation_file.ensures.same ∙ c.is_stored.ensures.same)

pub returns-in-None-clause-knows : goal.returns-in-None-clause-knows
returns-in-None-clause-knows g c m db known is k = knows_still c.args.self.now c.relation_file.new.plain m db (c.relation_file.ensures.same ∙ c.is_stored.ensures.same) k

pub returns-in-None-clause-lies : goal.returns-in-None-clause-lies
returns-in-None-clause-lies g c m known lies = lies_still c.args.self.now c.relation_file.new.plain m (c.relation_file.ensures.same ∙ c.is_stored.ensures.same) lies

pub returns-in-None-clause-schema : goal.returns-in-None-clause-schema
returns-in-None-clause-schema g c = ap schema_of (c.relation_file.ensures.same ∙ c.is_stored.ensures.same)

pub returns-in-Some-clause-schema : goal.returns-in-Some-clause-schema
returns-in-Some-clause-schema g c = c.read.ensures.schema ∙ ap schema_of (c.relation_file.ensures.same ∙ c.is_stored.ensures.same)

pub returns-in-Some-clause-rows : goal.returns-in-Some-clause-rows
returns-in-Some-clause-rows g c m db known is k =
    c.read.ensures.rows m db known is (knows_still c.args.self.now c.relation_file.new.plain m db (c.relation_file.ensures.same ∙ c.is_stored.ensures.same) k)

pub returns-in-Some-clause-cause : goal.returns-in-Some-clause-cause
returns-in-Some-clause-cause g c =
    let known = g.S.PageStore.pages c.args.store.now in
    let start = g.S.PageStore.faults c.args.store.now in
    cause_on known known (KnowsNone (record c.args.self.now { plain = c.relation_file.new.plain })) (KnowsNone c.args.self.now) start start (g.S.PageStore.faults c.read.new.store) c.read.result refl
    (λ a none m is db base k. none m is db base (knows_still c.args.self.now c.relation_file.new.plain m db (c.relation_file.ensures.same ∙ c.is_stored.ensures.same) k)) c.read.ensures.cause

pub returns-in-Some-clause-came : goal.returns-in-Some-clause-came
returns-in-Some-clause-came g c = c.read.ensures.came

pub returns-in-Some-clause-only_read : goal.returns-in-Some-clause-only_read
returns-in-Some-clause-only_read g c = c.read.ensures.only_read

pub returns-in-Some-clause-same : goal.returns-in-Some-clause-same
returns-in-Some-clause-same g c = c.read.ensures.same

pub read-requires-clause-stored : goal.read-requires-clause-stored
read-requires-clause-stored g c =
    ap (λ d. is_relation d c.args.key.now) (c.relation_file.ensures.same ∙ c.is_stored.ensures.same) ∙ sym c.in_ok-is_stored.ensures.there ∙ c.if-not-branch.false

pub read-requires-clause-unread : goal.read-requires-clause-unread
read-requires-clause-unread g c = sym c.has.ensures ∙ c.if-has.false
