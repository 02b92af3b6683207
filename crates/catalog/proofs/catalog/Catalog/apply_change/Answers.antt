use Rattle.std.proofs.Common.{◌≡◌, ◌∙◌, sym, ap, subst, true≢false, arith}
use Rattle.calculus.specs.Change.{IsLawful, laid}
use Rattle.calculus.specs.Database.{Db}
use Rattle.calculus.specs.Schema.{schema_of}
use Rattle.plain_base.specs.Shown.{database_of}
use Rattle.catalog.specs.Knows.{KnowsNone, KnowsNoneFor}
use Rattle.catalog.proofs.Outcomes.{cause_on}
use Rattle.catalog.proofs.Steps.{knows_same, lies_still, on_ok, schema_laid, unlawful}
use Rattle.page_chain.proofs.Carried.{cause_carried}
use Rattle.catalog.proofs.catalog.Catalog.apply_change.Goals as goal

pub returns-then-not-branch-clause-cause : goal.returns-then-not-branch-clause-cause
returns-then-not-branch-clause-cause g c = record {
  later = c.read_for.ensures.cause.later;
  caused = (
    λ m is db base knows lawful.
        unlawful c.read_for.new.self c.args.change.now m db (sym c.rows_are_known.ensures ∙ c.if-not-rows_are_known.false)
        (λ l. true≢false (sym (c.in_ok-is_lawful.ensures.lawful.1 l) ∙ c.if-not-branch.true)) base (c.read_for.ensures.knows m db is base knows) lawful,
    c.in_ok-read_for.ensures.cause.caused,
  );
}

pub returns-clause-schema : goal.returns-clause-schema
returns-clause-schema g c =
    on_ok c.write.result (database_of c.write.new.self.plain ≡ laid (database_of c.is_lawful.new.plain) c.args.change.now)
    (schema_of (database_of c.write.new.self.plain) ≡ schema_of (laid (schema_of (database_of c.args.self.now.plain)) c.args.change.now))
    (λ e. ap schema_of e
    ∙ schema_laid c.args.change.now (database_of c.is_lawful.new.plain) (database_of c.args.self.now.plain) c.is_lawful.new.plain.is
    (subst (λ (d : Db). IsLawful d c.args.change.now) (sym c.is_lawful.ensures.same) (c.in_ok-is_lawful.ensures.lawful.0 c.if-not-branch.false))
    (ap schema_of c.is_lawful.ensures.same ∙ c.read_for.ensures.schema))
    c.write.ensures.plain

pub returns-clause-lies : goal.returns-clause-lies
returns-clause-lies g c m is lies =
    c.write.ensures.lies m (c.read_for.ensures.same ∙ is) (lies_still c.read_for.new.self c.is_lawful.new.plain m c.is_lawful.ensures.same (c.read_for.ensures.lies m is lies))
    (sym c.rows_are_known.ensures ∙ c.if-not-rows_are_known.false)

pub write-requires : goal.write-requires
write-requires g c = subst (λ (d : Db). IsLawful d c.args.change.now) (sym c.is_lawful.ensures.same) (c.in_ok-is_lawful.ensures.lawful.0 c.if-not-branch.false)

pub returns-clause-knows : goal.returns-clause-knows
returns-clause-knows g c m db is base knows lawful =
    c.write.ensures.knows m db (c.read_for.ensures.same ∙ is) base (knows_same c.read_for.new.self c.is_lawful.new.plain m db c.is_lawful.ensures.same (c.read_for.ensures.knows m db is base knows)) lawful
    (sym c.rows_are_known.ensures ∙ c.if-not-rows_are_known.false)

pub returns-clause-came : goal.returns-clause-came
returns-clause-came g c = λ s h. c.write.ensures.came s (c.read_for.ensures.came s h)

pub returns-clause-cause : goal.returns-clause-cause
returns-clause-cause g c =
    cause_on (g.S.PageStore.pages c.args.store.now) (g.S.PageStore.pages c.read_for.new.store) (KnowsNoneFor (record c.read_for.new.self { plain = c.is_lawful.new.plain }) c.args.change.now) (KnowsNoneFor c.args.self.now c.args.change.now)
    (g.S.PageStore.faults c.args.store.now) (g.S.PageStore.faults c.read_for.new.store) (g.S.PageStore.faults c.write.new.store) c.write.result c.in_ok-read_for.ensures.cause.caused
    (λ a none m is db base knows lawful.
    none m (c.read_for.ensures.same ∙ is) db base (knows_same c.read_for.new.self c.is_lawful.new.plain m db c.is_lawful.ensures.same (c.read_for.ensures.knows m db is base knows)) lawful)
    c.write.ensures.cause

pub returns-in_err-read_for-clause-cause : goal.returns-in_err-read_for-clause-cause
returns-in_err-read_for-clause-cause g c =
    let old = g.S.PageStore.pages c.args.store.now in
    let start = g.S.PageStore.faults c.args.store.now in
    cause_carried old old (KnowsNone c.args.self.now) (KnowsNoneFor c.args.self.now c.args.change.now) start start (g.S.PageStore.faults c.read_for.new.store) c.in_err-read_for.field-0.0 (omega arith)
    (λ a none m is db base knows lawful. none m is db base knows) c.in_err-read_for.ensures.cause c.from_residual.result c.from_residual.ensures.1

pub returns-in_err-read_for-clause-came : goal.returns-in_err-read_for-clause-came
returns-in_err-read_for-clause-came g c = c.read_for.ensures.came
