use Rattle.std.proofs.Common.{rules, ◌≡◌, refl, sym, ap, ◌∙◌, map, Err, subst, arith}
use Rattle.std.proofs.lemmas.List.{take_all}
use Rattle.calculus.specs.QueryParts.{targets_of}
use Rattle.calculus.specs.Who.{Unrestricted}
use Rattle.quel_meaning.specs.Tables.{column_of, table_of, some_query_lacks}
use Rattle.stage_proc.specs.TableCauses.{CanBeAnswered, LacksIn, MayFail}
use Rattle.stage_proc.proofs.Tabling.{next_made, next_part, none_yet, next_none, one_of, one_fails}
use Rattle.stage_proc.proofs.tables.tables_of.Goals as goal

pub loop-one-init : goal.loop-one-init
loop-one-init g c = record {
  kept = refl;
  stays = λ s e. e;
  asked = λ b was. was;
  faults = refl;
  columns = ap (map (λ t. t.columns)) c.new-tables.ensures.items;
  known = λ db e. c.new-tables.ensures.items;
  none_lacks = λ db e. none_yet db;
}

pub table_of-requires-clause-read : goal.table_of-requires-clause-read
table_of-requires-clause-read g c = λ db e.
    let given = sym c.loop-one.invariant.kept ∙ e in
    (one_of (λ a. CanBeAnswered db a.query) c.args.asked.now c.loop-one.one-index c.one-item.result c.loop-one-test.true c.one-item.is (c.requires db given)).read

pub table_of-requires-clause-fit : goal.table_of-requires-clause-fit
table_of-requires-clause-fit g c = λ db e.
    let given = sym c.loop-one.invariant.kept ∙ e in
    (one_of (λ a. CanBeAnswered db a.query) c.args.asked.now c.loop-one.one-index c.one-item.result c.loop-one-test.true c.one-item.is (c.requires db given)).fit

pub table_of-requires-clause-numbered : goal.table_of-requires-clause-numbered
table_of-requires-clause-numbered g c = λ db e.
    let given = sym c.loop-one.invariant.kept ∙ e in
    (one_of (λ a. CanBeAnswered db a.query) c.args.asked.now c.loop-one.one-index c.one-item.result c.loop-one-test.true c.one-item.is (c.requires db given)).numbered

pub returns-in_err-table-clause-cause : goal.returns-in_err-table-clause-cause
returns-in_err-table-clause-cause g c =
    let fault = c.in_err-table.field-0.0 in
    let is : c.from_residual.result ≡ Err fault = search rules in
    one_fails c.args.asked.now c.loop-one.one-index c.one-item.result (g.B.Base.database c.args.base.now) (g.B.Base.faults c.args.base.now) (g.B.Base.faults c.loop-one.base) (g.B.Base.faults c.table_of.new.base) fault
    c.from_residual.result c.loop-one-test.true c.one-item.is is c.loop-one.invariant.faults c.in_err-table.ensures.cause.later
    (subst (λ known. MayFail (λ db at. LacksIn db c.one-item.result.query at) known (g.B.Base.faults c.loop-one.base) (g.B.Base.faults c.table_of.new.base) fault) c.loop-one.invariant.kept c.in_err-table.ensures.cause.caused)

pub loop-one-preserved : goal.loop-one-preserved
loop-one-preserved g c = record {
  kept = c.in_ok-table.ensures.kept ∙ c.loop-one.invariant.kept;
  stays = λ s e. c.in_ok-table.ensures.stays s (c.loop-one.invariant.stays s e);
  asked = λ b was. c.in_ok-table.ensures.asked b (c.loop-one.invariant.asked b was);
  faults = c.in_ok-table.ensures.cause.caused ∙ c.loop-one.invariant.faults;
  columns =
      next_part (λ a. map column_of (targets_of a.query)) (λ t. t.columns) c.args.asked.now c.loop-one.one-index c.one-item.result c.loop-one.tables.items c.push.new.items.items c.in_ok-table.table c.loop-one-test.true c.one-item.is
      c.loop-one.invariant.columns c.in_ok-table.ensures.columns c.in_ok-push.ensures.behind;
  known = λ db e.
      next_made (table_of db Unrestricted) c.args.asked.now c.loop-one.one-index c.one-item.result c.loop-one.tables.items c.push.new.items.items c.in_ok-table.table c.loop-one-test.true c.one-item.is
      (c.loop-one.invariant.known db e)
      (c.in_ok-table.ensures.known db (c.loop-one.invariant.kept ∙ e))
      c.in_ok-push.ensures.behind;
  none_lacks = λ db e.
      next_none db c.args.asked.now c.loop-one.one-index c.one-item.result c.loop-one-test.true c.one-item.is (c.loop-one.invariant.none_lacks db e)
      (c.in_ok-table.ensures.none_lacks db (c.loop-one.invariant.kept ∙ e));
}

pub returns-clause-columns : goal.returns-clause-columns
returns-clause-columns g c =
    ap (map (λ t. t.columns)) c.of-tables.ensures ∙ c.loop-one.invariant.columns
    ∙ ap (map (λ a. map column_of (targets_of a.query))) (take_all c.loop-one.one-index c.args.asked.now (omega arith))

pub returns-clause-known : goal.returns-clause-known
returns-clause-known g c = λ db e. c.of-tables.ensures ∙ c.loop-one.invariant.known db e ∙ ap (map (table_of db Unrestricted)) (take_all c.loop-one.one-index c.args.asked.now (omega arith))

pub returns-clause-none_lacks : goal.returns-clause-none_lacks
returns-clause-none_lacks g c = λ db e. ap (some_query_lacks db Unrestricted) (sym (take_all c.loop-one.one-index c.args.asked.now (omega arith))) ∙ c.loop-one.invariant.none_lacks db e
