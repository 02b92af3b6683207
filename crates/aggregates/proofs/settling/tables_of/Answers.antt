use Rattle.std.proofs.Common.{◌∙◌, ap, sym, subst, ◌∷◌, [], length, map, arith}
use Rattle.std.proofs.lemmas.List.{length-append, take_all}
use Rattle.quel_meaning.specs.FitQueries.{kept_alone, source_fits}
use Rattle.decompose.proofs.Variables.{one_of_all}
use Rattle.calculus.specs.Groups.{GroupsAscend}
use Rattle.aggregates.specs.Settled.{AllAscend, AllStand}
use Rattle.aggregates.proofs.Placed.{all_behind, next_stands}
use Rattle.aggregates.proofs.settling.tables_of.Goals as goal

pub table-requires : goal.table-requires
table-requires g c = λ db h.
    one_of_all (λ g. source_fits (kept_alone db) db g.now.source) c.args.aggs.now c.loop-agg.agg-index c.agg-item.result c.loop-agg-test.true c.agg-item.is
    (c.requires db (sym c.loop-agg.invariant.kept ∙ h))

pub loop-agg-preserved : goal.loop-agg-preserved
loop-agg-preserved g c = record {
  many = omega (arith, ap length c.in_ok-put_behind.ensures, length-append c.loop-agg.tables.items (c.in_ok-table.table ∷ []), c.loop-agg.invariant.many);
  ascend = subst AllAscend (sym c.in_ok-put_behind.ensures)
      (all_behind (λ t. GroupsAscend t.groups) c.loop-agg.tables.items c.in_ok-table.table c.loop-agg.invariant.ascend c.in_ok-table.ensures.ascend);
  known = λ db h.
      next_stands (λ g. g.now) db c.args.aggs.now c.loop-agg.agg-index c.agg-item.result c.loop-agg.tables.items c.put_behind.new.tables.items c.in_ok-table.table
      c.loop-agg-test.true c.agg-item.is (c.loop-agg.invariant.known db h) (c.in_ok-table.ensures.known db (c.loop-agg.invariant.kept ∙ h)) c.in_ok-put_behind.ensures;
  kept = c.in_ok-table.ensures.kept ∙ c.loop-agg.invariant.kept;
  stays = λ s e. c.in_ok-table.ensures.stays s (c.loop-agg.invariant.stays s e);
  asked = λ b was. c.in_ok-table.ensures.asked b (c.loop-agg.invariant.asked b was);
  faults = c.in_ok-table.ensures.cause.caused ∙ c.loop-agg.invariant.faults;
}

pub returns-clause-known : goal.returns-clause-known
returns-clause-known g c = λ db h.
    subst (λ aggs. AllStand db c.loop-agg.tables.items (map (λ g. g.now) aggs)) (take_all c.loop-agg.agg-index c.args.aggs.now c.loop-agg-test.false)
    (c.loop-agg.invariant.known db h)
