use Rattle.std.proofs.Common.{refl, ◌∙◌, subst}
use Rattle.calculus.specs.Database.{Db}
use Rattle.plain_base.specs.Shown.{database_of}
use Rattle.catalog_moves.specs.Bases.{rows_on}
use Rattle.catalog_moves.specs.Moves.{Came}
use Rattle.catalog_moves.proofs.Coming.{came_none, rows_more}
use Rattle.std.specs.List.{flat_map}
use Rattle.catalog_moves.proofs.Whole.{whole}
use Rattle.catalog_moves.proofs.going.put_indexes.Goals as goal

pub loop-place-init : goal.loop-place-init
loop-place-init c = record { same = refl; came = came_none c.args.rows.now.items c.args.rows.now.items refl }

pub loop-place-preserved : goal.loop-place-preserved
loop-place-preserved c = record {
  same = c.put_on.ensures.same ∙ c.loop-place.invariant.same;
  came =
      rows_more (rows_on c.args.base (database_of c.args.plain.now)) c.args.places.now c.loop-place.place-index c.place-item.result c.loop-place-test.true c.place-item.is c.args.rows.now.items c.loop-place.rows.items c.put_on.new.rows.items
      c.loop-place.invariant.came
      (subst (λ (db : Db). Came c.loop-place.rows.items c.put_on.new.rows.items (rows_on c.args.base db c.place-item.result)) c.loop-place.invariant.same c.in_ok-put_on.ensures.came);
}

pub returns-clause-same : goal.returns-clause-same
returns-clause-same c = c.loop-place.invariant.same

pub returns-clause-came : goal.returns-clause-came
returns-clause-came c =
    whole (λ ps. Came c.args.rows.now.items c.loop-place.rows.items (flat_map (rows_on c.args.base (database_of c.args.plain.now)) ps)) c.args.places.now c.loop-place.place-index c.loop-place-test.false c.loop-place.invariant.came
