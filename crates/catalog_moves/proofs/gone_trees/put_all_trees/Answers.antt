use Rattle.std.proofs.Common.{refl, sym, subst, ◌∙◌}
use Rattle.calculus.specs.Database.{Db}
use Rattle.calculus.specs.IsDatabase.{IsDatabase}
use Rattle.plain_base.specs.Shown.{database_of}
use Rattle.catalog_moves.specs.declared.files.FilePlace.{FilePlace}
use Rattle.catalog_moves.specs.Files.{places_of}
use Rattle.catalog_moves.specs.Gone.{gone_parts}
use Rattle.catalog_moves.proofs.Coming.{parts_none, parts_of}
use Rattle.std.specs.List.{flat_map}
use Rattle.catalog_moves.specs.Moves.{CameParts}
use Rattle.catalog_moves.proofs.Whole.{whole_of}
use Rattle.catalog_moves.proofs.gone_trees.put_all_trees.Goals as goal

pub loop-place-init : goal.loop-place-init
loop-place-init c = record { same = refl; came = parts_none c.args.rows.now.items c.args.rows.now.items refl }

pub loop-place-preserved : goal.loop-place-preserved
loop-place-preserved c = record {
  same = c.put_listed.ensures.same ∙ c.loop-place.invariant.same;
  came =
      parts_of (λ (db : Db) (p : FilePlace). gone_parts c.args.sort c.args.rels.now db p) (places_of c.args.files.now) c.deref-place-items.result.now c.deref-place-items.ensures.value
      c.loop-place.place-index c.place-item.result c.loop-place-test.true c.place-item.is c.args.rows.now.items c.loop-place.rows.items c.put_listed.new.rows.items
      (database_of c.args.plain.now) (database_of c.loop-place.plain) c.loop-place.invariant.same c.loop-place.invariant.came c.in_ok-put_listed.ensures.came;
}

pub put_listed-requires-clause-base : goal.put_listed-requires-clause-base
put_listed-requires-clause-base c = subst (λ (d : Db). IsDatabase d) (sym c.loop-place.invariant.same) c.requires.base

pub put_listed-requires-clause-listed : goal.put_listed-requires-clause-listed
put_listed-requires-clause-listed c = c.requires.listed

pub returns-clause-same : goal.returns-clause-same
returns-clause-same c = c.loop-place.invariant.same

pub returns-clause-came : goal.returns-clause-came
returns-clause-came c =
    whole_of (λ ps. CameParts c.args.rows.now.items c.loop-place.rows.items (flat_map (gone_parts c.args.sort c.args.rels.now (database_of c.args.plain.now)) ps)) (places_of c.args.files.now) c.deref-place-items.result.now c.deref-place-items.ensures.value
    c.loop-place.place-index c.loop-place-test.false c.loop-place.invariant.came
