use Rattle.std.proofs.Common.{ap, ◌∙◌}
use Rattle.copy_util.specs.Reading.{have_forms}
use Rattle.copy_util.proofs.Fitting.{fit_forms}
use Rattle.copy_util.proofs.into_file.copy_into.Goals as goal

pub store_rows-requires : goal.store_rows-requires
store_rows-requires g c = record {
  fits = λ db e.
      ap have_forms c.items.ensures
      ∙ fit_forms db c.args.user.now c.args.u.now c.in-Copy.rel c.in-Copy.columns c.in-Copy.from c.in-Copy.file c.in-Copy.is (c.requires.fits db e);
}
