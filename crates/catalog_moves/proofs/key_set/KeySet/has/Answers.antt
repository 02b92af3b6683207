use Rattle.std.proofs.Common.{sym, ap, ◌∙◌}
use Rattle.std.specs.Prelude.{is_some}
use Rattle.calculus.specs.Keys.{has_key}
use Rattle.catalog_moves.specs.Files.{is_in}
use Rattle.catalog_moves.proofs.Tables.{any_found}
use Rattle.catalog_moves.proofs.key_set.KeySet.has.Goals as goal

pub returns-in-Ok : goal.returns-in-Ok
unfolding is_in
returns-in-Ok c =
    sym (ap (λ keys. has_key keys c.args.key.now) (sym c.deref.ensures.value) ∙ any_found c.deref.result.now c.args.key.now ∙ ap is_some (c.in-Ok.ensures.there c.args.key.now))

pub returns-in-Err : goal.returns-in-Err
unfolding is_in
returns-in-Err c =
    sym (ap (λ keys. has_key keys c.args.key.now) (sym c.deref.ensures.value) ∙ any_found c.deref.result.now c.args.key.now ∙ ap is_some c.in-Err.ensures.absent)
