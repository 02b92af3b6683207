-- The rules of a relation join the checks of an update before its expansions are put in or after it.
use Rattle.std.proofs.Common.{◌≡◌, refl}
use Rattle.calculus.specs.declared.request.Update.{Update}
use Rattle.calculus.specs.declared.request.UpdateOp.{UpdateOp}
use Rattle.calculus.specs.declared.request.UpdateOp.TheVariants.{Append, Replace, Delete, Into}
use Rattle.calculus.specs.Database.{Db}
use Rattle.calculus.specs.Pairs.{ruled}
use Rattle.calculus.specs.Who.{Who}
use Rattle.view_text.specs.Expanded.{expanded_update}

with_op : (db : Db) (who : Who) (u : Update) (o : UpdateOp) → expanded_update db who (ruled db (record u { op = o })) ≡ ruled db (expanded_update db who (record u { op = o }))
unfolding expanded_update ruled
with_op db who u Append = refl
with_op db who u Replace = refl
with_op db who u Delete = refl
with_op db who u Into = refl

pub ruled_put : (db : Db) (who : Who) (u : Update) → expanded_update db who (ruled db u) ≡ ruled db (expanded_update db who u)
ruled_put db who u = with_op db who u u.op
