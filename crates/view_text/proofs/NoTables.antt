-- Where no table is given, no aggregate has a value.
use Rattle.std.proofs.Common.{◌≡◌, refl, ap, ℕ, zero, suc, [], None}
use Rattle.std.specs.Prelude.{slice_get}
use Rattle.calculus.specs.declared.agg_table.AggTable.{AggTable}
use Rattle.calculus.specs.declared.query.QAgg.{QAgg}
use Rattle.calculus.specs.declared.query.QQual.{QQual}
use Rattle.calculus.specs.Table.{tabled, said_by}
use Rattle.calculus.specs.Term.{Env, holds, no_aggs, values_of}

nowhere : (slot : ℕ) → slice_get {X = AggTable} [] slot ≡ None
nowhere zero = refl
nowhere (suc slot) = refl

none_said : (g : QAgg) (e : Env) → tabled [] g e ≡ None
unfolding tabled
none_said g e = ap (λ o. said_by o (values_of g.link e)) (nowhere g.slot)

-- so a qualification holds as it does where none has
pub without_tables : (q : QQual) (e : Env) → holds (tabled []) q e ≡ holds no_aggs q e
without_tables q e = λ i. holds (λ g e. none_said g e i) q e
