-- Without tables no aggregate has a value.
use Rattle.std.proofs.Common.{◌≡◌, refl, []}
use Rattle.calculus.specs.declared.query.QQual.{QQual}
use Rattle.calculus.specs.Table.{tabled}
use Rattle.calculus.specs.Term.{Env, holds, no_aggs}

pub untabled : (q : QQual) (e : Env) → holds (tabled []) q e ≡ holds no_aggs q e
unfolding tabled
untabled q e = refl
