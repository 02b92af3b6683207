use Rattle.std.proofs.Common.{◌≡◌, refl, sym, subst, List}
use Rattle.std.specs.Prelude.{slice_set}
use Rattle.calculus.specs.Keys.{key_cmp}
use Rattle.calculus.specs.Lists.{insert_by}
use Rattle.calculus.specs.declared.query.RelKey.{RelKey}
use Rattle.catalog_moves.proofs.key_set.keeping.put_key.Goals as goal

pub returns-in-Ok-clause-put : goal.returns-in-Ok-clause-put
returns-in-Ok-clause-put c =
    subst (λ (l : List RelKey). slice_set l c.in-Ok.at c.args.key ≡ insert_by key_cmp c.args.key l) c.deref.ensures.value (sym (c.in-Ok.ensures.put_at c.args.key refl))
