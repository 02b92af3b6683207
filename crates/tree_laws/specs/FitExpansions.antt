-- Texts that are fit for what stands under a key.
use Rattle.std.specs.Prelude.{◌≡◌, ℕ, true, map, slice_get, is_some}
use Rattle.std.specs.List.{list_all}
use Rattle.calculus.specs.declared.query.RelKey.{RelKey}
use Rattle.calculus.specs.Database.{Db}
use Rattle.calculus.specs.Kinds.{kind_of, kinds_fit}
use Rattle.calculus.specs.Stored.{kinds_at}
use Rattle.quel_meaning.specs.FitQueries.{is_kept}
use Rattle.view_text.specs.declared.expansion.Expansion.{Expansion}
use Rattle.view_text.specs.Expansions.{attr_term}

-- the expansion ranges over what is kept, the terms of the attributes that are there have their kinds, and the kinds in its conditions fit
pub record IsFit (db : Db) (key : RelKey) (expansion : Expansion) : Type 0 where
  pub kept : list_all (is_kept db) expansion.vars ≡ true
  pub kinds : (a : ℕ) → is_some (slice_get (kinds_at db key) a) ≡ true → kind_of (attr_term expansion a) (map (kinds_at db) expansion.vars) ≡ slice_get (kinds_at db key) a
  pub conditions : list_all (λ q. kinds_fit q (map (kinds_at db) expansion.vars)) expansion.conditions ≡ true
