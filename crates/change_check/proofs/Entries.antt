-- What stands under a key: relations, views and indexes.
use Rattle.std.proofs.Common.{◌≡◌, refl, sym, ap, ◌∙◌, true, false, Option, Some, None}
use Rattle.std.specs.Option.{option_map}
use Rattle.calculus.specs.declared.query.RelKey.{RelKey}
use Rattle.calculus.specs.declared.schema.RelInfo.{RelInfo}
use Rattle.calculus.specs.Database.{Db, Relation, entry_at}
use Rattle.calculus.specs.Catalogue.{is_catalogue_name}
use Rattle.calculus.specs.IsDatabase.{IsDatabase}
use Rattle.base_trait.specs.Known.{known_at}
use Rattle.quel_refusals.proofs.Entries.{no_catalogue, named_apart}

-- under a name that is no catalogue's, all that is known is an entry
pub entry_known : (db : Db) (key : RelKey) → is_catalogue_name key.name ≡ false → known_at db key ≡ entry_at db key
unfolding known_at
entry_known db key h =
    ap (λ (c : Option Relation). elim (entry_at db key) as (λ x. Option RelInfo) [ Some info ↦ Some info | None ↦ option_map (λ r. r.info) c ]) (no_catalogue db key h)
    ∙ go (entry_at db key)
  where
    go : (o : Option RelInfo) → (elim o as (λ x. Option RelInfo) [ Some info ↦ Some info | None ↦ option_map (λ (r : Relation). r.info) None ]) ≡ o
    go None = refl
    go (Some info) = refl

-- under a catalogue's name there is no entry
pub entry_none : (db : Db) → IsDatabase db → (key : RelKey) → is_catalogue_name key.name ≡ true → None ≡ entry_at db key
entry_none db is key h = go (entry_at db key) refl
  where
    go : (o : Option RelInfo) → entry_at db key ≡ o → None ≡ o
    go None e = refl
    go (Some info) e = absurd (cc (sym h ∙ named_apart db is key info e))
