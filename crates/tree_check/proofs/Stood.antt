-- What stands under a key, told by what is known of it.
use Rattle.std.proofs.Common.{◌≡◌, refl, sym, ap, ◌∙◌, ℕ, suc, ◌&&◌, nat_lt, List, [], ◌∷◌, map, length, Option, Some, is_some}
use Rattle.std.specs.List.{list_all}
use Rattle.calculus.specs.declared.query.RelKey.{RelKey}
use Rattle.calculus.specs.declared.request.CopyCol.{CopyCol}
use Rattle.calculus.specs.declared.schema.Attr.{Attr}
use Rattle.calculus.specs.declared.schema.RelInfo.{RelInfo}
use Rattle.calculus.specs.Database.{Db}
use Rattle.calculus.specs.IsDatabase.{permit_attrs_stand}
use Rattle.calculus.specs.Stored.{info_at, attrs_at, attrs_in, kinds_at}
use Rattle.quel_meaning.specs.Fit.{columns_fit}
use Rattle.quel_meaning.specs.FitQueries.{can_be_ranged_over}
use Rattle.tree_check.specs.Columned.{columns_are_fit}

-- columns of what is known are fit by its attributes
pub copied : (db : Db) (rel : RelKey) (columns : List CopyCol) (info : Option RelInfo) (i : RelInfo) → info ≡ info_at db rel → info ≡ Some i
    → columns_are_fit i.attrs columns ≡ (can_be_ranged_over db rel && columns_fit db rel columns)
copied db rel columns info i e h = sym (ap (λ (o : Option RelInfo). is_some o && columns_are_fit (attrs_in o) columns) (sym e ∙ h))

as_many : (attrs : List Attr) → length (map (λ (a : Attr). a.kind) attrs) ≡ length attrs
as_many [] = refl
as_many (a ∷ attrs) = ap suc (as_many attrs)

-- places of kinds are places of attributes
pub attrs_listed : (db : Db) (rel : RelKey) (items attrs : List ℕ) → items ≡ attrs → list_all (λ a. nat_lt a (length (kinds_at db rel))) items ≡ permit_attrs_stand db rel attrs
attrs_listed db rel items attrs e = λ i. list_all (λ a. nat_lt a (as_many (attrs_at db rel) i)) (e i)
