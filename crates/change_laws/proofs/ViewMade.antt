-- A view of a query: what is known of it, and what stands with it.
use Rattle.std.proofs.Common.{◌≡◌, refl, sym, ap, ℕ, true, false, not, IsTrue, List, [], ◌∷◌, None, map}
use Rattle.std.specs.Prelude.{is_some}
use Rattle.std.specs.List.{AllByRecursion}
use Rattle.std.proofs.lemmas.Bool.Decides.{Decides-eqb}
use Rattle.std.proofs.lemmas.Slice.Eq.{bytes_eq-Decides}
use Rattle.calculus.specs.declared.value.Domain.{Domain}
use Rattle.calculus.specs.declared.value.Domain.TheVariants.{I1, I2, I4, C}
use Rattle.calculus.specs.declared.value.Kind.{Kind}
use Rattle.calculus.specs.declared.value.Kind.TheVariants.{Of, Wide}
use Rattle.calculus.specs.declared.query.RelKey.{RelKey}
use Rattle.calculus.specs.declared.query.Query.{Query}
use Rattle.calculus.specs.declared.query.Target.{Target}
use Rattle.calculus.specs.declared.schema.Attr.{Attr}
use Rattle.calculus.specs.declared.schema.RelInfo.{RelInfo}
use Rattle.calculus.specs.declared.schema.Spec.{Spec}
use Rattle.calculus.specs.declared.schema.Spec.TheVariants as spec
use Rattle.calculus.specs.Keys.{same_key}
use Rattle.calculus.specs.Lists.{is_any}
use Rattle.calculus.specs.Database.{Db, View}
use Rattle.calculus.specs.Stored.{range_at}
use Rattle.calculus.specs.QueryParts.{vars_of, targets_of}
use Rattle.calculus.specs.IsDatabase.{IsDatabase, valid_view_info, attrs_are_targets, same_domain, same_kind, vars_are_there}
use Rattle.calculus.specs.Structures.{is_view}
use Rattle.quel_meaning.specs.Planned.{view_info, target_attr}
use Rattle.plan_laws.proofs.Kept.{both}
use Rattle.plan_laws.proofs.Created.{each_true, each_from, ranged_is_other, viewed_is_found, found_has}
use Rattle.plan_laws.proofs.Staying.{Staying}
use Rattle.plan_laws.proofs.ViewMade.{viewed, ranges_viewed}

-- ---- what is known of it

domain_is : (d e : Domain) → same_domain d e ≡ true → d ≡ e
domain_is I1 I1 h = refl
domain_is I1 I2 h = cc h
domain_is I1 I4 h = cc h
domain_is I1 (C n) h = cc h
domain_is I2 I1 h = cc h
domain_is I2 I2 h = refl
domain_is I2 I4 h = cc h
domain_is I2 (C n) h = cc h
domain_is I4 I1 h = cc h
domain_is I4 I2 h = cc h
domain_is I4 I4 h = refl
domain_is I4 (C n) h = cc h
domain_is (C m) I1 h = cc h
domain_is (C m) I2 h = cc h
domain_is (C m) I4 h = cc h
domain_is (C m) (C n) h = ap C ((Decides-eqb m n).0 h)

kind_is : (k l : Kind) → same_kind k l ≡ true → k ≡ l
kind_is Wide Wide h = refl
kind_is Wide (Of e) h = cc h
kind_is (Of d) Wide h = cc h
kind_is (Of d) (Of e) h = ap Of (domain_is d e h)

attrs_are : (attrs : List Attr) (ts : List Target) → IsTrue (attrs_are_targets attrs ts) → attrs ≡ map target_attr ts
attrs_are [] [] t = refl
attrs_are [] (t ∷ ts) h = cc h
attrs_are (a ∷ attrs) [] h = cc h
attrs_are (a ∷ attrs) (t ∷ ts) h =
    let name = both _ _ h in
    let kind = both (same_kind a.kind t.kind) (attrs_are_targets attrs ts) name.1 in
    λ i. record { name = (bytes_eq-Decides a.name t.name).0 name.0 i; kind = kind_is a.kind t.kind kind.0 i } ∷ attrs_are attrs ts kind.1 i

no_keys : (keys : List ℕ) → IsTrue (not (is_any keys)) → keys ≡ []
no_keys [] t = refl
no_keys (k ∷ keys) t = cc t

-- a view is kept as nothing else
the_view : (s : Spec) → IsTrue (is_view s) → s ≡ spec.View
the_view spec.View t = refl
the_view _ t = cc t

-- what is kept as a view, with the targets of a query as its attributes, is what is known of a view of it
pub view_known : (info : RelInfo) (q : Query) → IsTrue (valid_view_info info) → IsTrue (attrs_are_targets info.attrs (targets_of q)) → view_info info.key q ≡ info
view_known info q kept targets =
    let view = both (is_view info.spec) (not (is_any info.keys)) kept in
    λ i. record { key = info.key; spec = sym (the_view info.spec view.0) i; attrs = sym (attrs_are info.attrs (targets_of q) targets) i; keys = sym (no_keys info.keys view.1) i }

-- ---- what stands with it

-- the variables of a query over what is there have other keys than one under which there is nothing
vars_other : (db : Db) (rel : RelKey) (q : Query) → range_at db rel ≡ None → IsTrue (vars_are_there db q) → AllByRecursion (λ key. same_key rel key ≡ false) (vars_of q)
vars_other db rel q nothing t = each_from _ (λ key. same_key rel key ≡ false) (vars_of q) (each_true (λ key. is_some (range_at db key)) (vars_of q) t) (λ key there. ranged_is_other db rel key nothing there)

-- what has another key stays
pub staying : (db : Db) (new : View) → IsDatabase db → range_at db new.info.key ≡ None → Staying (λ key. same_key new.info.key key ≡ false) db (viewed db new)
staying db new is nothing = record {
  ranges = λ key other. ranges_viewed db new key other;
  relations = λ key other. refl;
  closed = λ key view other found. vars_other db new.info.key view.query nothing
      (found_has (λ v. IsTrue (vars_are_there db v.query)) (λ v. same_key v.info.key key) db.views view (each_true (λ v. vars_are_there db v.query) db.views is.views_name_what_is_there) (viewed_is_found db key view found));
}
