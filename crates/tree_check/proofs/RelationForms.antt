-- The relation that an update changes or makes, and the attributes of its new rows, by what the update does.
use Rattle.std.proofs.Common.{◌≡◌, refl, sym, ap, ◌∙◌, Bool, true, ◌&&◌, nat_eq, List, [], ◌∷◌, map, slice_get, Some, Option}
use Rattle.std.specs.List.{list_all, zip}
use Rattle.calculus.specs.declared.query.Target.{Target}
use Rattle.calculus.specs.declared.request.Update.{Update}
use Rattle.calculus.specs.declared.request.UpdateOp.TheVariants as op
use Rattle.calculus.specs.declared.schema.Attr.{Attr}
use Rattle.calculus.specs.declared.value.Kind.{Kind}
use Rattle.calculus.specs.declared.value.Kind.TheVariants as kind
use Rattle.calculus.specs.declared.value.Domain.TheVariants as domain
use Rattle.calculus.specs.Database.{Db, is_relation}
use Rattle.calculus.specs.IsDatabase.{are_stored, attrs_stand}
use Rattle.calculus.specs.Kinds.{comparable}
use Rattle.calculus.specs.QueryParts.{targets_of, vars_of}
use Rattle.calculus.specs.Replacement.{made_attr}
use Rattle.calculus.specs.Stored.{kinds_at}
use Rattle.quel_meaning.specs.Fit.{is_new, is_this_key, new_attrs, relation_fits}
use Rattle.quel_meaning.specs.KindsInQueries.{assignments_fit}

pub put : (db : Db) (u : Update) → u.op ≡ op.Append → (is_relation db u.rel && nat_eq u.old 255) ≡ relation_fits db u
put db u e = rw e refl

pub replaced : (db : Db) (u : Update) → u.op ≡ op.Replace → (is_relation db u.rel && is_this_key (slice_get (vars_of u.query) u.old) u.rel) ≡ relation_fits db u
replaced db u e = rw e refl

pub deleted : (db : Db) (u : Update) → u.op ≡ op.Delete → (is_relation db u.rel && is_this_key (slice_get (vars_of u.query) u.old) u.rel) ≡ relation_fits db u
deleted db u e = rw e refl

pub made : (db : Db) (u : Update) → u.op ≡ op.Into
    → (nat_eq u.old 255 && (is_new db u.rel.owner u.rel.name && (attrs_stand (map made_attr (targets_of u.query)) && are_stored (map made_attr (targets_of u.query))))) ≡ relation_fits db u
made db u e = rw e refl

-- ---- the kinds of new rows

kinds_made : (ts : List Target) → map (λ t. (made_attr t).kind) ts ≡ map (λ (a : Attr). a.kind) (map made_attr ts)
kinds_made [] = refl
kinds_made (t ∷ ts) = ap (λ ks. (made_attr t).kind ∷ ks) (kinds_made ts)

pub put_kinds : (db : Db) (u : Update) → u.op ≡ op.Append → kinds_at db u.rel ≡ map (λ (a : Attr). a.kind) (new_attrs db u)
put_kinds db u e = rw e refl

pub replaced_kinds : (db : Db) (u : Update) → u.op ≡ op.Replace → kinds_at db u.rel ≡ map (λ (a : Attr). a.kind) (new_attrs db u)
replaced_kinds db u e = rw e refl

pub deleted_kinds : (db : Db) (u : Update) → u.op ≡ op.Delete → kinds_at db u.rel ≡ map (λ (a : Attr). a.kind) (new_attrs db u)
deleted_kinds db u e = rw e refl

pub made_kinds : (db : Db) (u : Update) → u.op ≡ op.Into → map (λ t. (made_attr t).kind) (targets_of u.query) ≡ map (λ (a : Attr). a.kind) (new_attrs db u)
made_kinds db u e = rw e (kinds_made (targets_of u.query))

-- ---- the attributes that targets are for

abbrev assigned : List Target → List (Option Kind) → Bool
assigned ts wanted = list_all (λ (p : Target × Option Kind). comparable (Some p.0.kind) p.1) (zip ts wanted)

pub put_for : (db : Db) (u : Update) (kinds : List Kind) → u.op ≡ op.Append → map (λ (a : Attr). a.kind) (new_attrs db u) ≡ kinds
    → assigned (targets_of u.query) (map (slice_get kinds) u.places) ≡ assignments_fit db u
unfolding assignments_fit
put_for db u kinds e k = ap (λ kinds. assigned (targets_of u.query) (map (slice_get kinds) u.places)) (sym k ∙ sym (put_kinds db u e)) ∙ rw e refl

pub replaced_for : (db : Db) (u : Update) (kinds : List Kind) → u.op ≡ op.Replace → map (λ (a : Attr). a.kind) (new_attrs db u) ≡ kinds
    → assigned (targets_of u.query) (map (slice_get kinds) u.places) ≡ assignments_fit db u
unfolding assignments_fit
replaced_for db u kinds e k = ap (λ kinds. assigned (targets_of u.query) (map (slice_get kinds) u.places)) (sym k ∙ sym (replaced_kinds db u e)) ∙ rw e refl

pub deleted_for : (db : Db) (u : Update) (kinds : List Kind) → u.op ≡ op.Delete → map (λ (a : Attr). a.kind) (new_attrs db u) ≡ kinds
    → assigned (targets_of u.query) (map (slice_get kinds) u.places) ≡ assignments_fit db u
unfolding assignments_fit
deleted_for db u kinds e k = ap (λ kinds. assigned (targets_of u.query) (map (slice_get kinds) u.places)) (sym k ∙ sym (deleted_kinds db u e)) ∙ rw e refl

-- a target compares with what is made of it
made_compares : (t : Target) → comparable (Some t.kind) (Some (made_attr t).kind) ≡ true
unfolding comparable
made_compares t = go t.kind
  where
    go : (k : Kind) → comparable (Some k) (Some (made_attr (record { name = t.name; kind = k; term = t.term })).kind) ≡ true
    go kind.Wide = refl
    go (kind.Of domain.I1) = refl
    go (kind.Of domain.I2) = refl
    go (kind.Of domain.I4) = refl
    go (kind.Of (domain.C width)) = refl

all_compare : (ts : List Target) → assigned ts (map (λ t. Some (made_attr t).kind) ts) ≡ true
all_compare [] = refl
all_compare (t ∷ ts) = λ i. made_compares t i && all_compare ts i

pub made_for : (db : Db) (u : Update) → u.op ≡ op.Into → true ≡ assignments_fit db u
unfolding assignments_fit
made_for db u e = sym (all_compare (targets_of u.query)) ∙ rw e refl
