-- What is found in lists that are mapped, or one behind the other.
use Rattle.std.proofs.Common.{◌≡◌, refl, sym, ap, ◌∙◌, Bool, true, false, cond, List, [], ◌∷◌, ◌++◌, map, Option, Some, None}
use Rattle.std.proofs.lemmas.List.Folds.{find-append}
use Rattle.std.specs.List.{find}
use Rattle.std.specs.Option.{option_map, option_or}
use Rattle.calculus.specs.declared.query.RelKey.{RelKey}
use Rattle.calculus.specs.declared.schema.RelInfo.{RelInfo}
use Rattle.calculus.specs.Keys.{same_key}
use Rattle.calculus.specs.Database.{Db, Relation, Index, View, entry_at}

-- the first of the mapped items is the first item, mapped
pub find_mapped : {X Y : Type 0} (p : Y → Bool) (f : X → Y) (xs : List X) → find p (map f xs) ≡ option_map f (find (λ x. p (f x)) xs)
find_mapped p f [] = refl
find_mapped p f (x ∷ xs) = go (p (f x)) (find_mapped p f xs)
  where
    go : (b : Bool) → find p (map f xs) ≡ option_map f (find (λ x. p (f x)) xs)
        → cond b (Some (f x)) (find p (map f xs)) ≡ option_map f (cond b (Some x) (find (λ x. p (f x)) xs))
    go true e = refl
    go false e = e

-- the key is that of what is known
abbrev pub has_this_key : RelKey → RelInfo → Bool
has_this_key key info = same_key info.key key

-- what stands under a key is a relation, else a view, else an index
pub entry_parts : (db : Db) (key : RelKey)
    → entry_at db key ≡ option_or (find (has_this_key key) (map (λ r. r.info) db.relations))
    (option_or (find (has_this_key key) (map (λ v. v.info) db.views)) (find (has_this_key key) (map (λ x. x.info) db.indexes)))
entry_parts db key =
    find-append (has_this_key key) (map (λ r. r.info) db.relations) (map (λ v. v.info) db.views ++ map (λ x. x.info) db.indexes)
    ∙ ap (option_or (find (has_this_key key) (map (λ r. r.info) db.relations)))
    (find-append (has_this_key key) (map (λ v. v.info) db.views) (map (λ x. x.info) db.indexes))

pub mapped_found : {X Y : Type 0} (p : Y → Bool) (f : X → Y) (xs : List X) (o : Option X) → o ≡ find (λ x. p (f x)) xs → option_map f o ≡ find p (map f xs)
mapped_found p f xs o e = ap (option_map f) e ∙ sym (find_mapped p f xs)

pub entry_first : (db : Db) (key : RelKey) (info : RelInfo) → Some info ≡ find (has_this_key key) (map (λ r. r.info) db.relations) → Some info ≡ entry_at db key
entry_first db key info e = ap (λ o. option_or o (option_or (find (has_this_key key) (map (λ v. v.info) db.views)) (find (has_this_key key) (map (λ x. x.info) db.indexes)))) e ∙ sym (entry_parts db key)

pub entry_second : (db : Db) (key : RelKey) (info : RelInfo) → None ≡ find (has_this_key key) (map (λ r. r.info) db.relations)
    → Some info ≡ find (has_this_key key) (map (λ v. v.info) db.views) → Some info ≡ entry_at db key
entry_second db key info n e =
    ap (λ o. option_or o (find (has_this_key key) (map (λ x. x.info) db.indexes))) e
    ∙ ap (λ o. option_or o (option_or (find (has_this_key key) (map (λ v. v.info) db.views)) (find (has_this_key key) (map (λ x. x.info) db.indexes)))) n
    ∙ sym (entry_parts db key)

pub entry_third : (db : Db) (key : RelKey) (o : Option RelInfo) → None ≡ find (has_this_key key) (map (λ r. r.info) db.relations)
    → None ≡ find (has_this_key key) (map (λ v. v.info) db.views) → o ≡ find (has_this_key key) (map (λ x. x.info) db.indexes) → o ≡ entry_at db key
entry_third db key o n m e =
    e ∙ ap (λ o. option_or o (find (has_this_key key) (map (λ x. x.info) db.indexes))) m
    ∙ ap (λ o. option_or o (option_or (find (has_this_key key) (map (λ v. v.info) db.views)) (find (has_this_key key) (map (λ x. x.info) db.indexes)))) n
    ∙ sym (entry_parts db key)

pub among_relations : (key : RelKey) (o : Option RelInfo) (xs ys : List Relation) → xs ≡ ys → o ≡ find (has_this_key key) (map (λ r. r.info) xs)
    → o ≡ find (has_this_key key) (map (λ r. r.info) ys)
among_relations key o xs ys e h = h ∙ ap (λ (rs : List Relation). find (has_this_key key) (map (λ r. r.info) rs)) e

pub among_views : (key : RelKey) (o : Option RelInfo) (xs ys : List View) → xs ≡ ys → o ≡ find (has_this_key key) (map (λ v. v.info) xs)
    → o ≡ find (has_this_key key) (map (λ v. v.info) ys)
among_views key o xs ys e h = h ∙ ap (λ (vs : List View). find (has_this_key key) (map (λ v. v.info) vs)) e

pub among_indexes : (key : RelKey) (o : Option RelInfo) (xs ys : List Index) → xs ≡ ys → o ≡ find (has_this_key key) (map (λ x. x.info) xs)
    → o ≡ find (has_this_key key) (map (λ x. x.info) ys)
among_indexes key o xs ys e h = h ∙ ap (λ (is : List Index). find (has_this_key key) (map (λ x. x.info) is)) e
