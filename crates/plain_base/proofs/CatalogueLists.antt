-- The rows of the catalogues, built list by list.
use Rattle.std.proofs.Common.{◌≡◌, refl, sym, ap, ◌∙◌, ℕ, zero, suc, ◌+◌, ◌<◌, List, [], ◌∷◌, ◌++◌, length, take, map, get_or, slice_index_or, append_assoc, rules, arith}
use Rattle.std.proofs.lemmas.List.{flat_map_more, map-append, map_more}
use Rattle.std.proofs.lemmas.Grind.{flat_map-append}
use Rattle.std.specs.List.{enumerate_from, flat_map}
use Rattle.calculus.specs.declared.schema.RelInfo.{RelInfo}
use Rattle.calculus.specs.Catalogue.{relation_info, attribute_info, all_entries}
use Rattle.calculus.specs.Database.{Db, Relation, View, Index}

moved : (n i : ℕ) → i + (n + 1) ≡ suc i + n
moved n i = omega arith

-- one numbered item more
numbered_more : {X Y : Type 0} (f : ℕ × X → Y) (n : ℕ) (xs : List X) (i : ℕ) (d : X) → i < length xs
    → map f (enumerate_from n (take (suc i) xs)) ≡ map f (enumerate_from n (take i xs)) ++ f (i + n, slice_index_or xs i d) ∷ []
numbered_more f n [] i d h = absurd (omega (arith, h))
numbered_more f n (x ∷ xs) zero d h = let e : n ≡ 0 + n = omega arith in ap (λ m. f (m, x) ∷ []) e
numbered_more f n (x ∷ xs) (suc i) d h =
    ap (λ ys. f (n, x) ∷ ys) (numbered_more f (n + 1) xs i d (search rules)
    ∙ ap (λ m. map f (enumerate_from (n + 1) (take i xs)) ++ f (m, slice_index_or xs i d) ∷ []) (moved n i))

pub numbered_next : {X Y : Type 0} (f : ℕ × X → Y) (n : ℕ) (xs : List X) (i : ℕ) (d : X) → i < length xs
    → map f (enumerate_from n (take (i + 1) xs)) ≡ map f (enumerate_from n (take i xs)) ++ f (i + n, slice_index_or xs i d) ∷ []
numbered_next f n xs i d h =
    let e : i + 1 ≡ suc i = omega arith in
    ap (λ k. map f (enumerate_from n (take k xs))) e ∙ numbered_more f n xs i d h

-- the catalogues, relations, views and indexes one behind the other, for any rows of each
pub lists_joined : {Y : Type 0} (f : RelInfo → List Y) (db : Db) (catalogues relations views indexes : List Y)
    → catalogues ≡ f (relation_info db) ++ f (attribute_info db) → relations ≡ catalogues ++ flat_map f (map (λ r. r.info) db.relations)
    → views ≡ relations ++ flat_map f (map (λ v. v.info) db.views) → indexes ≡ views ++ flat_map f (map (λ x. x.info) db.indexes)
    → indexes ≡ flat_map f (all_entries db)
lists_joined f db catalogues relations views indexes c r v x =
    let rs = map (λ (r : Relation). r.info) db.relations in
    let vs = map (λ (v : View). v.info) db.views in
    let xs = map (λ (x : Index). x.info) db.indexes in
    x ∙ ap (λ ys. ys ++ flat_map f xs) (v ∙ ap (λ ys. ys ++ flat_map f vs) (r ∙ ap (λ ys. ys ++ flat_map f rs) c))
    ∙ append_assoc _ (flat_map f vs) (flat_map f xs)
    ∙ append_assoc _ (flat_map f rs) (flat_map f vs ++ flat_map f xs)
    ∙ append_assoc (f (relation_info db)) (f (attribute_info db)) (flat_map f rs ++ (flat_map f vs ++ flat_map f xs))
    ∙ ap (λ ys. f (relation_info db) ++ (f (attribute_info db) ++ ys))
    (sym (flat_map-append f rs (vs ++ xs) ∙ ap (λ ys. flat_map f rs ++ ys) (flat_map-append f vs xs)))

pub one_each : {X Y : Type 0} (f : X → Y) (xs : List X) → flat_map (λ x. f x ∷ []) xs ≡ map f xs
one_each f [] = refl
one_each f (x ∷ xs) = ap (λ ys. f x ∷ ys) (one_each f xs)

-- the parts for one more, behind those for the ones before
pub parts_next : {T X Y : Type 0} (f : X → List Y) (g : T → X) (ts : List T) (i : ℕ) (t : T) (given before after : List Y) → i < length ts → t ≡ get_or ts i t
    → before ≡ given ++ flat_map f (map g (take i ts)) → after ≡ before ++ f (g t) → after ≡ given ++ flat_map f (map g (take (i + 1) ts))
parts_next f g ts i t given before after h is so_far more =
    more ∙ ap (λ ys. ys ++ f (g t)) so_far ∙ flat_map_more f given (map g (take i ts)) (g t)
    ∙ ap (λ xs. given ++ flat_map f xs) (ap (λ u. map g (take i ts) ++ g u ∷ []) is ∙ sym (map_more g ts i t h))

-- the item for one more, behind those for the ones before
pub item_next : {T X Y : Type 0} (f : X → Y) (g : T → X) (ts : List T) (i : ℕ) (t : T) (given before after : List Y) → i < length ts → t ≡ get_or ts i t
    → before ≡ given ++ map f (map g (take i ts)) → after ≡ before ++ f (g t) ∷ [] → after ≡ given ++ map f (map g (take (i + 1) ts))
item_next f g ts i t given before after h is so_far more =
    more ∙ ap (λ ys. ys ++ f (g t) ∷ []) so_far ∙ append_assoc given (map f (map g (take i ts))) (f (g t) ∷ [])
    ∙ ap (λ ys. given ++ ys)
    (sym (map-append f (map g (take i ts)) (g t ∷ [])) ∙ ap (map f) (ap (λ u. map g (take i ts) ++ g u ∷ []) is ∙ sym (map_more g ts i t h)))
