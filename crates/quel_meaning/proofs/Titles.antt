-- The titles of an update's targets are attributes of the relation that it changes.
use Rattle.std.proofs.Common.{◌≡◌, refl, sym, ap, ◌∙◌, subst, ℕ, ◌+◌, ◌<◌, ◌≤◌, nat_eq, nat_lt, nat_le, Bool, true, false, ◌||◌, List, [], ◌∷◌, map, length, get_or, Option, Some, None, arith}
use Rattle.std.specs.List.{list_all, list_any, enumerate_from}
use Rattle.std.specs.Option.{unwrap_or}
use Rattle.std.specs.Str.{bytes_eq}
use Rattle.std.proofs.lemmas.Bool.{lt-ltb, eqb-true, leb-true, le-leb}
use Rattle.std.proofs.lemmas.List.{length-map}
use Rattle.std.proofs.lemmas.List.Quantifiers.{position-Some}
use Rattle.calculus.proofs.Forms.{items_of_targets}
use Rattle.calculus.specs.declared.value.Kind.TheVariants.{Wide}
use Rattle.calculus.specs.declared.query.Target.{Target}
use Rattle.calculus.specs.declared.query.QTerm.TheVariants as qterm
use Rattle.calculus.specs.declared.schema.Attr.{Attr}
use Rattle.calculus.specs.declared.schema.RelInfo.{RelInfo}
use Rattle.calculus.specs.declared.statement.Item.{Item}
use Rattle.calculus.specs.declared.statement.Item.TheVariants as item
use Rattle.calculus.specs.declared.statement.Qual.{Qual}
use Rattle.calculus.specs.declared.statement.Statement.{Statement}
use Rattle.calculus.specs.Limits.{most_attributes}
use Rattle.calculus.specs.Lists.{differ_by, is_any}
use Rattle.calculus.specs.IsDatabase.{attrs_stand}
use Rattle.calculus.specs.Stored.{attrs_in, info_at}
use Rattle.quel_meaning.specs.Scope.{Scope, named, ranged, attr_place, place_found}
use Rattle.quel_meaning.specs.Naming.{Mention, AttrIn, AttrOf, item_mentions, query_mentions, refusal_in, attr_refusal}
use Rattle.quel_meaning.specs.WrittenParts.{aggregates_in_item, items_of, vars_in}
use Rattle.quel_meaning.specs.WrittenTree.{Vars, var_place}
use Rattle.quel_meaning.specs.WrittenQuery.{item_targets, targets_from, query_of}
use Rattle.quel_meaning.specs.StatementUpdate.{titles_of}
use Rattle.quel_meaning.proofs.Each.{Each, front_of, both_of, of_map, in_map, of_flat_map, each_to, passed, left, right, and, not_so}
use Rattle.quel_meaning.proofs.Found.{IsFound, IsRanged}
use Rattle.quel_meaning.proofs.Keys.{same_bytes, bytes_same}
use Rattle.quel_meaning.proofs.Pigeons.{at_most, not_true}

-- what was found has an attribute of this name
abbrev pub HasAttr : RelInfo → List ℕ → Type 0
HasAttr info name = attr_refusal name info ≡ None

-- ---- titles

names_kept : (P : List ℕ → Type 0) (var k : ℕ) (attrs : List Attr) → Each (λ (a : Attr). P a.name) attrs
    → Each (λ (t : Target). P t.name) (map (λ (p : ℕ × Attr). record { name = p.1.name; kind = p.1.kind; term = qterm.Attr var p.0 }) (enumerate_from k attrs))
names_kept P var k [] h = tt
names_kept P var k (a ∷ attrs) h = (h.0, names_kept P var (k + 1) attrs h.1)

item_titles : (P : List ℕ → Type 0) (s : Scope) (titled : List ℕ → List Mention) → ((a : List ℕ) → Each (IsFound s) (titled a) → P a) → (vars : Vars) (n : ℕ) (i : Item)
    → Each (IsFound s) (item_mentions s titled i) → Each (λ (t : Target). P t.name) (item_targets s vars n i)
item_titles P s titled f vars n (item.Set name term) h = (f name (front_of _ (titled name) _ h), tt)
item_titles P s titled f vars n (item.Attr var attr) h = (f attr h.1, tt)
item_titles P s titled f vars n (item.All var) h =
    names_kept P (var_place vars var) 0 (attrs_in (ranged s var))
    (each_to _ _ (λ (a : Attr) k. f a.name k) (attrs_in (ranged s var)) (of_map _ (λ (a : Attr). a.name) (attrs_in (ranged s var)) (of_flat_map _ titled _ h.1)))

items_titles : (P : List ℕ → Type 0) (s : Scope) (titled : List ℕ → List Mention) → ((a : List ℕ) → Each (IsFound s) (titled a) → P a) → (vars : Vars) (n : ℕ) (items : List Item)
    → Each (λ i. Each (IsFound s) (item_mentions s titled i)) items → Each (λ (t : Target). P t.name) (targets_from s vars n items)
items_titles P s titled f vars n [] h = tt
items_titles P s titled f vars n (i ∷ items) h =
    both_of _ (item_targets s vars n i) _ (item_titles P s titled f vars n i h.0) (items_titles P s titled f vars (n + length (aggregates_in_item i)) items h.1)

-- each title of a statement's targets is what it has to be
pub titles : (P : List ℕ → Type 0) (s : Scope) (titled : List ℕ → List Mention) → ((a : List ℕ) → Each (IsFound s) (titled a) → P a) → (stmt : Statement) (q : Qual)
    → Each (IsFound s) (query_mentions s titled (items_of stmt) q) → Each P (titles_of (query_of s stmt))
unfolding query_of
titles P s titled f stmt q h =
    in_map P (λ (t : Target). t.name) _
    (subst (Each (λ (t : Target). P t.name)) (sym (items_of_targets (targets_from s (vars_in stmt) 0 (items_of stmt))))
    (items_titles P s titled f (vars_in stmt) 0 (items_of stmt) (of_flat_map _ (item_mentions s titled) (items_of stmt) (front_of _ _ _ h))))

pub titled_in : (s : Scope) (rel : List ℕ) (info : RelInfo) → named s rel ≡ Some info → (a : List ℕ) → Each (IsFound s) (AttrIn rel a ∷ []) → HasAttr info a
titled_in s rel info e a h = subst (λ o. refusal_in (attr_refusal a) o ≡ None) e h.0

pub titled_of : (s : Scope) (var : List ℕ) (r : IsRanged s var) (a : List ℕ) → Each (IsFound s) (AttrOf var a ∷ []) → HasAttr r.info a
titled_of s var r a h =
    subst (λ o. refusal_in (attr_refusal a) o ≡ None) r.there
    (subst (λ o. ◌≡◌ {A = Option ℕ} (elim o [ None ↦ Some 11 | Some key ↦ refusal_in (attr_refusal a) (info_at s.db key) ]) None) r.declared h.0)

-- ---- places

pub record HasPlace (info : RelInfo) (name : List ℕ) : Type 0 where
  pub place : ℕ
  pub is : attr_place info.attrs name ≡ Some place
  pub below : place < length info.attrs
  pub named : (d : Attr) → (get_or info.attrs place d).name ≡ name

pub place_of : (info : RelInfo) (name : List ℕ) → HasAttr info name → HasPlace info name
place_of info name h = go (attr_place info.attrs name) refl h
  where
    go : (o : Option ℕ) → attr_place info.attrs name ≡ o → ◌≡◌ {A = Option ℕ} (elim o [ None ↦ Some 12 | Some place ↦ None ]) None → HasPlace info name
    go None e k = absurd (cc k)
    go (Some place) e k = record {
      place = place;
      is = e;
      below = (position-Some (λ (a : Attr). bytes_eq a.name name) info.attrs place (record { name = []; kind = Wide }) e).0;
      named = λ d. same_bytes _ _ (position-Some (λ (a : Attr). bytes_eq a.name name) info.attrs place d e).1;
    }

found_place : (info : RelInfo) (name : List ℕ) (p : HasPlace info name) → place_found (Some info) name ≡ p.place
found_place info name p = ap (λ o. unwrap_or o 0) p.is

pub in_range : (info : RelInfo) (name : List ℕ) → HasAttr info name → place_found (Some info) name < length info.attrs
in_range info name h = let p = place_of info name h in subst (λ k. k < length info.attrs) (sym (found_place info name p)) p.below

pub places_in_range : (info : RelInfo) (names : List (List ℕ)) → Each (HasAttr info) names
    → list_all (λ p. nat_lt p (length info.attrs)) (map (place_found (Some info)) names) ≡ true
places_in_range info names h =
    passed (λ p. nat_lt p (length info.attrs)) _ (in_map _ (place_found (Some info)) names (each_to _ _ (λ name k. lt-ltb _ _ (in_range info name k)) names h))

same_place : (info : RelInfo) (m n : List ℕ) → HasAttr info m → HasAttr info n → place_found (Some info) m ≡ place_found (Some info) n → m ≡ n
same_place info m n h k e =
    let p = place_of info m h in
    let r = place_of info n k in
    let d : Attr = record { name = []; kind = Wide } in
    let same : p.place ≡ r.place = sym (found_place info m p) ∙ e ∙ found_place info n r in
    sym (p.named d) ∙ ap (λ i. (get_or info.attrs i d).name) same ∙ r.named d

none_again : (info : RelInfo) (m : List ℕ) (names : List (List ℕ)) → HasAttr info m → Each (HasAttr info) names → list_any (bytes_eq m) names ≡ false
    → list_any (nat_eq (place_found (Some info) m)) (map (place_found (Some info)) names) ≡ false
none_again info m [] h k e = refl
none_again info m (n ∷ names) h k e = go (none_again info m names h k.1) (bytes_eq m n) (nat_eq (place_found (Some info) m) (place_found (Some info) n)) refl refl e
  where
    go : (list_any (bytes_eq m) names ≡ false → list_any (nat_eq (place_found (Some info) m)) (map (place_found (Some info)) names) ≡ false)
        → (b c : Bool) → bytes_eq m n ≡ b → nat_eq (place_found (Some info) m) (place_found (Some info) n) ≡ c → (b || list_any (bytes_eq m) names) ≡ false
        → (c || list_any (nat_eq (place_found (Some info) m)) (map (place_found (Some info)) names)) ≡ false
    go later true c f g e = absurd (cc e)
    go later false true f g e = absurd (cc (f, bytes_same m n (same_place info m n h k.0 (eqb-true _ _ g))))
    go later false false f g e = later e

-- different names have different places
pub places_differ : (info : RelInfo) (names : List (List ℕ)) → Each (HasAttr info) names → differ_by bytes_eq names ≡ true
    → differ_by nat_eq (map (place_found (Some info)) names) ≡ true
places_differ info [] h k = refl
places_differ info (n ∷ names) h k =
    and _ _ (not_so _ (none_again info n names h.0 h.1 (not_true _ (left _ _ k)))) (places_differ info names h.1 (right _ _ k))

few_attrs : (attrs : List Attr) → attrs_stand attrs ≡ true → length attrs ≤ most_attributes
few_attrs attrs stands = let short : nat_le (length attrs) most_attributes ≡ true = left _ _ (right (is_any attrs) _ stands) in leb-true _ _ short

-- different attributes of what a database has are few
pub few_titles : (info : RelInfo) (names : List (List ℕ)) → attrs_stand info.attrs ≡ true → Each (HasAttr info) names → differ_by bytes_eq names ≡ true
    → nat_le (length names) most_attributes ≡ true
few_titles info names stands h k =
    let places = at_most (length info.attrs) (map (place_found (Some info)) names) (in_map _ (place_found (Some info)) names (each_to _ _ (λ name e. in_range info name e) names h)) (places_differ info names h k) in
    le-leb _ _ (omega (arith, places, length-map names (place_found (Some info)), few_attrs info.attrs stands))
