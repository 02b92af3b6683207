-- The targets of a written statement have names, and kinds that an attribute may have.
use Rattle.std.proofs.Common.{◌≡◌, refl, sym, subst, ℕ, zero, suc, ◌+◌, ◌<◌, true, List, [], ◌∷◌, ◌++◌, map, length, get_or, Option, Some, None, arith}
use Rattle.std.specs.List.{enumerate_from, list_all}
use Rattle.std.specs.Option.{unwrap_or}
use Rattle.calculus.proofs.Forms.{items_of_targets}
use Rattle.calculus.specs.declared.query.QTerm.TheVariants as qterm
use Rattle.calculus.specs.declared.query.Target.{Target}
use Rattle.calculus.specs.declared.schema.Attr.{Attr}
use Rattle.calculus.specs.declared.statement.Item.{Item}
use Rattle.calculus.specs.declared.statement.Item.TheVariants as item
use Rattle.calculus.specs.declared.statement.Qual.{Qual}
use Rattle.calculus.specs.declared.statement.Statement.{Statement}
use Rattle.calculus.specs.declared.statement.Term.{Attr as Dot}
use Rattle.calculus.specs.declared.value.Kind.{Kind}
use Rattle.calculus.specs.declared.value.Kind.TheVariants.{Wide}
use Rattle.calculus.specs.IsDatabase.{IsDatabase, is_kind}
use Rattle.calculus.specs.Lists.{is_any}
use Rattle.calculus.specs.Name.{is_name}
use Rattle.calculus.specs.QueryParts.{targets_of}
use Rattle.calculus.specs.Stored.{attrs_in, kinds_at}
use Rattle.quel_meaning.specs.IsWritten.{item_is_written, items_are_written}
use Rattle.quel_meaning.specs.KindsInQueries.{kind_in_query}
use Rattle.quel_meaning.specs.Naming.{Mention, item_mentions, query_mentions, no_refusal, attr_refusal}
use Rattle.quel_meaning.specs.Scope.{Scope}
use Rattle.quel_meaning.specs.WrittenParts.{aggregates_in_item, items_of, vars_in}
use Rattle.quel_meaning.specs.WrittenTree.{Vars, var_place, key_over, term_tree}
use Rattle.quel_meaning.specs.WrittenQuery.{kinds_over, item_targets, targets_from, query_of}
use Rattle.quel_meaning.proofs.DatabaseFacts.{HaveStood, info_stands, stood}
use Rattle.quel_meaning.proofs.Each.{Each, front_of, both_of, in_map, of_flat_map, each_passes, left, right}
use Rattle.quel_meaning.proofs.Found.{IsFound, IsRanged, RangedWith, ranged_with, ranged_is}
use Rattle.quel_meaning.proofs.LawfulKinds.{IsKind, AreKinds, kinds_stored, term_lawful}
use Rattle.quel_meaning.proofs.Titles.{HasPlace, place_of}

-- what has a name, and a kind that an attribute may have
abbrev pub IsGood : List ℕ → Kind → Type 0
IsGood name kind = (is_name name ≡ true) × IsKind kind

every : {X : Type 0} (P : X → Type 0) → ((x : X) → P x) → (xs : List X) → Each P xs
every P f [] = tt
every P f (x ∷ xs) = (f x, every P f xs)

at_place : {X : Type 0} (P : X → Type 0) (xs : List X) (i : ℕ) (d : X) → Each P xs → i < length xs → P (get_or xs i d)
at_place P [] i d h lt = absurd (omega (arith, lt))
at_place P (x ∷ xs) zero d h lt = h.0
at_place P (x ∷ xs) (suc i) d h lt = at_place P xs i d h.1 (omega (arith, lt))

good_attrs : (attrs : List Attr) → HaveStood attrs → Each (λ (a : Attr). IsGood a.name a.kind) attrs
good_attrs attrs h = together attrs (each_passes (λ (a : Attr). is_name a.name) attrs h.named) (each_passes (λ (a : Attr). is_kind a.kind) attrs h.kinds)
  where
    together : (attrs : List Attr) → Each (λ (a : Attr). is_name a.name ≡ true) attrs → Each (λ (a : Attr). is_kind a.kind ≡ true) attrs
        → Each (λ (a : Attr). IsGood a.name a.kind) attrs
    together [] h k = tt
    together (a ∷ attrs) h k = ((h.0, k.0), together attrs h.1 k.1)

all_good : (var k : ℕ) (attrs : List Attr) → Each (λ (a : Attr). IsGood a.name a.kind) attrs
    → Each (λ (t : Target). IsGood t.name t.kind) (map (λ (p : ℕ × Attr). record { name = p.1.name; kind = p.1.kind; term = qterm.Attr var p.0 }) (enumerate_from k attrs))
all_good var k [] h = tt
all_good var k (a ∷ attrs) h = (h.0, all_good var (k + 1) attrs h.1)

stood_at : (s : Scope) → IsDatabase s.db → (var : List ℕ) (r : IsRanged s var) → HaveStood r.info.attrs
stood_at s is var r = stood r.info.attrs (info_stands s.db is r.key r.info r.there)

kinds_lawful : (s : Scope) → IsDatabase s.db → (vars : Vars) → AreKinds (kinds_over s vars)
kinds_lawful s is vars = in_map (λ (kinds : List Kind). Each IsKind kinds) (λ var. kinds_at s.db (key_over s var)) vars (every _ (λ var. kinds_stored s.db is (key_over s var)) vars)

unwrapped : (o : Option Kind) → ((k : Kind) → o ≡ Some k → IsKind k) → IsKind (unwrap_or o Wide)
unwrapped None f = refl
unwrapped (Some k) f = f k refl

item_good : (s : Scope) → IsDatabase s.db → (titled : List ℕ → List Mention) (vars : Vars) (n : ℕ) (i : Item) → item_is_written i ≡ true
    → Each (IsFound s) (item_mentions s titled i)
    → Each (λ (t : Target). IsGood t.name t.kind) (item_targets s vars n i)
item_good s is titled vars n (item.Set name term) w h =
    ((left _ _ w, unwrapped (kind_in_query s.db (term_tree s vars n term) (kinds_over s vars)) (λ k e. term_lawful s is vars n term (kinds_over s vars) (kinds_lawful s is vars) (right (is_name name) _ w) k e)), tt)
item_good s is titled vars n (item.Attr var attr) w h = (
  (
    subst (λ name. is_name name ≡ true) (place.named d) (at_place (λ (a : Attr). is_name a.name ≡ true) r.is.info.attrs place.place d (each_passes (λ (a : Attr). is_name a.name) r.is.info.attrs (stood_at s is var r.is).named) place.below),
    unwrapped (kind_in_query s.db (term_tree s vars n (Dot var attr)) (kinds_over s vars)) (λ k e. term_lawful s is vars n (Dot var attr) (kinds_over s vars) (kinds_lawful s is vars) refl k e),
  ),
  tt,
)
  where
    r : RangedWith s var (attr_refusal attr)
    r = ranged_with s (attr_refusal attr) var h.0

    d : Attr
    d = record { name = []; kind = Wide }

    place : HasPlace r.is.info attr
    place = place_of r.is.info attr r.fine
item_good s is titled vars n (item.All var) w h =
    let r = (ranged_with s no_refusal var h.0).is in
    subst (λ o. Each (λ (t : Target). IsGood t.name t.kind) (map (λ (p : ℕ × Attr). record { name = p.1.name; kind = p.1.kind; term = qterm.Attr (var_place vars var) p.0 }) (enumerate_from 0 (attrs_in o)))) (sym (ranged_is s var r))
    (all_good (var_place vars var) 0 r.info.attrs (good_attrs r.info.attrs (stood_at s is var r)))

items_good : (s : Scope) → IsDatabase s.db → (titled : List ℕ → List Mention) (vars : Vars) (n : ℕ) (items : List Item) → Each (λ i. item_is_written i ≡ true) items
    → Each (λ i. Each (IsFound s) (item_mentions s titled i)) items → Each (λ (t : Target). IsGood t.name t.kind) (targets_from s vars n items)
items_good s is titled vars n [] w h = tt
items_good s is titled vars n (i ∷ items) w h =
    both_of _ (item_targets s vars n i) _ (item_good s is titled vars n i w.0 h.0) (items_good s is titled vars (n + length (aggregates_in_item i)) items w.1 h.1)

-- the targets of a written statement whose names were found are good, where its target list may be empty
pub items_targets_good : (s : Scope) → IsDatabase s.db → (titled : List ℕ → List Mention) (stmt : Statement) (q : Qual) → list_all item_is_written (items_of stmt) ≡ true
    → Each (IsFound s) (query_mentions s titled (items_of stmt) q) → Each (λ (t : Target). IsGood t.name t.kind) (targets_from s (vars_in stmt) 0 (items_of stmt))
items_targets_good s is titled stmt q w h =
    items_good s is titled (vars_in stmt) 0 (items_of stmt) (each_passes item_is_written (items_of stmt) w) (of_flat_map _ (item_mentions s titled) (items_of stmt) (front_of _ _ _ h))

-- so are those of its query
pub targets_good : (s : Scope) → IsDatabase s.db → (titled : List ℕ → List Mention) (stmt : Statement) (q : Qual) → items_are_written (items_of stmt) ≡ true
    → Each (IsFound s) (query_mentions s titled (items_of stmt) q) → Each (λ (t : Target). IsGood t.name t.kind) (targets_of (query_of s stmt))
unfolding query_of
targets_good s is titled stmt q w h =
    subst (Each (λ (t : Target). IsGood t.name t.kind)) (sym (items_of_targets (targets_from s (vars_in stmt) 0 (items_of stmt))))
    (items_targets_good s is titled stmt q (right (is_any (items_of stmt)) _ w) h)

-- ---- there is a target

pub some_more : {X : Type 0} (xs ys : List X) → is_any xs ≡ true → is_any (xs ++ ys) ≡ true
some_more [] ys h = absurd (cc h)
some_more (x ∷ xs) ys h = refl

some_attr : (var : ℕ) (attrs : List Attr) → is_any attrs ≡ true
    → is_any (map (λ (p : ℕ × Attr). let t : Target = record { name = p.1.name; kind = p.1.kind; term = qterm.Attr var p.0 } in t) (enumerate_from 0 attrs)) ≡ true
some_attr var [] h = absurd (cc h)
some_attr var (a ∷ attrs) h = refl

item_gives : (s : Scope) → IsDatabase s.db → (titled : List ℕ → List Mention) (vars : Vars) (n : ℕ) (i : Item) → Each (IsFound s) (item_mentions s titled i)
    → is_any (item_targets s vars n i) ≡ true
item_gives s is titled vars n (item.Set name term) h = refl
item_gives s is titled vars n (item.Attr var attr) h = refl
item_gives s is titled vars n (item.All var) h =
    let r = (ranged_with s no_refusal var h.0).is in
    subst (λ o. is_any (map (λ (p : ℕ × Attr). let t : Target = record { name = p.1.name; kind = p.1.kind; term = qterm.Attr (var_place vars var) p.0 } in t) (enumerate_from 0 (attrs_in o))) ≡ true) (sym (ranged_is s var r))
    (some_attr (var_place vars var) r.info.attrs (stood_at s is var r).any)

items_give : (s : Scope) → IsDatabase s.db → (titled : List ℕ → List Mention) (vars : Vars) (items : List Item) → is_any items ≡ true
    → Each (λ i. Each (IsFound s) (item_mentions s titled i)) items
    → is_any (targets_from s vars 0 items) ≡ true
items_give s is titled vars [] w h = absurd (cc w)
items_give s is titled vars (i ∷ items) w h = some_more (item_targets s vars 0 i) _ (item_gives s is titled vars 0 i h.0)

pub some_target : (s : Scope) → IsDatabase s.db → (titled : List ℕ → List Mention) (stmt : Statement) (q : Qual) → items_are_written (items_of stmt) ≡ true
    → Each (IsFound s) (query_mentions s titled (items_of stmt) q) → is_any (targets_of (query_of s stmt)) ≡ true
unfolding query_of
some_target s is titled stmt q w h =
    subst (λ ts. is_any ts ≡ true) (sym (items_of_targets (targets_from s (vars_in stmt) 0 (items_of stmt))))
    (items_give s is titled (vars_in stmt) (items_of stmt) (left _ _ w) (of_flat_map _ (item_mentions s titled) (items_of stmt) (front_of _ _ _ h)))
