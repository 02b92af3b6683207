-- Targets put behind others, item by item.
use Rattle.std.proofs.Common.{◌≡◌, sym, ap, ◌∙◌, subst, ℕ, zero, suc, ◌+◌, ◌<◌, ◌≤◌, add-one, arith, List, [], ◌∷◌, ◌++◌, append_assoc, append-nil, map, take, length, get_or}
use Rattle.std.specs.List.{slice_get, enumerate_from, flat_map, list_all}
use Rattle.std.specs.Option.{unwrap_or}
use Rattle.std.proofs.lemmas.List.Folds.{list_all-append}
use Rattle.calculus.specs.Database.{Db}
use Rattle.calculus.specs.declared.query.QTerm.{QTerm}
use Rattle.calculus.specs.declared.query.Target.{Target}
use Rattle.calculus.specs.declared.schema.RelInfo.{RelInfo}
use Rattle.calculus.specs.declared.statement.Item.{Item}
use Rattle.calculus.specs.declared.statement.Item.TheVariants as item
use Rattle.calculus.specs.declared.statement.Term.{Term, Attr as Dot}
use Rattle.calculus.specs.declared.value.Kind.{Kind}
use Rattle.calculus.specs.declared.value.Kind.TheVariants.{Wide}
use Rattle.calculus.specs.Stored.{attrs_in}
use Rattle.quel_check.specs.Known.{Knows, are_among, is_over, IsTermFrom}
use Rattle.quel_check.proofs.Found.{at_place}
use Rattle.quel_check.proofs.InnerForms.{flat_joined, length_joined, taken}
use Rattle.quel_check.proofs.TreeForms.{both_so}
use Rattle.quel_meaning.specs.KindsInQueries.{kind_in_query}
use Rattle.quel_meaning.specs.Scope.{Scope, ranged}
use Rattle.quel_meaning.specs.WrittenParts.{aggregates_in, aggregates_in_item, outer_vars}
use Rattle.quel_meaning.specs.WrittenQuery.{kinds_over, attr_targets, item_targets, targets_from}
use Rattle.quel_meaning.specs.WrittenTree.{Vars, var_place, term_tree}
use Rattle.quel_resolve.specs.Targets.{Puts, is_sound, kinds_in}
use Rattle.quel_resolve.proofs.KindsKnown.{kinds_known}

-- how many aggregates stand in these items
abbrev pub count : List Item → ℕ
count items = length (flat_map aggregates_in_item items)

-- ---- items one behind the other

count_joined : (xs ys : List Item) → count (xs ++ ys) ≡ count xs + count ys
count_joined [] ys = omega arith
count_joined (i ∷ xs) ys =
    let later : count (xs ++ ys) ≡ count xs + count ys = count_joined xs ys in
    let all : count (i ∷ (xs ++ ys)) ≡ length (aggregates_in_item i) + count (xs ++ ys) = length_joined (aggregates_in_item i) (flat_map aggregates_in_item (xs ++ ys)) in
    let first : count (i ∷ xs) ≡ length (aggregates_in_item i) + count xs = length_joined (aggregates_in_item i) (flat_map aggregates_in_item xs) in
    omega (arith, later, all, first)

joined : (s : Scope) (vars : Vars) (n m : ℕ) (xs ys : List Item) → m ≡ n + count xs → targets_from s vars n (xs ++ ys) ≡ targets_from s vars n xs ++ targets_from s vars m ys
joined s vars n m [] ys e =
    let same : n ≡ m = omega (arith, e) in
    ap (λ k. targets_from s vars k ys) same
joined s vars n m (i ∷ xs) ys e =
    let first : count (i ∷ xs) ≡ length (aggregates_in_item i) + count xs = length_joined (aggregates_in_item i) (flat_map aggregates_in_item xs) in
    let behind : m ≡ n + length (aggregates_in_item i) + count xs = omega (arith, e, first) in
    ap (λ ts. item_targets s vars n i ++ ts) (joined s vars (n + length (aggregates_in_item i)) m xs ys behind)
    ∙ sym (append_assoc (item_targets s vars n i) (targets_from s vars (n + length (aggregates_in_item i)) xs) (targets_from s vars m ys))

-- no items put nothing
pub puts_nothing : (db : Db) (vars : Vars) (infos : List RelInfo) (inner : Vars) (inner_infos : List RelInfo) (n : ℕ) (old : List Target) → Puts db vars infos inner inner_infos n [] old old
unfolding Puts
puts_nothing db vars infos inner inner_infos n old s e k ki h few = sym (append-nil old)

puts_behind : (db : Db) (vars : Vars) (infos : List RelInfo) (inner : Vars) (inner_infos : List RelInfo) (n m : ℕ) (xs ys : List Item) (old between new : List Target)
    → (n + count xs ≤ 65535 → m ≡ n + count xs) → Puts db vars infos inner inner_infos n xs old between → Puts db vars infos inner inner_infos m ys between new
    → Puts db vars infos inner inner_infos n (xs ++ ys) old new
unfolding Puts
puts_behind db vars infos inner inner_infos n m xs ys old between new next h g s e k ki sound few =
    let each = both_so (list_all (is_sound vars inner) xs) (list_all (is_sound vars inner) ys) (sym (list_all-append (is_sound vars inner) xs ys) ∙ sound) in
    let all : count (xs ++ ys) ≡ count xs + count ys = count_joined xs ys in
    let at : m ≡ n + count xs = next (omega (arith, all, few)) in
    g s e k ki each.1 (omega (arith, all, few, at)) ∙ ap (λ ts. ts ++ targets_from s vars m ys) (h s e k ki each.0 (omega (arith, all, few)))
    ∙ append_assoc old (targets_from s vars n xs) (targets_from s vars m ys) ∙ ap (λ ts. old ++ ts) (sym (joined s vars n m xs ys at))

from_none : (c slot : ℕ) → (c ≤ 65535 → slot ≡ c) → 0 + c ≤ 65535 → slot ≡ 0 + c
from_none c slot f few = let at : slot ≡ c = f (omega (arith, few)) in omega (arith, at)

-- the targets of one more item stand behind those of the items before it
pub puts_one_more : (db : Db) (vars : Vars) (infos : List RelInfo) (inner : Vars) (inner_infos : List RelInfo) (items : List Item) (i : ℕ) (it : Item) (slot : ℕ) (old between new : List Target)
    → i < length items → it ≡ get_or items i it → (count (take i items) ≤ 65535 → slot ≡ count (take i items))
    → Puts db vars infos inner inner_infos 0 (take i items) old between → Puts db vars infos inner inner_infos slot (it ∷ []) between new
    → Puts db vars infos inner inner_infos 0 (take (i + 1) items) old new
puts_one_more db vars infos inner inner_infos items i it slot old between new lt e next h g =
    subst (λ is. Puts db vars infos inner inner_infos 0 is old new) (sym (ap (λ k. take k items) (add-one i) ∙ taken items i it lt e))
    (puts_behind db vars infos inner inner_infos 0 slot (take i items) (it ∷ []) old between new (from_none (count (take i items)) slot next) h g)

-- the aggregates of one more item are counted
pub counts_one_more : (items : List Item) (i : ℕ) (it : Item) (slot behind : ℕ) → i < length items → it ≡ get_or items i it → (count (take i items) ≤ 65535 → slot ≡ count (take i items))
    → (slot + length (aggregates_in_item it) ≤ 65535 → behind ≡ slot + length (aggregates_in_item it)) → count (take (i + 1) items) ≤ 65535 → behind ≡ count (take (i + 1) items)
counts_one_more items i it slot behind lt e before more few =
    let all : count (take (i + 1) items) ≡ count (take i items) + length (aggregates_in_item it) =
    ap (λ k. count (take k items)) (add-one i) ∙ ap count (taken items i it lt e) ∙ ap length (flat_joined aggregates_in_item (take i items) it)
    ∙ length_joined (flat_map aggregates_in_item (take i items)) (aggregates_in_item it) in
    let first : slot ≡ count (take i items) = before (omega (arith, all, few)) in
    let second : behind ≡ slot + length (aggregates_in_item it) = more (omega (arith, all, few, first)) in
    omega (arith, all, first, second)

-- ---- numbered items

numbered_more : {X Y : Type 0} (f : ℕ × X → Y) (n : ℕ) (xs : List X) (i j : ℕ) (x : X) → j ≡ n + i → i < length xs → x ≡ get_or xs i x
    → map f (enumerate_from n (take (suc i) xs)) ≡ map f (enumerate_from n (take i xs)) ++ f (j, x) ∷ []
numbered_more f n [] i j x e h is = absurd (omega (arith, h))
numbered_more f n (y ∷ ys) zero j x e h is = let same : n ≡ j = omega arith in λ i. f (same i, sym is i) ∷ []
numbered_more f n (y ∷ ys) (suc i) j x e h is =
    let same : j ≡ n + 1 + i = omega arith in
    ap (λ zs. f (n, y) ∷ zs) (numbered_more f (n + 1) ys i j x same (omega (arith, h)) is)

-- one numbered item more
pub numbered_next : {X Y : Type 0} (f : ℕ × X → Y) (xs : List X) (i : ℕ) (x : X) → i < length xs → x ≡ get_or xs i x
    → map f (enumerate_from 0 (take (i + 1) xs)) ≡ map f (enumerate_from 0 (take i xs)) ++ f (i, x) ∷ []
numbered_next f xs i x h is =
    let from_0 : i ≡ 0 + i = omega arith in
    ap (λ k. map f (enumerate_from 0 (take k xs))) (add-one i) ∙ numbered_more f 0 xs i i x from_0 h is

-- ---- a term

-- a target of these parts
abbrev pub made : Db → List ℕ → QTerm → List (List Kind) → Target
made db name tree kinds = record { name = name; kind = unwrap_or (kind_in_query db tree kinds) Wide; term = tree }

-- the target of a term stands behind the others
pub puts_term : (db : Db) (vars : Vars) (infos : List RelInfo) (inner : Vars) (inner_infos : List RelInfo) (n : ℕ) (name : List ℕ) (t : Term) (tree : QTerm) (kinds : List (List Kind)) (old new : List Target)
    → kinds ≡ kinds_in infos → IsTermFrom vars infos inner inner_infos n t tree → new ≡ old ++ made db name tree kinds ∷ []
    → Puts db vars infos inner inner_infos n (item.Set name t ∷ []) old new
unfolding Puts IsTermFrom
puts_term db vars infos inner inner_infos n name t tree kinds old new e h g s es k ki sound few =
    let one = (both_so (is_sound vars inner (item.Set name t)) _ sound).0 in
    let parts = both_so (are_among vars (outer_vars t)) (list_all (is_over inner) (aggregates_in t)) one in
    let fits = subst (λ gs. n + length gs ≤ 65535) (append-nil (aggregates_in t)) few in
    let same : tree ≡ term_tree s vars n t = h s k ki parts.0 parts.1 fits in
    let over : kinds ≡ kinds_over s vars = e ∙ sym (kinds_known s vars infos k) in
    g ∙ (λ i. old ++ made (sym es i) name (same i) (over i) ∷ [])

-- so does that of an attribute, in which no aggregate stands
pub puts_attr : (db : Db) (vars : Vars) (infos : List RelInfo) (inner : Vars) (inner_infos : List RelInfo) (n : ℕ) (var attr : List ℕ) (old new : List Target)
    → Puts db vars infos inner inner_infos 0 (item.Set attr (Dot var attr) ∷ []) old new → Puts db vars infos inner inner_infos n (item.Attr var attr ∷ []) old new
unfolding Puts aggregates_in
puts_attr db vars infos inner inner_infos n var attr old new h s e k ki sound few = h s e k ki sound (omega arith)

-- so do those of all attributes of a variable
pub puts_all : (db : Db) (vars : Vars) (infos : List RelInfo) (inner : Vars) (inner_infos : List RelInfo) (n : ℕ) (var : List ℕ) (place : ℕ) (old new : List Target)
    → ((s : Scope) → Knows s vars infos → (place ≡ var_place vars var) × (new ≡ old ++ attr_targets place (attrs_in (slice_get infos place))))
    → Puts db vars infos inner inner_infos n (item.All var ∷ []) old new
unfolding Puts
puts_all db vars infos inner inner_infos n var place old new h s e k ki sound few =
    let one = (both_so (is_sound vars inner (item.All var)) _ sound).0 in
    let among = (both_so (are_among vars (var ∷ [])) _ one).0 in
    let found = h s k in
    let stands = ap (slice_get infos) found.0 ∙ at_place (ranged s) vars infos var k.over (both_so _ _ among).0 in
    found.1 ∙ (λ i. old ++ attr_targets (found.0 i) (attrs_in (stands i))) ∙ ap (λ ts. old ++ ts) (sym (append-nil (attr_targets (var_place vars var) (attrs_in (ranged s var)))))
