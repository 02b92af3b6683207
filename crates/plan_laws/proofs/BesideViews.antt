-- A view that is put beside those that stand, under a key that nothing has.
use Rattle.std.proofs.Common.{◌≡◌, refl, sym, ap, ◌∙◌, subst, suc, ◌≤◌, Bool, true, false, not, cond, IsTrue, List, [], ◌∷◌, ◌++◌, Some, None, map, length, arith}
use Rattle.std.specs.Prelude.{find}
use Rattle.std.specs.List.{list_all, list_any, AllByRecursion}
use Rattle.std.specs.List.Sorted.{IsStrictlySortedBy}
use Rattle.std.specs.declared.cmp.Ordering.{Ordering}
use Rattle.std.specs.declared.cmp.Ordering.TheVariants.{Less, Equal, Greater}
use Rattle.calculus.specs.declared.query.RelKey.{RelKey}
use Rattle.calculus.specs.declared.schema.RelInfo.{RelInfo}
use Rattle.calculus.specs.Keys.{same_key, key_cmp}
use Rattle.calculus.specs.Lists.{insert_by, differ_by}
use Rattle.calculus.specs.Database.{View}
use Rattle.quel_meaning.proofs.InOrder.{insert_as, insert-cons}
use Rattle.plan_laws.proofs.Kept.{both, each, all_insert}
use Rattle.plan_laws.proofs.Orders.{same_key_is, same_key_itself}
use Rattle.plan_laws.proofs.Planned.{neither}
use Rattle.plan_laws.proofs.Indexes.{keys, all-map, is_no}
use Rattle.plan_laws.proofs.NewIndexes.{key_exact, other_way, is_yes, new-all, all-append, is_new}

-- the order of views by their keys
abbrev pub by_view : View → View → Ordering
by_view a b = key_cmp a.info.key b.info.key

-- what is known of views
abbrev pub views_known : List View → List RelInfo
views_known rs = map (λ r. r.info) rs

-- ---- what is found

-- what is found under another key is what was found
pub found_beside : (key : RelKey) (x : View) (rs : List View) → same_key x.info.key key ≡ false
    → find (λ r. same_key r.info.key key) (insert_by by_view x rs) ≡ find (λ r. same_key r.info.key key) rs
found_beside key x [] other = ap (λ b. cond b (Some x) None) other
found_beside key x (y ∷ ys) other =
    ap (find (λ r. same_key r.info.key key)) (insert-cons by_view x y ys (by_view x y) refl) ∙ go (by_view x y) refl (found_beside key x ys other)
  where
    go : (o : Ordering) → by_view x y ≡ o → find (λ r. same_key r.info.key key) (insert_by by_view x ys) ≡ find (λ r. same_key r.info.key key) ys
        → find (λ r. same_key r.info.key key) (insert_as o x y ys (insert_by by_view x ys)) ≡ find (λ r. same_key r.info.key key) (y ∷ ys)
    go Less e later = ap (λ b. cond b (Some x) (find (λ r. same_key r.info.key key) (y ∷ ys))) other
    go Equal e later =
        let one : x.info.key ≡ y.info.key = same_key_is x.info.key y.info.key (key_exact x.info.key y.info.key e) in
        let too : same_key y.info.key key ≡ false = ap (λ k. same_key k key) (sym one) ∙ other in
        ap (λ b. cond b (Some x) (find (λ r. same_key r.info.key key) ys)) other ∙ sym (ap (λ b. cond b (Some y) (find (λ r. same_key r.info.key key) ys)) too)
    go Greater e later = ap (λ o. cond (same_key y.info.key key) (Some y) o) later

-- ---- each of them

pub each_beside : (P : View → Type 0) (x : View) (rs : List View) → P x → AllByRecursion P rs → AllByRecursion P (insert_by by_view x rs)
each_beside P x [] p h = (p, tt)
each_beside P x (y ∷ ys) p h = subst (AllByRecursion P) (sym (insert-cons by_view x y ys (by_view x y) refl)) (go (by_view x y) (each_beside P x ys p h.1))
  where
    go : (o : Ordering) → AllByRecursion P (insert_by by_view x ys) → AllByRecursion P (insert_as o x y ys (insert_by by_view x ys))
    go Less later = (p, h)
    go Equal later = (p, h.1)
    go Greater later = (h.0, later)

pub all_beside : (test : RelInfo → Bool) (x : View) (rs : List View) (others : List RelInfo) → IsTrue (test x.info) → IsTrue (list_all test (views_known rs ++ others))
    → IsTrue (list_all test (views_known (insert_by by_view x rs) ++ others))
all_beside test x rs others s t =
    let parts = both (list_all test (views_known rs)) (list_all test others) (sym (all-append test (views_known rs) others) ∙ t) in
    all-append test (views_known (insert_by by_view x rs)) others
    ∙ each (list_all test (views_known (insert_by by_view x rs))) (list_all test others)
    (all-map test (λ r. r.info) (insert_by by_view x rs) ∙ all_insert by_view (λ r. test r.info) x rs s (sym (all-map test (λ r. r.info) rs) ∙ parts.0)) parts.1

-- ---- the keys

new_beside : (key : RelKey) (x : View) (rs : List View) (others : List RelInfo) → same_key key x.info.key ≡ false → IsTrue (is_new key (views_known rs ++ others))
    → IsTrue (is_new key (views_known (insert_by by_view x rs) ++ others))
new_beside key x rs others other new =
    new-all key (views_known (insert_by by_view x rs) ++ others)
    ∙ all_beside (λ i. not (same_key key i.key)) x rs others (is_yes (same_key key x.info.key) other) (sym (new-all key (views_known rs ++ others)) ∙ new)

pub differ_beside : (x : View) (rs : List View) (others : List RelInfo) → IsTrue (is_new x.info.key (views_known rs ++ others)) → IsTrue (differ_by same_key (keys (views_known rs ++ others)))
    → IsTrue (differ_by same_key (keys (views_known (insert_by by_view x rs) ++ others)))
differ_beside x [] others new t = each (is_new x.info.key others) (differ_by same_key (keys others)) new t
differ_beside x (y ∷ ys) others new t =
    let unlike = neither (same_key x.info.key y.info.key) (list_any (same_key x.info.key) (keys (views_known ys ++ others))) (is_no _ new) in
    let parts = both (is_new y.info.key (views_known ys ++ others)) (differ_by same_key (keys (views_known ys ++ others))) t in
    ap (λ rs. differ_by same_key (keys (views_known rs ++ others))) (insert-cons by_view x y ys (by_view x y) refl)
    ∙ go (by_view x y) refl unlike.0 (new_beside y.info.key x ys others (other_way x.info.key y.info.key unlike.0) parts.0) (differ_beside x ys others (is_yes _ unlike.1) parts.1)
  where
    go : (o : Ordering) → by_view x y ≡ o → same_key x.info.key y.info.key ≡ false → IsTrue (is_new y.info.key (views_known (insert_by by_view x ys) ++ others))
        → IsTrue (differ_by same_key (keys (views_known (insert_by by_view x ys) ++ others))) → IsTrue (differ_by same_key (keys (views_known (insert_as o x y ys (insert_by by_view x ys)) ++ others)))
    go Less e unlike first later = each (is_new x.info.key (views_known (y ∷ ys) ++ others)) (differ_by same_key (keys (views_known (y ∷ ys) ++ others))) new t
    go Equal e unlike first later = let same : same_key x.info.key y.info.key ≡ true = key_exact x.info.key y.info.key e in cc (sym same ∙ unlike)
    go Greater e unlike first later = each (is_new y.info.key (views_known (insert_by by_view x ys) ++ others)) (differ_by same_key (keys (views_known (insert_by by_view x ys) ++ others))) first later

pub one_beside : (x : View) (rs : List View) (others : List RelInfo) → length (views_known (insert_by by_view x rs) ++ others) ≤ suc (length (views_known rs ++ others))
one_beside x [] others = omega arith
one_beside x (y ∷ ys) others =
    let step : length (views_known (insert_by by_view x (y ∷ ys)) ++ others) ≡ length (views_known (insert_as (by_view x y) x y ys (insert_by by_view x ys)) ++ others) =
    ap (λ rs. length (views_known rs ++ others)) (insert-cons by_view x y ys (by_view x y) refl) in
    let bound = go (by_view x y) (one_beside x ys others) in
    omega (arith, step, bound)
  where
    go : (o : Ordering) → length (views_known (insert_by by_view x ys) ++ others) ≤ suc (length (views_known ys ++ others))
        → length (views_known (insert_as o x y ys (insert_by by_view x ys)) ++ others) ≤ suc (suc (length (views_known ys ++ others)))
    go Less later = omega arith
    go Equal later = omega arith
    go Greater later = omega (arith, later)

-- ---- in order

mapped : (P : RelKey → Type 0) (rs : List View) → AllByRecursion P (map (λ r. r.info.key) rs) → AllByRecursion (λ r. P r.info.key) rs
mapped P [] h = tt
mapped P (r ∷ rs) h = (h.0, mapped P rs h.1)

unmapped : (P : RelKey → Type 0) (rs : List View) → AllByRecursion (λ r. P r.info.key) rs → AllByRecursion P (map (λ r. r.info.key) rs)
unmapped P [] h = tt
unmapped P (r ∷ rs) h = (h.0, unmapped P rs h.1)

pub sorted_by_view : (rs : List View) → IsStrictlySortedBy key_cmp (map (λ r. r.info.key) rs) → IsStrictlySortedBy by_view rs
unfolding IsStrictlySortedBy
sorted_by_view [] h = tt
sorted_by_view (r ∷ rs) h = (mapped (λ k. key_cmp r.info.key k ≡ Less) rs h.0, sorted_by_view rs h.1)

pub sorted_by_key : (rs : List View) → IsStrictlySortedBy by_view rs → IsStrictlySortedBy key_cmp (map (λ r. r.info.key) rs)
unfolding IsStrictlySortedBy
sorted_by_key [] h = tt
sorted_by_key (r ∷ rs) h = (unmapped (λ k. key_cmp r.info.key k ≡ Less) rs h.0, sorted_by_key rs h.1)

-- ---- behind other entries

pub all_behind : (test : RelInfo → Bool) (front : List RelInfo) (x : View) (vs : List View) (others : List RelInfo) → IsTrue (test x.info) → IsTrue (list_all test (front ++ (views_known vs ++ others)))
    → IsTrue (list_all test (front ++ (views_known (insert_by by_view x vs) ++ others)))
all_behind test front x vs others s t =
    let parts = both (list_all test front) (list_all test (views_known vs ++ others)) (sym (all-append test front (views_known vs ++ others)) ∙ t) in
    all-append test front (views_known (insert_by by_view x vs) ++ others)
    ∙ each (list_all test front) (list_all test (views_known (insert_by by_view x vs) ++ others)) parts.0 (all_beside test x vs others s parts.1)

new_behind : (key : RelKey) (front : List RelInfo) (x : View) (vs : List View) (others : List RelInfo) → same_key key x.info.key ≡ false → IsTrue (is_new key (front ++ (views_known vs ++ others)))
    → IsTrue (is_new key (front ++ (views_known (insert_by by_view x vs) ++ others)))
new_behind key front x vs others other new =
    new-all key (front ++ (views_known (insert_by by_view x vs) ++ others))
    ∙ all_behind (λ i. not (same_key key i.key)) front x vs others (is_yes (same_key key x.info.key) other) (sym (new-all key (front ++ (views_known vs ++ others))) ∙ new)

pub differ_behind : (front : List RelInfo) (x : View) (vs : List View) (others : List RelInfo) → IsTrue (is_new x.info.key (front ++ (views_known vs ++ others)))
    → IsTrue (differ_by same_key (keys (front ++ (views_known vs ++ others)))) → IsTrue (differ_by same_key (keys (front ++ (views_known (insert_by by_view x vs) ++ others))))
differ_behind [] x vs others new t = differ_beside x vs others new t
differ_behind (i ∷ front) x vs others new t =
    let unlike = neither (same_key x.info.key i.key) (list_any (same_key x.info.key) (keys (front ++ (views_known vs ++ others)))) (is_no _ new) in
    let parts = both (is_new i.key (front ++ (views_known vs ++ others))) (differ_by same_key (keys (front ++ (views_known vs ++ others)))) t in
    each (is_new i.key (front ++ (views_known (insert_by by_view x vs) ++ others))) (differ_by same_key (keys (front ++ (views_known (insert_by by_view x vs) ++ others))))
    (new_behind i.key front x vs others (other_way x.info.key i.key unlike.0) parts.0) (differ_behind front x vs others (is_yes _ unlike.1) parts.1)

pub one_behind : (front : List RelInfo) (x : View) (vs : List View) (others : List RelInfo) → length (front ++ (views_known (insert_by by_view x vs) ++ others)) ≤ suc (length (front ++ (views_known vs ++ others)))
one_behind [] x vs others = one_beside x vs others
one_behind (i ∷ front) x vs others = let less = one_behind front x vs others in omega (arith, less)

-- the view that was put is found under its key
pub found_itself : (x : View) (vs : List View) → find (λ v. same_key v.info.key x.info.key) vs ≡ None → find (λ v. same_key v.info.key x.info.key) (insert_by by_view x vs) ≡ Some x
found_itself x [] h = ap (λ b. cond b (Some x) None) (same_key_itself x.info.key)
found_itself x (y ∷ ys) h =
    let parts = unfound (same_key y.info.key x.info.key) h in
    ap (find (λ v. same_key v.info.key x.info.key)) (insert-cons by_view x y ys (by_view x y) refl) ∙ go (by_view x y) parts.0 (found_itself x ys parts.1)
  where
    unfound : (b : Bool) → cond b (Some y) (find (λ v. same_key v.info.key x.info.key) ys) ≡ None → (b ≡ false) × (find (λ v. same_key v.info.key x.info.key) ys ≡ None)
    unfound true h = cc h
    unfound false h = (refl, h)

    go : (o : Ordering) → same_key y.info.key x.info.key ≡ false → find (λ v. same_key v.info.key x.info.key) (insert_by by_view x ys) ≡ Some x
        → find (λ v. same_key v.info.key x.info.key) (insert_as o x y ys (insert_by by_view x ys)) ≡ Some x
    go Less e later = ap (λ b. cond b (Some x) (find (λ v. same_key v.info.key x.info.key) (y ∷ ys))) (same_key_itself x.info.key)
    go Equal e later = ap (λ b. cond b (Some x) (find (λ v. same_key v.info.key x.info.key) ys)) (same_key_itself x.info.key)
    go Greater e later = ap (λ b. cond b (Some y) (find (λ v. same_key v.info.key x.info.key) (insert_by by_view x ys))) e ∙ later
