-- Tests of numbers and of lists.
use Rattle.std.proofs.Common.{◌≡◌, refl, sym, ap, ◌∙◌, subst, ℕ, ◌<◌, nat_le, nat_lt, Bool, true, false, not, cond, IsTrue, List, [], ◌∷◌, Option, Some, None, length, arith}
use Rattle.std.specs.Prelude.{find, is_some}
use Rattle.std.specs.List.{AllByRecursion}
use Rattle.std.proofs.lemmas.Bool.Decides.{nat_tests}
use Rattle.calculus.specs.declared.query.RelKey.{RelKey}
use Rattle.calculus.specs.Keys.{same_key}
use Rattle.calculus.specs.Limits.{most_entries}
use Rattle.calculus.specs.Database.{Db, Relation, entries}
use Rattle.quel_meaning.specs.Passing.{is_full}
use Rattle.plan_laws.proofs.Orders.{same_key_is}

pub lt_true : (m n : ℕ) → m < n → IsTrue (nat_lt m n)
lt_true m n h = grind (arith, nat_tests, h)

pub lt_is : (m n : ℕ) → IsTrue (nat_lt m n) → m < n
lt_is m n t = grind (arith, nat_tests, t)

-- where there is one, it is this one
pub there_is : {X : Type 0} {P : Type 0} (o : Option X) → is_some o ≡ true → ((x : X) → o ≡ Some x → P) → P
there_is None e go = cc e
there_is (Some x) e go = go x refl

-- what each has, what is found has
pub found_has : {X : Type 0} (P : X → Type 0) (test : X → Bool) (xs : List X) (x : X) → AllByRecursion P xs → find test xs ≡ Some x → P x
found_has P test [] x h e = cc e
found_has {X} P test (y ∷ ys) x h e = go (test y) e (λ e. found_has P test ys x h.1 e)
  where
    the : {x y : X} → Some x ≡ Some y → x ≡ y
    the e = cc e

    go : (b : Bool) → cond b (Some y) (find test ys) ≡ Some x → (find test ys ≡ Some x → P x) → P x
    go true e later = subst P (the e) h.0
    go false e later = later e

-- what is found under a key has that key
pub key_found : (rel : RelKey) (rs : List Relation) (r : Relation) → find (λ r. same_key r.info.key rel) rs ≡ Some r → r.info.key ≡ rel
key_found rel [] r e = cc e
key_found rel (x ∷ xs) r e = go (same_key x.info.key rel) refl e (key_found rel xs r)
  where
    the : {x y : Relation} → Some x ≡ Some y → x ≡ y
    the e = cc e

    go : (b : Bool) → same_key x.info.key rel ≡ b → cond b (Some x) (find (λ r. same_key r.info.key rel) xs) ≡ Some r → (find (λ r. same_key r.info.key rel) xs ≡ Some r → r.info.key ≡ rel) → r.info.key ≡ rel
    go true f e later = ap (λ r. r.info.key) (sym (the e)) ∙ same_key_is x.info.key rel f
    go false f e later = later e

-- there is room for one more entry exactly where it isn't full
pub has_room : (db : Db) → IsTrue (not (is_full db)) → IsTrue (nat_lt (length (entries db)) most_entries)
unfolding is_full
has_room db t = room (length (entries db)) t
  where
    room : (n : ℕ) → IsTrue (not (nat_le most_entries n)) → IsTrue (nat_lt n most_entries)
    room n t = grind (arith, nat_tests, t)

pub not_full : (db : Db) → IsTrue (nat_lt (length (entries db)) most_entries) → IsTrue (not (is_full db))
unfolding is_full
not_full db t = room (length (entries db)) t
  where
    room : (n : ℕ) → IsTrue (nat_lt n most_entries) → IsTrue (not (nat_le most_entries n))
    room n t = grind (arith, nat_tests, t)
