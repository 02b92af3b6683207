-- Places that are left where things are forgotten.
use Rattle.std.proofs.Common.{◌≡◌, refl, sym, ap, ◌∙◌, subst, true≢false, ℕ, zero, suc, ◌<◌, ◌==◌, ◌+◌, Bool, true, false, not, cond, ◌||◌, List, [], ◌∷◌, length, get_or, take, Some, None, Option, arith}
use Rattle.calculus.specs.declared.query.RelKey.{RelKey}
use Rattle.calculus.specs.Keys.{has_key, same_key}
use Rattle.stored_database.proofs.Members.{IsIn, filter_in}
use Rattle.stored_database.proofs.Orders.{same_key_is, same_key_itself}
use Rattle.catalog_moves.specs.declared.files.FilePlace.{FilePlace}
use Rattle.catalog_moves.specs.Files.{place_at, files_at}
use Rattle.catalog_moves.proofs.Tables.{file_none, file_some, other_kept, place_is, place_kept}
use Rattle.catalog.specs.Places.{left_all, left_base, left_key, left_one}

-- ---- one after the other

pub left_none : (rels : List RelKey) (places : List FilePlace) → left_all (take 0 rels) places ≡ places
unfolding left_all
left_none [] places = refl
left_none (r ∷ rels) places = refl

pub left_more : (rels : List RelKey) (i : ℕ) (rel : RelKey) (places : List FilePlace) → i < length rels → rel ≡ get_or rels i rel → left_all (take (suc i) rels) places ≡ left_one rel (left_all (take i rels) places)
unfolding left_all
left_more [] i rel places less is = absurd (omega (arith, less))
left_more (r ∷ rels) zero rel places less is = left_none rels (left_one r places) ∙ ap (λ k. left_one k places) (sym is)
left_more (r ∷ rels) (suc i) rel places less is = left_more rels i rel (left_one r places) (omega (arith, less)) is

pub left_next : (rels : List RelKey) (i : ℕ) (rel : RelKey) (places : List FilePlace) → i < length rels → rel ≡ get_or rels i rel → left_all (take (i + 1) rels) places ≡ left_one rel (left_all (take i rels) places)
left_next rels i rel places less is = let e : i + 1 ≡ suc i = omega arith in ap (λ n. left_all (take n rels) places) e ∙ left_more rels i rel places less is

-- ---- what is left

pub one_left : (r : RelKey) (places : List FilePlace) (p : FilePlace) → IsIn p (left_one r places) → IsIn p places × (same_key p.key r ≡ false)
unfolding left_one
one_left r places p at = go ((files_at places).file r == 0) at
  where
    off : (b : Bool) → not b ≡ true → b ≡ false
    off true e = absurd (cc e)
    off false e = refl

    key : IsIn p (left_key r places) → IsIn p places × (same_key p.key r ≡ false)
    key at = let f = filter_in (λ (p : FilePlace). not (same_key p.key r)) places p at in (f.0, off (same_key p.key r) f.1)

    go : (b : Bool) → IsIn p (cond b (left_key r places) (left_base ((files_at places).file r) (left_key r places))) → IsIn p places × (same_key p.key r ≡ false)
    go true at = key at
    go false at = key (filter_in (λ (p : FilePlace). not (p.base == (files_at places).file r)) (left_key r places) p at).0

pub all_left : (rels : List RelKey) (places : List FilePlace) (p : FilePlace) → IsIn p (left_all rels places) → IsIn p places × (has_key rels p.key ≡ false)
unfolding left_all
all_left [] places p at = (at, refl)
all_left (r ∷ rels) places p at =
    let later = all_left rels (left_one r places) p at in
    let one = one_left r places p later.0 in
    (one.0, ap (λ b. b || has_key rels p.key) one.1 ∙ later.1)

-- ---- what is kept

-- one place is kept, where its key is another and its base none of the file of what goes
pub one_kept : (r : RelKey) (places : List FilePlace) (k : RelKey) → same_key k r ≡ false
    → ((q p : FilePlace) → place_at places k ≡ Some q → place_at places r ≡ Some p → (q.base == p.file) ≡ false) → place_at (left_one r places) k ≡ place_at places k
unfolding left_one
one_kept r places k other apart = go ((files_at places).file r == 0) refl
  where
    key : place_at (left_key r places) k ≡ place_at places k
    key = other_kept places (left_key r places) r k refl other

    keeps : (o : Option FilePlace) → place_at places r ≡ o → ((files_at places).file r == 0) ≡ false → (q : FilePlace) → place_at (left_key r places) k ≡ Some q → not (q.base == (files_at places).file r) ≡ true
    keeps None e some q at = absurd (true≢false (sym (ap (λ n. n == 0) (file_none places r e).0) ∙ some))
    keeps (Some p) e some q at = ap not (ap (λ n. q.base == n) (file_some places r p e).0 ∙ apart q p (sym key ∙ at) e)

    go : (b : Bool) → ((files_at places).file r == 0) ≡ b → place_at (cond b (left_key r places) (left_base ((files_at places).file r) (left_key r places))) k ≡ place_at places k
    go true e = key
    go false e = place_kept (left_key r places) (left_base ((files_at places).file r) (left_key r places)) (λ p. not (p.base == (files_at places).file r)) k refl (keeps (place_at places r) refl e) ∙ key

neither : (a b : Bool) → (a || b) ≡ false → (a ≡ false) × (b ≡ false)
neither true b e = absurd (true≢false e)
neither false b e = (refl, e)

either : (a b : Bool) → b ≡ true → (a || b) ≡ true
either true b e = refl
either false b e = e

pub all_kept : (rels : List RelKey) (places : List FilePlace) (k : RelKey) → has_key rels k ≡ false
    → ((q p : FilePlace) → place_at places k ≡ Some q → IsIn p places → has_key rels p.key ≡ true → (q.base == p.file) ≡ false) → place_at (left_all rels places) k ≡ place_at places k
unfolding left_all
all_kept [] places k none apart = refl
all_kept (r ∷ rels) places k none apart =
    let n = neither (same_key k r) (has_key rels k) none in
    let one = one_kept r places k n.0 (λ q p at bt. (let f = place_is places r p bt in apart q p at f.0 (ap (λ b. b || has_key rels p.key) (ap (λ j. same_key j r) f.1 ∙ same_key_itself r)))) in
    all_kept rels (left_one r places) k n.1 (λ q p at bt h. apart q p (sym one ∙ at) (one_left r places p bt).0 (either (same_key p.key r) (has_key rels p.key) h)) ∙ one

-- the places of the indexes on what goes go, too
pub bases_gone : (rels : List RelKey) (places : List FilePlace) (r : RelKey) (q p : FilePlace) → has_key rels r ≡ true → place_at places r ≡ Some q → (q.file == 0) ≡ false
    → ((p : FilePlace) → IsIn p places → (q.base == p.file) ≡ false) → IsIn p (left_all rels places) → (p.base == q.file) ≡ false
unfolding left_all left_one
bases_gone [] places r q p h is some apart at = absurd (true≢false (sym h))
bases_gone (s ∷ rels) places r q p h is some apart at =
    go (same_key r s) refl h (λ off h. bases_gone rels (left_one s places) r q p h (one_kept s places r off same_base ∙ is) some (λ p bt. apart p (one_left s places p bt).0) at)
  where
    later : IsIn p (left_one s places)
    later = (all_left rels (left_one s places) p at).0

    off_not : (b : Bool) → not b ≡ true → b ≡ false
    off_not true e = absurd (cc e)
    off_not false e = refl

    here : (n : ℕ) → n ≡ q.file → (b : Bool) → (n == 0) ≡ b → IsIn p (cond b (left_key s places) (left_base n (left_key s places))) → (p.base == q.file) ≡ false
    here n e true z at = absurd (true≢false (sym z ∙ ap (λ n. n == 0) e ∙ some))
    here n e false z at = ap (λ n. p.base == n) (sym e) ∙ off_not (p.base == n) (filter_in (λ (p : FilePlace). not (p.base == n)) (left_key s places) p at).1

    some_same : (x y : FilePlace) → Some x ≡ Some y → x ≡ y
    some_same x y e = cc e

    same_base : (a b : FilePlace) → place_at places r ≡ Some a → place_at places s ≡ Some b → (a.base == b.file) ≡ false
    same_base a b at bt = subst (λ (c : FilePlace). (c.base == b.file) ≡ false) (some_same q a (sym is ∙ at)) (apart b (place_is places s b bt).0)

    go : (b : Bool) → same_key r s ≡ b → (b || has_key rels r) ≡ true → (same_key r s ≡ false → has_key rels r ≡ true → (p.base == q.file) ≡ false) → (p.base == q.file) ≡ false
    go true e h next = here ((files_at places).file s) ((file_some places s q (ap (place_at places) (sym (same_key_is r s e)) ∙ is)).0) ((files_at places).file s == 0) refl later
    go false e h next = next e h
