-- What was found of views, looked up and kept.
use Rattle.std.proofs.Common.{◌≡◌, refl, sym, ap, ◌∙◌, subst, ℕ, Bool, true, false, cond, ◌&&◌, nat_eq, List, [], ◌∷◌, Some, Result, Ok, Err, IfOk, OnOk, OnErr}
use Rattle.std.specs.List.{list_all}
use Rattle.std.specs.Map.{lookup}
use Rattle.std.proofs.lemmas.Bool.{eqb-true}
use Rattle.indexmap.specs.IndexMap.{insert_entry}
use Rattle.calculus.specs.declared.query.RelKey.{RelKey}
use Rattle.calculus.specs.declared.schema.Permit.{Permit}
use Rattle.calculus.specs.Keys.{same_key}
use Rattle.calculus.specs.Who.{Who}
use Rattle.calculus.specs.Database.{Db, permits_on}
use Rattle.calculus.specs.Permission.{permitted_within}
use Rattle.calculus_laws.proofs.Enough.{same_key-exact}
use Rattle.view_text.specs.declared.expansion.Expansion.{Expansion}
use Rattle.view_text.specs.Scoped.{is_scoped}
use Rattle.view_text.specs.ExpansionOf.{expansion_within}
use Rattle.view_expand.specs.Found.{IsExpansionOf, AreExpansions, ArePermits}

-- one key and as many levels
abbrev pub same_pair : RelKey × ℕ → RelKey × ℕ → Bool
same_pair a b = same_key a.0 b.0 && nat_eq a.1 b.1

-- such a pair is the same
same_pair-exact : (a b : RelKey × ℕ) → same_pair a b ≡ true → a ≡ b
same_pair-exact a b h = go (same_key a.0 b.0) refl (nat_eq a.1 b.1) refl h
  where
    go : (x : Bool) → same_key a.0 b.0 ≡ x → (y : Bool) → nat_eq a.1 b.1 ≡ y → (x && y) ≡ true → a ≡ b
    go true e true f h =
        let key : a.0 ≡ b.0 = same_key-exact a.0 b.0 e in
        let levels : a.1 ≡ b.1 = eqb-true a.1 b.1 f in λ i. (key i, levels i)
    go true e false f h = cc h
    go false e y f h = cc h

-- what is looked up is the expansion of its key
pub looked_up : (db : Db) (who : Who) (found : List ((RelKey × ℕ) × Expansion)) (pair : RelKey × ℕ) (expansion : Expansion) → lookup (same_pair pair) found ≡ Some expansion → AreExpansions db who found
    → IsExpansionOf db who pair.0 pair.1 expansion
looked_up db who [] pair expansion h k = cc h
looked_up db who (e ∷ found) pair expansion h k = go (same_pair pair e.0) refl h (λ l. looked_up db who found pair expansion l k.1)
  where
    go : (b : Bool) → same_pair pair e.0 ≡ b → cond b (Some e.1) (lookup (same_pair pair) found) ≡ Some expansion
        → (lookup (same_pair pair) found ≡ Some expansion → IsExpansionOf db who pair.0 pair.1 expansion) → IsExpansionOf db who pair.0 pair.1 expansion
    go true same h later =
        let t : e.1 ≡ expansion = cc h in
        let p : pair ≡ e.0 = same_pair-exact pair e.0 same in
        subst (λ p. IsExpansionOf db who p.0 p.1 expansion) (sym p) (subst (IsExpansionOf db who e.0.0 e.0.1) t k.0)
    go false same h later = later h

-- it is scoped where all are
pub scoped_up : (found : List ((RelKey × ℕ) × Expansion)) (pair : RelKey × ℕ) (expansion : Expansion) → lookup (same_pair pair) found ≡ Some expansion → list_all (λ e. is_scoped e.1) found ≡ true → is_scoped expansion ≡ true
scoped_up [] pair expansion h k = cc h
scoped_up (e ∷ found) pair expansion h k = go (same_pair pair e.0) h (is_scoped e.1) refl k (scoped_up found pair expansion)
  where
    go : (b : Bool) → cond b (Some e.1) (lookup (same_pair pair) found) ≡ Some expansion → (s : Bool) → is_scoped e.1 ≡ s → (s && list_all (λ e. is_scoped e.1) found) ≡ true
        → (lookup (same_pair pair) found ≡ Some expansion → list_all (λ e. is_scoped e.1) found ≡ true → is_scoped expansion ≡ true) → is_scoped expansion ≡ true
    go b h false s k later = cc k
    go true h true s k later = let t : e.1 ≡ expansion = cc h in ap is_scoped (sym t) ∙ s
    go false h true s k later = later h k

-- one more that is the expansion of its key leaves all so
pub kept_expansions : (db : Db) (who : Who) (found : List ((RelKey × ℕ) × Expansion)) (pair : RelKey × ℕ) (expansion : Expansion) → AreExpansions db who found → IsExpansionOf db who pair.0 pair.1 expansion
    → AreExpansions db who (insert_entry same_pair found pair expansion)
kept_expansions db who [] pair expansion k t = (t, tt)
kept_expansions db who (e ∷ found) pair expansion k t = go (same_pair pair e.0) refl (kept_expansions db who found pair expansion k.1 t)
  where
    go : (b : Bool) → same_pair pair e.0 ≡ b → AreExpansions db who (insert_entry same_pair found pair expansion)
        → AreExpansions db who (cond b ((e.0, expansion) ∷ found) (e ∷ insert_entry same_pair found pair expansion))
    go true same later = (subst (λ p. IsExpansionOf db who p.0 p.1 expansion) (same_pair-exact pair e.0 same) t, k.1)
    go false same later = (k.0, later)

-- and scoped
pub kept_scoped : (found : List ((RelKey × ℕ) × Expansion)) (pair : RelKey × ℕ) (expansion : Expansion) → list_all (λ e. is_scoped e.1) found ≡ true → is_scoped expansion ≡ true
    → list_all (λ e. is_scoped e.1) (insert_entry same_pair found pair expansion) ≡ true
kept_scoped [] pair expansion k s = ap (λ b. b && true) s
kept_scoped (e ∷ found) pair expansion k s = go (same_pair pair e.0) (is_scoped e.1) refl k (λ l. kept_scoped found pair expansion l s)
  where
    go : (b : Bool) (c : Bool) → is_scoped e.1 ≡ c → (c && list_all (λ e. is_scoped e.1) found) ≡ true
        → (list_all (λ e. is_scoped e.1) found ≡ true → list_all (λ e. is_scoped e.1) (insert_entry same_pair found pair expansion) ≡ true)
        → list_all (λ e. is_scoped e.1) (cond b ((e.0, expansion) ∷ found) (e ∷ insert_entry same_pair found pair expansion)) ≡ true
    go b false e k later = cc k
    go true true e k later = ap (λ b. b && list_all (λ e. is_scoped e.1) found) s ∙ k
    go false true e' k later = ap (λ b. b && list_all (λ e. is_scoped e.1) (insert_entry same_pair found pair expansion)) e' ∙ later k

-- the permits that are looked up are those of the key
pub permits_up : (db : Db) (found : List (RelKey × List Permit)) (key : RelKey) (permits : List Permit) → lookup (same_key key) found ≡ Some permits → ArePermits db found → permits ≡ permits_on db key
permits_up db [] key permits h k = cc h
permits_up db (e ∷ found) key permits h k = go (same_key key e.0) refl h (λ l. permits_up db found key permits l k.1)
  where
    go : (b : Bool) → same_key key e.0 ≡ b → cond b (Some e.1) (lookup (same_key key) found) ≡ Some permits
        → (lookup (same_key key) found ≡ Some permits → permits ≡ permits_on db key) → permits ≡ permits_on db key
    go true same h later =
        let t : e.1 ≡ permits = cc h in
        let p : key ≡ e.0 = same_key-exact key e.0 same in sym t ∙ k.0 ∙ ap (permits_on db) (sym p)
    go false same h later = later h

-- those of one key more leave all so
pub kept_permits : (db : Db) (found : List (RelKey × List Permit)) (key : RelKey) (permits : List Permit) → ArePermits db found → permits ≡ permits_on db key
    → ArePermits db (insert_entry same_key found key permits)
kept_permits db [] key permits k t = (t, tt)
kept_permits db (e ∷ found) key permits k t = go (same_key key e.0) refl (kept_permits db found key permits k.1 t)
  where
    go : (b : Bool) → same_key key e.0 ≡ b → ArePermits db (insert_entry same_key found key permits)
        → ArePermits db (cond b ((e.0, permits) ∷ found) (e ∷ insert_entry same_key found key permits))
    go true same later = (t ∙ ap (permits_on db) (same_key-exact key e.0 same), k.1)
    go false same later = (k.0, later)

-- what holds of what was found, and with one more, holds whether there was room for it or not
pub after : {T A E : Type 0} (P : T → Type 0) (old new made : T) (result : Result A E) → OnOk result (new ≡ made) → OnErr result (new ≡ old) → P old → P made → P new
after {T} {A} {E} P old new made (Ok x) h k p q = subst P (sym h) q
after {T} {A} {E} P old new made (Err e) h k p q = subst P (sym k) p

-- an answer that is the expansion of a key is so with each of its attributes
pub answered : {E : Type 0} (db : Db) (who : Who) (key : RelKey) (levels : ℕ) (attrs : List ℕ) (result : Result Expansion E) → IfOk result (IsExpansionOf db who key levels)
    → IfOk result (λ expansion. expansion ≡ expansion_within levels db who key attrs)
answered {E} db who key levels attrs (Ok expansion) h = h.is attrs
answered {E} db who key levels attrs (Err e) h = h

pub answer_permitted : {E : Type 0} (db : Db) (who : Who) (key : RelKey) (levels : ℕ) (attrs : List ℕ) (result : Result Expansion E) → IfOk result (IsExpansionOf db who key levels)
    → OnOk result (permitted_within levels db who key attrs ≡ true)
answer_permitted {E} db who key levels attrs (Ok expansion) h = h.permitted attrs
answer_permitted {E} db who key levels attrs (Err e) h = h
