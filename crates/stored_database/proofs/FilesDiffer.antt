-- Files differ after a change.
use Rattle.std.proofs.Common.{◌≡◌, refl, sym, ap, ◌∙◌, inl, inr, true≢false, ℕ, ◌==◌, Bool, true, false, List, [], ◌∷◌, map, find, Option, Some, None}
use Rattle.std.specs.Prelude.{nat_eq, is_some}
use Rattle.calculus.specs.declared.query.RelKey.{RelKey}
use Rattle.calculus.specs.declared.change.DbChange.{DbChange}
use Rattle.calculus.specs.declared.schema.RelInfo.{RelInfo}
use Rattle.calculus.specs.Change.{laid}
use Rattle.calculus.specs.Database.{Db, entries, is_there}
use Rattle.calculus.specs.Keys.{same_key}
use Rattle.stored_database.specs.Printed.{Files}
use Rattle.stored_database.proofs.Members.{IsIn, of_all, all_of, found_in, apart_same}
use Rattle.stored_database.proofs.Orders.{same_key_is, same_key_itself}
use Rattle.stored_database.proofs.Pairs.{Pairs, differ_pairs, pairs_apart, pairs_map, pairs_unmap}
use Rattle.stored_database.proofs.PrintedEntries.{equal_turned, infos_differ}
use Rattle.stored_database.specs.ChangeLaws.{FilesDiffer, FilesDifferAgain}
use Rattle.stored_database.proofs.Moved.{differ_of}
use Rattle.stored_database.proofs.Staying.{info_there}

-- what follows for two items of a list follows for all pairs of it
pub pairs_in : {A : Type 0} (R S : A → A → Type 0) (xs : List A) → ((x y : A) → IsIn x xs → IsIn y xs → R x y → S x y) → Pairs R xs → Pairs S xs
pairs_in R S [] then all = tt
pairs_in R S (x ∷ xs) then all =
    (all_of (S x) xs (λ y at. then x y (inl refl) (inr at) (of_all (R x) xs y all.0 at)), pairs_in R S xs (λ x y at bt. then x y (inr at) (inr bt)) all.1)

-- what is there under a key
pub found : (db : Db) (key : RelKey) → is_there db key ≡ true → (i : RelInfo) × IsIn i (entries db) × (i.key ≡ key)
found db key e = go (find (λ i. same_key i.key key) (entries db)) refl e
  where
    go : (o : Option RelInfo) → find (λ i. same_key i.key key) (entries db) ≡ o → is_some o ≡ true → (i : RelInfo) × IsIn i (entries db) × (i.key ≡ key)
    go None is e = absurd (true≢false (sym e))
    go (Some i) is e = let at = found_in (λ (i : RelInfo). same_key i.key key) (entries db) i is in (i, at.0, same_key_is i.key key at.1)

-- what has one file has one key
pub one_key : (db : Db) (f : Files) → FilesDiffer db f → (k l : RelKey) → is_there db k ≡ true → is_there db l ≡ true → (f.file k == f.file l) ≡ true → k ≡ l
one_key db f differ k l here there e =
    let i = found db k here in
    let j = found db l there in
    let one : i.0 ≡ j.0 = apart_same (λ (i j : RelInfo). f.file j.key == f.file i.key) (λ i j e. equal_turned (f.file i.key) (f.file j.key) ∙ e) (entries db) i.0 j.0
    (pairs_apart (λ (i j : RelInfo). f.file j.key == f.file i.key) (entries db) (infos_differ f db differ)) i.1 j.1
    (equal_turned (f.file j.0.key) (f.file i.0.key) ∙ (λ t. f.file (i.2 t) == f.file (j.2 t)) ∙ e) in
    sym i.2 ∙ ap (λ (i : RelInfo). i.key) one ∙ j.2

pub differ_again : (made : DbChange) → FilesDifferAgain made
differ_again made db f after is differ agree new =
    differ_of nat_eq (map (λ (i : RelInfo). after.file i.key) (entries (laid db made)))
    (pairs_map (λ (m n : ℕ). nat_eq m n ≡ false) (λ (i : RelInfo). after.file i.key) (entries (laid db made))
    (pairs_in (λ (i j : RelInfo). same_key i.key j.key ≡ false) (λ (i j : RelInfo). nat_eq (after.file i.key) (after.file j.key) ≡ false) (entries (laid db made))
    (λ i j at bt apart. two i.key j.key (info_there (laid db made) i at) (info_there (laid db made) j bt) apart)
    (pairs_unmap (λ (k l : RelKey). same_key k l ≡ false) (λ (i : RelInfo). i.key) (entries (laid db made))
    (differ_pairs same_key (map (λ (i : RelInfo). i.key) (entries (laid db made))) is.keys_differ))))
  where
    turned : (k l : RelKey) → same_key k l ≡ false → (b : Bool) → same_key l k ≡ b → b ≡ false
    turned k l e false is = refl
    turned k l e true is = absurd (true≢false (sym (ap (same_key k) (same_key_is l k is) ∙ same_key_itself k) ∙ e))

    two : (k l : RelKey) → is_there (laid db made) k ≡ true → is_there (laid db made) l ≡ true → same_key k l ≡ false → (after.file k == after.file l) ≡ false
    two k l here there apart = go (is_there db k) (is_there db l) refl refl
      where
        both_were : is_there db k ≡ true → is_there db l ≡ true → (b : Bool) → (f.file k == f.file l) ≡ b → b ≡ false
        both_were e g false is = refl
        both_were e g true is = absurd (true≢false (sym (same_key_itself k) ∙ ap (same_key k) (one_key db f differ k l e g is) ∙ apart))

        go : (b c : Bool) → is_there db k ≡ b → is_there db l ≡ c → (after.file k == after.file l) ≡ false
        go true true e g = (λ t. agree.file_stays k e here t == agree.file_stays l g there t) ∙ both_were e g (f.file k == f.file l) refl
        go false c e g = new k l e here there apart
        go true false e g = equal_turned (after.file k) (after.file l) ∙ new l k g there here (turned k l apart (same_key l k) refl)
