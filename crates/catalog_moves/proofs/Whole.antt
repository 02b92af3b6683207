-- What holds of all that was taken holds of the list; and what goes with a Destroy at one place.
use Rattle.std.proofs.Common.{◌≡◌, ap₂, subst, ℕ, ◌≤◌, Bool, true, false, cond, List, [], ◌∷◌, length, take, Option, Some, None}
use Rattle.std.proofs.lemmas.List.{take_all}
use Rattle.calculus.specs.Database.{Db}
use Rattle.calculus.specs.declared.query.RelKey.{RelKey}
use Rattle.calculus.specs.declared.schema.RelInfo.{RelInfo}
use Rattle.base_trait.specs.Known.{known_at}
use Rattle.stored_database.specs.Printed.{Files}
use Rattle.catalog_moves.specs.declared.files.FilePlace.{FilePlace}
use Rattle.catalog_moves.specs.declared.gone.Sort.{Sort}
use Rattle.catalog_moves.specs.Gone.{is_sort, goes, gone_at}

-- where all were taken
pub whole : {X : Type 0} (P : List X → Type 0) (xs : List X) (i : ℕ) → length xs ≤ i → P (take i xs) → P xs
whole P xs i over h = subst P (take_all i xs over) h

-- so it is where the list is known by another name
pub whole_of : {X : Type 0} (P : List X → Type 0) (xs ds : List X) → ds ≡ xs → (i : ℕ) → length ds ≤ i → P (take i xs) → P xs
whole_of P xs ds e i over h = whole P xs i (subst (λ l. length l ≤ i) e over) h

-- what is known at a place and goes
pub known_goes : (s : Sort) (rels : List RelKey) (f : Files) (db : Db) (p : FilePlace) (i : RelInfo) → goes rels f p ≡ true → known_at db p.key ≡ Some i → gone_at s rels f db p ≡ cond (is_sort s i.spec) (i ∷ []) []
known_goes s rels f db p i went known = ap₂ (λ (b : Bool) (o : Option RelInfo). cond b (elim o [ None ↦ [] | Some i ↦ cond (is_sort s i.spec) (i ∷ []) [] ]) []) went known

-- nothing is known there
pub unknown_goes : (s : Sort) (rels : List RelKey) (f : Files) (db : Db) (p : FilePlace) → goes rels f p ≡ true → known_at db p.key ≡ None → gone_at s rels f db p ≡ []
unknown_goes s rels f db p went known = ap₂ (λ (b : Bool) (o : Option RelInfo). cond b (elim o [ None ↦ [] | Some i ↦ cond (is_sort s i.spec) (i ∷ []) [] ]) []) went known

-- what lies there stays
pub nothing_goes : (s : Sort) (rels : List RelKey) (f : Files) (db : Db) (p : FilePlace) → goes rels f p ≡ false → gone_at s rels f db p ≡ []
nothing_goes s rels f db p stays = (λ i. cond (stays i) (elim (known_at db p.key) [ None ↦ [] | Some i ↦ cond (is_sort s i.spec) (i ∷ []) [] ]) [])
