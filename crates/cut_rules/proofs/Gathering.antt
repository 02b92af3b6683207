-- What is said of all aggregates of a query, and why one of them may not be read.
use Rattle.std.proofs.Common.{◌≡◌, refl, sym, ap, ◌∙◌, ℕ, ◌<◌, Bool, true, false, List, map, length, get_or, Option, Some, Err}
use Rattle.std.specs.List.{list_all}
use Rattle.std.proofs.lemmas.Simd.{map-map}
use Rattle.std.proofs.lemmas.List.Folds.{list_all-map, list_all_at}
use Rattle.calculus.specs.Database.{Db}
use Rattle.view_expand.specs.declared.fault.ExpansionFault.{ExpansionFault}
use Rattle.view_expand.specs.Causes.{HasCause}
use Rattle.view_expand.proofs.Causing.{caused_behind}

-- what all pass, each passes
pub each_true : {X : Type 0} (p : X → Bool) (xs : List X) (i : ℕ) (x : X) → list_all p xs ≡ true → i < length xs → x ≡ get_or xs i x → p x ≡ true
each_true {X} p xs i x all h is = go (p (get_or xs i x)) refl
  where
    go : (b : Bool) → p (get_or xs i x) ≡ b → p x ≡ true
    go true e = ap p is ∙ e
    go false e = let bad : true ≡ false = sym all ∙ list_all_at p xs i x h e in absurd (cc bad)

-- a test of what items stand for
pub all_under : {X Y : Type 0} (p : Y → Bool) (f : X → Y) (xs : List X) (ys : List Y) → map f xs ≡ ys → list_all (λ x. p (f x)) xs ≡ list_all p ys
all_under p f xs ys h = sym (list_all-map p f xs) ∙ ap (list_all p) h

-- what is made of what items stand for
pub map_under : {X Y Z : Type 0} (k : Y → Z) (f : X → Y) (xs : List X) (ys : List Y) → map f xs ≡ ys → map (λ x. k (f x)) xs ≡ map k ys
map_under k f xs ys h = sym (map-map k f xs) ∙ ap (map k) h

-- an error of another answer, behind what leaves the database, and the count of faults, as they are
pub error_behind : {S T : Type 0} (refused other : Db → Type 0) (known mid_known : Option Db) (before mid now : ℕ) (fault : ExpansionFault) → mid_known ≡ known → mid ≡ before
    → ((db : Db) → known ≡ Some db → refused db → other db) → HasCause {T = S} refused mid_known mid now (Err fault) → HasCause {T = T} other known before now (Err fault)
error_behind {S} {T} refused other known mid_known before mid now fault e l f c =
    caused_behind {T = T} refused other known mid_known before mid now (Err fault) e l f (record { later = c.later; caused = c.caused })
