-- Whether the rows under a key are in memory.
use Rattle.std.proofs.Common.{◌≡◌, ◌∙◌, refl, sym, ap, ap₂, Bool, true, false, ◌||◌, not, Result, Ok, Err, OnOk}
use Rattle.calculus.specs.declared.query.RelKey.{RelKey}
use Rattle.calculus.specs.Database.{is_relation}
use Rattle.plain_base.specs.Shown.{database_of}
use Rattle.catalog_moves.specs.Files.{is_in}
use Rattle.catalog.specs.Reads.{rows_known}
use Rattle.catalog.specs.declared.catalog.Catalog.{Catalog}

pub known_loaded : (c : Catalog) (key : RelKey) → is_in c.loaded key ≡ true → rows_known c key ≡ true
known_loaded c key is = ap (λ b. b || not (is_relation (database_of c.plain) key)) is

or_last : (a : Bool) → (a || true) ≡ true
or_last true = refl
or_last false = refl

pub known_none : (c : Catalog) (key : RelKey) → is_relation (database_of c.plain) key ≡ false → rows_known c key ≡ true
known_none c key none = ap (λ b. is_in c.loaded key || not b) none ∙ or_last (is_in c.loaded key)

pub not_known : (c : Catalog) (key : RelKey) (P : Type 0) → is_in c.loaded key ≡ false → is_relation (database_of c.plain) key ≡ true → rows_known c key ≡ true → P
not_known c key P unread there is =
    let bad : false ≡ true = sym (ap₂ (λ a b. a || not b) unread there) ∙ is in
    absurd (cc bad)

pub known_read : {T E : Type 0} (r : Result T E) (c : Catalog) (key : RelKey) → OnOk r (is_in c.loaded key ≡ true) → OnOk r (rows_known c key ≡ true)
known_read (Ok x) c key is = known_loaded c key is
known_read (Err e) c key is = tt
