-- Whose database pages hold.
use Rattle.std.proofs.Common.{◌≡◌, refl, sym, ap, ◌∙◌, ℕ, Bool, true, false, List, take, drop, Option, Some, None, if◌then◌else◌}
use Rattle.std.specs.Prelude.{bytes_eq}
use Rattle.calculus.specs.Name.{is_name}
use Rattle.calculus.specs.Text.{trimmed}
use Rattle.disk_model.specs.Disk.{Image}
use Rattle.batch_file.specs.Layout.{addr}
use Rattle.page_chain.specs.Lists.{◌>>=◌, when}
use Rattle.stored_database.specs.Names.{name_of}
use Rattle.stored_database.specs.Denoting.{header_bytes, header_of}
use Rattle.db_disk.specs.Held.{administrator}

named : (t : Bool) (name : List ℕ) → (if t then Some name else None) ≡ when t name
named true name = refl
named false name = refl

-- the name that is read, and then the test of the whole header
header_by : (page field : List ℕ) (o : Option (List ℕ)) → field ≡ trimmed (take 12 (drop 10 page)) → o ≡ (if is_name field then Some field else None)
    → o >>= (λ dba. when (bytes_eq (take 22 page) (header_bytes dba)) dba) ≡ header_of page
unfolding header_of name_of
header_by page field o is named_so =
    ap (λ o. o >>= (λ dba. when (bytes_eq (take 22 page) (header_bytes dba)) dba))
    (named_so ∙ named (is_name field) field ∙ ap (λ f. when (is_name f) f) is)

pub header_tested : (page field : List ℕ) (o : Option (List ℕ)) (dba : List ℕ) (t u : Bool) → field ≡ trimmed (take 12 (drop 10 page)) → o ≡ (if is_name field then Some field else None)
    → o ≡ Some dba → u ≡ bytes_eq (take 22 page) (header_bytes dba) → u ≡ t → when t dba ≡ header_of page
header_tested page field o dba t u is named_so some test so =
    ap (λ t. when t dba) (sym so ∙ test) ∙ sym (ap (λ o. o >>= (λ dba. when (bytes_eq (take 22 page) (header_bytes dba)) dba)) some) ∙ header_by page field o is named_so

pub header_none : (page field : List ℕ) (o : Option (List ℕ)) → field ≡ trimmed (take 12 (drop 10 page)) → o ≡ (if is_name field then Some field else None) → o ≡ None → None ≡ header_of page
header_none page field o is named_so none =
    sym (ap (λ o. o >>= (λ dba. when (bytes_eq (take 22 page) (header_bytes dba)) dba)) none) ∙ header_by page field o is named_so

pub no_page : (m : Image) (found : Bool) (page : List ℕ) → m (addr 0 0) ≡ (if found then Some page else None) → found ≡ false → None ≡ administrator m
unfolding administrator
no_page m found page is so = sym (ap (λ o. o >>= header_of) (is ∙ ap (λ t. if t then Some page else None) so))

pub a_page : (m : Image) (found : Bool) (page : List ℕ) (name : Option (List ℕ)) → m (addr 0 0) ≡ (if found then Some page else None) → found ≡ true → name ≡ header_of page → name ≡ administrator m
unfolding administrator
a_page m found page name is so named_so = named_so ∙ sym (ap (λ o. o >>= header_of) (is ∙ ap (λ t. if t then Some page else None) so))
