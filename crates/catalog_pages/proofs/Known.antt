-- Where writing failed, there was no catalogue.
use Rattle.std.proofs.Common.{◌≡◌, sym, subst, ℕ, Option, Some}
use Rattle.am_traits.specs.Causes.{IsAtFault}
use Rattle.disk_model.specs.Disk.{Image}
use Rattle.disk_model.specs.declared.disk.Addr.{Addr}
use Rattle.page_chain.specs.Chains.{NoChainTo}
use Rattle.page_chain.specs.Pages.{pages_of}
use Rattle.stored_database.specs.Catalogue.{most_pages}
use Rattle.catalog_pages.specs.Ends.{EndsAt, NoCatalogue}
use Rattle.catalog_pages.specs.declared.writing.Ends.{Ends}
use Rattle.catalog_pages.proofs.Files.{ends_are}

-- a chain that ends there isn't missing
there_it_ends : (file last : ℕ) (m : Image) (a : Addr) → NoChainTo file most_pages last m a → EndsAt (pages_of m file) last → ⊥
there_it_ends file last m a fault ends = let its = ends_are (pages_of m file) last ends in fault.none ends.earlier its.0 its.1

-- of the first file
pub first_fault : (ends : Ends) (old : Option Image) (a : Addr) → IsAtFault old (NoChainTo 5 most_pages ends.entries) a → IsAtFault old (NoCatalogue ends) a
first_fault ends old a fault m is cat holds there = there_it_ends 5 ends.entries m a (fault m is) there.entries

-- of the second, after the first was written
pub second_fault : (ends : Ends) (old mid : Option Image) → ((m : Image) → old ≡ Some m → (n : Image) × (mid ≡ Some n) × (pages_of n 6 ≡ pages_of m 6))
    → (a : Addr) → IsAtFault mid (NoChainTo 6 most_pages ends.columns) a → IsAtFault old (NoCatalogue ends) a
second_fault ends old mid same a fault m is cat holds there =
    let its = same m is in
    there_it_ends 6 ends.columns its.0 a (fault its.0 its.1) (subst (λ pages. EndsAt pages ends.columns) (sym its.2) there.columns)

-- of the third, after the other two
pub third_fault : (ends : Ends) (old mid : Option Image) → ((m : Image) → old ≡ Some m → (n : Image) × (mid ≡ Some n) × (pages_of n 7 ≡ pages_of m 7))
    → (a : Addr) → IsAtFault mid (NoChainTo 7 most_pages ends.parts) a → IsAtFault old (NoCatalogue ends) a
third_fault ends old mid same a fault m is cat holds there =
    let its = same m is in
    there_it_ends 7 ends.parts its.0 a (fault its.0 its.1) (subst (λ pages. EndsAt pages ends.parts) (sym its.2) there.parts)
