-- The image on which no row of a relation lies, and what relations are read of it.
use Rattle.std.proofs.Common.{◌≡◌, ap, ◌∙◌, ℕ, ◌^◌, ◌<◌, ◌≤◌, ◌==◌, ◌&&◌, nat_le, not, Bool, true, List, [], ◌∷◌, Option, Some, None, option_map, arith, refl, if◌then◌else◌}
use Rattle.std.specs.List.{list_all}
use Rattle.std.specs.Ordering.{nat_cmp}
use Rattle.std.proofs.lemmas.Bool.{leb-true, ltb-true}
use Rattle.std.proofs.lemmas.Cmp.{tied_itself}
use Rattle.std.proofs.lemmas.Option.{same_Some}
use Rattle.calculus.specs.declared.schema.Attr.{Attr}
use Rattle.calculus.specs.declared.schema.RelInfo.{RelInfo}
use Rattle.calculus.specs.declared.schema.Spec.{Spec}
use Rattle.calculus.specs.declared.schema.Spec.TheVariants.{Heap, Hash, Isam, View, Index}
use Rattle.calculus.specs.declared.value.Domain.{Domain}
use Rattle.calculus.specs.declared.value.Kind.{Kind}
use Rattle.calculus.specs.declared.value.Kind.TheVariants.{Of, Wide}
use Rattle.calculus.specs.IsDatabase.{is_stored_kind, are_stored}
use Rattle.calculus.specs.Lists.{is_any}
use Rattle.calculus.specs.Structures.{is_structure}
use Rattle.disk_model.specs.Disk.{Image}
use Rattle.disk_model.specs.declared.disk.Addr.{Addr}
use Rattle.page_chain.specs.Lists.{◌>>=◌, each}
use Rattle.page_chain.specs.Pages.{page_at, pages_of}
use Rattle.page_chain.specs.Rows.{set_on, reader}
use Rattle.stored_database.specs.Catalogue.{Catalogue, IsCatalogue}
use Rattle.stored_database.specs.Entries.{Entry, is_entry, is_one_chain, has_no_pages, suits_spec}
use Rattle.stored_database.specs.Spelled.{entry_at, attrs_of, info_of, domain_of, relation_of, entries_that}
use Rattle.stored_database.proofs.EntryBytes.{Stands, stands}
use Rattle.stored_database.proofs.Members.{IsIn, of_all, tests_of, filter_in, in_found}
use Rattle.stored_database.proofs.Orders.{entry_total}
use Rattle.stored_database.proofs.Reading.{both, same_number, number_itself}
use Rattle.stored_database.proofs.Sets.{sorted_exact}
use Rattle.stored_database.proofs.SpelledParts.{entry_found}
use Rattle.catalog_read.specs.Parts.{relation_in}
use Rattle.catalog_read.specs.Read.{relation_info}
use Rattle.catalog_laws.proofs.EmptyPages.{empty_pages, are_empty}

-- ---- domains

-- an attribute that is stored has a domain
domain_of_stored : (a : Attr) → is_stored_kind a.kind ≡ true → (d : Domain) × (domain_of a ≡ Some d)
domain_of_stored a h = go a.kind h
  where
    go : (k : Kind) → is_stored_kind k ≡ true → (d : Domain) × ((elim k as (λ (k : Kind). Option Domain) [ Wide ↦ None | Of domain ↦ Some domain ]) ≡ Some d)
    go Wide h = cc h
    go (Of d) h = (d, refl)

-- and so have all of them
with_domains : (attrs : List Attr) → are_stored attrs ≡ true → (domains : List Domain) × (each domain_of attrs ≡ Some domains)
with_domains [] h = ([], refl)
with_domains (a ∷ attrs) h =
    let t = both (is_stored_kind a.kind) (are_stored attrs) h in
    let one = domain_of_stored a t.0 in
    let more = with_domains attrs t.1 in
    (one.0 ∷ more.0, λ i. one.1 i >>= (λ d. option_map (λ ds. d ∷ ds) (more.1 i)))

-- ---- pages of relations

-- the entry of a relation has a page
has_page : (e : Entry) → suits_spec e ≡ true → is_structure e.spec ≡ true → nat_le 1 e.used ≡ true
unfolding suits_spec
has_page e h structure = go e.spec structure h
  where
    one : ((e.base == 0) && is_one_chain e) ≡ true → nat_le 1 e.used ≡ true
    one h =
        let chain = both (e.base == 0) (is_one_chain e) h in
        let rest = both (e.primary == 1) ((e.directory == 0) && nat_le 1 e.used) chain.1 in
        (both (e.directory == 0) (nat_le 1 e.used) rest.1).1

    go : (s : Spec) → is_structure s ≡ true
        → (elim s as (λ (s : Spec). Bool) [
          | Heap ↦ (e.base == 0) && is_one_chain e
          | Hash ↦ (e.base == 0) && is_one_chain e
          | Isam ↦ (e.base == 0) && is_one_chain e
          | View ↦ (e.base == 0) && (has_no_pages e && not (is_any e.keys))
          | Index ↦ has_no_pages e
        ]) ≡ true → nat_le 1 e.used ≡ true
    go Heap s h = one h
    go Hash s h = one h
    go Isam s h = one h
    go View s h = cc s
    go Index s h = cc s

-- each relation's entry has at least one page
abbrev pub have_pages : Catalogue → Bool
have_pages cat = list_all (λ e. nat_le 1 e.used) (entries_that is_structure cat)

-- the entries of relations of a catalogue have pages
pub relations_have_pages : (cat : Catalogue) → IsCatalogue cat → have_pages cat ≡ true
relations_have_pages cat is = tests_of (λ (e : Entry). nat_le 1 e.used) (entries_that is_structure cat) (λ e at.
    let f = filter_in (λ (e : Entry). is_structure e.spec) cat.entries e at in
    has_page e (stands e (of_all (λ (e : Entry). is_entry e ≡ true) cat.entries e is.are_entries f.0)).suits f.1)

-- ---- the image

-- the page at an address, where this is the entry of its file: of a relation an empty one
page_by : Image → Addr → Option Entry → Option (List ℕ)
page_by m b None = m b
page_by m b (Some e) = if is_structure e.spec then empty_pages e.used b.page else m b

-- the image with empty pages in the files of relations
pub image_without : Catalogue → Image → Image
image_without cat m b = page_by m b (entry_at cat b.file)

-- what a value was mapped from
mapped_some : {A B : Type 0} (f : A → B) (o : Option A) (y : B) → option_map f o ≡ Some y → (x : A) × (o ≡ Some x) × (f x ≡ y)
mapped_some f None y h = cc h
mapped_some f (Some x) y h = (x, refl, same_Some (f x) y h)

module _ (cat : Catalogue) (m : Image) (is : IsCatalogue cat) where
  entry_stands : (e : Entry) → IsIn e cat.entries → Stands e
  entry_stands e at = stands e (of_all (λ (e : Entry). is_entry e ≡ true) cat.entries e is.are_entries at)

  -- the pages of the first files are the same
  pub low_stays : (b : Addr) → b.file < 16 → image_without cat m b ≡ m b
  unfolding image_without page_by
  low_stays b low = go (entry_at cat b.file) refl
    where
      high : (e : Entry) → IsIn e cat.entries × (e.file ≡ b.file) → ⊥
      high e f = let from : 16 ≤ e.file = leb-true 16 e.file (entry_stands e f.0).from in omega (arith, from, low, f.1)

      go : (o : Option Entry) → entry_at cat b.file ≡ o → page_by m b (entry_at cat b.file) ≡ m b
      go None e = ap (page_by m b) e
      go (Some x) e = absurd (high x (entry_found cat b.file x e))

  -- an entry is that of its file
  entry_itself : (e : Entry) → IsIn e cat.entries → entry_at cat e.file ≡ Some e
  unfolding entry_at
  entry_itself e at = in_found (λ (x : Entry). x.file == e.file) cat.entries e at (number_itself e.file)
      (λ y k h. sorted_exact entry_total cat.entries is.entries_ascend y e k at (ap (λ n. nat_cmp n e.file) (same_number y.file e.file h) ∙ tied_itself entry_total e))

  -- the pages of a relation are empty ones
  its_pages : (e : Entry) → IsIn e cat.entries → is_structure e.spec ≡ true → pages_of (image_without cat m) e.file ≡ empty_pages e.used
  unfolding image_without page_by
  its_pages e at structure = λ i page.
      (ap (page_by m (page_at e.file page)) (entry_itself e at) ∙ ap (λ t. if t then empty_pages e.used page else m (page_at e.file page)) structure) i

  -- no row lies on them
  no_rows : (e : Entry) → IsIn e cat.entries → is_structure e.spec ≡ true → 1 ≤ e.used → (domains : List Domain)
      → set_on (reader domains) e.used (pages_of (image_without cat m) e.file) ≡ Some []
  no_rows e at structure some domains =
      ap (set_on (reader domains) e.used) (its_pages e at structure)
      ∙ (are_empty e.used some (ltb-true e.used (2 ^ 32) (entry_stands e at).used)).none (reader domains)

  -- the relation of an entry is what is known of it, without rows
  pub relation_without : (e : Entry) (info : RelInfo) → IsIn e cat.entries → is_structure e.spec ≡ true → 1 ≤ e.used → are_stored info.attrs ≡ true → relation_info cat e ≡ Some info
      → relation_of (pages_of (image_without cat m)) cat e ≡ Some (relation_in info)
  unfolding relation_of relation_info
  relation_without e info at structure some stored known =
      let a = mapped_some (info_of e) (attrs_of cat e.file) info known in
      let d = with_domains a.0 (ap (λ (i : RelInfo). are_stored i.attrs) a.2 ∙ stored) in
      (λ i. a.1 i >>= (λ attrs. each domain_of attrs >>= (λ domains. set_on (reader domains) e.used (pages_of (image_without cat m) e.file) >>= (λ rows.
      Some (record { info = info_of e attrs; rows = rows })))))
      ∙ (λ i. d.1 i >>= (λ domains. set_on (reader domains) e.used (pages_of (image_without cat m) e.file) >>= (λ rows. Some (record { info = info_of e a.0; rows = rows }))))
      ∙ (λ i. no_rows e at structure some d.0 i >>= (λ rows. Some (record { info = info_of e a.0; rows = rows })))
      ∙ ap (λ (i : RelInfo). Some (relation_in i)) a.2
