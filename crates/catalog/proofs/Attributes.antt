-- The domains of the attributes of a relation, and how wide its rows are.
use Rattle.std.proofs.Common.{◌≡◌, refl, sym, ap, ap₂, subst, Result, Ok, Err, ◌∙◌, ℕ, ◌+◌, ◌<◌, ◌≤◌, nat_le, true, List, [], ◌∷◌, ◌++◌, length, Option, Some, None, append_assoc, arith}
use Rattle.std.specs.Prelude.{IfOk, sum_by, is_some}
use Rattle.std.specs.Option.{ForSome, option_map, option_or}
use Rattle.std.specs.List.{list_all}
use Rattle.std.proofs.lemmas.Bool.Decides.{nat_tests}
use Rattle.std.proofs.lemmas.List.Sums.{sum_by-cons}
use Rattle.std.proofs.lemmas.Option.{same_Some}
use Rattle.calculus.specs.declared.query.RelKey.{RelKey}
use Rattle.calculus.specs.declared.schema.Attr.{Attr}
use Rattle.calculus.specs.declared.schema.RelInfo.{RelInfo}
use Rattle.calculus.specs.declared.value.Domain.{Domain}
use Rattle.calculus.specs.declared.value.Domain.TheVariants.{I1, I2, I4, C}
use Rattle.calculus.specs.declared.value.Kind.{Kind}
use Rattle.calculus.specs.declared.value.Kind.TheVariants.{Of, Wide}
use Rattle.calculus.specs.Database.{Db, Relation, Index, View, index_at, is_relation, relation_at, view_at}
use Rattle.calculus.specs.Catalogue.{catalogue_at}
use Rattle.calculus.specs.IsDatabase.{IsDatabase, are_stored, attrs_stand, is_kind, is_stored_kind, kind_bytes}
use Rattle.calculus.specs.Keys.{same_key}
use Rattle.calculus.specs.Limits.{most_attributes, most_row_bytes}
use Rattle.calculus.specs.Lists.{is_any}
use Rattle.calculus.specs.Name.{is_name}
use Rattle.base_trait.specs.Known.{known_at}
use Rattle.calculus.specs.declared.schema.RelFile.{RelFile}
use Rattle.memory.specs.declared.out_of_memory.OutOfMemory.{OutOfMemory}
use Rattle.page_cells.specs.RowBytes.{widths}
use Rattle.page_chain.specs.Lists.{◌>>=◌, each}
use Rattle.quel_meaning.proofs.DatabaseFacts.{found_passes}
use Rattle.quel_names.proofs.Known.{entry_parts}
use Rattle.stored_database.proofs.Members.{each_parts}
use Rattle.stored_database.proofs.Reading.{both}
use Rattle.stored_database.specs.Printed.{Files}
use Rattle.stored_database.specs.Spelled.{domain_of}
use Rattle.catalog.specs.Filling.{IsFileOf, IsFileWith}

-- ---- domains one by one

pub each_more : (ds : List Domain) (d : Domain) (o : Option (List Domain)) → option_map (λ more. ds ++ more) (option_map (λ (ys : List Domain). d ∷ ys) o) ≡ option_map (λ more. (ds ++ d ∷ []) ++ more) o
each_more ds d None = refl
each_more ds d (Some ys) = ap Some (sym (append_assoc ds (d ∷ []) ys))

domain_is : (a : Attr) (d : Domain) → a.kind ≡ Of d → domain_of a ≡ Some d
domain_is a d e = ap (λ (k : Kind). elim k as (λ k. Option Domain) [ Wide ↦ None | Of domain ↦ Some domain ]) e

no_domain : (a : Attr) → a.kind ≡ Wide → domain_of a ≡ None
no_domain a e = ap (λ (k : Kind). elim k as (λ k. Option Domain) [ Wide ↦ None | Of domain ↦ Some domain ]) e

pub first_domain : (a : Attr) (others : List Attr) (d : Domain) → a.kind ≡ Of d → each domain_of (a ∷ others) ≡ option_map (λ ys. d ∷ ys) (each domain_of others)
first_domain a others d e = ap (λ (o : Option Domain). o >>= (λ y. option_map (λ ys. y ∷ ys) (each domain_of others))) (domain_is a d e)

pub none_first : (a : Attr) (others : List Attr) → a.kind ≡ Wide → each domain_of (a ∷ others) ≡ None
none_first a others e = ap (λ (o : Option Domain). o >>= (λ y. option_map (λ ys. y ∷ ys) (each domain_of others))) (no_domain a e)

-- ---- of a relation

-- attributes that are stored have domains
pub have_domains : (attrs : List Attr) → are_stored attrs ≡ true → each domain_of attrs ≡ None → ⊥
have_domains [] h e = absurd (cc e)
have_domains (a ∷ attrs) h e = go a.kind refl (have_domains attrs (both (is_stored_kind a.kind) (are_stored attrs) h).1)
  where
    go : (k : Kind) → a.kind ≡ k → (each domain_of attrs ≡ None → ⊥) → ⊥
    go Wide f later = absurd (cc ((both (is_stored_kind a.kind) (are_stored attrs) h).0, ap is_stored_kind f))
    go (Of d) f later = rest (each domain_of attrs) refl (sym (first_domain a attrs d f) ∙ e)
      where
        rest : (o : Option (List Domain)) → each domain_of attrs ≡ o → option_map (λ ys. d ∷ ys) (each domain_of attrs) ≡ None → ⊥
        rest None g k = later g
        rest (Some ys) g k = absurd (cc (sym (ap (option_map (λ ys. d ∷ ys)) g) ∙ k))

-- a row is as wide as its attributes are together
pub widths_are : (attrs : List Attr) (ds : List Domain) → each domain_of attrs ≡ Some ds → widths ds ≡ sum_by (λ a. kind_bytes a.kind) attrs
widths_are [] ds e = ap widths (sym (same_Some [] ds e))
widths_are (a ∷ attrs) ds e =
    let p = each_parts domain_of a attrs ds e in
    ap widths p.4 ∙ ap₂ (λ (m n : ℕ). m + n) (kind_is a.kind p.0 p.2) (widths_are attrs p.1 p.3) ∙ sym (sum_by-cons (λ a. kind_bytes a.kind) a attrs)
  where
    kind_is : (k : Kind) (d : Domain) → (elim k as (λ k. Option Domain) [ Wide ↦ None | Of domain ↦ Some domain ]) ≡ Some d → kind_bytes (Of d) ≡ kind_bytes k
    kind_is Wide d e = absurd (cc e)
    kind_is (Of c) d e = ap (λ d. kind_bytes (Of d)) (sym (same_Some c d e))

some_bytes : (k : Kind) → is_kind k ≡ true → 1 ≤ kind_bytes k
some_bytes Wide h = omega arith
some_bytes (Of I1) h = omega arith
some_bytes (Of I2) h = omega arith
some_bytes (Of I4) h = omega arith
some_bytes (Of (C n)) h = let b = both (nat_le 1 n) (nat_le n 255) h in grind (arith, nat_tests)

wide_enough : (attrs : List Attr) → is_any attrs ≡ true → list_all (λ a. is_kind a.kind) attrs ≡ true → 0 < sum_by (λ a. kind_bytes a.kind) attrs
wide_enough [] h k = absurd (cc h)
wide_enough (a ∷ attrs) h k = let one = some_bytes a.kind (both (is_kind a.kind) (list_all (λ a. is_kind a.kind) attrs) k).0 in let first = sum_by-cons (λ a. kind_bytes a.kind) a attrs in omega (arith, one, first)

-- How wide the rows of attributes that stand are.
pub widths_stand : (attrs : List Attr) (ds : List Domain) → attrs_stand attrs ≡ true → each domain_of attrs ≡ Some ds → (0 < widths ds) × (widths ds ≤ 1012)
widths_stand attrs ds h e =
    let any = both (is_any attrs) _ h in
    let few = both (nat_le (length attrs) most_attributes) _ any.1 in
    let named = both (list_all (λ a. is_name a.name) attrs) _ few.1 in
    let differ = both _ _ named.1 in
    let kinds = both (list_all (λ a. is_kind a.kind) attrs) (nat_le (sum_by (λ a. kind_bytes a.kind) attrs) most_row_bytes) differ.1 in
    let w = widths_are attrs ds e in
    let some = wide_enough attrs any.0 kinds.0 in
    let most = at_most (sum_by (λ a. kind_bytes a.kind) attrs) kinds.1 in
    (omega (arith, w, some), omega (arith, w, most))
  where
    at_most : (n : ℕ) → nat_le n most_row_bytes ≡ true → n ≤ 1000
    at_most n h = grind (arith, nat_tests)

-- What is known of a relation that stands under a key.
pub record IsRelationOf (db : Db) (key : RelKey) (info : Option RelInfo) : Type 0 where
  pub r : Relation
  pub there : relation_at db key ≡ Some r
  pub is : info ≡ Some r.info
  pub stand : attrs_stand r.info.attrs ≡ true
  pub stored : are_stored r.info.attrs ≡ true

pub relation_known : (db : Db) → IsDatabase db → (key : RelKey) (info : Option RelInfo) → is_relation db key ≡ true → info ≡ known_at db key → IsRelationOf db key info
unfolding known_at
relation_known db is key info h e = go (relation_at db key) refl
  where
    go : (o : Option Relation) → relation_at db key ≡ o → IsRelationOf db key info
    go None f = absurd (cc (sym h ∙ ap is_some f))
    go (Some r) f = record {
      r = r;
      there = f;
      is = e ∙ ap (λ (o : Option RelInfo). elim o as (λ o. Option RelInfo) [ Some info ↦ Some info | None ↦ option_map (λ (r : Relation). r.info) (catalogue_at db key) ])
          (entry_parts db key ∙ ap (λ o. option_or (option_map (λ (r : Relation). r.info) o) (option_or (option_map (λ (v : View). v.info) (view_at db key)) (option_map (λ (x : Index). x.info) (index_at db key)))) f);
      stand = found_passes (λ (r : Relation). same_key r.info.key key) (λ (r : Relation). attrs_stand r.info.attrs) db.relations r is.relation_attrs_stand f;
      stored = found_passes (λ (r : Relation). same_key r.info.key key) (λ (r : Relation). are_stored r.info.attrs) db.relations r is.relations_are_stored f;
    }

-- ---- the file of a relation

file_there : (db : Db) (f : Files) (key : RelKey) (known : Option RelInfo) (info : RelInfo) (file used : ℕ) (its : RelFile) → IsDatabase db → is_relation db key ≡ true
    → known ≡ known_at db key → known ≡ Some info → file ≡ f.file key → used ≡ f.used key → 16 ≤ file → 1 ≤ used → IsFileWith info file used its → IsFileOf db f key its
file_there db f key known info file used its is there k e number pages low some w =
    let o = relation_known db is key known there k in
    let same : info ≡ o.r.info = same_Some info o.r.info (sym e ∙ o.is) in
    let domains : each domain_of o.r.info.attrs ≡ Some its.domains = ap (λ (i : RelInfo). each domain_of i.attrs) (sym same) ∙ w.domains in
    let wide = widths_stand o.r.info.attrs its.domains o.stand domains in
    record {
      number = w.number ∙ number;
      pages = w.pages ∙ pages;
      domains = λ r at. ap (λ (r : Relation). each domain_of r.info.attrs) (same_Some r o.r (at ∙ o.there)) ∙ domains;
      first = subst (λ n. 16 ≤ n) (sym w.number) low;
      some = subst (λ n. 1 ≤ n) (sym w.pages) some;
      wide = wide.0;
      narrow = wide.1;
    }

pub files_there : (db : Db) (f : Files) (key : RelKey) (known : Option RelInfo) (info : RelInfo) (file used : ℕ) (found : Result (Option RelFile) OutOfMemory) → IsDatabase db → is_relation db key ≡ true
    → known ≡ known_at db key → known ≡ Some info → file ≡ f.file key → used ≡ f.used key → 16 ≤ file → 1 ≤ used
    → IfOk found (λ found. ForSome found (λ its. IsFileWith info file used its)) → IfOk found (λ found. ForSome found (λ its. IsFileOf db f key its))
files_there db f key known info file used (Ok found) is there k e number pages low some h = λ its at. file_there db f key known info file used its is there k e number pages low some (h its at)
files_there db f key known info file used (Err e) is there k g number pages low some h = h

-- where none is found, its attributes have no domains: so there is one
pub none_found : (db : Db) (key : RelKey) (known : Option RelInfo) (info : RelInfo) (found : Result (Option RelFile) OutOfMemory) (P : Type 0) → IsDatabase db → is_relation db key ≡ true
    → known ≡ known_at db key → known ≡ Some info → IfOk found (λ found. found ≡ None → each domain_of info.attrs ≡ None) → IfOk found (λ found. found ≡ None → P)
none_found db key known info (Err e) P is there k f h = h
none_found db key known info (Ok found) P is there k f h = λ n.
    (let o = relation_known db is key known there k in
    absurd (have_domains info.attrs (subst (λ (i : RelInfo). are_stored i.attrs ≡ true) (sym (same_Some info o.r.info (sym f ∙ o.is))) o.stored) (h n)))

-- something is known of a relation
pub known_there : (db : Db) (key : RelKey) (known : Option RelInfo) → IsDatabase db → is_relation db key ≡ true → known ≡ known_at db key → known ≡ None → ⊥
known_there db key known is there k n = let o = relation_known db is key known there k in absurd (cc (sym n ∙ o.is))
