-- Where a relation or an index has a file.
use Rattle.std.proofs.Common.{◌≡◌, refl, sym, ap, subst, ◌∙◌, inl, inr, ◌≤◌, nat_le, not, true≢false, Bool, true, false, List, [], ◌∷◌, map, ℕ, Option, Some, None, Result, Ok, Err, arith}
use Rattle.std.specs.Prelude.{IfOk, is_some, ◌⊎◌}
use Rattle.std.specs.Option.{ForSome}
use Rattle.std.proofs.lemmas.Bool.{leb-true}
use Rattle.std.proofs.lemmas.Option.{same_Some}
use Rattle.calculus.specs.declared.query.RelKey.{RelKey}
use Rattle.calculus.specs.declared.schema.Attr.{Attr}
use Rattle.calculus.specs.declared.schema.RelInfo.{RelInfo}
use Rattle.calculus.specs.declared.schema.Spec.{Spec}
use Rattle.calculus.specs.declared.schema.Spec.TheVariants.{Heap, Hash, Isam, View, Index}
use Rattle.calculus.specs.Database.{Db, Relation, entries, entry_at}
use Rattle.calculus.specs.Database as database
use Rattle.calculus.specs.IsDatabase.{IsDatabase, are_stored, valid_index, valid_view_info}
use Rattle.calculus.specs.Lists.{is_any}
use Rattle.calculus.specs.Structures.{is_index, is_structure, is_view}
use Rattle.calculus.specs.declared.schema.RelFile.{RelFile}
use Rattle.memory.specs.declared.out_of_memory.OutOfMemory.{OutOfMemory}
use Rattle.page_chain.specs.Lists.{each}
use Rattle.stored_database.specs.Printed.{Files, is_file}
use Rattle.stored_database.specs.Spelled.{domain_of}
use Rattle.stored_database.proofs.Members.{IsIn, in_either, map_in, of_tests}
use Rattle.stored_database.proofs.Reading.{both}
use Rattle.catalog_moves.specs.Bases.{IndexBases}
use Rattle.catalog_moves.specs.Files.{files_of}
use Rattle.catalog_moves.specs.declared.files.FileTable.{FileTable}
use Rattle.catalog_moves.proofs.OnBase.{entry_itself}
use Rattle.catalog_laws.proofs.From.{found_under}
use Rattle.catalog.specs.Asked.{HasChain, HasKind, IsFileBy, IsTheFile, has_file}
use Rattle.catalog.specs.Filling.{IsFileWith}
use Rattle.catalog.proofs.Attributes.{have_domains}

-- what stands under a key is among the entries
stands_there : (db : Db) → IsDatabase db → (key : RelKey) (info : RelInfo) → entry_at db key ≡ Some info → IsIn info (entries db)
stands_there db is key info there =
    let i = found_under db key (ap is_some there) in
    let one : i.0 ≡ info = same_Some i.0 info (sym (entry_itself db is i.0 i.1) ∙ ap (entry_at db) i.2 ∙ there) in
    subst (λ (j : RelInfo). IsIn j (entries db)) one i.1

-- without attributes all of them have domains
no_attributes : (attrs : List Attr) → not (is_any attrs) ≡ true → each domain_of attrs ≡ None → ⊥
no_attributes [] h e = absurd (cc e)
no_attributes (a ∷ attrs) h e = absurd (cc h)

-- what is no view has domains for its attributes
has_domains : (db : Db) → IsDatabase db → (info : RelInfo) → IsIn info (entries db) → is_view info.spec ≡ false → each domain_of info.attrs ≡ None → ⊥
has_domains db is info at off none = elim (in_either (map (λ (r : Relation). r.info) db.relations) _ info at) [
  | inl a ↦ (
      let m = map_in (λ (r : Relation). r.info) db.relations info a in
      have_domains info.attrs (ap (λ (i : RelInfo). are_stored i.attrs) m.2 ∙ of_tests (λ (r : Relation). are_stored r.info.attrs) db.relations m.0 is.relations_are_stored m.1) none)
  | inr b ↦ elim (in_either (map (λ (v : database.View). v.info) db.views) _ info b) [
    | inl a ↦ (
        let m = map_in (λ (v : database.View). v.info) db.views info a in
        true≢false (sym (ap (λ (i : RelInfo). is_view i.spec) m.2 ∙ (both (is_view m.0.info.spec) _ (of_tests (λ (v : database.View). valid_view_info v.info) db.views m.0 is.view_infos_stand m.1)).0) ∙ off))
    | inr c ↦ (
        let m = map_in (λ (x : database.Index). x.info) db.indexes info c in
        let one = both (is_index m.0.info.spec) _ (of_tests (valid_index db) db.indexes m.0 is.indexes_stand m.1) in
        let two = both (database.is_relation db m.0.base) _ one.1 in
        no_attributes info.attrs (ap (λ (i : RelInfo). not (is_any i.attrs)) m.2 ∙ (both (not (is_any m.0.info.attrs)) _ two.1).0) none)
  ]
]

-- a view has no chain
no_chain : (s : Spec) (its : RelFile) → HasChain s its → is_view s ≡ false
unfolding HasChain
no_chain Heap its h = refl
no_chain Hash its h = refl
no_chain Isam its h = refl
no_chain View its h = absurd h
no_chain Index its h = refl

-- a file with so many pages on a chain, of which an index has none yet
pub index_there : (info : RelInfo) (file : ℕ) (its x : RelFile) → info.spec ≡ Index → IsFileWith info file 0 its → Some (record its { primary = 0 }) ≡ Some x → HasKind info x × (x.file ≡ file)
unfolding HasChain
index_there info file its x is by e =
    let none : RelFile = record its { primary = 0 } in
    subst (λ (y : RelFile). HasKind info y × (y.file ≡ file)) (same_Some none x e)
    (record { spec = by.spec; keys = by.keys; domains = by.domains; chain = subst (λ (s : Spec). HasChain s none) (sym is) (refl, by.directory, by.pages) }, by.number)

pub by_index : (info : RelInfo) (file used : ℕ) (r : Result (Option RelFile) OutOfMemory) → info.spec ≡ Index → IfOk r (λ found. ForSome found (λ its. HasKind info its × (its.file ≡ file)))
    → IfOk r (λ found. ForSome found (λ its. IsFileBy info file used its))
by_index info file used (Err e) is by = tt
by_index info file used (Ok found) is by = λ its e. (
    let h = by its e in
    record { kind = h.0; number = h.1; pages = λ structure. absurd (true≢false (sym structure ∙ ap is_structure is)) })

pub by_chain : (info : RelInfo) (file used : ℕ) (r : Result (Option RelFile) OutOfMemory) → (info.spec ≡ View → ⊥) → (info.spec ≡ Index → ⊥) → IfOk r (λ found. ForSome found (λ its. IsFileWith info file used its))
    → IfOk r (λ found. ForSome found (λ its. IsFileBy info file used its))
unfolding HasChain
by_chain info file used (Err e) no_view no_index by = tt
by_chain info file used (Ok found) no_view no_index by = λ its e. (
    let h = by its e in
    record { kind = record { spec = h.spec; keys = h.keys; domains = h.domains; chain = chained info.spec its no_view no_index h.primary h.directory }; number = h.number; pages = λ structure. h.pages })
  where
    chained : (s : Spec) (its : RelFile) → (s ≡ View → ⊥) → (s ≡ Index → ⊥) → its.primary ≡ 1 → its.directory ≡ 0 → HasChain s its
    chained Heap its v x p d = (p, d)
    chained Hash its v x p d = (p, d)
    chained Isam its v x p d = (p, d)
    chained View its v x p d = v refl
    chained Index its v x p d = absurd (x refl)

pub none_right : {T : Type 0} (r : Result (Option T) OutOfMemory) (P Q : Type 0) → IfOk r (λ found. found ≡ None → Q) → IfOk r (λ found. found ≡ None → P ⊎ Q)
none_right (Err e) P Q none = tt
none_right (Ok found) P Q none = λ e. inr (none e)

-- what is found is there exactly where a file is
pub is_exact : (db : Db) → IsDatabase db → (key : RelKey) (info : RelInfo) (file used : ℕ) (result : Result (Option RelFile) OutOfMemory) → entry_at db key ≡ Some info
    → IfOk result (λ found. ForSome found (λ its. IsFileBy info file used its)) → IfOk result (λ found. found ≡ None → (is_view info.spec ≡ true) ⊎ (each domain_of info.attrs ≡ None))
    → IfOk result (λ found. is_some found ≡ has_file db key)
is_exact db is key info file used (Err e) there some none = tt
is_exact db is key info file used (Ok (Some its)) there some none =
    ap not (sym (no_chain info.spec its (some its refl).kind.chain)) ∙ ap (λ (o : Option RelInfo). elim o [ None ↦ false | Some info ↦ not (is_view info.spec) ]) (sym there)
is_exact db is key info file used (Ok None) there some none = go (is_view info.spec) refl (none refl) ∙ ap (λ (o : Option RelInfo). elim o [ None ↦ false | Some info ↦ not (is_view info.spec) ]) (sym there)
  where
    go : (b : Bool) → is_view info.spec ≡ b → (is_view info.spec ≡ true) ⊎ (each domain_of info.attrs ≡ None) → false ≡ not (is_view info.spec)
    go true e off = ap not (sym e)
    go false e (inl view) = absurd (true≢false (sym view ∙ e))
    go false e (inr domains) = absurd (has_domains db is info (stands_there db is key info there) e domains)

-- what is found is the file of what stands there
pub is_the_file : (db : Db) (f : Files) (key : RelKey) (info : RelInfo) (file used : ℕ) (result : Result (Option RelFile) OutOfMemory) → entry_at db key ≡ Some info → file ≡ f.file key → used ≡ f.used key
    → IfOk result (λ found. ForSome found (λ its. IsFileBy info file used its)) → IfOk result (λ found. ForSome found (λ its. IsTheFile db f key its))
is_the_file db f key info file used (Err e) there number pages some = tt
is_the_file db f key info file used (Ok found) there number pages some = λ its e. (
    let by = some its e in
    record { info = info; there = there; kind = by.kind; number = by.number ∙ number; pages = λ structure. by.pages structure ∙ pages })

-- what stands in a database has a file
pub has_a_file : (table : FileTable) (db : Db) (key : RelKey) (info : RelInfo) → IndexBases table db → entry_at db key ≡ Some info → (files_of table).file key ≡ 0 → ⊥
has_a_file table db key info bases there none =
    let i = found_under db key (ap is_some there) in
    let number : 16 ≤ (files_of table).file key =
    subst (λ (k : RelKey). 16 ≤ (files_of table).file k) i.2
    (leb-true 16 ((files_of table).file i.0.key) (both (nat_le 16 ((files_of table).file i.0.key)) _ (of_tests (λ (i : RelInfo). is_file ((files_of table).file i.key)) (entries db) i.0 bases.are_files i.1)).0) in
    omega (arith, number, none)
