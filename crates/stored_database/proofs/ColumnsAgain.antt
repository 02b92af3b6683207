-- The columns of a catalogue are those that its database has.
use Rattle.std.proofs.Common.{◌≡◌, refl, sym, ap, ap₂, subst, ◌∙◌, inl, inr, ℕ, suc, ◌==◌, not, Bool, true, false, List, [], ◌∷◌, map, filter, Option, Some, None}
use Rattle.calculus.specs.declared.schema.Attr.{Attr}
use Rattle.calculus.specs.declared.schema.RelInfo.{RelInfo}
use Rattle.calculus.specs.declared.schema.Spec.{Spec}
use Rattle.calculus.specs.Database as database
use Rattle.calculus.specs.Keys.{same_key}
use Rattle.calculus.specs.Lists.{differ_by}
use Rattle.calculus.specs.Structures.{is_index}
use Rattle.page_chain.specs.Lists.{in_order, are_from}
use Rattle.page_chain.specs.Pages.{Pages}
use Rattle.stored_database.specs.Catalogue.{Catalogue, IsCatalogue}
use Rattle.stored_database.specs.Columns.{Column, column_cmp}
use Rattle.stored_database.specs.Entries.{Entry}
use Rattle.stored_database.specs.Printed.{files_in, columns_from, columns_for}
use Rattle.stored_database.specs.Spelled.{attrs_of, entry_at, entry_is, columns_stand}
use Rattle.stored_database.proofs.Infos.{IsKnown, to_info, of_info, file_is}
use Rattle.stored_database.proofs.Members.{IsIn, of_tests, in_filter, filter_in, in_flat_map, flat_map_in}
use Rattle.stored_database.proofs.Orders.{column_total}
use Rattle.stored_database.proofs.Reading.{both, when_some, same_number, number_itself}
use Rattle.stored_database.proofs.Sets.{set_is}
use Rattle.stored_database.proofs.SpelledParts.{Spells, entry_found}

-- an entry that passes a test
pub entry_passes : (test : Spec → Bool) (cat : Catalogue) (file : ℕ) → entry_is test cat file ≡ true → (e : Entry) × IsIn e cat.entries × (e.file ≡ file) × (test e.spec ≡ true)
unfolding entry_is
entry_passes test cat file h = go (entry_at cat file) refl h
  where
    go : (o : Option Entry) → entry_at cat file ≡ o → elim o [ None ↦ false | Some e ↦ test e.spec ] ≡ true → (e : Entry) × IsIn e cat.entries × (e.file ≡ file) × (test e.spec ≡ true)
    go None k h = cc
    go (Some e) k h = let f = entry_found cat file e k in (e, f.0, f.1, h)

-- columns of a file at the places from one on are those of their attributes
pub columns_again : (file place : ℕ) (cs : List Column) → ((c : Column) → IsIn c cs → (c.file == file) ≡ true) → are_from (λ c. c.place) place cs ≡ true → columns_from file place (map (λ c. c.attr) cs) ≡ cs
unfolding columns_from
columns_again file place [] of h = refl
columns_again file place (c ∷ cs) of h =
    let t = both (c.place == place) (are_from (λ c. c.place) (suc place) cs) h in
    let first : record { file = file; place = place; attr = c.attr } ≡ c = λ i. record { file = sym (same_number c.file file (of c (inl refl))) i; place = sym (same_number c.place place t.0) i; attr = c.attr } in
    ap₂ (λ (c : Column) (cs : List Column). c ∷ cs) first (columns_again file (suc place) cs (λ d at. of d (inr at)) t.1)

-- the attributes of a file as columns are the columns of the file
pub attrs_again : (cat : Catalogue) (file : ℕ) (attrs : List Attr) → attrs_of cat file ≡ Some attrs → columns_from file 0 attrs ≡ filter (λ c. c.file == file) cat.columns
unfolding attrs_of
attrs_again cat file attrs h =
    let cs = filter (λ c. c.file == file) cat.columns in
    let w = when_some (are_from (λ c. c.place) 0 cs) (map (λ c. c.attr) cs) attrs h in
    ap (columns_from file 0) (sym w.1) ∙ columns_again file 0 cs (λ c at. (filter_in (λ c. c.file == file) cat.columns c at).1) w.0

not_true : (b : Bool) → not b ≡ true → b ≡ false
not_true true h = cc
not_true false h = refl

module _ (files : ℕ → Pages) (cat : Catalogue) (db : database.Db) (s : Spells files cat db) (is_cat : IsCatalogue cat)
    (differ : differ_by same_key (map (λ i. i.key) (database.entries db)) ≡ true) where
  -- the columns of what is known of an entry
  known_columns : (e : Entry) (i : RelInfo) → IsIn e cat.entries → IsKnown cat e i → is_index e.spec ≡ false
      → columns_from ((files_in cat).file i.key) 0 i.attrs ≡ filter (λ c. c.file == e.file) cat.columns
  known_columns e i at k apart =
      ap (λ n. columns_from n 0 i.attrs) (ap (files_in cat).file k.key ∙ file_is files cat db s differ e at) ∙ attrs_again cat e.file i.attrs (k.attrs apart)

  no_columns : (e : Entry) (i : RelInfo) → IsKnown cat e i → is_index e.spec ≡ true → columns_from ((files_in cat).file i.key) 0 i.attrs ≡ []
  unfolding columns_from
  no_columns e i k is = ap (columns_from ((files_in cat).file i.key) 0) (k.none is)

  to_list : (c : Column) → IsIn c cat.columns → IsIn c (columns_for (files_in cat) db)
  unfolding columns_for columns_stand
  to_list c at =
      let p = entry_passes (λ s. not (is_index s)) cat c.file (of_tests (λ c. entry_is (λ s. not (is_index s)) cat c.file) cat.columns c s.columns at) in
      let i = to_info files cat db s p.0 p.1 in
      let own : (c.file == p.0.file) ≡ true = ap (λ n. c.file == n) p.2 ∙ number_itself c.file in
      in_flat_map (λ i. columns_from ((files_in cat).file i.key) 0 i.attrs) (database.entries db) i.0 c i.1
      (subst (IsIn c) (sym (known_columns p.0 i.0 p.1 i.2 (not_true (is_index p.0.spec) p.3))) (in_filter (λ c. c.file == p.0.file) cat.columns c at own))

  of_list : (c : Column) → IsIn c (columns_for (files_in cat) db) → IsIn c cat.columns
  unfolding columns_for
  of_list c at =
      let m = flat_map_in (λ i. columns_from ((files_in cat).file i.key) 0 i.attrs) (database.entries db) c at in
      let e = of_info files cat db s m.0 m.1 in
      go e.0 e.1 e.2 m.2 (is_index e.0.spec) refl
    where
      go : {i : RelInfo} (e : Entry) → IsIn e cat.entries → IsKnown cat e i → IsIn c (columns_from ((files_in cat).file i.key) 0 i.attrs) → (t : Bool) → is_index e.spec ≡ t → IsIn c cat.columns
      go {i} e et k at true is = absurd (subst (IsIn c) (no_columns e i k is) at)
      go {i} e et k at false apart = (filter_in (λ c. c.file == e.file) cat.columns c (subst (IsIn c) (known_columns e i et k apart) at)).0

  pub all_columns_again : cat.columns ≡ in_order column_cmp (columns_for (files_in cat) db)
  all_columns_again = set_is column_total cat.columns (columns_for (files_in cat) db) is_cat.columns_ascend to_list of_list
