-- The parts of a catalogue are those that its database has.
use Rattle.std.proofs.Common.{◌≡◌, refl, sym, ap, subst, ◌∙◌, inl, inr, ℕ, ◌==◌, ◌&&◌, nat_le, Bool, true, false, List, map, filter, Option, Some, None, is_some, arith}
use Rattle.std.specs.Prelude.{◌⊎◌}
use Rattle.std.proofs.lemmas.Bool.Decides.{nat_tests}
use Rattle.std.specs.List.{flat_map, list_all}
use Rattle.calculus.specs.declared.query.RelKey.{RelKey}
use Rattle.calculus.specs.declared.schema.Permit.{Permit}
use Rattle.calculus.specs.declared.schema.RelInfo.{RelInfo}
use Rattle.calculus.specs.declared.schema.Rule.{Rule}
use Rattle.calculus.specs.Database as database
use Rattle.calculus.specs.Keys.{same_key}
use Rattle.calculus.specs.Lists.{differ_by}
use Rattle.calculus.specs.Structures.{is_structure, is_view}
use Rattle.page_chain.specs.Lists.{in_order}
use Rattle.page_chain.specs.Pages.{Pages}
use Rattle.quel_tree.specs.Permits as spellings
use Rattle.quel_tree.specs.Queries as queries
use Rattle.tree_words.specs.Codec.{Codec}
use Rattle.stored_database.specs.Catalogue.{Catalogue, IsCatalogue}
use Rattle.stored_database.specs.Entries.{Entry}
use Rattle.stored_database.specs.Parts.{Part, part_cmp, is_part, of_view, of_rule, of_permit}
use Rattle.stored_database.specs.Names.{is_number32}
use Rattle.stored_database.specs.Printed.{Files, files_in, view_parts, numbered_parts, parts_for}
use Rattle.stored_database.specs.Spelled.{view_of, numbered_of, part_stands, parts_stand, entry_is}
use Rattle.stored_database.specs.Trees.{tree_of, tree_bytes, query_of, tree_at, firsts, is_part_of, cut, parts_from, parts_are_whole}
use Rattle.stored_database.proofs.ColumnsAgain.{entry_passes}
use Rattle.stored_database.proofs.Infos.{file_is}
use Rattle.stored_database.proofs.Members.{IsIn, of_all, of_tests, in_filter, filter_in, in_flat_map, flat_map_in, in_first, in_second, in_either}
use Rattle.stored_database.proofs.Orders.{part_total}
use Rattle.stored_database.proofs.PartsAgain.{tree_parts, first_part, is_that_part}
use Rattle.stored_database.proofs.Reading.{both, together, same_number, number_itself}
use Rattle.stored_database.proofs.Sets.{set_is}
use Rattle.stored_database.proofs.SpelledParts as parts
use Rattle.stored_database.proofs.SpelledParts.{Spells, entry_found}
use Rattle.stored_database.proofs.TreeBytes.{trees_are_their_bytes}

-- what is there
there : {A : Type 0} (o : Option A) → is_some o ≡ true → (a : A) × (o ≡ Some a)
there None h = cc
there (Some a) h = (a, refl)

-- a part is of its own tree
own_tree : (p : Part) (file sort number : ℕ) → p.file ≡ file → p.sort ≡ sort → p.number ≡ number → is_part_of file sort number p ≡ true
own_tree p file sort number e f g =
    together (p.file == file) ((p.sort == sort) && (p.number == number)) (ap (λ n. n == file) e ∙ number_itself file)
    (together (p.sort == sort) (p.number == number) (ap (λ n. n == sort) f ∙ number_itself sort) (ap (λ n. n == number) g ∙ number_itself number))

module _ (files : ℕ → Pages) (cat : Catalogue) (db : database.Db) (s : Spells files cat db) (is_cat : IsCatalogue cat)
    (differ : differ_by same_key (map (λ i. i.key) (database.entries db)) ≡ true) where
  f : Files
  f = files_in cat

  -- the parts of the tree of a view are those of its file
  view_again : (e : Entry) (v : database.View) → IsIn e cat.entries → view_of cat e ≡ Some v → view_parts (files_in cat) v ≡ filter (is_part_of e.file of_view 0) cat.parts
  unfolding tree_bytes
  view_again e v at h =
      let o = parts.view_parts cat e v h in
      let bytes : o.bytes ≡ tree_bytes queries.query v.query = spelling_of o.bytes v.query o.query in
      let file : (files_in cat).file v.info.key ≡ e.file = ap (files_in cat).file (ap (λ (i : RelInfo). i.key) o.info) ∙ file_is files cat db s differ e at in
      (λ i. parts_from (file i) of_view 0 0 (cut (sym bytes i))) ∙ tree_parts cat.parts e.file of_view 0 o.bytes o.tree
    where
      spelling_of : (bytes : List ℕ) (q : _) → query_of bytes ≡ Some q → bytes ≡ tree_bytes queries.query q
      spelling_of bytes q h = ((trees_are_their_bytes.queries bytes q).0 h).1

  -- ---- rules and permits

  module _ {X : Type 0} (codec : ℕ → Codec X) (number : X → ℕ) (sort : ℕ)
      (spelling : (bytes : List ℕ) (x : X) → tree_of codec bytes ≡ Some x → bytes ≡ tree_bytes codec x)
      (ys : List (RelKey × X)) (read : (q : Part) → IsIn q (firsts sort cat.parts) → (y : RelKey × X) × IsIn y ys × (numbered_of (tree_of codec) number cat q ≡ Some y))
      (read_of : (y : RelKey × X) → IsIn y ys → (q : Part) × IsIn q (firsts sort cat.parts) × (numbered_of (tree_of codec) number cat q ≡ Some y)) where
    -- the parts of the tree of a rule or a permit are those of its file and number
    one_again : (q : Part) (y : RelKey × X) → q.sort ≡ sort → numbered_of (tree_of codec) number cat q ≡ Some y → numbered_parts codec number sort (files_in cat) y ≡ filter (is_part_of q.file q.sort q.number) cat.parts
    one_again q y of h =
        let o = parts.part_parts (tree_of codec) number cat q y h in
        let found = entry_found cat q.file o.entry o.entry_is in
        let file : (files_in cat).file y.0 ≡ q.file = ap (files_in cat).file o.key ∙ file_is files cat db s differ o.entry found.0 ∙ found.1 in
        (λ i. parts_from (file i) (sym of i) (o.number_is i) 0 (cut (sym (spelling o.bytes y.1 o.content) i))) ∙ tree_parts cat.parts q.file q.sort q.number o.bytes o.tree

    sort_of : (q : Part) → IsIn q (firsts sort cat.parts) → q.sort ≡ sort
    sort_of q at = same_number q.sort sort (both (q.sort == sort) (q.place == 0) (filter_in (λ p. (p.sort == sort) && (p.place == 0)) cat.parts q at).1).0

    of_numbered : (p : Part) → IsIn p (flat_map (numbered_parts codec number sort (files_in cat)) ys) → IsIn p cat.parts
    of_numbered p at =
        let m = flat_map_in (numbered_parts codec number sort (files_in cat)) ys p at in
        let r = read_of m.0 m.1 in
        (filter_in (is_part_of r.0.file r.0.sort r.0.number) cat.parts p (subst (IsIn p) (one_again r.0 m.0 (sort_of r.0 r.1) r.2) m.2)).0

    to_numbered : (p : Part) (bytes : List ℕ) → IsIn p cat.parts → p.sort ≡ sort → tree_at cat.parts p.file p.sort p.number ≡ Some bytes → IsIn p (flat_map (numbered_parts codec number sort (files_in cat)) ys)
    to_numbered p bytes at of whole =
        let q = first_part cat.parts p.file p.sort p.number bytes whole in
        let same = is_that_part p.file p.sort p.number q.0 q.2 in
        let qs : q.0.sort ≡ sort = same.1 ∙ of in
        let r = read q.0 (in_filter (λ p. (p.sort == sort) && (p.place == 0)) cat.parts q.0 q.1 (together (q.0.sort == sort) (q.0.place == 0) (ap (λ n. n == sort) qs ∙ number_itself sort) q.3)) in
        in_flat_map (numbered_parts codec number sort (files_in cat)) ys r.0 p r.1
        (subst (IsIn p) (sym (one_again q.0 r.0 qs r.2)) (in_filter (is_part_of q.0.file q.0.sort q.0.number) cat.parts p at (own_tree p q.0.file q.0.sort q.0.number (sym same.0) (sym same.1) (sym same.2))))

  -- ---- all parts

  rule_spelling : (bytes : List ℕ) (r : Rule) → tree_of spellings.rule bytes ≡ Some r → bytes ≡ tree_bytes spellings.rule r
  unfolding tree_bytes
  rule_spelling bytes r h = ((trees_are_their_bytes.rules bytes r).0 h).1

  permit_spelling : (bytes : List ℕ) (p : Permit) → tree_of spellings.permit bytes ≡ Some p → bytes ≡ tree_bytes spellings.permit p
  unfolding tree_bytes
  permit_spelling bytes p h = ((trees_are_their_bytes.permits bytes p).0 h).1

  to_rules : (p : Part) (bytes : List ℕ) → IsIn p cat.parts → p.sort ≡ of_rule → tree_at cat.parts p.file p.sort p.number ≡ Some bytes
      → IsIn p (flat_map (numbered_parts spellings.rule (λ r. r.number) of_rule (files_in cat)) db.rules)
  to_rules p bytes at of whole = to_numbered spellings.rule (λ r. r.number) of_rule rule_spelling db.rules s.rules.to s.rules.from p bytes at of whole

  to_permits : (p : Part) (bytes : List ℕ) → IsIn p cat.parts → p.sort ≡ of_permit → tree_at cat.parts p.file p.sort p.number ≡ Some bytes
      → IsIn p (flat_map (numbered_parts spellings.permit (λ p. p.number) of_permit (files_in cat)) db.permits)
  to_permits p bytes at of whole = to_numbered spellings.permit (λ p. p.number) of_permit permit_spelling db.permits s.permits.to s.permits.from p bytes at of whole

  to_views : (p : Part) → IsIn p cat.parts → p.sort ≡ of_view → ((p.number == 0) && entry_is is_view cat p.file) ≡ true → IsIn p (flat_map (view_parts (files_in cat)) db.views)
  to_views p at of h =
      let t = both (p.number == 0) (entry_is is_view cat p.file) h in
      let e = entry_passes is_view cat p.file t.1 in
      let v = s.views.to e.0 (in_filter (λ e. is_view e.spec) cat.entries e.0 e.1 e.3) in
      in_flat_map (view_parts (files_in cat)) db.views v.0 p v.1
      (subst (IsIn p) (sym (view_again e.0 v.0 e.1 v.2)) (in_filter (is_part_of e.0.file of_view 0) cat.parts p at (own_tree p e.0.file of_view 0 (sym e.2) of (same_number p.number 0 t.0))))

  -- a sort that is no view's is a rule's or a permit's
  which_sort : (n : ℕ) → (n == of_view) ≡ false → nat_le n of_permit ≡ true → (n ≡ of_rule) ⊎ (n ≡ of_permit)
  which_sort n h k = go (n == 1) refl
    where
      go : (t : Bool) → (n == 1) ≡ t → (n ≡ of_rule) ⊎ (n ≡ of_permit)
      go true e = inl (grind (arith, nat_tests))
      go false e = inr (grind (arith, nat_tests))

  part_sort : (p : Part) → is_part p ≡ true → nat_le p.sort of_permit ≡ true
  unfolding is_part
  part_sort p h = (both (nat_le p.sort of_permit) _ (both (is_number32 p.file) _ h).1).0

  to_list : (p : Part) → IsIn p cat.parts → IsIn p (parts_for (files_in cat) db)
  unfolding parts_for parts_stand part_stands
  to_list p at =
      let t = both (list_all (part_stands cat) cat.parts) (parts_are_whole cat.parts) s.parts in
      let whole = there (tree_at cat.parts p.file p.sort p.number) (of_tests (λ p. is_some (tree_at cat.parts p.file p.sort p.number)) cat.parts p t.1 at) in
      go (p.sort == of_view) refl (of_tests (part_stands cat) cat.parts p t.0 at) whole.0 whole.1
    where
      go : (v : Bool) → (p.sort == of_view) ≡ v → elim v [ true ↦ (p.number == 0) && entry_is is_view cat p.file | false ↦ entry_is is_structure cat p.file ] ≡ true
          → (bytes : List ℕ) → tree_at cat.parts p.file p.sort p.number ≡ Some bytes → IsIn p (parts_for (files_in cat) db)
      go true e h bytes whole = in_first (flat_map (view_parts (files_in cat)) db.views) _ p (to_views p at (same_number p.sort of_view e) h)
      go false e h bytes whole = in_second (flat_map (view_parts (files_in cat)) db.views) _ p (elim (which_sort p.sort e (part_sort p (of_all (λ p. is_part p ≡ true) cat.parts p is_cat.are_parts at))) [
        | inl rule ↦ in_first (flat_map (numbered_parts spellings.rule (λ r. r.number) of_rule (files_in cat)) db.rules) _ p (to_rules p bytes at rule whole)
        | inr permit ↦ in_second (flat_map (numbered_parts spellings.rule (λ r. r.number) of_rule (files_in cat)) db.rules) _ p (to_permits p bytes at permit whole)
      ])

  of_views : (p : Part) → IsIn p (flat_map (view_parts (files_in cat)) db.views) → IsIn p cat.parts
  of_views p at =
      let m = flat_map_in (view_parts (files_in cat)) db.views p at in
      let v = s.views.from m.0 m.1 in
      let e = filter_in (λ e. is_view e.spec) cat.entries v.0 v.1 in
      (filter_in (is_part_of v.0.file of_view 0) cat.parts p (subst (IsIn p) (view_again v.0 m.0 e.0 v.2) m.2)).0

  of_list : (p : Part) → IsIn p (parts_for (files_in cat) db) → IsIn p cat.parts
  unfolding parts_for
  of_list p at = elim (in_either (flat_map (view_parts (files_in cat)) db.views) _ p at) [
    | inl a ↦ of_views p a
    | inr b ↦ elim (in_either (flat_map (numbered_parts spellings.rule (λ r. r.number) of_rule (files_in cat)) db.rules) _ p b) [
      | inl c ↦ of_numbered spellings.rule (λ r. r.number) of_rule rule_spelling db.rules s.rules.to s.rules.from p c
      | inr d ↦ of_numbered spellings.permit (λ p. p.number) of_permit permit_spelling db.permits s.permits.to s.permits.from p d
    ]
  ]

  pub parts_again : cat.parts ≡ in_order part_cmp (parts_for (files_in cat) db)
  parts_again = set_is part_total cat.parts (parts_for (files_in cat) db) is_cat.parts_ascend to_list of_list
