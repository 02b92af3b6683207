-- Short trees of few levels whose constants are ones have spellings.
use Rattle.std.proofs.Common.{◌≡◌, refl, ℕ, ◌≤◌, max, true, List, [], ◌∷◌, map, length, arith}
use Rattle.std.specs.Prelude.{nat_le}
use Rattle.std.specs.List.{list_all}
use Rattle.std.proofs.lemmas.Bool.{and_parts, leb-true, lt-ltb}
use Rattle.calculus.specs.declared.query.QQual.{QQual}
use Rattle.calculus.specs.declared.request.Asked.{Asked}
use Rattle.calculus.specs.declared.request.Checked.{Checked}
use Rattle.calculus.specs.declared.request.Checked.TheVariants as requests
use Rattle.calculus.specs.declared.request.CopyCol.{CopyCol}
use Rattle.calculus.specs.declared.request.CopyForm.{CopyForm}
use Rattle.calculus.specs.declared.request.CopyForm.TheVariants as forms
use Rattle.calculus.specs.declared.request.SortKey.{SortKey}
use Rattle.calculus.specs.declared.request.Update.{Update}
use Rattle.calculus.specs.declared.request.Utility.{Utility}
use Rattle.calculus.specs.declared.request.Utility.TheVariants as utilities
use Rattle.calculus.specs.declared.schema.Permit.{Permit}
use Rattle.calculus.specs.declared.schema.Rule.{Rule}
use Rattle.calculus.specs.IsDatabase.{user_is_named}
use Rattle.calculus.specs.Rights.{are_rights}
use Rattle.calculus.specs.Spelled.{qual_is_spelled, query_is_spelled}
use Rattle.calculus.specs.TreeLevels.{qual_levels, query_levels}
use Rattle.quel_meaning.specs.Columns.{is_copy_form}
use Rattle.quel_meaning.specs.Planned.{greatest}
use Rattle.quel_meaning.specs.SpelledTree.{key_is_spelled, made_key_is_spelled, update_is_spelled, permit_is_spelled, utility_is_spelled, tree_is_spelled}
use Rattle.quel_meaning.proofs.Each.{Each}
use Rattle.quel_tree.specs.Copies.{copy_form, copy_col}
use Rattle.quel_tree.specs.Names.{chars}
use Rattle.quel_tree.specs.Permits.{permit, rule}
use Rattle.quel_tree.specs.Queries.{qual}
use Rattle.quel_tree.specs.Relations.{attr, rel_key, sort_key}
use Rattle.quel_tree.specs.Requests.{asked, update, utility, checked}
use Rattle.reading_laws.specs.Levels.{utility_levels, tree_levels}
use Rattle.tree_words.specs.Words.{byte, number32}
use Rattle.spelling_laws.specs.Short.{is_place, is_count, is_number, are_short, qual_is_short, query_is_short, asked_is_short, update_is_short, permit_is_short, rule_is_short, attr_is_short, column_is_short, utility_is_short, tree_is_short}
use Rattle.spelling_laws.proofs.Fields.{place_fits, count_fits, number_fits, list_fits, short_fits, name_fits, user_fits, key_fits, attr_fits, updates_fit, specs_fit, flags_fit}
use Rattle.spelling_laws.proofs.Spelled.{qual_fits, query_fits}
use Rattle.spelling_laws.proofs.Stored.{among}

-- ---- columns of files

form_fits : (f : CopyForm) → is_copy_form f ≡ true → copy_form.Fits f
unfolding copy_form
form_fits (forms.Bin n) h = among (λ n. copy_form.Fits (forms.Bin n)) (1 ∷ 2 ∷ 4 ∷ []) ((omega arith, refl), ((omega arith, refl), ((omega arith, refl), tt))) n h
form_fits (forms.Fixed n) h =
    let two = and_parts (nat_le 1 n) (nat_le n 255) h in
    let least = leb-true 1 n two.0 in let most = leb-true n 255 two.1 in
    (omega (arith, most), lt-ltb 0 n (omega (arith, least)))
form_fits (forms.Until n) h =
    among (λ n. copy_form.Fits (forms.Until n)) (9 ∷ 10 ∷ 32 ∷ 44 ∷ 58 ∷ []) ((omega arith, refl), ((omega arith, refl), ((omega arith, refl), ((omega arith, refl), ((omega arith, refl), tt))))) n h

column_fits : (c : CopyCol) → column_is_short c ≡ true → copy_col.Fits c
unfolding copy_col
column_fits c h = let two = and_parts (is_place c.attr) (is_copy_form c.form) h in (place_fits c.attr two.0, form_fits c.form two.1)

sort_fits : (k : SortKey) → is_count k.column ≡ true → sort_key.Fits k
unfolding sort_key
sort_fits k h = (count_fits k.column h, flags_fit k.down)

-- ---- with at most n levels

module _ (n : ℕ) where
  asked_fits : (a : Asked) → query_levels a.query ≤ n → query_is_spelled a.query ≡ true → asked_is_short a ≡ true → (asked n).Fits a
  unfolding asked
  asked_fits a h spelled short =
      let two = and_parts (query_is_short a.query) (are_short (λ (k : SortKey). is_count k.column) a.sort) short in
      (query_fits n a.query h spelled two.0, short_fits sort_key (λ (k : SortKey). is_count k.column) sort_fits a.sort two.1)

  each_asked : (as_ : List Asked) → greatest (map (λ (a : Asked). query_levels a.query) as_) ≤ n → list_all (λ (a : Asked). query_is_spelled a.query) as_ ≡ true → list_all asked_is_short as_ ≡ true → Each (asked n).Fits as_
  each_asked [] h spelled short = tt
  each_asked (a ∷ as_) h spelled short =
      let one = and_parts (query_is_spelled a.query) (list_all (λ (a : Asked). query_is_spelled a.query) as_) spelled in
      let two = and_parts (asked_is_short a) (list_all asked_is_short as_) short in
      (asked_fits a (omega (arith, h)) one.0 two.0, each_asked as_ (omega (arith, h)) one.1 two.1)

  each_check : (qs : List QQual) → greatest (map qual_levels qs) ≤ n → list_all qual_is_spelled qs ≡ true → list_all qual_is_short qs ≡ true → Each (qual n).Fits qs
  each_check [] h spelled short = tt
  each_check (q ∷ qs) h spelled short =
      let one = and_parts (qual_is_spelled q) (list_all qual_is_spelled qs) spelled in
      let two = and_parts (qual_is_short q) (list_all qual_is_short qs) short in
      (qual_fits n q (omega (arith, h)) one.0 two.0, each_check qs (omega (arith, h)) one.1 two.1)

  update_fits : (u : Update) → max (query_levels u.query) (greatest (map qual_levels (u.new_cut ∷ u.checks))) ≤ n → update_is_spelled u ≡ true → update_is_short u ≡ true → (update n).Fits u
  unfolding update update_is_spelled
  update_fits u h spelled short =
      let s1 = and_parts (made_key_is_spelled u) _ spelled in
      let s2 = and_parts (query_is_spelled u.query) _ s1.1 in
      let s3 = and_parts (qual_is_spelled u.new_cut) (list_all qual_is_spelled u.checks) s2.1 in
      let c1 = and_parts (key_is_spelled u.rel) _ short in
      let c2 = and_parts (is_place u.old) _ c1.1 in
      let c3 = and_parts (are_short is_place u.places) _ c2.1 in
      let c4 = and_parts (query_is_short u.query) _ c3.1 in
      let c5 = and_parts (are_short qual_is_short u.checks) (qual_is_short u.new_cut) c4.1 in
      let c6 = and_parts (is_count (length u.checks)) (list_all qual_is_short u.checks) c5.0 in (
        updates_fit u.op,
        (
          key_fits u.rel c1.0,
          (
            place_fits u.old c2.0,
            (
              short_fits byte is_place place_fits u.places c3.0,
              (
                query_fits n u.query (omega (arith, h)) s2.0 c4.0,
                (list_fits (qual n) u.checks c6.0 (each_check u.checks (omega (arith, h)) s3.1 c6.1), qual_fits n u.new_cut (omega (arith, h)) s3.0 c5.1),
              ),
            ),
          ),
        ),
      )

  pub permit_fits : (p : Permit) → qual_levels p.qual ≤ n → permit_is_spelled p ≡ true → permit_is_short p ≡ true → (permit n).Fits p
  unfolding permit
  permit_fits p h spelled short =
      let s1 = and_parts (user_is_named p.user) _ spelled in
      let s2 = and_parts (are_rights p.ops) (qual_is_spelled p.qual) s1.1 in
      let c1 = and_parts (is_number p.number) _ short in
      let c2 = and_parts (are_short is_place p.attrs) (qual_is_short p.qual) c1.1 in
      let rights = leb-true p.ops 15 s2.0 in
      (number_fits p.number c1.0, (omega (arith, rights), (short_fits byte is_place place_fits p.attrs c2.0, (user_fits p.user s1.0, qual_fits n p.qual h s2.1 c2.1))))

  pub rule_fits : (r : Rule) → qual_levels r.qual ≤ n → qual_is_spelled r.qual ≡ true → rule_is_short r ≡ true → (rule n).Fits r
  unfolding rule
  rule_fits r h spelled short = let two = and_parts (is_number r.number) (qual_is_short r.qual) short in (number_fits r.number two.0, qual_fits n r.qual h spelled two.1)

  work_fits : (w : Utility) → utility_levels w ≤ n → utility_is_spelled w ≡ true → utility_is_short w ≡ true → (utility n).Fits w
  unfolding utility utility_is_spelled chars
  work_fits (utilities.Create rel attrs) h spelled short = (key_fits rel spelled, short_fits attr attr_is_short attr_fits attrs short)
  work_fits (utilities.Destroy rels) h spelled short = short_fits rel_key key_is_spelled key_fits rels short
  work_fits (utilities.Modify rel to keys) h spelled short =
      let two = and_parts (key_is_spelled rel) (are_short is_place keys) short in (key_fits rel two.0, (specs_fit to, short_fits byte is_place place_fits keys two.1))
  work_fits (utilities.Index base called keys) h spelled short =
      let two = and_parts (key_is_spelled base) (are_short is_place keys) short in (key_fits base two.0, (name_fits called spelled, short_fits byte is_place place_fits keys two.1))
  work_fits (utilities.Copy rel columns from file) h spelled short =
      let two = and_parts (key_is_spelled rel) (are_short column_is_short columns) short in (key_fits rel two.0, (short_fits copy_col column_is_short column_fits columns two.1, (flags_fit from, spelled)))
  work_fits (utilities.View rel q) h spelled short = let one = and_parts (key_is_spelled rel) (query_is_spelled q) spelled in (key_fits rel one.0, query_fits n q h one.1 short)
  work_fits (utilities.Permit rel p) h spelled short = let two = and_parts (key_is_spelled rel) (permit_is_short p) short in (key_fits rel two.0, permit_fits p h spelled two.1)
  work_fits (utilities.Rule rel r) h spelled short = let two = and_parts (key_is_spelled rel) (rule_is_short r) short in (key_fits rel two.0, rule_fits r h spelled two.1)
  work_fits (utilities.DropPermits rel numbers) h spelled short =
      let two = and_parts (key_is_spelled rel) (are_short is_number numbers) short in (key_fits rel two.0, short_fits number32 is_number number_fits numbers two.1)
  work_fits (utilities.DropRules rel numbers) h spelled short =
      let two = and_parts (key_is_spelled rel) (are_short is_number numbers) short in (key_fits rel two.0, short_fits number32 is_number number_fits numbers two.1)

  pub tree_fits : (tree : Checked) → tree_levels tree ≤ n → tree_is_spelled tree ≡ true → tree_is_short tree ≡ true → (checked n).Fits tree
  unfolding checked tree_levels tree_is_spelled tree_is_short
  tree_fits (requests.Answer as_) h spelled short =
      let two = and_parts (is_count (length as_)) (list_all asked_is_short as_) short in list_fits (asked n) as_ two.0 (each_asked as_ h spelled two.1)
  tree_fits (requests.Update u) h spelled short = update_fits u h spelled short
  tree_fits (requests.Utility w) h spelled short = work_fits w h spelled short
