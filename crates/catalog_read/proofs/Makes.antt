-- What views, rules and permits are made of, and the parts of a database.
use Rattle.std.proofs.Common.{◌≡◌, refl, sym, ap, ◌∙◌, ℕ, ◌==◌, ◌&&◌, Bool, true, false, cond, List, [], ◌∷◌, map, filter, Option, Some, None, Result, option_map}
use Rattle.std.specs.Prelude.{IfOk}
use Rattle.std.proofs.lemmas.Result.{IfOk-weaker}
use Rattle.calculus.specs.Database as database
use Rattle.calculus.specs.Structures.{is_structure, is_view, is_index}
use Rattle.calculus.specs.declared.query.Query.{Query}
use Rattle.calculus.specs.declared.query.RelKey.{RelKey}
use Rattle.calculus.specs.declared.schema.RelInfo.{RelInfo}
use Rattle.calculus.specs.declared.schema.Attr.{Attr}
use Rattle.calculus.specs.declared.schema.Permit.{Permit}
use Rattle.calculus.specs.declared.schema.Rule.{Rule}
use Rattle.page_chain.specs.Lists.{◌>>=◌, when, check, each}
use Rattle.quel_tree.specs.Queries as queries
use Rattle.tree_words.specs.Codec.{Codec}
use Rattle.stored_database.specs.Catalogue.{Catalogue}
use Rattle.stored_database.specs.Entries.{Entry}
use Rattle.stored_database.specs.Parts.{Part, of_view, of_rule, of_permit}
use Rattle.stored_database.specs.Spelled.{attrs_of, entry_at, info_of, index_of, view_of, numbered_of, columns_stand, parts_stand}
use Rattle.stored_database.specs.Trees.{query_of, rule_of, permit_of, tree_at, tree_of}
use Rattle.catalog_rows.specs.Shown.{entry_in, part_in}
use Rattle.catalog_rows.specs.declared.entries.EntryRow.{EntryRow}
use Rattle.catalog_rows.specs.declared.part_rows.PartRow.{PartRow}
use Rattle.catalog_read.specs.Parts.{Parts, index_in, view_in}
use Rattle.catalog_read.specs.declared.parts.IndexPart.{IndexPart}
use Rattle.catalog_read.specs.declared.parts.ViewPart.{ViewPart}
use Rattle.catalog_read.specs.PartsMade.{parts_made}
use Rattle.catalog_read.specs.Read.{catalogue_shown, relation_info, parts_of}
use Rattle.catalog_read.specs.Rows.{AreBoth, both_there, tree_in, numbered_in}
use Rattle.catalog_read.specs.declared.rows.CatalogueRows.{CatalogueRows}
use Rattle.catalog_read.proofs.Both.{mapped_both, plain_both}

-- ---- rules and permits

-- the key of the relation and the tree are the rule or permit of a part
pub numbered_is : {A : Type 0} (codec : ℕ → Codec A) (number : A → ℕ) (cat : Catalogue) (p : Part)
    → both_there (option_map (λ (e : Entry). e.key) (entry_at cat p.file)) (numbered_in codec number cat.parts p) ≡ numbered_of (tree_of codec) number cat p
unfolding numbered_of
numbered_is {A} codec number cat p = go (entry_at cat p.file) (tree_at cat.parts p.file p.sort p.number)
  where
    last : (e : Entry) (x : A) (b : Bool) → option_map {U = RelKey × A} (λ x. (e.key, x)) (when b x) ≡ when b (e.key, x)
    last e x true = refl
    last e x false = refl

    read : (e : Entry) (o : Option A) → option_map {U = RelKey × A} (λ x. (e.key, x)) (o >>= (λ x. when (number x == p.number) x)) ≡ (o >>= (λ x. when (number x == p.number) (e.key, x)))
    read e None = refl
    read e (Some x) = last e x (number x == p.number)

    go : (o : Option Entry) (t : Option (List ℕ)) → both_there (option_map (λ (e : Entry). e.key) o) ((t >>= tree_of codec) >>= (λ x. when (number x == p.number) x))
        ≡ (o >>= (λ e. t >>= (λ bytes. tree_of codec bytes >>= (λ x. when (number x == p.number) (e.key, x)))))
    go None t = refl
    go (Some e) None = refl
    go (Some e) (Some bytes) = read e (tree_of codec bytes)

-- ---- views

-- the view of these
abbrev pub view_with : RelInfo × Query → database.View
view_with p = record { info = p.0; query = p.1 }

-- what is known of it and its query are the view of an entry
pub view_is : (rows : CatalogueRows) (e : Entry)
    → option_map view_with (both_there (relation_info (catalogue_shown rows) e) (tree_in queries.query (map part_in rows.parts) e.file of_view 0)) ≡ view_of (catalogue_shown rows) e
unfolding view_of relation_info catalogue_shown
view_is rows e = go (attrs_of (catalogue_shown rows) e.file) (tree_at (map part_in rows.parts) e.file of_view 0)
  where
    read : (attrs : List Attr) (o : Option Query) → option_map view_with (option_map (λ q. (info_of e attrs, q)) o) ≡ (o >>= (λ q. Some (record { info = info_of e attrs; query = q })))
    read attrs None = refl
    read attrs (Some q) = refl

    go : (o : Option (List Attr)) (t : Option (List ℕ)) → option_map view_with (both_there (option_map (info_of e) o) (t >>= query_of))
        ≡ (o >>= (λ attrs. t >>= (λ bytes. query_of bytes >>= (λ q. Some (record { info = info_of e attrs; query = q })))))
    go None t = refl
    go (Some attrs) None = refl
    go (Some attrs) (Some bytes) = read attrs (query_of bytes)

-- so is what was made of them
pub view_made : {E : Type 0} (rows : CatalogueRows) (e : Entry) (first : Result (Option RelInfo) E) (second : Result (Option Query) E) (found : Option (RelInfo × Query)) → AreBoth first second found
    → IfOk first (λ i. i ≡ relation_info (catalogue_shown rows) e) → IfOk second (λ q. q ≡ tree_in queries.query (map part_in rows.parts) e.file of_view 0)
    → option_map view_with found ≡ view_of (catalogue_shown rows) e
view_made rows e first second found are h k =
    ap (option_map view_with) (plain_both (relation_info (catalogue_shown rows) e) (tree_in queries.query (map part_in rows.parts) e.file of_view 0) first second found are h k) ∙ view_is rows e

-- ---- all parts

-- what each row makes is what each of what they say makes
each_said : {R A B : Type 0} (g : R → A) (p : A → Bool) (f : A → Option B) (xs : List R) → each (λ r. f (g r)) (filter (λ r. p (g r)) xs) ≡ each f (filter p (map g xs))
each_said g p f [] = refl
each_said {R} g p f (x ∷ xs) = go (p (g x)) (each_said g p f xs)
  where
    go : (b : Bool) → each (λ r. f (g r)) (filter (λ r. p (g r)) xs) ≡ each f (filter p (map g xs))
        → each (λ r. f (g r)) (cond b (x ∷ filter (λ r. p (g r)) xs) (filter (λ r. p (g r)) xs)) ≡ each f (cond b (g x ∷ filter p (map g xs)) (filter p (map g xs)))
    go true later = ap (λ o. f (g x) >>= (λ y. option_map (λ ys. y ∷ ys) o)) later
    go false later = later

map_same : {A : Type 0} (xs : List A) → map (λ x. x) xs ≡ xs
map_same [] = refl
map_same (x ∷ xs) = ap (λ l. x ∷ l) (map_same xs)

-- what was made of rows as it is
made_same : {A E : Type 0} (r : Result (Option (List A)) E) (x : Option (List A)) → IfOk r (λ o. option_map (map (λ a. a)) o ≡ x) → IfOk r (λ o. option_map (λ l. l) o ≡ x)
made_same r x h = IfOk-weaker r _ _ (λ o e. (λ i. option_map (λ l. sym (map_same l) i) o) ∙ e) h

-- the parts of a database
abbrev Five : Type 0
Five = List RelInfo × (List database.Index × (List database.View × (List (RelKey × Rule) × List (RelKey × Permit))))

abbrev pub parts_with : Five → Parts
parts_with t = record { relations = t.0; indexes = t.1.0; views = t.1.1.0; rules = t.1.1.1.0; permits = t.1.1.1.1 }

five : (a : Option (List RelInfo)) (b : Option (List database.Index)) (c : Option (List database.View)) (d : Option (List (RelKey × Rule))) (e : Option (List (RelKey × Permit)))
    → option_map parts_with (both_there a (both_there b (both_there c (both_there d e))))
    ≡ (a >>= (λ relations. b >>= (λ indexes. c >>= (λ views. d >>= (λ rules. e >>= (λ permits. Some (record { relations = relations; indexes = indexes; views = views; rules = rules; permits = permits })))))))
five None b c d e = refl
five (Some r) None c d e = refl
five (Some r) (Some x) None d e = refl
five (Some r) (Some x) (Some v) None e = refl
five (Some r) (Some x) (Some v) (Some u) None = refl
five (Some r) (Some x) (Some v) (Some u) (Some p) = refl

abbrev Rows : Type 0
Rows = List RelInfo × (List IndexPart × (List ViewPart × (List (RelKey × Rule) × List (RelKey × Permit))))

-- what the lists are
abbrev pub shown : Rows → Five
shown t = (t.0, (map index_in t.1.0, (map view_in t.1.1.0, (t.1.1.1.0, t.1.1.1.1))))

-- what was made of all rows are the parts
pub parts_are : {E : Type 0} (rows : CatalogueRows) (es xs vs : List EntryRow) (us ps : List PartRow)
    (r : Result (Option (List RelInfo)) E) (x : Result (Option (List IndexPart)) E) (v : Result (Option (List ViewPart)) E) (u : Result (Option (List (RelKey × Rule))) E) (p : Result (Option (List (RelKey × Permit))) E)
    (b1 : Result (Option (List (RelKey × Rule) × List (RelKey × Permit))) E) (b2 : Result (Option (List ViewPart × (List (RelKey × Rule) × List (RelKey × Permit)))) E)
    (b3 : Result (Option (List IndexPart × (List ViewPart × (List (RelKey × Rule) × List (RelKey × Permit))))) E) (found : Option Rows)
    → es ≡ rows.entries → xs ≡ rows.entries → vs ≡ rows.entries → us ≡ rows.parts → ps ≡ rows.parts
    → IfOk r (λ o. option_map (map (λ i. i)) o ≡ each (λ e. relation_info (catalogue_shown rows) (entry_in e)) (filter (λ (e : EntryRow). is_structure e.spec) es))
    → IfOk x (λ o. option_map (map index_in) o ≡ each (λ e. index_of (catalogue_shown rows) (entry_in e)) (filter (λ (e : EntryRow). is_index e.spec) xs))
    → IfOk v (λ o. option_map (map view_in) o ≡ each (λ e. view_of (catalogue_shown rows) (entry_in e)) (filter (λ (e : EntryRow). is_view e.spec) vs))
    → IfOk u (λ o. option_map (map (λ i. i)) o ≡ each (λ p. numbered_of rule_of (λ r. r.number) (catalogue_shown rows) (part_in p)) (filter (λ (p : PartRow). (p.sort == of_rule) && (p.place == 0)) us))
    → IfOk p (λ o. option_map (map (λ i. i)) o ≡ each (λ p. numbered_of permit_of (λ p. p.number) (catalogue_shown rows) (part_in p)) (filter (λ (p : PartRow). (p.sort == of_permit) && (p.place == 0)) ps))
    → IfOk b1 (AreBoth u p) → IfOk b2 (AreBoth v b1) → IfOk b3 (AreBoth x b2) → AreBoth r b3 found
    → option_map (λ t. parts_with (shown t)) found ≡ parts_made (catalogue_shown rows)
unfolding parts_made catalogue_shown
parts_are rows es xs vs us ps r x v u p b1 b2 b3 found eis xis vis uis pis hr hx hv hu hp h1 h2 h3 are =
    let cat = catalogue_shown rows in
    let R : Option (List RelInfo) = each (λ e. relation_info cat (entry_in e)) (filter (λ (e : EntryRow). is_structure e.spec) es) in
    let X : Option (List database.Index) = each (λ e. index_of cat (entry_in e)) (filter (λ (e : EntryRow). is_index e.spec) xs) in
    let V : Option (List database.View) = each (λ e. view_of cat (entry_in e)) (filter (λ (e : EntryRow). is_view e.spec) vs) in
    let U : Option (List (RelKey × Rule)) = each (λ p. numbered_of rule_of (λ r. r.number) cat (part_in p)) (filter (λ (p : PartRow). (p.sort == of_rule) && (p.place == 0)) us) in
    let P : Option (List (RelKey × Permit)) = each (λ p. numbered_of permit_of (λ p. p.number) cat (part_in p)) (filter (λ (p : PartRow). (p.sort == of_permit) && (p.place == 0)) ps) in
    let k1 = IfOk-weaker b1 _ _ (λ o is. mapped_both (λ l. l) (λ l. l) U P u p o is (made_same u U hu) (made_same p P hp)) h1 in
    let k2 = IfOk-weaker b2 _ _ (λ o is. mapped_both (map view_in) (λ t. (t.0, t.1)) V (both_there U P) v b1 o is hv k1) h2 in
    let k3 = IfOk-weaker b3 _ _ (λ o is. mapped_both (map index_in) (λ t. (map view_in t.0, (t.1.0, t.1.1))) X (both_there V (both_there U P)) x b2 o is hx k2) h3 in
    mapped found
    ∙ ap (option_map parts_with) (mapped_both (λ l. l) (λ t. (map index_in t.0, (map view_in t.1.0, (t.1.1.0, t.1.1.1)))) R (both_there X (both_there V (both_there U P))) r b3 found are (made_same r R hr) k3)
    ∙ five R X V U P
    ∙ (λ i.
    (ap (λ l. each (λ e. relation_info cat (entry_in e)) (filter (λ (e : EntryRow). is_structure e.spec) l)) eis ∙ each_said entry_in (λ (e : Entry). is_structure e.spec) (relation_info cat) rows.entries) i >>= (λ relations.
    (ap (λ l. each (λ e. index_of cat (entry_in e)) (filter (λ (e : EntryRow). is_index e.spec) l)) xis ∙ each_said entry_in (λ (e : Entry). is_index e.spec) (index_of cat) rows.entries) i >>= (λ indexes.
    (ap (λ l. each (λ e. view_of cat (entry_in e)) (filter (λ (e : EntryRow). is_view e.spec) l)) vis ∙ each_said entry_in (λ (e : Entry). is_view e.spec) (view_of cat) rows.entries) i >>= (λ views.
    (ap (λ l. each (λ p. numbered_of rule_of (λ r. r.number) cat (part_in p)) (filter (λ (p : PartRow). (p.sort == of_rule) && (p.place == 0)) l)) uis ∙ each_said part_in (λ (p : Part). (p.sort == of_rule) && (p.place == 0)) (numbered_of rule_of (λ r. r.number) cat) rows.parts) i >>= (λ rules.
    (ap (λ l. each (λ p. numbered_of permit_of (λ p. p.number) cat (part_in p)) (filter (λ (p : PartRow). (p.sort == of_permit) && (p.place == 0)) l)) pis ∙ each_said part_in (λ (p : Part). (p.sort == of_permit) && (p.place == 0)) (numbered_of permit_of (λ p. p.number) cat) rows.parts) i >>= (λ permits.
    Some (record { relations = relations; indexes = indexes; views = views; rules = rules; permits = permits })))))))
  where
    mapped : (o : Option Rows) → option_map (λ t. parts_with (shown t)) o ≡ option_map parts_with (option_map shown o)
    mapped None = refl
    mapped (Some t) = refl

-- ---- what stands

-- where it stands, the parts that were made are those that are spelled
pub stands : (cat : Catalogue) → true ≡ (columns_stand cat && parts_stand cat) → parts_made cat ≡ parts_of cat
unfolding parts_of parts_made
stands cat h = ap (λ b. check b >>= (λ (t : Unit {0}). parts_made cat)) h

-- and else none are spelled
pub falls : (cat : Catalogue) → false ≡ (columns_stand cat && parts_stand cat) → None ≡ parts_of cat
unfolding parts_of parts_made
falls cat h = ap (λ b. check b >>= (λ (t : Unit {0}). parts_made cat)) h
