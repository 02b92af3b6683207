-- Where the names of a statement are found.
use Rattle.std.proofs.Common.{◌≡◌, refl, ap, ◌∙◌, ℕ, true, not, List, [], ◌∷◌, ◌++◌, map, Option, Some, None, is_some}
use Rattle.std.specs.List.{flat_map}
use Rattle.std.specs.Option.{option_and_then}
use Rattle.std.specs.Str.{bytes_eq}
use Rattle.calculus.specs.declared.query.RelKey.{RelKey}
use Rattle.calculus.specs.declared.schema.RelInfo.{RelInfo}
use Rattle.calculus.specs.declared.statement.Term.{Term, Int, Chars, Attr, Agg', Row_of-Term, end_of-Term, more_of-Term, Row_of-AggTerm, end_of-AggTerm, more_of-AggTerm}
use Rattle.calculus.specs.declared.statement.Qual.{Qual, True, Cmp}
use Rattle.calculus.specs.declared.statement.Item.{Item}
use Rattle.calculus.specs.declared.statement.Item.TheVariants as item
use Rattle.calculus.specs.declared.statement.Statement.{Statement}
use Rattle.calculus.specs.declared.statement.Statement.TheVariants as statement
use Rattle.calculus.specs.Written.{neg, abs, operation, concat, both, either, negated}
use Rattle.calculus.specs.Finding.{found}
use Rattle.calculus.specs.Keys.{key_of}
use Rattle.calculus.specs.Stored.{info_at}
use Rattle.quel_meaning.specs.Ranges.{range_of}
use Rattle.quel_meaning.specs.Scope.{Scope, named, ranged, key_found}
use Rattle.quel_meaning.specs.WrittenParts.{Dotted, once, attributes, attributes_in_row, attributes_in_qual, attributes_in_aggregate, outer_vars, linked_vars, outer_vars_in_row, outer_vars_in_qual, outer_vars_in_item, items_of, where_of, first_vars, vars_in}
use Rattle.quel_meaning.specs.Naming.{Mention, Variable, AttrOf, AttrIn, dotted, item_mentions, query_mentions, new_title, mentions, refusal_in, variable_refusal, no_refusal, attr_refusal, mention_refusal, first_number, name_refusal}
use Rattle.quel_meaning.specs.FitQueries.{can_be_ranged_over}
use Rattle.quel_meaning.proofs.Each.{Each, front_of, back_of, both_of, of_map, of_flat_map, in_flat_map, each_to, in_filter}
use Rattle.quel_meaning.proofs.Keys.{found_again}

-- the name is what it has to be
abbrev pub IsFound : Scope → Mention → Type 0
IsFound s m = mention_refusal s m ≡ None

all_found : (s : Scope) (ms : List Mention) → first_number (map (mention_refusal s) ms) ≡ None → Each (IsFound s) ms
all_found s [] h = tt
all_found s (m ∷ ms) h = go (all_found s ms) (mention_refusal s m) refl h
  where
    go : (first_number (map (mention_refusal s) ms) ≡ None → Each (IsFound s) ms) → (o : Option ℕ) → mention_refusal s m ≡ o
        → first_number (o ∷ map (mention_refusal s) ms) ≡ None → IsFound s m × Each (IsFound s) ms
    go later None e h = (e, later h)
    go later (Some n) e h = absurd (cc h)

-- all names of a statement that no name refuses are what they have to be
pub names_found : (s : Scope) (stmt : Statement) → name_refusal s stmt ≡ None → Each (IsFound s) (mentions s stmt)
unfolding name_refusal
names_found s stmt h = all_found s (mentions s stmt) h

-- ---- what is found

-- what a variable ranges over is there
pub record IsRanged (s : Scope) (var : List ℕ) : Type 0 where
  pub key : RelKey
  pub info : RelInfo
  pub declared : range_of s.ranges var ≡ Some key
  pub there : info_at s.db key ≡ Some info

pub record RangedWith (s : Scope) (var : List ℕ) (of_found : RelInfo → Option ℕ) : Type 0 where
  pub is : IsRanged s var
  pub fine : of_found is.info ≡ None

pub ranged_with : (s : Scope) (of_found : RelInfo → Option ℕ) (var : List ℕ) → variable_refusal s of_found var ≡ None → RangedWith s var of_found
ranged_with s of_found var h = go (range_of s.ranges var) refl h
  where
    at_key : (key : RelKey) → range_of s.ranges var ≡ Some key → (o : Option RelInfo) → info_at s.db key ≡ o → refusal_in of_found o ≡ None → RangedWith s var of_found
    at_key key d None e k = absurd (cc k)
    at_key key d (Some info) e k = record { is = record { key = key; info = info; declared = d; there = e }; fine = k }

    go : (o : Option RelKey) → range_of s.ranges var ≡ o → ◌≡◌ {A = Option ℕ} (elim o [ None ↦ Some 11 | Some key ↦ refusal_in of_found (info_at s.db key) ]) None
        → RangedWith s var of_found
    go None d k = absurd (cc k)
    go (Some key) d k = at_key key d (info_at s.db key) refl k

pub ranged_is : (s : Scope) (var : List ℕ) (r : IsRanged s var) → ranged s var ≡ Some r.info
unfolding ranged
ranged_is s var r = ap (option_and_then (info_at s.db)) r.declared ∙ r.there

-- the key of what is ranged over is that of something there
pub ranged_named : (s : Scope) (var : List ℕ) → IsRanged s var → can_be_ranged_over s.db (key_found (ranged s var)) ≡ true
ranged_named s var r =
    ap (λ i. can_be_ranged_over s.db (key_found i)) (ranged_is s var r) ∙ ap is_some (found_again s.db r.key r.info r.there)

pub dotted_ranged : (s : Scope) (ds : List Dotted) → Each (IsFound s) (dotted ds) → Each (λ d. IsRanged s d.0) ds
dotted_ranged s ds h = each_to _ _ (λ (d : Dotted) k. (ranged_with s (attr_refusal d.1) d.0 k).is) ds (of_map (IsFound s) (λ (d : Dotted). AttrOf d.0 d.1) ds h)

-- ---- variables outside aggregates and in by-lists are among those of the attributes

abbrev mutual
  in_term : (P : List ℕ → Type 0) (t : Term) → Each (λ d. P d.0) (attributes t) → Each P (outer_vars t)
  in_term P (Int n) h = tt
  in_term P (Chars bytes) h = tt
  in_term P (Attr var attr) h = (h.0, tt)
  in_term P (neg t) h = in_term P t h
  in_term P (abs t) h = in_term P t h
  in_term P (operation op t u) h = both_of P (outer_vars t) (outer_vars u) (in_term P t (front_of _ (attributes t) (attributes u) h)) (in_term P u (back_of _ (attributes t) (attributes u) h))
  in_term P (concat t u) h = both_of P (outer_vars t) (outer_vars u) (in_term P t (front_of _ (attributes t) (attributes u) h)) (in_term P u (back_of _ (attributes t) (attributes u) h))
  in_term P (Agg' mark row) h = in_links P row h

  in_links : (P : List ℕ → Type 0) → {n : _} → (row : Row_of-AggTerm n) → Each (λ d. P d.0) (attributes_in_aggregate row) → Each P (linked_vars row)
  in_links P end_of-AggTerm h = tt
  in_links P (more_of-AggTerm op arg bys by qual rest) h =
      in_row P by (front_of _ (attributes_in_row by) (attributes_in_qual qual) (back_of _ (attributes arg) (attributes_in_row by ++ attributes_in_qual qual) h))

  in_row : (P : List ℕ → Type 0) → {n : _} → (row : Row_of-Term n) → Each (λ d. P d.0) (attributes_in_row row) → Each P (outer_vars_in_row row)
  in_row P end_of-Term h = tt
  in_row P (more_of-Term t rest) h =
      both_of P (outer_vars t) (outer_vars_in_row rest) (in_term P t (front_of _ (attributes t) (attributes_in_row rest) h)) (in_row P rest (back_of _ (attributes t) (attributes_in_row rest) h))

in_qual : (P : List ℕ → Type 0) (q : Qual) → Each (λ d. P d.0) (attributes_in_qual q) → Each P (outer_vars_in_qual q)
in_qual P True h = tt
in_qual P (Cmp op t u) h = both_of P (outer_vars t) (outer_vars u) (in_term P t (front_of _ (attributes t) (attributes u) h)) (in_term P u (back_of _ (attributes t) (attributes u) h))
in_qual P (both p q) h =
    both_of P (outer_vars_in_qual p) (outer_vars_in_qual q) (in_qual P p (front_of _ (attributes_in_qual p) (attributes_in_qual q) h)) (in_qual P q (back_of _ (attributes_in_qual p) (attributes_in_qual q) h))
in_qual P (either p q) h =
    both_of P (outer_vars_in_qual p) (outer_vars_in_qual q) (in_qual P p (front_of _ (attributes_in_qual p) (attributes_in_qual q) h)) (in_qual P q (back_of _ (attributes_in_qual p) (attributes_in_qual q) h))
in_qual P (negated p) h = in_qual P p h

qual_ranged : (s : Scope) (q : Qual) → Each (IsFound s) (dotted (attributes_in_qual q)) → Each (IsRanged s) (outer_vars_in_qual q)
qual_ranged s q h = in_qual (IsRanged s) q (dotted_ranged s (attributes_in_qual q) h)

item_ranged : (s : Scope) (titled : List ℕ → List Mention) (i : Item) → Each (IsFound s) (item_mentions s titled i) → Each (IsRanged s) (outer_vars_in_item i)
item_ranged s titled (item.Set name term) h = in_term (IsRanged s) term (dotted_ranged s (attributes term) (back_of _ (titled name) _ h))
item_ranged s titled (item.Attr var attr) h = ((ranged_with s (attr_refusal attr) var h.0).is, tt)
item_ranged s titled (item.All var) h = ((ranged_with s no_refusal var h.0).is, tt)

query_ranged : (s : Scope) (titled : List ℕ → List Mention) (items : List Item) (q : Qual) → Each (IsFound s) (query_mentions s titled items q)
    → Each (IsRanged s) (flat_map outer_vars_in_item items ++ outer_vars_in_qual q)
query_ranged s titled items q h =
    both_of _ _ _
    (in_flat_map _ outer_vars_in_item items (each_to _ _ (λ i. item_ranged s titled i) items (of_flat_map _ (item_mentions s titled) items (front_of _ _ _ h))))
    (qual_ranged s q (back_of _ (flat_map (item_mentions s titled) items) _ h))

pub in_once : (P : List ℕ → Type 0) (names : List (List ℕ)) → Each P names → Each P (once names)
in_once P [] h = tt
in_once P (n ∷ ns) h = (h.0, in_filter P (λ m. not (bytes_eq m n)) (once ns) (in_once P ns h.1))

-- each variable of a statement's query ranges over something that is there
pub vars_ranged : (s : Scope) (stmt : Statement) → name_refusal s stmt ≡ None → Each (IsRanged s) (vars_in stmt)
unfolding vars_in mentions
vars_ranged s stmt h = in_once (IsRanged s) _ (go stmt (names_found s stmt h))
  where
    alone : (var : List ℕ) → IsFound s (Variable var) → IsRanged s var
    alone var h = (ranged_with s no_refusal var h).is

    go : (stmt : Statement) → Each (IsFound s) (mentions s stmt)
        → Each (IsRanged s) (first_vars stmt ++ (flat_map outer_vars_in_item (items_of stmt) ++ outer_vars_in_qual (where_of stmt)))
    go (statement.Range var rel) h = tt
    go (statement.Retrieve into items qual sort) h = query_ranged s new_title items qual h
    go (statement.Append rel items qual) h = query_ranged s (λ a. AttrIn rel a ∷ []) items qual h.1
    go (statement.Replace var items qual) h = (alone var h.0, query_ranged s (λ a. AttrOf var a ∷ []) items qual h.1)
    go (statement.Delete var qual) h = (alone var h.0, qual_ranged s qual h.1)
    go (statement.Create rel attrs) h = tt
    go (statement.Destroy rels) h = tt
    go (statement.DropPermits rel numbers) h = tt
    go (statement.DropRules rel numbers) h = tt
    go (statement.Modify rel to keys) h = tt
    go (statement.Index base name keys) h = tt
    go (statement.Print rels) h = tt
    go (statement.Help rel) h = tt
    go (statement.Copy rel columns from file) h = tt
    go (statement.View name items qual) h = query_ranged s new_title items qual h
    go (statement.Permit ops var attrs user qual) h = (alone var h.0, qual_ranged s qual (back_of _ (map (AttrOf var) attrs) _ h.1))
    go (statement.Rule var qual) h = (alone var h.0, qual_ranged s qual h.1)

-- ---- relations by their names

-- what is meant by a name is there
pub record IsNamed (s : Scope) (rel : List ℕ) : Type 0 where
  pub key : RelKey
  pub info : RelInfo
  pub is : named s rel ≡ Some info
  pub there : info_at s.db key ≡ Some info

pub named_there : (s : Scope) (rel : List ℕ) (info : RelInfo) → named s rel ≡ Some info → IsNamed s rel
unfolding named found
named_there s rel info e = go (info_at s.db (key_of s.user rel)) refl e
  where
    go : (o : Option RelInfo) → info_at s.db (key_of s.user rel) ≡ o
        → ◌≡◌ {A = Option RelInfo} (elim o [ Some own ↦ Some own | None ↦ info_at s.db (key_of s.db.dba rel) ]) (Some info) → IsNamed s rel
    go None f k = record { key = key_of s.db.dba rel; info = info; is = e; there = k }
    go (Some own) f k = record { key = key_of s.user rel; info = info; is = e; there = f ∙ k }

pub named_with : (s : Scope) (of_found : RelInfo → Option ℕ) (rel : List ℕ) → refusal_in of_found (named s rel) ≡ None → IsNamed s rel
named_with s of_found rel h = go (named s rel) refl h
  where
    go : (o : Option RelInfo) → named s rel ≡ o → refusal_in of_found o ≡ None → IsNamed s rel
    go None e k = absurd (cc k)
    go (Some info) e k = named_there s rel info e

-- what a name means is there under its own key
pub named_again : (s : Scope) (rel : List ℕ) (r : IsNamed s rel) → info_at s.db r.info.key ≡ Some r.info
named_again s rel r = found_again s.db r.key r.info r.there

pub ranged_again : (s : Scope) (var : List ℕ) (r : IsRanged s var) → info_at s.db r.info.key ≡ Some r.info
ranged_again s var r = found_again s.db r.key r.info r.there
