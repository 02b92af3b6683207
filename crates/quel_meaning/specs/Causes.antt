-- What refuses a statement whose names were found, in the order in which it counts.
use Rattle.std.specs.Prelude.{ℕ, Bool, true, false, not, ◌||◌, ◌&&◌, nat_lt, bytes_eq, is_some, List, [], ◌∷◌, map, filter_map, length, position, slice_get, Option, Some, None}
use Rattle.std.specs.List.{list_any, list_all}
use Rattle.calculus.specs.declared.value.Kind.{Kind}
use Rattle.calculus.specs.declared.value.Kind.TheVariants.{Of}
use Rattle.calculus.specs.declared.query.Target.{Target}
use Rattle.calculus.specs.declared.query.Query.{Query}
use Rattle.calculus.specs.declared.request.CopyForm.{CopyForm}
use Rattle.calculus.specs.declared.request.CopyForm.TheVariants.{Bin, Fixed, Until}
use Rattle.calculus.specs.declared.request.Update.{Update}
use Rattle.calculus.specs.declared.schema.RelInfo.{RelInfo}
use Rattle.calculus.specs.declared.statement.Statement.{Statement}
use Rattle.calculus.specs.declared.statement.Statement.TheVariants as statement
use Rattle.calculus.specs.Limits.{most_permits, most_rules, most_listed_attributes}
use Rattle.calculus.specs.Keys.{same_key}
use Rattle.calculus.specs.Lists.{differ_by}
use Rattle.calculus.specs.Kinds.{is_text_kind}
use Rattle.calculus.specs.Database.{view_at}
use Rattle.calculus.specs.Catalogue.{is_catalogue}
use Rattle.calculus.specs.Stored.{kinds_at}
use Rattle.calculus.specs.QueryParts.{vars_of, targets_of, qual_of}
use Rattle.calculus.specs.Replacement.{made_attr}
use Rattle.calculus.specs.Change.{permit_numbers, rule_numbers}
use Rattle.calculus.specs.IsDatabase.{valid_row_qual}
use Rattle.calculus.specs.Storable.{row_qual_is_small}
use Rattle.quel_meaning.specs.Scope.{Scope, named, ranged, entry_named, key_found, place_found}
use Rattle.quel_meaning.specs.Aggregates.{aggregates_allowed}
use Rattle.quel_meaning.specs.KindsInQueries.{query_fits, assignments_fit}
use Rattle.quel_meaning.specs.WrittenQuery.{query_of}
use Rattle.quel_meaning.specs.StatementUpdate.{titles_of, append_of, replace_of, delete_of}
use Rattle.quel_meaning.specs.Passing.{has_too_many, is_full, is_too_large, is_too_wide, is_taken}
use Rattle.quel_meaning.specs.Planned.{is_past_limit}

-- causes that refuse, each by its number and whether it is there
abbrev pub Causes : Type 0
Causes = List (ℕ × Bool)

-- a name stands twice
abbrev pub repeats : List (List ℕ) → Bool
repeats names = not (differ_by bytes_eq names)

-- the place of the first target with this title
abbrev pub title_place : List Target → List ℕ → Option ℕ
title_place targets name = position (λ t. bytes_eq t.name name) targets

-- each name to sort by is a title
abbrev pub sorts_by_titles : List Target → List (List ℕ × Bool) → Bool
sorts_by_titles targets sort = list_all (λ k. is_some (title_place targets k.0)) sort

-- the kinds of the targets
abbrev pub target_kinds : Query → List Kind
target_kinds q = map (λ t. t.kind) (targets_of q)

-- the kinds of the attributes that are made of the targets
abbrev pub made_kinds : Query → List Kind
made_kinds q = map (λ t. (made_attr t).kind) (targets_of q)

-- what refuses a `retrieve` that prints: an aggregate, too many variables, kinds, a name to sort by, the width of its rows
abbrev pub print_refusals : Scope → Bool → List (List ℕ × Bool) → Query → Causes
print_refusals s stand sort q =
    (18, not stand)
    ∷ (14, has_too_many s.db q)
    ∷ (13, not (query_fits s.db q))
    ∷ (12, not (sorts_by_titles (targets_of q) sort))
    ∷ (16, is_too_wide (target_kinds q))
    ∷ []

-- what refuses a `retrieve` that makes a relation: the same, and that there is no room, that a title stands twice, that the name is in use
abbrev pub into_refusals : Scope → Bool → List ℕ → List (List ℕ × Bool) → Query → Causes
into_refusals s stand name sort q =
    (18, not stand)
    ∷ (14, has_too_many s.db q || is_full s.db)
    ∷ (17, repeats (titles_of q))
    ∷ (13, not (query_fits s.db q))
    ∷ (12, not (sorts_by_titles (targets_of q) sort))
    ∷ (16, is_too_wide (made_kinds q))
    ∷ (15, is_taken s.db s.user name)
    ∷ []

-- what refuses an update because of its relation: a catalogue, a view
abbrev pub changed_refusals : Scope → Update → Causes
changed_refusals s u = (28, is_catalogue s.db u.rel) ∷ (26, is_some (view_at s.db u.rel)) ∷ []

-- what refuses an append or a replacement: an aggregate, too many variables, an attribute that is set twice, kinds, the relation
abbrev pub update_refusals : Scope → Bool → Update → Causes
update_refusals s stand u =
    (18, not stand)
    ∷ (14, has_too_many s.db u.query)
    ∷ (17, repeats (titles_of u.query))
    ∷ (13, not (query_fits s.db u.query && assignments_fit s.db u))
    ∷ changed_refusals s u

-- what refuses a deletion: the same, but it sets no attribute
abbrev pub delete_refusals : Scope → Bool → Update → Causes
delete_refusals s stand u = (18, not stand) ∷ (14, has_too_many s.db u.query) ∷ (13, not (query_fits s.db u.query)) ∷ changed_refusals s u

-- what refuses a view: an aggregate; too many variables, no room, its size or level; a title that stands twice; kinds; the width of its rows; a name in use
abbrev pub view_refusals : Scope → Bool → List ℕ → Query → Causes
view_refusals s stand name q =
    (18, not stand)
    ∷ (14, has_too_many s.db q || (is_full s.db || is_too_large s.db q))
    ∷ (17, repeats (titles_of q))
    ∷ (13, not (query_fits s.db q))
    ∷ (16, is_too_wide (target_kinds q))
    ∷ (15, is_taken s.db s.user name)
    ∷ []

-- what refuses a permit or a rule on what was found: an aggregate; a second variable, no room among those that stand there, a size; kinds
abbrev pub row_refusals : Scope → Bool → Option RelInfo → Bool → Query → Causes
row_refusals s stand info no_room q =
    (18, not stand)
    ∷ (14, nat_lt 1 (length (vars_of q)) || (no_room || not (row_qual_is_small (qual_of q))))
    ∷ (13, not (valid_row_qual s.db (key_found info) (qual_of q)))
    ∷ []

-- a column of a file has a number's bytes
abbrev pub is_binary : CopyForm → Bool
is_binary (Bin width) = true
is_binary (Fixed width) = false
is_binary (Until byte) = false

-- a column has a number's bytes, and the attribute that it names is a text
abbrev pub is_binary_text : Scope → Option RelInfo → (List ℕ × CopyForm) → Bool
is_binary_text s info c = is_binary c.1 && is_text_kind (slice_get (kinds_at s.db (key_found info)) (place_found info c.0))

-- what `destroy` lists twice
abbrev pub repeats_keys : Scope → List (List ℕ) → Bool
repeats_keys s names = not (differ_by same_key (filter_map (entry_named s) names))

-- what refuses a statement whose aggregates stand, or don't, and whose query is this
abbrev pub refusals_by : Scope → Bool → Query → Statement → Causes
refusals_by s stand q (statement.Range var rel) = []
refusals_by s stand q (statement.Retrieve None items qual sort) = print_refusals s stand sort q
refusals_by s stand q (statement.Retrieve (Some name) items qual sort) = into_refusals s stand name sort q
refusals_by s stand q (statement.Append rel items qual) = update_refusals s stand (append_of s rel q)
refusals_by s stand q (statement.Replace var items qual) = update_refusals s stand (replace_of s var q)
refusals_by s stand q (statement.Delete var qual) = delete_refusals s stand (delete_of s var q)
refusals_by s stand q (statement.Create rel attrs) =
    (14, is_full s.db) ∷ (17, repeats (map (λ a. a.0) attrs)) ∷ (16, is_too_wide (map (λ a. Of a.1) attrs)) ∷ (15, is_taken s.db s.user rel) ∷ []
refusals_by s stand q (statement.Destroy rels) = (17, repeats_keys s rels) ∷ []
refusals_by s stand q (statement.DropPermits rel numbers) = []
refusals_by s stand q (statement.DropRules rel numbers) = []
refusals_by s stand q (statement.Modify rel to keys) = (17, repeats keys) ∷ []
refusals_by s stand q (statement.Index base name keys) = (17, repeats keys) ∷ (14, is_full s.db) ∷ (15, is_taken s.db s.user name) ∷ []
refusals_by s stand q (statement.Print rels) = []
refusals_by s stand q (statement.Help rel) = []
refusals_by s stand q (statement.Copy rel columns from file) =
    (17, repeats (map (λ c. c.0) columns)) ∷ (13, list_any (is_binary_text s (named s rel)) columns) ∷ []
refusals_by s stand q (statement.View name items qual) = view_refusals s stand name q
refusals_by s stand q (statement.Permit ops var attrs user qual) =
    row_refusals s stand (ranged s var) (is_past_limit most_permits (permit_numbers s.db (key_found (ranged s var))) || nat_lt most_listed_attributes (length attrs)) q
refusals_by s stand q (statement.Rule var qual) = row_refusals s stand (ranged s var) (is_past_limit most_rules (rule_numbers s.db (key_found (ranged s var)))) q

-- what refuses a statement whose names were found, in the order in which it counts; what the user may do and what the rows decide is checked later
unfoldable pub refusals : Scope → Statement → Causes
refusals s stmt = refusals_by s (aggregates_allowed s stmt) (query_of s stmt) stmt
