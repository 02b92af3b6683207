-- Where nothing is permitted no row is used.
use Rattle.std.proofs.Common.{◌≡◌, refl, sym, ap, ◌∙◌, ℕ, Bool, true, false, ◌||◌, ◌&&◌, List, [], ◌∷◌, cond, map, Some}
use Rattle.std.specs.List.{filter, flat_map, list_any, list_all, enumerate_from}
use Rattle.calculus.specs.declared.query.RelKey.{RelKey}
use Rattle.calculus.specs.declared.query.Query.{Query}
use Rattle.calculus.specs.declared.schema.Permit.{Permit}
use Rattle.calculus.specs.Rows.{Row}
use Rattle.calculus.specs.Lists.{is_any}
use Rattle.calculus.specs.Limits.{greatest_level}
use Rattle.calculus.specs.Term.{Env, Aggs, no_aggs, holds}
use Rattle.calculus.specs.Who.{Who, Unrestricted, AsUser}
use Rattle.calculus.specs.Database.{Db, Relation, View, permits_on}
use Rattle.calculus.specs.Stored.{Kept, range_at, rows_at}
use Rattle.calculus.specs.Rights.{Right, Retrieve, covers, needs_none, permitted, may}
use Rattle.calculus.specs.Used.{used_in_query, used_vars}
use Rattle.calculus.specs.QueryParts.{vars_of}
use Rattle.calculus.specs.Assignments.{Source, choices, rows_used, variable_rows, assigned, changed_rows, may_read}
use Rattle.calculus.specs.Targets.{rows_given}
use Rattle.calculus.specs.VariableRows.{view_rows, rows_within, rows_of}
use Rattle.calculus.specs.Permission.{Reads, vars_permitted, permitted_within, readable, change_permitted}
use Rattle.calculus.specs.Aggregate.{aggregates}
use Rattle.calculus.specs.Answer.{answer}
use Rattle.calculus_laws.proofs.Through.{rows_said, permitted_said, both_said}

-- where no item passes the first test, none passes both
none_of_both : {X : Type 0} (p q : X → Bool) (xs : List X) → list_any p xs ≡ false → list_any (λ x. p x && q x) xs ≡ false
none_of_both p q [] h = refl
none_of_both p q (x ∷ xs) h = go (none_of_both p q xs) (p x) h
  where
    go : (list_any p xs ≡ false → list_any (λ x. p x && q x) xs ≡ false) → (b : Bool) → (b || list_any p xs) ≡ false
        → ((b && q x) || list_any (λ x. p x && q x) xs) ≡ false
    go later true h = cc h
    go later false h = later h

either_way : (a b c : Bool) → (b ≡ false → c ≡ false) → (a || b) ≡ false → (a || c) ≡ false
either_way true b c f h = cc h
either_way false b c f h = f h

pub no_row : (db : Db) (who : Who) (right : Right) (attrs : List ℕ) (key : RelKey) (row : Row) → permitted db who right attrs key ≡ false → may db who right attrs key row ≡ false
unfolding permitted may
no_row db Unrestricted right attrs key row h = cc h
no_row db (AsUser asker) right attrs key row h =
    either_way (needs_none db asker right key) _ _
    (none_of_both (λ (p : Permit). covers p asker right attrs) (λ p. holds no_aggs p.qual (row ∷ [])) (permits_on db key)) h

filter_none : {X : Type 0} (p : X → Bool) (xs : List X) → ((x : X) → p x ≡ false) → filter p xs ≡ []
filter_none p [] h = refl
filter_none p (x ∷ xs) h = rw (h x) (filter_none p xs h)

-- ---- nothing is changed

-- a row that may not be read, where reading is not permitted, or not be changed, where that isn't
no_change : (db : Db) (who : Who) (right : Right) (places attrs : List ℕ) (key : RelKey) (row : Row) → change_permitted db who right places key attrs ≡ false
    → (may db who right places key row && may_read db who attrs key row) ≡ false
no_change db who right places [] key row h = ap (λ b. b && true) (no_row db who right places key row h)
no_change db who right places (a ∷ attrs) key row h =
    neither (permitted db who right places key) (permitted db who Retrieve (a ∷ attrs) key) (may db who right places key row) (may db who Retrieve (a ∷ attrs) key row)
    (no_row db who right places key row) (no_row db who Retrieve (a ∷ attrs) key row) h
  where
    pass : (b c : Bool) → c ≡ false → (b && c) ≡ false
    pass true c h = h
    pass false c h = refl

    neither : (p q b c : Bool) → (p ≡ false → b ≡ false) → (q ≡ false → c ≡ false) → (p && q) ≡ false → (b && c) ≡ false
    neither true q b c f g h = pass b c (g h)
    neither false q b c f g h = ap (λ b. b && c) (f refl)

pub none_changed : (db : Db) (who : Who) (right : Right) (places attrs : List ℕ) (key : RelKey) → change_permitted db who right places key attrs ≡ false
    → changed_rows db who right places attrs key ≡ []
none_changed db who right places attrs key h =
    filter_none (λ row. may db who right places key row && may_read db who attrs key row) (rows_at db key) (λ row. no_change db who right places attrs key row h)

-- ---- nothing is read

-- a variable without rows leaves no assignment
no_choice : {X : Type 0} (f : X → List Row) (xs : List X) → list_all (λ x. is_any (f x)) xs ≡ false → choices (map f xs) ≡ []
no_choice f [] h = cc h
no_choice f (x ∷ xs) h = go (no_choice f xs) (f x) h
  where
    nothing : (rows : List Row) → flat_map (λ (row : Row). map (λ (e : Env). row ∷ e) []) rows ≡ []
    nothing [] = refl
    nothing (row ∷ rows) = nothing rows

    go : (list_all (λ x. is_any (f x)) xs ≡ false → choices (map f xs) ≡ []) → (rows : List Row) → (is_any rows && list_all (λ x. is_any (f x)) xs) ≡ false
        → flat_map (λ row. map (λ e. row ∷ e) (choices (map f xs))) rows ≡ []
    go later [] h = refl
    go later (row ∷ rows) h = ap (λ es. flat_map (λ row. map (λ e. row ∷ e) es) (row ∷ rows)) (later h) ∙ nothing (row ∷ rows)

-- where a used variable may not be read and has then no rows, some variable has none
some_empty : (reads : Reads) (source : Source) (q : Query) → ((key : RelKey) (attrs : List ℕ) → reads key attrs ≡ false → source key attrs ≡ [])
    → (ps : List (ℕ × RelKey)) → vars_permitted reads q (filter (λ p. is_any (used_in_query p.0 q)) ps) ≡ false
    → list_all (λ p. is_any (variable_rows source q p.0 p.1)) ps ≡ false
some_empty reads source q none [] h = cc h
some_empty reads source q none (p ∷ ps) h =
    go (some_empty reads source q none ps) (used_in_query p.0 q) (sym (split (is_any (used_in_query p.0 q))) ∙ h)
  where
    rest : Bool
    rest = list_all (λ p. is_any (variable_rows source q p.0 p.1)) ps

    others : List (ℕ × RelKey)
    others = filter (λ p. is_any (used_in_query p.0 q)) ps

    split : (b : Bool) → vars_permitted reads q (cond b (p ∷ others) others)
        ≡ cond b (reads p.1 (used_in_query p.0 q) && vars_permitted reads q others) (vars_permitted reads q others)
    split true = refl
    split false = refl

    pass : (b : Bool) → rest ≡ false → (b && rest) ≡ false
    pass true h = h
    pass false h = refl

    here : (vars_permitted reads q others ≡ false → rest ≡ false) → (attrs : List ℕ) → (b : Bool) → reads p.1 attrs ≡ b
        → (b && vars_permitted reads q others) ≡ false → (is_any (source p.1 attrs) && rest) ≡ false
    here later attrs true f h = pass (is_any (source p.1 attrs)) (later h)
    here later attrs false f h = ap (λ rows. is_any rows && rest) (none p.1 attrs f)

    go : (vars_permitted reads q others ≡ false → rest ≡ false) → (attrs : List ℕ)
        → cond (is_any attrs) (reads p.1 attrs && vars_permitted reads q others) (vars_permitted reads q others) ≡ false
        → (is_any (rows_used source p.1 attrs) && rest) ≡ false
    go later [] h = later h
    go later (a ∷ attrs) h = here later (a ∷ attrs) (reads p.1 (a ∷ attrs)) refl h

-- where a variable may not be read and has then no rows, there is no assignment
pub none_assigned : (reads : Reads) (source : Source) (q : Query) → ((key : RelKey) (attrs : List ℕ) → reads key attrs ≡ false → source key attrs ≡ [])
    → vars_permitted reads q (used_vars q) ≡ false → assigned source q ≡ []
unfolding assigned
none_assigned reads source q none h =
    no_choice (λ (p : ℕ × RelKey). variable_rows source q p.0 p.1) (enumerate_from 0 (vars_of q)) (some_empty reads source q none (enumerate_from 0 (vars_of q)) h)

none_given : (aggs : Aggs) (q : Query) (es : List Env) → es ≡ [] → rows_given aggs q es ≡ []
unfolding rows_given
none_given aggs q es h = rw h refl

none_viewed : (reads : Reads) (source : Source) → ((key : RelKey) (attrs : List ℕ) → reads key attrs ≡ false → source key attrs ≡ [])
    → (view : View) → vars_permitted reads view.query (used_vars view.query) ≡ false → view_rows source view ≡ []
none_viewed reads source none view h = none_given no_aggs view.query (assigned source view.query) (none_assigned reads source view.query none h)

none_within : (db : Db) (who : Who) (n : ℕ) (key : RelKey) (attrs : List ℕ) → permitted_within n db who key attrs ≡ false → rows_within n db who key attrs ≡ []
none_within db who =
    both_said (permitted_said db who) (rows_said db who) db (λ n key reads source. (attrs : List ℕ) → reads attrs ≡ false → source attrs ≡ []) (record {
      nothing = λ n f g key e attrs h. refl;
      kept = λ n f g key relation e attrs h. filter_none (may db who Retrieve attrs key) relation.rows (λ row. no_row db who Retrieve attrs key row h);
      view_past = λ key view e attrs h. refl;
      view_above = λ n reads source none key view e attrs h. none_viewed reads source none view h;
    })

pub none_read : (db : Db) (who : Who) (attrs : List ℕ) (key : RelKey) → readable db who key attrs ≡ false → rows_of db who key attrs ≡ []
unfolding readable rows_of
none_read db who attrs key h = none_within db who greatest_level key attrs h

pub none_kept : (db : Db) (who : Who) (attrs : List ℕ) (key : RelKey) (relation : Relation) → range_at db key ≡ Some (Kept relation)
    → permitted db who Retrieve attrs key ≡ false → rows_of db who key attrs ≡ []
unfolding rows_of
none_kept db who attrs key relation e h =
    rw e (filter_none (may db who Retrieve attrs key) relation.rows (λ row. no_row db who Retrieve attrs key row h))

pub none_answered : (db : Db) (who : Who) (q : Query) → vars_permitted (readable db who) q (used_vars q) ≡ false → answer db who q ≡ []
unfolding answer
none_answered db who q h =
    none_given (aggregates db who) q (assigned (rows_of db who) q) (none_assigned (readable db who) (rows_of db who) q (λ key attrs. none_read db who attrs key) h)
