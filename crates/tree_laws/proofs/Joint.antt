-- Texts one behind the other tell of assignments what each tells of a row.
use Rattle.std.proofs.Common.{◌≡◌, refl, sym, ap, ◌∙◌, subst, ℕ, zero, suc, ◌+◌, Bool, true, false, ◌&&◌, List, [], ◌∷◌, ◌++◌, map, length, Option, Some, None, arith}
use Rattle.std.specs.Prelude.{slice_get}
use Rattle.std.specs.List.{list_all}
use Rattle.calculus.specs.declared.query.RelKey.{RelKey}
use Rattle.calculus.specs.declared.query.QTerm.{QTerm}
use Rattle.calculus.specs.declared.query.QQual.{QQual}
use Rattle.calculus.specs.Rows.{Row}
use Rattle.calculus.specs.Term.{Env, Aggs, val, holds, no_aggs, attribute_value}
use Rattle.calculus.specs.Database.{Db}
use Rattle.calculus.specs.Stored.{rows_at}
use Rattle.calculus_laws.proofs.Members.{In, Chosen}
use Rattle.view_text.specs.declared.expansion.Expansion.{Expansion}
use Rattle.view_text.specs.Replaced.{shifted_qual}
use Rattle.view_text.specs.Scoped.{is_within, is_qual_within, are_within, is_scoped}
use Rattle.view_text.specs.Expansions.{attr_term, own_or, term_at, expansions_vars, substituted_from, conditions_from}
use Rattle.tree_laws.proofs.Values.{without_value_has_none, StandsFor}
use Rattle.tree_laws.proofs.Scopes.{both_true, val_shifted, all_shifted}

-- ---- lists

pub all_append : {X : Type 0} (p : X → Bool) (xs ys : List X) → list_all p (xs ++ ys) ≡ (list_all p xs && list_all p ys)
all_append p [] ys = refl
all_append p (x ∷ xs) ys = ap (λ b. p x && b) (all_append p xs ys) ∙ assoc (p x) (list_all p xs) (list_all p ys)
  where
    assoc : (a b c : Bool) → (a && (b && c)) ≡ ((a && b) && c)
    assoc true b c = refl
    assoc false b c = refl

pub both_are : (b c : Bool) → b ≡ true → c ≡ true → (b && c) ≡ true
both_are true c h k = k
both_are false c h k = h

behind_assoc : {X : Type 0} (xs ys zs : List X) → (xs ++ ys) ++ zs ≡ xs ++ (ys ++ zs)
behind_assoc [] ys zs = refl
behind_assoc (x ∷ xs) ys zs = ap (λ l. x ∷ l) (behind_assoc xs ys zs)

length_behind : {X : Type 0} (xs ys : List X) → length (xs ++ ys) ≡ length xs + length ys
length_behind [] ys = omega arith
length_behind (x ∷ xs) ys = let more = length_behind xs ys in omega (arith, more)

-- ---- one expansion

-- the rows of what the variables range over
abbrev pub kept_lists : Db → List RelKey → List (List Row)
kept_lists db vars = map (rows_at db) vars

-- each condition holds
abbrev pub all_hold : Aggs → List QQual → Env → Bool
all_hold aggs qs e = list_all (λ q. holds aggs q e) qs

-- the attributes of the expansion have the values of the row
abbrev pub IsRow : Expansion → Row → Env → Type 0
IsRow expansion row seg = (a : ℕ) → val no_aggs (attr_term expansion a) seg ≡ slice_get row a

-- an expansion tells of these rows: in each assignment in which its conditions hold it has the values of one of them, and of each there is such an assignment
pub record Denotes (db : Db) (rows : List Row) (expansion : Expansion) : Type 0 where
  pub scoped : is_scoped expansion ≡ true
  pub to : (seg : Env) → Chosen (kept_lists db expansion.vars) seg → all_hold no_aggs expansion.conditions seg ≡ true → (row : Row) × In row rows × IsRow expansion row seg
  pub from : (row : Row) → In row rows → (seg : Env) × Chosen (kept_lists db expansion.vars) seg × (all_hold no_aggs expansion.conditions seg ≡ true) × IsRow expansion row seg

-- each of these expansions tells of the rows in its place
abbrev pub DenoteEach : Db → List (List Row) → List Expansion → Type 0
DenoteEach db [] [] = Unit {0}
DenoteEach db [] (expansion ∷ expansions) = ⊥
DenoteEach db (rows ∷ more) [] = ⊥
DenoteEach db (rows ∷ more) (expansion ∷ expansions) = Denotes db rows expansion × DenoteEach db more expansions

-- ---- choices for variables one behind the other

chosen_length : (db : Db) (vars : List RelKey) (e : Env) → Chosen (kept_lists db vars) e → length e ≡ length vars
chosen_length db [] [] h = refl
chosen_length db [] (row ∷ e) h = absurd h
chosen_length db (key ∷ vars) [] h = absurd h
chosen_length db (key ∷ vars) (row ∷ e) h = ap suc (chosen_length db vars e h.1)

chosen_apart : (db : Db) (xs ys : List RelKey) (e : Env) → Chosen (kept_lists db (xs ++ ys)) e
    → (seg : Env) × (rest : Env) × Chosen (kept_lists db xs) seg × Chosen (kept_lists db ys) rest × (seg ++ rest ≡ e)
chosen_apart db [] ys e h = ([], e, tt, h, refl)
chosen_apart db (key ∷ xs) ys [] h = absurd h
chosen_apart db (key ∷ xs) ys (row ∷ e) h =
    let (seg, rest, front, behind, same) = chosen_apart db xs ys e h.1 in
    (row ∷ seg, rest, (h.0, front), behind, ap (λ e. row ∷ e) same)

chosen_together : (db : Db) (xs ys : List RelKey) (seg rest : Env) → Chosen (kept_lists db xs) seg → Chosen (kept_lists db ys) rest → Chosen (kept_lists db (xs ++ ys)) (seg ++ rest)
chosen_together db [] ys [] rest h k = k
chosen_together db [] ys (row ∷ seg) rest h k = absurd h
chosen_together db (key ∷ xs) ys [] rest h k = absurd h
chosen_together db (key ∷ xs) ys (row ∷ seg) rest h k = (h.0, chosen_together db xs ys seg rest h.1 k)

-- ---- the terms of an expansion

term_within : (n : ℕ) (terms : List QTerm) (a : ℕ) → list_all (is_within n) terms ≡ true → is_within n (term_at terms a) ≡ true
unfolding is_within
term_within n [] a h = refl
term_within n (t ∷ ts) zero h = (both_true (is_within n t) (list_all (is_within n) ts) h).0
term_within n (t ∷ ts) (suc a) h = term_within n ts a (both_true (is_within n t) (list_all (is_within n) ts) h).1

own_within : (n : ℕ) (terms : Option (List QTerm)) (a : ℕ) → are_within n terms ≡ true → is_within n (own_or terms a) ≡ true
unfolding is_within
own_within n None a h = h
own_within n (Some terms) a h = term_within n terms a h

pub attr_within : (expansion : Expansion) (a : ℕ) → is_scoped expansion ≡ true → is_within (length expansion.vars) (attr_term expansion a) ≡ true
attr_within expansion a h = own_within (length expansion.vars) expansion.terms a (both_true (are_within (length expansion.vars) expansion.terms) (list_all (is_qual_within (length expansion.vars)) expansion.conditions) h).0

conditions_within : (expansion : Expansion) → is_scoped expansion ≡ true → list_all (is_qual_within (length expansion.vars)) expansion.conditions ≡ true
conditions_within expansion h = (both_true (are_within (length expansion.vars) expansion.terms) (list_all (is_qual_within (length expansion.vars)) expansion.conditions) h).1

-- ---- texts one behind the other, behind these rows

nowhere : (v a : ℕ) → attribute_value [] v a ≡ None
unfolding attribute_value
nowhere zero a = refl
nowhere (suc v) a = refl

first_row : (row : Row) (e : Env) (a : ℕ) → attribute_value (row ∷ e) 0 a ≡ slice_get row a
unfolding attribute_value
first_row row e a = refl

later_row : (row : Row) (e : Env) (v a : ℕ) → attribute_value (row ∷ e) (suc v) a ≡ attribute_value e v a
unfolding attribute_value
later_row row e v a = refl

module _ (db : Db) (aggs : Aggs) where
  -- what the expansions say of an assignment that stands behind these rows: their conditions hold, and their attributes have the values of those rows
  pub record Says (n : ℕ) (expansions : List Expansion) (pre f e : Env) : Type 0 where
    pub conditions : all_hold aggs (conditions_from n expansions) (pre ++ f) ≡ true
    pub attributes : StandsFor (substituted_from n expansions) (pre ++ f) e

  -- one expansion in front of the others
  module _ (n : ℕ) (expansion : Expansion) (expansions : List Expansion) (pre seg rest : Env) (row : Row) (e : Env)
      (here : length pre ≡ n) (scoped : is_scoped expansion ≡ true) (chosen : Chosen (kept_lists db expansion.vars) seg) where
    long : length seg ≡ length expansion.vars
    long = chosen_length db expansion.vars seg chosen

    further_on : length (pre ++ seg) ≡ n + length expansion.vars
    further_on = length_behind pre seg ∙ (λ i. here i + long i)

    conditions_shifted : all_hold aggs (map (shifted_qual n) expansion.conditions) (pre ++ (seg ++ rest)) ≡ all_hold no_aggs expansion.conditions seg
    conditions_shifted =
        subst (λ m. all_hold aggs (map (shifted_qual m) expansion.conditions) (pre ++ (seg ++ rest)) ≡ all_hold no_aggs expansion.conditions seg) here
        (all_shifted aggs no_aggs pre seg rest expansion.conditions (subst (λ k. list_all (is_qual_within k) expansion.conditions ≡ true) (sym long) (conditions_within expansion scoped)))

    conditions_apart : all_hold aggs (conditions_from n (expansion ∷ expansions)) (pre ++ (seg ++ rest))
        ≡ (all_hold no_aggs expansion.conditions seg && all_hold aggs (conditions_from (n + length expansion.vars) expansions) ((pre ++ seg) ++ rest))
    conditions_apart =
        all_append (λ q. holds aggs q (pre ++ (seg ++ rest))) (map (shifted_qual n) expansion.conditions) (conditions_from (n + length expansion.vars) expansions)
        ∙ (λ i. conditions_shifted i && all_hold aggs (conditions_from (n + length expansion.vars) expansions) (sym (behind_assoc pre seg rest) i))

    first_attribute : IsRow expansion row seg → (others : Aggs) (a : ℕ) → val others (substituted_from n (expansion ∷ expansions) 0 a) (pre ++ (seg ++ rest)) ≡ attribute_value (row ∷ e) 0 a
    first_attribute is others a =
        subst (λ m. val others (substituted_from m (expansion ∷ expansions) 0 a) (pre ++ (seg ++ rest)) ≡ val no_aggs (attr_term expansion a) seg) here
        (val_shifted others no_aggs pre seg rest (attr_term expansion a) (subst (λ k. is_within k (attr_term expansion a) ≡ true) (sym long) (attr_within expansion a scoped)))
        ∙ is a ∙ sym (first_row row e a)

    together : IsRow expansion row seg → all_hold no_aggs expansion.conditions seg ≡ true → Says (n + length expansion.vars) expansions (pre ++ seg) rest e → Says n (expansion ∷ expansions) pre (seg ++ rest) (row ∷ e)
    together is holding says = record {
      conditions = conditions_apart ∙ both_are (all_hold no_aggs expansion.conditions seg) (all_hold aggs (conditions_from (n + length expansion.vars) expansions) ((pre ++ seg) ++ rest)) holding says.conditions;
      attributes = each;
    }
      where
        each : StandsFor (substituted_from n (expansion ∷ expansions)) (pre ++ (seg ++ rest)) (row ∷ e)
        each others zero a = first_attribute is others a
        each others (suc v) a =
            ap (val others (substituted_from (n + length expansion.vars) expansions v a)) (sym (behind_assoc pre seg rest)) ∙ says.attributes others v a ∙ sym (later_row row e v a)

  -- an assignment in which the conditions hold is one of the rows that the expansions tell of
  pub to_rows : (rowss : List (List Row)) (expansions : List Expansion) (n : ℕ) (pre f : Env) → length pre ≡ n → DenoteEach db rowss expansions → Chosen (kept_lists db (expansions_vars expansions)) f
      → all_hold aggs (conditions_from n expansions) (pre ++ f) ≡ true → (e : Env) × Chosen rowss e × Says n expansions pre f e
  to_rows [] [] n pre f here denote chosen holding = ([], tt, record { conditions = holding; attributes = λ others v a. without_value_has_none others (pre ++ f) ∙ sym (nowhere v a) })
  to_rows [] (expansion ∷ expansions) n pre f here denote chosen holding = absurd denote
  to_rows (rows ∷ more) [] n pre f here denote chosen holding = absurd denote
  to_rows (rows ∷ more) (expansion ∷ expansions) n pre f here denote chosen holding =
      let (seg, rest, front, behind, same) = chosen_apart db expansion.vars (expansions_vars expansions) f chosen in
      let held : all_hold aggs (conditions_from n (expansion ∷ expansions)) (pre ++ (seg ++ rest)) ≡ true = ap (λ f. all_hold aggs (conditions_from n (expansion ∷ expansions)) (pre ++ f)) same ∙ holding in
      let parts = both_true (all_hold no_aggs expansion.conditions seg) (all_hold aggs (conditions_from (n + length expansion.vars) expansions) ((pre ++ seg) ++ rest))
      (sym (conditions_apart n expansion expansions pre seg rest [] [] here denote.0.scoped front) ∙ held) in
      let (row, inside, is) = denote.0.to seg front parts.0 in
      let (e, others, says) = to_rows more expansions (n + length expansion.vars) (pre ++ seg) rest (further_on n expansion expansions pre seg rest row [] here denote.0.scoped front) denote.1 behind parts.1 in (
        row ∷ e,
        (inside, others),
        subst (λ f. Says n (expansion ∷ expansions) pre f (row ∷ e)) same (together n expansion expansions pre seg rest row e here denote.0.scoped front is parts.0 says),
      )

  -- and of rows that they tell of there is such an assignment
  pub from_rows : (rowss : List (List Row)) (expansions : List Expansion) (n : ℕ) (pre e : Env) → length pre ≡ n → DenoteEach db rowss expansions → Chosen rowss e
      → (f : Env) × Chosen (kept_lists db (expansions_vars expansions)) f × Says n expansions pre f e
  from_rows [] [] n pre [] here denote chosen = ([], tt, record { conditions = refl; attributes = λ others v a. without_value_has_none others (pre ++ []) ∙ sym (nowhere v a) })
  from_rows [] [] n pre (row ∷ e) here denote chosen = absurd chosen
  from_rows [] (expansion ∷ expansions) n pre e here denote chosen = absurd denote
  from_rows (rows ∷ more) [] n pre e here denote chosen = absurd denote
  from_rows (rows ∷ more) (expansion ∷ expansions) n pre [] here denote chosen = absurd chosen
  from_rows (rows ∷ more) (expansion ∷ expansions) n pre (row ∷ e) here denote chosen =
      let (seg, front, holding, is) = denote.0.from row chosen.0 in
      let (rest, behind, says) = from_rows more expansions (n + length expansion.vars) (pre ++ seg) e (further_on n expansion expansions pre seg [] row e here denote.0.scoped front) denote.1 chosen.1 in (
        seg ++ rest,
        chosen_together db expansion.vars (expansions_vars expansions) seg rest front behind,
        together n expansion expansions pre seg rest row e here denote.0.scoped front is holding says,
      )
