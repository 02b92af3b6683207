-- The condition with which one may do something, and whether it is permitted.
use Rattle.std.proofs.Common.{◌≡◌, refl, sym, ap, ◌∙◌, ℕ, Bool, true, false, cond, ◌||◌, ◌&&◌, List, [], ◌∷◌, map, filter, length, Option, Some, None, arith}
use Rattle.std.specs.Option.{option_to_list}
use Rattle.std.specs.List.{list_all, list_any}
use Rattle.calculus.specs.declared.query.RelKey.{RelKey}
use Rattle.calculus.specs.declared.query.QQual.{QQual}
use Rattle.calculus.specs.declared.schema.Permit.{Permit}
use Rattle.calculus.specs.Who.{Asker, asker_of, as_user}
use Rattle.calculus.specs.Database.{Db, permits_on}
use Rattle.calculus.specs.Rights.{Right, covers, needs_none, permitted}
use Rattle.view_text.specs.Halves.{any_of}
use Rattle.view_text.specs.Scoped.{is_qual_within}
use Rattle.view_text.specs.ExpansionOf.{permit_condition, restriction}
use Rattle.view_text.proofs.Scope.{condition_within}
use Rattle.view_text.proofs.Within.{both_true}
use Rattle.view_text.proofs.JoinedWithin.{any_within}
use Rattle.view_expand.specs.Covering.{covering_conditions, one_of}

-- ---- one of these

pub none_there : (qs : List QQual) → length qs ≡ 0 → None ≡ one_of qs
none_there [] h = refl
none_there (q ∷ qs) h = absurd (omega arith)

pub one_there : (qs : List QQual) → ¬ (length qs ≡ 0) → Some (any_of qs) ≡ one_of qs
one_there [] h = absurd (h refl)
one_there (q ∷ qs) h = refl

one_is : (qs : List QQual) (c : QQual) → Some c ≡ one_of qs → c ≡ any_of qs
one_is [] c h = cc h
one_is (q ∷ qs) c h = cc h

-- ---- what the conditions of permits that cover say

covered_step : (b x : Bool) (p : Permit) (fs : List Permit) (c : QQual) → (Some c ≡ one_of (map permit_condition fs) → x ≡ true)
    → Some c ≡ one_of (map permit_condition (cond b (p ∷ fs) fs)) → (b || x) ≡ true
covered_step true x p fs c below h = refl
covered_step false x p fs c below h = below h

covered : (ps : List Permit) (asker : Asker) (right : Right) (attrs : List ℕ) (c : QQual) → Some c ≡ one_of (covering_conditions ps asker right attrs)
    → list_any (λ p. covers p asker right attrs) ps ≡ true
covered [] asker right attrs c h = cc h
covered (p ∷ ps) asker right attrs c h =
    covered_step (covers p asker right attrs) (list_any (λ p. covers p asker right attrs) ps) p (filter (λ p. covers p asker right attrs) ps) c (covered ps asker right attrs c) h

none_step : (b x : Bool) (p : Permit) (fs : List Permit) → (None ≡ one_of (map permit_condition fs) → x ≡ false)
    → None ≡ one_of (map permit_condition (cond b (p ∷ fs) fs)) → (b || x) ≡ false
none_step true x p fs below h = cc h
none_step false x p fs below h = below h

none_covered : (ps : List Permit) (asker : Asker) (right : Right) (attrs : List ℕ) → None ≡ one_of (covering_conditions ps asker right attrs)
    → list_any (λ p. covers p asker right attrs) ps ≡ false
none_covered [] asker right attrs h = refl
none_covered (p ∷ ps) asker right attrs h =
    none_step (covers p asker right attrs) (list_any (λ p. covers p asker right attrs) ps) p (filter (λ p. covers p asker right attrs) ps) (none_covered ps asker right attrs) h

all_conditions_within : (ps : List Permit) → list_all (is_qual_within 1) (map permit_condition ps) ≡ true
all_conditions_within [] = refl
all_conditions_within (p ∷ ps) =
    both_true (is_qual_within 1 (permit_condition p)) (list_all (is_qual_within 1) (map permit_condition ps)) (condition_within p.qual) (all_conditions_within ps)

some_within : (ps : List Permit) (asker : Asker) (right : Right) (attrs : List ℕ) (c : QQual) → Some c ≡ one_of (covering_conditions ps asker right attrs) → is_qual_within 1 c ≡ true
some_within ps asker right attrs c h =
    ap (is_qual_within 1) (one_is (covering_conditions ps asker right attrs) c h)
    ∙ any_within 1 (covering_conditions ps asker right attrs) (all_conditions_within (filter (λ p. covers p asker right attrs) ps))

pub one_within : (ps : List Permit) (asker : Asker) (right : Right) (attrs : List ℕ) (o : Option QQual) → o ≡ one_of (covering_conditions ps asker right attrs)
    → list_all (is_qual_within 1) (option_to_list o) ≡ true
one_within ps asker right attrs None h = refl
one_within ps asker right attrs (Some c) h = ap (λ b. b && true) (some_within ps asker right attrs c h)

-- ---- the cut

pub cut_without : (db : Db) (user : List ℕ) (right : Right) (attrs : List ℕ) (key : RelKey) → needs_none db (asker_of user) right key ≡ true → [] ≡ restriction db (as_user user) right attrs key
cut_without db user right attrs key h =
    sym (ap (λ b. elim b as (λ x. List QQual) [ true ↦ [] | false ↦ any_of (covering_conditions (permits_on db key) (asker_of user) right attrs) ∷ [] ]) h)

pub restriction_with : (db : Db) (user : List ℕ) (right : Right) (attrs : List ℕ) (key : RelKey) (c : QQual) → needs_none db (asker_of user) right key ≡ false
    → Some c ≡ one_of (covering_conditions (permits_on db key) (asker_of user) right attrs) → c ∷ [] ≡ restriction db (as_user user) right attrs key
restriction_with db user right attrs key c h o =
    ap (λ q. q ∷ []) (one_is (covering_conditions (permits_on db key) (asker_of user) right attrs) c o)
    ∙ sym (ap (λ b. elim b as (λ x. List QQual) [ true ↦ [] | false ↦ any_of (covering_conditions (permits_on db key) (asker_of user) right attrs) ∷ [] ]) h)

pub permitted_without : (db : Db) (user : List ℕ) (right : Right) (attrs : List ℕ) (key : RelKey) → needs_none db (asker_of user) right key ≡ true
    → permitted db (as_user user) right attrs key ≡ true
unfolding permitted
permitted_without db user right attrs key h = ap (λ b. b || list_any (λ p. covers p (asker_of user) right attrs) (permits_on db key)) h

pub permitted_with : (db : Db) (user : List ℕ) (right : Right) (attrs : List ℕ) (key : RelKey) (c : QQual) → needs_none db (asker_of user) right key ≡ false
    → Some c ≡ one_of (covering_conditions (permits_on db key) (asker_of user) right attrs) → permitted db (as_user user) right attrs key ≡ true
unfolding permitted
permitted_with db user right attrs key c h o =
    ap (λ b. b || list_any (λ p. covers p (asker_of user) right attrs) (permits_on db key)) h ∙ covered (permits_on db key) (asker_of user) right attrs c o

pub not_permitted : (db : Db) (user : List ℕ) (right : Right) (attrs : List ℕ) (key : RelKey) → needs_none db (asker_of user) right key ≡ false
    → None ≡ one_of (covering_conditions (permits_on db key) (asker_of user) right attrs) → permitted db (as_user user) right attrs key ≡ false
unfolding permitted
not_permitted db user right attrs key h o =
    ap (λ b. b || list_any (λ p. covers p (asker_of user) right attrs) (permits_on db key)) h ∙ none_covered (permits_on db key) (asker_of user) right attrs o
