-- What is substituted for attributes, text by expansion.
use Rattle.std.proofs.Common.{◌≡◌, refl, sym, ap, ◌∙◌, ℕ, zero, suc, ◌+◌, ◌-◌, ◌<◌, ◌≤◌, true, ◌&&◌, List, [], ◌∷◌, length, Option, Some, None, arith, length-append}
use Rattle.std.specs.List.{list_all, slice_get}
use Rattle.std.proofs.lemmas.Bool.{ltb-true}
use Rattle.calculus.specs.declared.query.QTerm.{QTerm, Attr}
use Rattle.calculus.specs.declared.query.QQual.{QQual}
use Rattle.view_text.specs.declared.expansion.Expansion.{Expansion}
use Rattle.view_text.specs.Replaced.{replaced, without_value, shifted}
use Rattle.view_text.specs.Scoped.{is_within, is_qual_within, are_within, is_scoped}
use Rattle.view_text.specs.Expansions.{term_at, own_or, attr_term, expansions_vars, substituted_from}
use Rattle.view_text.specs.Fit.{AreFit}
use Rattle.view_text.proofs.Within.{left_true, right_true}
use Rattle.view_text.proofs.Shifting.{term_fits, qual_fits}

-- ---- the term of an attribute

term_at_some : (terms : List QTerm) (place : ℕ) (t : QTerm) → slice_get terms place ≡ Some t → term_at terms place ≡ t
term_at_some [] place t h = cc h
term_at_some (u ∷ terms) zero t h = cc h
term_at_some (u ∷ terms) (suc place) t h = term_at_some terms place t h

term_at_none : (terms : List QTerm) (place : ℕ) → slice_get terms place ≡ None → term_at terms place ≡ without_value
term_at_none [] place h = refl
term_at_none (u ∷ terms) zero h = cc h
term_at_none (u ∷ terms) (suc place) h = term_at_none terms place h

shifted_without : (n : ℕ) → shifted n without_value ≡ without_value
unfolding replaced
shifted_without n = refl

pub term_there : (n : ℕ) (terms : List QTerm) (place : ℕ) (t : QTerm) → slice_get terms place ≡ Some t → shifted n (term_at terms place) ≡ shifted n t
term_there n terms place t e = ap (shifted n) (term_at_some terms place t e)

pub term_missing : (n : ℕ) (terms : List QTerm) (place : ℕ) → slice_get terms place ≡ None → shifted n (term_at terms place) ≡ without_value
term_missing n terms place e = ap (shifted n) (term_at_none terms place e) ∙ shifted_without n

pub one_within : (k : ℕ) (terms : List QTerm) (place : ℕ) (t : QTerm) → list_all (is_within k) terms ≡ true → slice_get terms place ≡ Some t → is_within k t ≡ true
one_within k [] place t h e = cc e
one_within k (u ∷ terms) zero t h e = let same : u ≡ t = cc e in ap (is_within k) (sym same) ∙ left_true (is_within k u) (list_all (is_within k) terms) h
one_within k (u ∷ terms) (suc place) t h e = one_within k terms place t (right_true (is_within k u) (list_all (is_within k) terms) h) e

-- ---- an expansion's own

shifted_attribute : (n attr : ℕ) → shifted n (Attr 0 attr) ≡ Attr n attr
unfolding replaced
shifted_attribute n attr = let e : n + 0 ≡ n = omega arith in ap (λ v. Attr v attr) e

pub own_shifted : (n : ℕ) (expansion : Expansion) (attr : ℕ) → expansion.terms ≡ None → shifted n (attr_term expansion attr) ≡ Attr n attr
own_shifted n expansion attr h = ap (λ o. shifted n (own_or o attr)) h ∙ shifted_attribute n attr

pub listed_shifted : (n : ℕ) (expansion : Expansion) (terms : List QTerm) (attr : ℕ) → expansion.terms ≡ Some terms → shifted n (attr_term expansion attr) ≡ shifted n (term_at terms attr)
listed_shifted n expansion terms attr h = ap (λ o. shifted n (own_or o attr)) h

terms_within : (expansion : Expansion) (o : Option (List QTerm)) → expansion.terms ≡ o → is_scoped expansion ≡ true → are_within (length expansion.vars) o ≡ true
terms_within expansion o h s = ap (are_within (length expansion.vars)) (sym h) ∙ left_true (are_within (length expansion.vars) expansion.terms) (list_all (is_qual_within (length expansion.vars)) expansion.conditions) s

-- an expansion without terms has a variable
pub none_has_variable : (expansion : Expansion) → is_scoped expansion ≡ true → expansion.terms ≡ None → 0 < length expansion.vars
none_has_variable expansion s h = ltb-true 0 (length expansion.vars) (terms_within expansion None h s)

all_within : (n k : ℕ) → n + k ≤ 256 → (ts : List QTerm) → list_all (is_within k) ts ≡ true → list_all (is_within (256 - n)) ts ≡ true
all_within n k h [] w = refl
all_within n k h (t ∷ ts) w = λ i. term_fits n k h t (left_true (is_within k t) (list_all (is_within k) ts) w) i && all_within n k h ts (right_true (is_within k t) (list_all (is_within k) ts) w) i

pub listed_fit : (n : ℕ) (expansion : Expansion) (terms : List QTerm) → n + length expansion.vars ≤ 256 → is_scoped expansion ≡ true → expansion.terms ≡ Some terms → list_all (is_within (256 - n)) terms ≡ true
listed_fit n expansion terms fits s h = all_within n (length expansion.vars) fits terms (terms_within expansion (Some terms) h s)

-- ---- text by expansion

pub put_first : (n : ℕ) (expansion : Expansion) (expansions : List Expansion) (var attr : ℕ) → var ≡ 0 → substituted_from n (expansion ∷ expansions) var attr ≡ shifted n (attr_term expansion attr)
put_first n expansion expansions var attr h = ap (λ v. substituted_from n (expansion ∷ expansions) v attr) h

pub put_next : (n : ℕ) (expansion : Expansion) (expansions : List Expansion) (var attr : ℕ) → ¬ (var ≡ 0) → substituted_from n (expansion ∷ expansions) var attr ≡ substituted_from (n + length expansion.vars) expansions (var - 1) attr
put_next n expansion expansions zero attr h = absurd (h refl)
put_next n expansion expansions (suc var) attr h = let e : var ≡ suc var - 1 = omega arith in ap (λ v. substituted_from (n + length expansion.vars) expansions v attr) e

vars_before : (expansion : Expansion) (expansions : List Expansion) → length (expansions_vars (expansion ∷ expansions)) ≡ length expansion.vars + length (expansions_vars expansions)
vars_before expansion expansions = length-append expansion.vars (expansions_vars expansions)

pub fit_first : (n : ℕ) (expansion : Expansion) (expansions : List Expansion) → AreFit n (expansion ∷ expansions) → (is_scoped expansion ≡ true) × (n + length expansion.vars ≤ 256)
fit_first n expansion expansions h = (left_true (is_scoped expansion) (list_all is_scoped expansions) h.0, let e = vars_before expansion expansions in omega (arith, h.1, e))

pub fit_next : (n : ℕ) (expansion : Expansion) (expansions : List Expansion) → AreFit n (expansion ∷ expansions) → AreFit (n + length expansion.vars) expansions
fit_next n expansion expansions h = (right_true (is_scoped expansion) (list_all is_scoped expansions) h.0, let e = vars_before expansion expansions in omega (arith, h.1, e))

-- ---- conditions

all_fit : (n k : ℕ) → n + k ≤ 256 → (qs : List QQual) → list_all (is_qual_within k) qs ≡ true → list_all (is_qual_within (256 - n)) qs ≡ true
all_fit n k h [] w = refl
all_fit n k h (q ∷ qs) w = λ i. qual_fits n k h q (left_true (is_qual_within k q) (list_all (is_qual_within k) qs) w) i && all_fit n k h qs (right_true (is_qual_within k q) (list_all (is_qual_within k) qs) w) i

pub conditions_fit : (n : ℕ) (expansion : Expansion) (expansions : List Expansion) → AreFit n (expansion ∷ expansions) → list_all (is_qual_within (256 - n)) expansion.conditions ≡ true
conditions_fit n expansion expansions h = let f = fit_first n expansion expansions h in
    all_fit n (length expansion.vars) f.1 expansion.conditions (right_true (are_within (length expansion.vars) expansion.terms) (list_all (is_qual_within (length expansion.vars)) expansion.conditions) f.0)
