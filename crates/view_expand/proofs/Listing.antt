-- What is said of the variables that a query lists, one variable more.
use Rattle.std.proofs.Common.{◌≡◌, refl, sym, ap, ◌∙◌, ℕ, ◌+◌, ◌≤◌, Bool, true, false, cond, ◌&&◌, List, [], ◌∷◌, ◌++◌, filter, length, arith}
use Rattle.std.specs.List.{enumerate_from, list_all}
use Rattle.std.proofs.lemmas.List.{append_assoc}
use Rattle.calculus.specs.declared.query.RelKey.{RelKey}
use Rattle.calculus.specs.declared.query.Query.{Query}
use Rattle.calculus.specs.Lists.{is_any}
use Rattle.calculus.specs.Used.{used_in_query}
use Rattle.calculus.specs.Sizes.{Known}
use Rattle.calculus.specs.Permission.{Reads}
use Rattle.view_text.specs.declared.expansion.Expansion.{Expansion}
use Rattle.view_text.specs.Scoped.{is_scoped}
use Rattle.view_text.specs.Expansions.{ExpansionSource, used_expansion, no_expansion}
use Rattle.view_expand.specs.Listed.{expansions_at, permitted_at, variables_at}
use Rattle.view_expand.proofs.Few.{variables_next}

-- ---- one more

pub expansions_step : (source : ExpansionSource) (q : Query) (n : ℕ) (key : RelKey) (rest keys : List RelKey) (made all now : List Expansion) (expansion : Expansion) → rest ≡ key ∷ keys
    → expansion ≡ used_expansion source key (used_in_query n q) → now ≡ made ++ expansion ∷ [] → made ++ expansions_at source q n rest ≡ all → now ++ expansions_at source q (n + 1) keys ≡ all
expansions_step source q n key rest keys made all now expansion r t m h =
    ap (λ ts. ts ++ expansions_at source q (n + 1) keys) m ∙ append_assoc made (expansion ∷ []) (expansions_at source q (n + 1) keys)
    ∙ ap (λ t. made ++ t ∷ expansions_at source q (n + 1) keys) t ∙ sym (ap (λ ks. made ++ expansions_at source q n ks) r) ∙ h

one_asked : (b : Bool) (p : ℕ × RelKey → Bool) (x : ℕ × RelKey) (xs : List (ℕ × RelKey)) → list_all p (cond b (x ∷ xs) xs) ≡ (cond b (p x) true && list_all p xs)
one_asked true p x xs = refl
one_asked false p x xs = refl

permitted_next : (reads : Reads) (q : Query) (n : ℕ) (key : RelKey) (keys : List RelKey)
    → permitted_at reads q n (key ∷ keys) ≡ (cond (is_any (used_in_query n q)) (reads key (used_in_query n q)) true && permitted_at reads q (n + 1) keys)
permitted_next reads q n key keys =
    one_asked (is_any (used_in_query n q)) (λ p. reads p.1 (used_in_query p.0 q)) (n, key) (filter (λ p. is_any (used_in_query p.0 q)) (enumerate_from (n + 1) keys))

passed : (b r : Bool) → (b ≡ true → r ≡ true) → cond b r true ≡ true
passed true r h = h refl
passed false r h = refl

refused : (b r : Bool) → b ≡ true → r ≡ false → cond b r true ≡ false
refused true r e h = h
refused false r e h = cc e

pub permitted_step : (reads : Reads) (q : Query) (n : ℕ) (key : RelKey) (rest keys : List RelKey) (all : Bool) → rest ≡ key ∷ keys
    → (is_any (used_in_query n q) ≡ true → reads key (used_in_query n q) ≡ true) → permitted_at reads q n rest ≡ all → permitted_at reads q (n + 1) keys ≡ all
permitted_step reads q n key rest keys all r p h =
    sym (ap (λ b. b && permitted_at reads q (n + 1) keys) (passed (is_any (used_in_query n q)) (reads key (used_in_query n q)) p))
    ∙ sym (permitted_next reads q n key keys) ∙ sym (ap (permitted_at reads q n) r) ∙ h

pub refused_step : (reads : Reads) (q : Query) (n : ℕ) (key : RelKey) (rest keys : List RelKey) (all : Bool) → rest ≡ key ∷ keys
    → is_any (used_in_query n q) ≡ true → reads key (used_in_query n q) ≡ false → permitted_at reads q n rest ≡ all → all ≡ false
refused_step reads q n key rest keys all r e p h =
    sym h ∙ ap (permitted_at reads q n) r ∙ permitted_next reads q n key keys
    ∙ ap (λ b. b && permitted_at reads q (n + 1) keys) (refused (is_any (used_in_query n q)) (reads key (used_in_query n q)) e p)

pub few_later : (known : Known) (q : Query) (n : ℕ) (key : RelKey) (rest keys : List RelKey) → rest ≡ key ∷ keys → variables_at known q n rest ≤ 256 → variables_at known q (n + 1) keys ≤ 256
few_later known q n key rest keys r h =
    let e : variables_at known q n rest ≡ variables_at known q n (key ∷ keys) = ap (variables_at known q n) r in
    let next = variables_next known q n key keys in omega (arith, h, e, next)

counted : (b : Bool) (x : ℕ) → b ≡ true → cond b x 0 ≡ x
counted true x e = refl
counted false x e = cc e

pub few_here : (known : Known) (q : Query) (n : ℕ) (key : RelKey) (rest keys : List RelKey) → rest ≡ key ∷ keys → variables_at known q n rest ≤ 256
    → is_any (used_in_query n q) ≡ true → (known key).variables ≤ 256
few_here known q n key rest keys r h used =
    let e : variables_at known q n rest ≡ variables_at known q n (key ∷ keys) = ap (variables_at known q n) r in
    let next = variables_next known q n key keys in
    let here = counted (is_any (used_in_query n q)) (known key).variables used in omega (arith, h, e, next, here)

-- ---- used or not

pub none_used : (source : ExpansionSource) (key : RelKey) (attrs : List ℕ) → attrs ≡ [] → no_expansion ≡ used_expansion source key attrs
none_used source key attrs h = sym (ap (used_expansion source key) h)

pub some_used : (source : ExpansionSource) (key : RelKey) (attrs : List ℕ) → is_any attrs ≡ true → source key attrs ≡ used_expansion source key attrs
some_used source key [] h = cc h
some_used source key (a ∷ attrs) h = refl

later_true : (b x y : Bool) → (x ≡ true → y ≡ true) → (b && x) ≡ true → (b && y) ≡ true
later_true true x y f h = f h
later_true false x y f h = h

pub all_scoped_more : (expansions : List Expansion) (expansion : Expansion) → list_all is_scoped expansions ≡ true → is_scoped expansion ≡ true → list_all is_scoped (expansions ++ expansion ∷ []) ≡ true
all_scoped_more [] expansion h s = ap (λ b. b && true) s
all_scoped_more (first ∷ expansions) expansion h s =
    later_true (is_scoped first) (list_all is_scoped expansions) (list_all is_scoped (expansions ++ expansion ∷ [])) (λ k. all_scoped_more expansions expansion k s) h

pub any_where_some : (attrs : List ℕ) → ¬ (length attrs ≡ 0) → is_any attrs ≡ true
any_where_some [] h = absurd (h refl)
any_where_some (a ∷ attrs) h = refl
