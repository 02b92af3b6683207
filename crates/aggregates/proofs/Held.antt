-- What a row gives to fold.
use Rattle.std.proofs.Common.{◌≡◌, refl, sym, ap, ◌∙◌, Bool, true, false, List, [], ◌∷◌, ◌++◌, ℕ, ◌+◌, ◌<◌, length, get_or, take, Option, Some, None, cond}
use Rattle.std.specs.Prelude.{filter_map}
use Rattle.std.specs.List.{cons_option}
use Rattle.std.proofs.lemmas.List.{append-nil, take_more}
use Rattle.calculus.specs.declared.query.QAgg.{QAgg}
use Rattle.calculus.specs.declared.query.QQual.{QQual}
use Rattle.calculus.specs.Rows.{Row}
use Rattle.calculus.specs.Table.{tabled}
use Rattle.calculus.specs.Term.{Env, val, holds, no_aggs, values_of}
use Rattle.aggregates.specs.Members.{Member, member_by, member, members}

-- without tables no aggregate has a value
pub none_held : (q : QQual) (e : Env) → holds (tabled []) q e ≡ holds no_aggs q e
unfolding tabled
none_held q e = refl

put_by : (xs : List Member) (b : Bool) (m : Option Member) → b ≡ false → xs ≡ xs ++ cons_option (cond b m None) []
put_by xs true m h = absurd (cc h)
put_by xs false m h = sym (append-nil xs)

-- a row of which the inner qualification doesn't hold gives nothing
pub not_held : (g : QAgg) (row : Row) (at : Env) (b : Bool) (xs : List Member) → at ≡ row ∷ [] → b ≡ holds (tabled []) g.qual at → b ≡ false
    → xs ≡ xs ++ cons_option (member g row) []
not_held g row at b xs e is h =
    put_by xs (holds no_aggs g.qual (row ∷ [])) _
    (ap (holds no_aggs g.qual) (sym e) ∙ sym (none_held g.qual at) ∙ sym is ∙ h)

held_by : (b : Bool) (m : Option Member) → b ≡ true → cond b m None ≡ m
held_by true m h = refl
held_by false m h = absurd (cc h)

-- one of which it holds, and whose by-values are there, gives them and its argument
pub held : (g : QAgg) (row : Row) (at : Env) (b : Bool) (by : Row) → at ≡ row ∷ [] → b ≡ holds (tabled []) g.qual at → b ≡ true → Some by ≡ values_of g.by at
    → member g row ≡ Some (by, val no_aggs g.arg at)
held g row at b by e is h there =
    held_by (holds no_aggs g.qual (row ∷ [])) _ (ap (holds no_aggs g.qual) (sym e) ∙ sym (none_held g.qual at) ∙ sym is ∙ h)
    ∙ (λ i. member_by (values_of g.by (sym e i)) (val no_aggs g.arg (sym e i)))
    ∙ ap (λ o. member_by o (val no_aggs g.arg at)) (sym there)

pub held_none : (g : QAgg) (row : Row) (at : Env) (b : Bool) (xs : List Member) → at ≡ row ∷ [] → b ≡ holds (tabled []) g.qual at → b ≡ true → None ≡ values_of g.by at
    → xs ≡ xs ++ cons_option (member g row) []
held_none g row at b xs e is h there =
    sym (append-nil xs) ∙ ap (λ m. xs ++ cons_option m [])
    (sym (held_by (holds no_aggs g.qual (row ∷ [])) _ (ap (holds no_aggs g.qual) (sym e) ∙ sym (none_held g.qual at) ∙ sym is ∙ h)
    ∙ (λ i. member_by (values_of g.by (sym e i)) (val no_aggs g.arg (sym e i)))
    ∙ ap (λ o. member_by o (val no_aggs g.arg at)) (sym there)))

-- ---- one row behind the others

put_front : {Y : Type 0} (o : Option Y) (xs ys all : List Y) → all ≡ xs ++ ys → cons_option o all ≡ cons_option o xs ++ ys
put_front None xs ys all e = e
put_front (Some y) xs ys all e = ap (λ zs. y ∷ zs) e

filter_map-push : {X Y : Type 0} (f : X → Option Y) (xs : List X) (x : X) → filter_map f (xs ++ x ∷ []) ≡ filter_map f xs ++ filter_map f (x ∷ [])
filter_map-push f [] x = refl
filter_map-push f (y ∷ ys) x = put_front (f y) (filter_map f ys) (filter_map f (x ∷ [])) _ (filter_map-push f ys x)

pub no_members : (g : QAgg) → members g [] ≡ []
unfolding members
no_members g = refl

pub next_member : (g : QAgg) (rows : List Row) (i : ℕ) (row : Row) (before after : List Member) → i < length rows → row ≡ get_or rows i row
    → before ≡ members g (take i rows) → after ≡ before ++ cons_option (member g row) [] → after ≡ members g (take (i + 1) rows)
unfolding members
next_member g rows i row before after h is so_far more =
    more ∙ ap (λ ms. ms ++ cons_option (member g row) []) so_far ∙ sym (filter_map-push (member g) (take i rows) row)
    ∙ ap (filter_map (member g)) (ap (λ r. take i rows ++ r ∷ []) is ∙ sym (take_more rows i row h))
