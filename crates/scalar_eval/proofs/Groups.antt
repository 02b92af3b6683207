-- The values of terms, one after the other.
use Rattle.std.proofs.Common.{◌≡◌, refl, sym, ap, ◌∙◌, true, false, List, [], ◌∷◌, ◌++◌, append_assoc, add-one, length, get_or, drop, ℕ, ◌+◌, ◌<◌, ◌≤◌, Option, Some, None}
use Rattle.std.proofs.Math.Seq.{drop-cons}
use Rattle.std.proofs.lemmas.List.{append-nil, drop_all}
use Rattle.std.specs.Ordering.{is_eq}
use Rattle.calculus.specs.Value.{row_cmp}
use Rattle.calculus.specs.declared.value.Value.{Value}
use Rattle.calculus.specs.declared.query.QTerm.{QTerm}
use Rattle.calculus.specs.Term.{Env, val, no_aggs, value_before, values_of}
use Rattle.calculus.specs.Table.{tabled}

-- these values in front of others, where those are there
abbrev pub values_before : List Value → Option (List Value) → Option (List Value)
values_before vs None = None
values_before vs (Some ws) = Some (vs ++ ws)

again : (vs : List Value) (v : Value) (o : Option (List Value)) → values_before vs (value_before (Some v) o) ≡ values_before (vs ++ v ∷ []) o
again vs v None = refl
again vs v (Some ws) = ap Some (sym (append_assoc vs (v ∷ []) ws))

-- without tables no aggregate has a value
pub none_tabled : (t : QTerm) (e : Env) → val (tabled []) t e ≡ val no_aggs t e
unfolding tabled
none_tabled t e = refl

pub values_end : (vs : List Value) (e : Env) → values_before vs (values_of [] e) ≡ Some (vs ++ [])
unfolding values_of
values_end vs e = refl

pub values_all : (ts : List QTerm) (e : Env) → values_before [] (values_of ts e) ≡ values_of ts e
values_all ts e = same (values_of ts e)
  where
    same : (o : Option (List Value)) → values_before [] o ≡ o
    same None = refl
    same (Some ws) = refl

pub values_none : (vs : List Value) (t : QTerm) (ts : List QTerm) (e : Env) → val (tabled []) t e ≡ None → values_before vs (values_of (t ∷ ts) e) ≡ None
unfolding values_of
values_none vs t ts e h = ap (λ o. values_before vs (value_before o (values_of ts e))) (sym (none_tabled t e) ∙ h)

pub values_some : (vs : List Value) (t : QTerm) (ts : List QTerm) (e : Env) (v : Value) → val (tabled []) t e ≡ Some v → values_before vs (values_of (t ∷ ts) e) ≡ values_before (vs ++ v ∷ []) (values_of ts e)
unfolding values_of
values_some vs t ts e v h =
    ap (λ o. values_before vs (value_before o (values_of ts e))) (sym (none_tabled t e) ∙ h) ∙ again vs v (values_of ts e)

dropped : (ts : List QTerm) (i : ℕ) (t : QTerm) → i < length ts → t ≡ get_or ts i t → drop i ts ≡ t ∷ drop (i + 1) ts
dropped ts i t h e = drop-cons ts i t h ∙ (λ j. sym e j ∷ drop (sym (add-one i) j) ts)

-- a term without value leaves none
pub none_at : (vs : List Value) (ts : List QTerm) (i : ℕ) (t : QTerm) (e : Env) → values_before vs (values_of (drop i ts) e) ≡ values_of ts e
    → i < length ts → t ≡ get_or ts i t → val (tabled []) t e ≡ None → None ≡ values_of ts e
none_at vs ts i t e inv h is n =
    sym (sym inv ∙ ap (λ us. values_before vs (values_of us e)) (dropped ts i t h is) ∙ values_none vs t (drop (i + 1) ts) e n)

-- a term with a value puts it behind the others
pub some_at : (vs : List Value) (ts : List QTerm) (i : ℕ) (t : QTerm) (e : Env) (v : Value) → values_before vs (values_of (drop i ts) e) ≡ values_of ts e
    → i < length ts → t ≡ get_or ts i t → val (tabled []) t e ≡ Some v → values_before (vs ++ v ∷ []) (values_of (drop (i + 1) ts) e) ≡ values_of ts e
some_at vs ts i t e v inv h is n =
    sym (values_some vs t (drop (i + 1) ts) e v n) ∙ ap (λ us. values_before vs (values_of us e)) (sym (dropped ts i t h is)) ∙ inv

-- behind the last term all values are there
pub end_at : (vs : List Value) (ts : List QTerm) (i : ℕ) (e : Env) → values_before vs (values_of (drop i ts) e) ≡ values_of ts e
    → length ts ≤ i → Some vs ≡ values_of ts e
end_at vs ts i e inv h =
    sym (ap Some (append-nil vs)) ∙ sym (values_end vs e) ∙ ap (λ us. values_before vs (values_of us e)) (sym (drop_all i ts h)) ∙ inv
