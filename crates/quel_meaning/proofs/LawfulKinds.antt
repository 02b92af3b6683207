-- The kinds of written terms are kinds that an attribute may have.
use Rattle.std.proofs.Common.{◌≡◌, refl, subst, ℕ, zero, suc, ◌+◌, ◌≤◌, min, max, nat_le, Bool, true, false, ◌&&◌, cond, List, [], ◌∷◌, map, length, slice_get, Option, Some, None, arith}
use Rattle.std.proofs.lemmas.Bool.{le-leb, leb-true}
use Rattle.calculus.specs.declared.operator.AggOp.{AggOp}
use Rattle.calculus.specs.declared.schema.Attr.{Attr as Attribute}
use Rattle.calculus.specs.declared.schema.RelInfo.{RelInfo}
use Rattle.calculus.specs.declared.statement.Term.{Term, Int, Chars, Attr, Agg', items-the_row-Term, Row_of-AggTerm, end_of-AggTerm, more_of-AggTerm}
use Rattle.calculus.specs.declared.value.Domain.TheVariants.{C}
use Rattle.calculus.specs.declared.value.Kind.{Kind}
use Rattle.calculus.specs.declared.value.Kind.TheVariants.{Of, Wide}
use Rattle.calculus.specs.declared.query.RelKey.{RelKey}
use Rattle.calculus.specs.Chars.{is_chars}
use Rattle.calculus.specs.Constant.{constant_text}
use Rattle.calculus.specs.Database.{Db}
use Rattle.calculus.specs.IsDatabase.{IsDatabase, attrs_stand, is_kind}
use Rattle.calculus.specs.Kinds.{kind_in, attribute_kind, constant_kind, is_number_kind, number_kind, operated_kind, joined_kind, kind_of}
use Rattle.calculus.specs.Stored.{attrs_in, info_at, kinds_at}
use Rattle.calculus.specs.Written.{neg, abs, operation, concat}
use Rattle.quel_meaning.specs.KindsInQueries.{adds_up, picks, folded_kind, fitting_kind, aggregate_kind, kind_in_query}
use Rattle.quel_meaning.specs.IsWritten.{term_is_written, aggregate_is_written}
use Rattle.quel_meaning.specs.Scope.{Scope}
use Rattle.quel_meaning.specs.WrittenParts.{aggregate_vars}
use Rattle.quel_meaning.specs.WrittenTree.{Vars, key_over, first_var, term_tree, aggregate_tree}
use Rattle.quel_meaning.proofs.Each.{Each, in_map, each_passes, left, and}
use Rattle.quel_meaning.proofs.ConstantLengths.{constant_short}
use Rattle.quel_meaning.proofs.DatabaseFacts.{info_stands, stood}
use Rattle.quel_meaning.proofs.KindFacts.{kind_too}

-- the kind is one
abbrev pub IsKind : Kind → Type 0
IsKind k = is_kind k ≡ true

-- the kinds of each variable's attributes are ones
abbrev pub AreKinds : List (List Kind) → Type 0
AreKinds vars = Each (λ kinds. Each IsKind kinds) vars

-- ---- of what is stored

kinds_in : (attrs : List Attribute) → attrs_stand attrs ≡ true → Each IsKind (map (λ (a : Attribute). a.kind) attrs)
kinds_in attrs h =
    in_map IsKind (λ (a : Attribute). a.kind) attrs
    (each_passes (λ (a : Attribute). is_kind a.kind) attrs (stood attrs h).kinds)

pub kinds_stored : (db : Db) → IsDatabase db → (key : RelKey) → Each IsKind (kinds_at db key)
kinds_stored db is key = go (info_at db key) refl
  where
    go : (o : Option RelInfo) → info_at db key ≡ o → Each IsKind (map (λ (a : Attribute). a.kind) (attrs_in o))
    go None e = tt
    go (Some info) e = kinds_in info.attrs (info_stands db is key info e)

pub got : {X : Type 0} (P : X → Type 0) (xs : List X) (i : ℕ) (x : X) → Each P xs → slice_get xs i ≡ Some x → P x
got P [] i x h e = absurd (cc e)
got P (y ∷ ys) zero x h e = let same : y ≡ x = cc e in subst P same h.0
got P (y ∷ ys) (suc i) x h e = got P ys i x h.1 e

attribute_lawful : (vars : List (List Kind)) (var attr : ℕ) (k : Kind) → AreKinds vars → attribute_kind vars var attr ≡ Some k → IsKind k
unfolding attribute_kind
attribute_lawful vars var attr k h e = go (slice_get vars var) refl e
  where
    go : (o : Option (List Kind)) → slice_get vars var ≡ o → kind_in o attr ≡ Some k → IsKind k
    go None f e = absurd (cc e)
    go (Some kinds) f e = got IsKind kinds attr k (got (λ kinds. Each IsKind kinds) vars var kinds h f) e

-- ---- of what is computed

wide : (k : Kind) → ◌≡◌ {A = Option Kind} (Some Wide) (Some k) → IsKind k
wide k e = let same : Wide ≡ k = cc e in subst IsKind same refl

number_lawful : (o : Option Kind) (k : Kind) → number_kind o ≡ Some k → IsKind k
unfolding number_kind
number_lawful None k e = absurd (cc e)
number_lawful (Some l) k e = go (is_number_kind l) e
  where
    go : (b : Bool) → cond b (Some Wide) None ≡ Some k → IsKind k
    go true e = wide k e
    go false e = absurd (cc e)

operated_lawful : (o p : Option Kind) (k : Kind) → operated_kind o p ≡ Some k → IsKind k
unfolding operated_kind
operated_lawful None p k e = absurd (cc e)
operated_lawful (Some l) p k e = go (is_number_kind l) e
  where
    go : (b : Bool) → cond b (number_kind p) None ≡ Some k → IsKind k
    go true e = number_lawful p k e
    go false e = absurd (cc e)

widths : (m n : ℕ) → (nat_le 1 m && nat_le m 255) ≡ true → (nat_le 1 (min (m + n) 255) && nat_le (min (m + n) 255) 255) ≡ true
widths m n h =
    let some : nat_le 1 m ≡ true = left _ _ h in
    let above : 1 ≤ min (m + n) 255 = omega (arith, leb-true 1 m some) in
    let below : min (m + n) 255 ≤ 255 = omega arith in
    and _ _ (le-leb _ _ above) (le-leb _ _ below)

joined_lawful : (o p : Option Kind) (k : Kind) → ((l : Kind) → o ≡ Some l → IsKind l) → joined_kind o p ≡ Some k → IsKind k
unfolding joined_kind
joined_lawful None p k h e = absurd (cc e)
joined_lawful (Some l) None k h e = absurd (cc e)
joined_lawful (Some (Of (C m))) (Some (Of (C n))) k h e = let same : Of (C (min (m + n) 255)) ≡ k = cc e in subst IsKind same (widths m n (h (Of (C m)) refl))
joined_lawful (Some l) (Some m) k h e = absurd (cc e)

folded_lawful : (op : AggOp) (l k : Kind) → IsKind l → folded_kind op l ≡ Some k → IsKind k
folded_lawful op l k h e = number (is_number_kind l) e
  where
    pick : (b : Bool) → ◌≡◌ {A = Option Kind} (elim b [ true ↦ Some l | false ↦ Some Wide ]) (Some k) → IsKind k
    pick true e = let same : l ≡ k = cc e in subst IsKind same h
    pick false e = wide k e

    add : (b : Bool) → ◌≡◌ {A = Option Kind} (elim b [ true ↦ None | false ↦ elim (picks op) [ true ↦ Some l | false ↦ Some Wide ] ]) (Some k) → IsKind k
    add true e = absurd (cc e)
    add false e = pick (picks op) e

    number : (b : Bool)
        → ◌≡◌ {A = Option Kind} (elim b [ true ↦ Some Wide | false ↦ elim (adds_up op) [ true ↦ None | false ↦ elim (picks op) [ true ↦ Some l | false ↦ Some Wide ] ] ]) (Some k) → IsKind k
    number true e = wide k e
    number false e = add (adds_up op) e

fitting_lawful : (fit : Bool) (op : AggOp) (o : Option Kind) (k : Kind) → ((l : Kind) → o ≡ Some l → IsKind l) → fitting_kind fit op o ≡ Some k → IsKind k
fitting_lawful fit op None k h e = absurd (cc e)
fitting_lawful false op (Some l) k h e = absurd (cc e)
fitting_lawful true op (Some l) k h e = folded_lawful op l k (h l refl) e

constant_lawful : (bytes : List ℕ) → is_chars bytes ≡ true → IsKind (constant_kind bytes)
unfolding constant_kind
constant_lawful bytes h =
    let above : 1 ≤ max 1 (length (constant_text bytes)) = omega arith in
    let below : max 1 (length (constant_text bytes)) ≤ 255 = omega (arith, constant_short bytes h) in
    and _ _ (le-leb _ _ above) (le-leb _ _ below)

-- ---- of what is written

mutual
  unfolding kind_in_query aggregate_kind

  pub term_lawful : (s : Scope) → IsDatabase s.db → (vars : Vars) (n : ℕ) (t : Term) (kinds : List (List Kind)) → AreKinds kinds → term_is_written t ≡ true
      → (k : Kind) → kind_in_query s.db (term_tree s vars n t) kinds ≡ Some k → IsKind k
  term_lawful s is vars n (Int number) kinds h c k e = wide k e
  term_lawful s is vars n (Chars bytes) kinds h c k e = let same : constant_kind bytes ≡ k = cc e in subst IsKind same (constant_lawful bytes c)
  term_lawful s is vars n (Attr var attr) kinds h c k e = attribute_lawful kinds _ _ k h e
  term_lawful s is vars n (neg t) kinds h c k e = number_lawful _ k e
  term_lawful s is vars n (abs t) kinds h c k e = number_lawful _ k e
  term_lawful s is vars n (operation op t u) kinds h c k e = operated_lawful _ _ k e
  term_lawful s is vars n (concat t u) kinds h c k e = joined_lawful _ _ k (λ l f. term_lawful s is vars n t kinds h (left _ _ c) l f) e
  term_lawful s is vars n (Agg' mark row) kinds h c k e = row_lawful s is vars n row kinds h c k e

  pub row_lawful : (s : Scope) → IsDatabase s.db → (vars : Vars) (n : ℕ) → {m : _} → (row : Row_of-AggTerm m) (kinds : List (List Kind)) → AreKinds kinds
      → aggregate_is_written row ≡ true → (k : Kind) → kind_in_query s.db (aggregate_tree s vars n row) kinds ≡ Some k → IsKind k
  row_lawful s is vars n end_of-AggTerm kinds h c k e = wide k e
  row_lawful s is vars n (more_of-AggTerm op arg bys by qual rest) kinds h c k e =
      let inner = aggregate_vars (record { op = op; arg = arg; by = items-the_row-Term _ by; qual = qual }) in
      let source = kinds_at s.db (key_over s (first_var inner)) ∷ [] in
      fitting_lawful _ op (kind_of (term_tree s inner 0 arg) source) k
      (λ l f. term_lawful s is inner 0 arg source (kinds_stored s.db is (key_over s (first_var inner)), tt) (left _ _ c) l (kind_too s.db (term_tree s inner 0 arg) source l f)) e
