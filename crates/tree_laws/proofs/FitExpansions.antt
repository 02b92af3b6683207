-- In a database the expansions of what is there range over what is kept, their terms have the kinds of the attributes, and the kinds in their conditions fit.
use Rattle.std.proofs.Common.{◌≡◌, refl, sym, ap, ◌∙◌, subst, ℕ, zero, suc, ◌+◌, Bool, true, false, cond, ◌&&◌, List, [], ◌∷◌, ◌++◌, map, length, filter, Some, is_some, arith}
use Rattle.std.specs.Prelude.{slice_get, bytes_eq}
use Rattle.std.specs.List.{list_all, enumerate_from}
use Rattle.calculus.specs.declared.value.Kind.{Kind}
use Rattle.calculus.specs.declared.query.RelKey.{RelKey}
use Rattle.calculus.specs.declared.query.QTerm.{QTerm, Attr}
use Rattle.calculus.specs.declared.query.QQual.{QQual, True}
use Rattle.calculus.specs.declared.schema.Permit.{Permit}
use Rattle.calculus.specs.Tree.{either, negated}
use Rattle.calculus.specs.Keys.{same_key}
use Rattle.calculus.specs.Kinds.{attribute_kind, kind_of, kinds_fit}
use Rattle.calculus.specs.Who.{Who, Unrestricted, AsUser}
use Rattle.calculus.specs.Database.{Db, permits_on, is_relation}
use Rattle.calculus.specs.IsDatabase.{IsDatabase, user_is_named, permit_attrs_stand, valid_permit, valid_row_qual}
use Rattle.calculus.specs.Stored.{kinds_at}
use Rattle.calculus.specs.Rights.{Right, covers, needs_none}
use Rattle.calculus_laws.proofs.Enough.{same_key-exact}
use Rattle.quel_meaning.specs.FitQueries.{is_kept}
use Rattle.view_text.specs.declared.expansion.Expansion.{Expansion}
use Rattle.view_text.specs.Replaced.{shifted_qual, of_only, shifted}
use Rattle.view_text.specs.Halves.{any_of}
use Rattle.view_text.specs.Scoped.{is_within, is_qual_within, are_within, is_scoped}
use Rattle.view_text.specs.Expansions.{attr_term, expansions_vars, substituted_from, conditions_from}
use Rattle.view_text.specs.ExpansionOf.{permit_condition, covering, restriction, kept_expansion}
use Rattle.tree_laws.proofs.Halves.{test_joined, over, and_assoc, and_right}
use Rattle.tree_laws.proofs.Scopes.{both_true}
use Rattle.tree_laws.proofs.Joint.{all_append, both_are, attr_within}
use Rattle.tree_laws.proofs.SameKinds.{VarKinds, HasKinds, kind_shifted, all_fit_shifted, fit_replaced}

-- the kinds of the attributes of what each key stands for
abbrev pub kinds_of : Db → List RelKey → VarKinds
kinds_of db keys = map (kinds_at db) keys

-- each of these fits
abbrev pub all_fit : VarKinds → List QQual → Bool
all_fit vars qs = list_all (λ q. kinds_fit q vars) qs

-- the expansion ranges over what is kept, its attributes have the kinds of what stands under the key, and its conditions fit
pub record IsFitExpansion (db : Db) (key : RelKey) (expansion : Expansion) : Type 0 where
  pub scoped : is_scoped expansion ≡ true
  pub kept : list_all (is_kept db) expansion.vars ≡ true
  pub kinds : (a : ℕ) → is_some (slice_get (kinds_at db key) a) ≡ true → kind_of (attr_term expansion a) (kinds_of db expansion.vars) ≡ slice_get (kinds_at db key) a
  pub conditions : all_fit (kinds_of db expansion.vars) expansion.conditions ≡ true

own_kind : (kinds : List Kind) (a : ℕ) → kind_of (Attr 0 a) (kinds ∷ []) ≡ slice_get kinds a
unfolding kind_of attribute_kind
own_kind kinds a = refl

-- ---- kept texts

pub any_fit : (vars : VarKinds) (qs : List QQual) → all_fit vars qs ≡ true → kinds_fit (any_of qs) vars ≡ true
unfolding kinds_fit
any_fit vars qs h =
    test_joined either (negated True) (λ q. kinds_fit q vars) (λ a b. a && b) true (λ p q. refl) refl and_assoc and_right (length qs) qs ∙ is qs ∙ h
  where
    is : (qs : List QQual) → over either (negated True) (λ q. kinds_fit q vars) (λ a b. a && b) true (λ p q. refl) refl and_assoc and_right qs ≡ all_fit vars qs
    is [] = refl
    is (q ∷ qs) = ap (λ b. kinds_fit q vars && b) (is qs)

only_kinds : (kinds : List Kind) → HasKinds (λ v. Unit {0}) of_only (kinds ∷ []) (kinds ∷ [])
unfolding kind_of attribute_kind
only_kinds kinds zero a known h = refl
only_kinds kinds (suc zero) a known h = cc h
only_kinds kinds (suc (suc v)) a known h = cc h

module _ (db : Db) (d : IsDatabase db) where
  -- the permits on a key are about its rows
  permit_fits : (rel : RelKey) (permit : Permit) → valid_permit db rel permit ≡ true → kinds_fit permit.qual (kinds_at db rel ∷ []) ≡ true
  permit_fits rel permit h =
      let one = both_true (is_relation db rel) _ h in
      let two = both_true (bytes_eq rel.owner db.dba) _ one.1 in
      let three = both_true (user_is_named permit.user) _ two.1 in
      (both_true (permit_attrs_stand db rel permit.attrs) (valid_row_qual db rel permit.qual) three.1).1

  all_about : (key : RelKey) (ps : List (RelKey × Permit)) → list_all (λ p. valid_permit db p.0 p.1) ps ≡ true
      → list_all (λ p. kinds_fit p.qual (kinds_at db key ∷ [])) (map (λ p. p.1) (filter (λ p. same_key p.0 key) ps)) ≡ true
  all_about key [] h = refl
  all_about key (p ∷ ps) h =
      let parts = both_true (valid_permit db p.0 p.1) (list_all (λ p. valid_permit db p.0 p.1) ps) h in
      by (same_key p.0 key) refl parts.0 (all_about key ps parts.1)
    where
      by : (b : Bool) → same_key p.0 key ≡ b → valid_permit db p.0 p.1 ≡ true → list_all (λ p. kinds_fit p.qual (kinds_at db key ∷ [])) (map (λ p. p.1) (filter (λ p. same_key p.0 key) ps)) ≡ true
          → list_all (λ p. kinds_fit p.qual (kinds_at db key ∷ [])) (map (λ p. p.1) (cond b (p ∷ filter (λ p. same_key p.0 key) ps) (filter (λ p. same_key p.0 key) ps))) ≡ true
      by true e stands more =
          both_are (kinds_fit p.1.qual (kinds_at db key ∷ [])) (list_all (λ p. kinds_fit p.qual (kinds_at db key ∷ [])) (map (λ p. p.1) (filter (λ p. same_key p.0 key) ps)))
          (subst (λ k. kinds_fit p.1.qual (kinds_at db k ∷ []) ≡ true) (same_key-exact p.0 key e) (permit_fits p.0 p.1 stands)) more
      by false e stands more = more

  conditions_fit : (key : RelKey) (test : Permit → Bool) (ps : List Permit) → list_all (λ p. kinds_fit p.qual (kinds_at db key ∷ [])) ps ≡ true
      → all_fit (kinds_at db key ∷ []) (map permit_condition (filter test ps)) ≡ true
  conditions_fit key test [] h = refl
  conditions_fit key test (p ∷ ps) h =
      let parts = both_true (kinds_fit p.qual (kinds_at db key ∷ [])) (list_all (λ p. kinds_fit p.qual (kinds_at db key ∷ [])) ps) h in
      by (test p) (fit_replaced (λ v. Unit {0}) of_only (kinds_at db key ∷ []) (kinds_at db key ∷ []) (only_kinds (kinds_at db key)) p.qual (λ v k. tt) parts.0) (conditions_fit key test ps parts.1)
    where
      by : (b : Bool) → kinds_fit (permit_condition p) (kinds_at db key ∷ []) ≡ true → all_fit (kinds_at db key ∷ []) (map permit_condition (filter test ps)) ≡ true
          → all_fit (kinds_at db key ∷ []) (map permit_condition (cond b (p ∷ filter test ps) (filter test ps))) ≡ true
      by true one more = both_are (kinds_fit (permit_condition p) (kinds_at db key ∷ [])) (all_fit (kinds_at db key ∷ []) (map permit_condition (filter test ps))) one more
      by false one more = more

  pub restriction_fits : (who : Who) (right : Right) (attrs : List ℕ) (key : RelKey) → all_fit (kinds_at db key ∷ []) (restriction db who right attrs key) ≡ true
  restriction_fits Unrestricted right attrs key = refl
  restriction_fits (AsUser asker) right attrs key = by (needs_none db asker right key)
    where
      by : (b : Bool) → all_fit (kinds_at db key ∷ []) (elim b [ true ↦ [] | false ↦ any_of (map permit_condition (covering db asker right attrs key)) ∷ [] ]) ≡ true
      by true = refl
      by false =
          both_are (kinds_fit (any_of (map permit_condition (covering db asker right attrs key))) (kinds_at db key ∷ [])) true
          (any_fit (kinds_at db key ∷ []) (map permit_condition (covering db asker right attrs key))
          (conditions_fit key (λ p. covers p asker right attrs) (permits_on db key) (all_about key db.permits d.permits_stand))) refl

-- the expansion of what is kept, with conditions that fit
pub kept_fits : (db : Db) (key : RelKey) (conditions : List QQual) → is_kept db key ≡ true → list_all (is_qual_within 1) conditions ≡ true → all_fit (kinds_at db key ∷ []) conditions ≡ true
    → IsFitExpansion db key (kept_expansion conditions key)
kept_fits db key conditions kept within fit = record {
  scoped = within;
  kept = both_are (is_kept db key) true kept refl;
  kinds = λ a h. own a;
  conditions = fit;
}
  where
    own : (a : ℕ) → kind_of (Attr 0 a) (kinds_at db key ∷ []) ≡ slice_get (kinds_at db key) a
    own a = own_kind (kinds_at db key) a

-- ---- texts one behind the other

length_behind : {X : Type 0} (xs ys : List X) → length (xs ++ ys) ≡ length xs + length ys
length_behind [] ys = omega arith
length_behind (x ∷ xs) ys = let more = length_behind xs ys in omega (arith, more)

behind_assoc : {X : Type 0} (xs ys zs : List X) → (xs ++ ys) ++ zs ≡ xs ++ (ys ++ zs)
behind_assoc [] ys zs = refl
behind_assoc (x ∷ xs) ys zs = ap (λ l. x ∷ l) (behind_assoc xs ys zs)

kinds_behind : (db : Db) (xs ys : List RelKey) → kinds_of db (xs ++ ys) ≡ kinds_of db xs ++ kinds_of db ys
kinds_behind db [] ys = refl
kinds_behind db (x ∷ xs) ys = ap (λ l. kinds_at db x ∷ l) (kinds_behind db xs ys)

kinds_long : (db : Db) (keys : List RelKey) → length (kinds_of db keys) ≡ length keys
kinds_long db [] = refl
kinds_long db (key ∷ keys) = ap suc (kinds_long db keys)

module _ (db : Db) (expansion_at : ℕ → RelKey → Expansion) (scoped : (v : ℕ) (key : RelKey) → is_scoped (expansion_at v key) ≡ true) (Known : ℕ → Type 0) where
  -- the expansions from this variable on
  abbrev pub expansions_at : ℕ → List RelKey → List Expansion
  expansions_at k keys = map (λ p. expansion_at p.0 p.1) (enumerate_from k keys)

  -- of the variables of which this is known the expansions fit
  abbrev pub FitEach : ℕ → List RelKey → Type 0
  FitEach k keys = (v : ℕ) (key : RelKey) → slice_get keys v ≡ Some key → Known (k + v) → IsFitExpansion db key (expansion_at (k + v) key)

  shifted_kind : (pre seg post : VarKinds) (n k : ℕ) (t : QTerm) → length pre ≡ n → length seg ≡ k → is_within k t ≡ true
      → kind_of (shifted n t) (pre ++ (seg ++ post)) ≡ kind_of t seg
  shifted_kind pre seg post n k t e f h =
      subst (λ m. kind_of (shifted m t) (pre ++ (seg ++ post)) ≡ kind_of t seg) e (kind_shifted pre seg post t (subst (λ k. is_within k t ≡ true) (sym f) h))

  next_shifted : (k v : ℕ) → k + 1 + v ≡ k + suc v
  next_shifted k v = omega arith

  pub put_kinds : (keys : List RelKey) (k n : ℕ) (pre : VarKinds) → length pre ≡ n → FitEach k keys
      → HasKinds (λ v. Known (k + v)) (substituted_from n (expansions_at k keys)) (pre ++ kinds_of db (expansions_vars (expansions_at k keys))) (kinds_of db keys)
  unfolding attribute_kind
  put_kinds [] k n pre long fit zero a known h = cc h
  put_kinds [] k n pre long fit (suc v) a known h = cc h
  put_kinds (key ∷ keys) k n pre long fit zero a known h =
      let none_more : k + 0 ≡ k = omega arith in
      let fits = subst (λ w. IsFitExpansion db key (expansion_at w key)) none_more (fit 0 key refl known) in
      let own = kinds_of db (expansion_at k key).vars in
      let rest = kinds_of db (expansions_vars (expansions_at (k + 1) keys)) in
      ap (λ vars. kind_of (substituted_from n (expansions_at k (key ∷ keys)) 0 a) (pre ++ vars)) (kinds_behind db (expansion_at k key).vars (expansions_vars (expansions_at (k + 1) keys)))
      ∙ shifted_kind pre own rest n (length (expansion_at k key).vars) (attr_term (expansion_at k key) a) long (kinds_long db (expansion_at k key).vars) (attr_within (expansion_at k key) a (scoped k key))
      ∙ fits.kinds a h
  put_kinds (key ∷ keys) k n pre long fit (suc v) a known h =
      let own = kinds_of db (expansion_at k key).vars in
      let rest = kinds_of db (expansions_vars (expansions_at (k + 1) keys)) in
      let both : length (pre ++ own) ≡ n + length (expansion_at k key).vars = length_behind pre own ∙ (λ i. long i + kinds_long db (expansion_at k key).vars i) in
      ap (λ vars. kind_of (substituted_from (n + length (expansion_at k key).vars) (expansions_at (k + 1) keys) v a) (pre ++ vars)) (kinds_behind db (expansion_at k key).vars (expansions_vars (expansions_at (k + 1) keys)))
      ∙ ap (kind_of (substituted_from (n + length (expansion_at k key).vars) (expansions_at (k + 1) keys) v a)) (sym (behind_assoc pre own rest))
      ∙ put_kinds keys (k + 1) (n + length (expansion_at k key).vars) (pre ++ own) both (λ w other there known. subst (λ i. IsFitExpansion db other (expansion_at i other)) (sym (next_shifted k w)) (fit (suc w) other there (subst Known (next_shifted k w) known)))
      v a (subst Known (sym (next_shifted k v)) known) h

  -- an expansion without variables has no conditions that need any
  pub conditions_kinds : (keys : List RelKey) (k n : ℕ) (pre : VarKinds) → length pre ≡ n
      → ((v : ℕ) (key : RelKey) → slice_get keys v ≡ Some key → all_fit (kinds_of db (expansion_at (k + v) key).vars) (expansion_at (k + v) key).conditions ≡ true)
      → all_fit (pre ++ kinds_of db (expansions_vars (expansions_at k keys))) (conditions_from n (expansions_at k keys)) ≡ true
  conditions_kinds [] k n pre long fit = refl
  conditions_kinds (key ∷ keys) k n pre long fit =
      let none_more : k + 0 ≡ k = omega arith in
      let fits = subst (λ w. all_fit (kinds_of db (expansion_at w key).vars) (expansion_at w key).conditions ≡ true) none_more (fit 0 key refl) in
      let own = kinds_of db (expansion_at k key).vars in
      let rest = kinds_of db (expansions_vars (expansions_at (k + 1) keys)) in
      let both : length (pre ++ own) ≡ n + length (expansion_at k key).vars = length_behind pre own ∙ (λ i. long i + kinds_long db (expansion_at k key).vars i) in
      let within = (both_true (are_within (length (expansion_at k key).vars) (expansion_at k key).terms) (list_all (is_qual_within (length (expansion_at k key).vars)) (expansion_at k key).conditions) (scoped k key)).1 in
      ap (λ vars. all_fit (pre ++ vars) (conditions_from n (expansions_at k (key ∷ keys)))) (kinds_behind db (expansion_at k key).vars (expansions_vars (expansions_at (k + 1) keys)))
      ∙ all_append (λ q. kinds_fit q (pre ++ (own ++ rest))) (map (shifted_qual n) (expansion_at k key).conditions) (conditions_from (n + length (expansion_at k key).vars) (expansions_at (k + 1) keys))
      ∙ both_are (all_fit (pre ++ (own ++ rest)) (map (shifted_qual n) (expansion_at k key).conditions)) (all_fit (pre ++ (own ++ rest)) (conditions_from (n + length (expansion_at k key).vars) (expansions_at (k + 1) keys)))
      (subst (λ m. all_fit (pre ++ (own ++ rest)) (map (shifted_qual m) (expansion_at k key).conditions) ≡ true) long
      (all_fit_shifted pre own rest (expansion_at k key).conditions (subst (λ j. list_all (is_qual_within j) (expansion_at k key).conditions ≡ true) (sym (kinds_long db (expansion_at k key).vars)) within) ∙ fits))
      (ap (λ vars. all_fit vars (conditions_from (n + length (expansion_at k key).vars) (expansions_at (k + 1) keys))) (sym (behind_assoc pre own rest))
      ∙ conditions_kinds keys (k + 1) (n + length (expansion_at k key).vars) (pre ++ own) both
      (λ w other there. subst (λ i. all_fit (kinds_of db (expansion_at i other).vars) (expansion_at i other).conditions ≡ true) (sym (next_shifted k w)) (fit (suc w) other there)))
