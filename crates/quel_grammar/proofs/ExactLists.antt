-- Readers of lists and of what stands in parentheses are exact.
use Rattle.std.proofs.Common.{◌≡◌, ℕ, zero, suc, List, [], ◌∷◌, ◌++◌, Some, Ok, Err, refl, sym, ◌∙◌, append_assoc, append-nil, ◌≤◌, arith}
use Rattle.std.specs.Prelude.{codes}
use Rattle.quel_grammar.specs.declared.token.Fixed.{Fixed}
use Rattle.quel_grammar.specs.declared.token.Fixed.TheVariants as fixed
use Rattle.quel_grammar.specs.declared.token.Token.{Token}
use Rattle.quel_grammar.specs.declared.token.Token.TheVariants as tokens
use Rattle.quel_grammar.specs.Grammar.{one, word, IsList, IsName}
use Rattle.quel_grammar.specs.Grammar.IsList.{last, next}
use Rattle.quel_grammar.specs.Grammar.IsName.{name}
use Rattle.quel_grammar.specs.Reading.{Read, Reader, ◌>>=◌, after, name_of, name_at}
use Rattle.quel_grammar.specs.PartReaders.{list_by, maybe, closed, in_parens, names_at}
use Rattle.quel_grammar.proofs.Exact.{Lang, Starts, Exact, exact_bind, weaken, exact_done, exact_none, exact_as}
use Rattle.quel_grammar.proofs.ExactTokens.{exact_same, exact_only, exact_after, exact_found, exact_found_same, is_name_token}

-- items behind those that were read before
abbrev pub ListBehind : {A : Type 0} → Lang A → List A → Lang (List A)
ListBehind {A = A} Is before ts all = (xs : List A) × IsList Is ts xs × (before ++ xs ≡ all)

module _ {A : Type 0} (Is : Lang A) (k : ℕ) (r r2 : Reader A) (item : Exact Is k r r2) (begins : Starts Is []) where
  starts_list : (before : List A) → Starts (ListBehind Is before) []
  starts_list before = record { more = begins.more; value = before ++ begins.value ∷ []; whole = (begins.value ∷ [], last begins.whole, refl) }

  exact_behind : (n m : ℕ) → n ≤ k → n ≤ m → (before : List A) → Exact (ListBehind Is before) n (list_by r n before) (list_by r2 m before)
  unfolding list_by
  exact_behind zero m le le2 before = exact_none _ _ (starts_list before)
  exact_behind (suc n) zero le le2 before = absurd (omega arith)
  exact_behind (suc n) (suc m) le le2 before = exact_bind Is _ (suc n) r r2 _ _ (weaken Is (suc n) k le r r2 item)
      (λ front x p. record { more = []; value = before ++ x ∷ []; whole = (x ∷ [], last (rw append-nil p), refl) })
      (λ front x p. exact_found _ n fixed.Comma _ _ _ _
      (exact_as (ListBehind Is (before ++ x ∷ [])) _ n _ _ (λ us all q. (x ∷ q.0, next p q.1, sym (append_assoc before (x ∷ []) q.0) ∙ q.2))
      (exact_behind n m (omega arith) (omega arith) (before ++ x ∷ [])))
      (exact_done _ (suc n) (before ++ x ∷ []) (x ∷ [], last (rw append-nil p), refl)))

  pub exact_list : (n m : ℕ) → n ≤ k → n ≤ m → Exact (IsList Is) n (list_by r n []) (list_by r2 m [])
  exact_list n m le le2 = exact_as (ListBehind Is []) _ n _ _ (λ us all q. rw (← q.2) q.1) (exact_behind n m le le2 [])

-- a name, to have one
abbrev pub x : List ℕ
x = codes "x"

pub one_name : Starts IsName []
one_name = record { more = word x; value = x; whole = name }

pub one_names : IsList IsName (word x) (x ∷ [])
one_names = last name

is_name : (c : Token) (v : List ℕ) → name_of c ≡ Some v → IsName (c ∷ []) v
is_name c v e = rw (is_name_token c v e) name

pub exact_names : (n m : ℕ) → n ≤ m → Exact (IsList IsName) n (names_at n) (names_at m)
exact_names n m le = exact_list IsName n name_at name_at (exact_only IsName n name_of one_name is_name) one_name n m (omega arith) le

pub exact_maybe : (L : Lang (Unit {0})) (k : ℕ) (f : Fixed) → L [] tt → L (one f) tt → Exact L k (maybe f) (maybe f)
unfolding maybe
exact_maybe L k f without with_ = exact_found_same L k f _ _ _ _ (exact_done _ k tt with_) (exact_done _ k tt without)

-- ---- in parentheses

bind_bind : {A B C : Type 0} (o : Read A) (f : A × List Token → Read B) (g : B × List Token → Read C) → ((o >>= f) >>= g) ≡ (o >>= λ x. f x >>= g)
bind_bind (Ok x) f g = refl
bind_bind (Err e) f g = refl

close_bind : {A B : Type 0} (v : A) (g : A × List Token → Read B) (o : Read (Unit {0})) → ((o >>= λ close. Ok (v, close.1)) >>= g) ≡ (o >>= λ close. g (v, close.1))
close_bind v g (Ok x) = refl
close_bind v g (Err e) = refl

closed_bind : {A B : Type 0} (g : A × List Token → Read B) (o : Read A)
    → ((o >>= λ x. after fixed.Close x.1 >>= λ close. Ok (x.0, close.1)) >>= g) ≡ (o >>= λ x. after fixed.Close x.1 >>= λ close. g (x.0, close.1))
closed_bind g (Ok x) = close_bind x.0 g (after fixed.Close x.1)
closed_bind g (Err e) = refl

module _ {A B : Type 0} (Is : Lang A) (L : Lang B) (k : ℕ) (r r2 : Reader A) (g g2 : A × List Token → Read B) (item : Exact Is k r r2) where
  -- these, the closing parenthesis, and what follows
  pub exact_closed : ((ts : List Token) (v : A) → Is ts v → Starts (λ us u. L (ts ++ us) u) [])
      → ((ts : List Token) (v : A) → Is ts v → Exact (λ us u. L (ts ++ tokens.Fixed fixed.Close ∷ us) u) k (λ us. g (v, us)) (λ us. g2 (v, us)))
      → Exact L k (λ us. closed r us >>= g) (λ us. closed r2 us >>= g2)
  unfolding closed
  exact_closed begins go = exact_same L k _ _ _ _ (λ us. closed_bind g (r us)) (λ us. closed_bind g2 (r2 us))
      (exact_bind Is L k r r2 _ _ item (λ ts v p. let b = begins ts v p in record { more = b.more; value = b.value; whole = b.whole })
      (λ ts v p. exact_after _ k fixed.Close _ _ (begins ts v p) (go ts v p)))

module _ {A B : Type 0} (Is : Lang A) (L : Lang B) (k : ℕ) (r r2 : Reader A) (g g2 : A × List Token → Read B) (item : Exact Is k r r2) where
  -- these in parentheses, and what follows
  pub exact_in_parens : Starts L [] → ((ts : List Token) (v : A) → Is ts v → Starts (λ us u. L (tokens.Fixed fixed.Open ∷ ts ++ us) u) [])
      → ((ts : List Token) (v : A) → Is ts v → Exact (λ us u. L (tokens.Fixed fixed.Open ∷ ts ++ tokens.Fixed fixed.Close ∷ us) u) k (λ us. g (v, us)) (λ us. g2 (v, us)))
      → Exact L k (λ us. in_parens r us >>= g) (λ us. in_parens r2 us >>= g2)
  unfolding in_parens
  exact_in_parens begins begins_close go = exact_same L k _ _ _ _ (λ us. bind_bind (after fixed.Open us) _ g) (λ us. bind_bind (after fixed.Open us) _ g2)
      (exact_after L k fixed.Open _ _ begins (exact_closed Is (λ us u. L (tokens.Fixed fixed.Open ∷ us) u) k r r2 g g2 item begins_close go))

-- these and the closing parenthesis
pub exact_just_closed : {A : Type 0} (Is L : Lang A) (k : ℕ) (r r2 : Reader A) → Exact Is k r r2 → ((ts : List Token) (v : A) → Is ts v → L (ts ++ one fixed.Close) v)
    → Exact L k (closed r) (closed r2)
unfolding closed
exact_just_closed Is L k r r2 item join = exact_bind Is L k r r2 _ _ item (λ ts v p. record { more = one fixed.Close; value = v; whole = join ts v p })
    (λ ts v p. exact_after _ k fixed.Close _ _ (record { more = one fixed.Close; value = v; whole = join ts v p }) (exact_done _ k v (join ts v p)))
