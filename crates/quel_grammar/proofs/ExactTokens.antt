-- Readers of one token, and what each token is to a function.
use Rattle.std.proofs.Common.{◌≡◌, ℕ, suc, Bool, true, false, List, [], ◌∷◌, Option, Some, None, Err, refl, ap, cond, arith}
use denote.Enum.Bare.{same_true}
use Rattle.std.specs.Str.{bytes_eq}
use Rattle.std.proofs.lemmas.Slice.Eq.{bytes_eq-Decides}
use Rattle.quel_grammar.specs.contracts.token.Fixed.{the_type}
use Rattle.quel_grammar.specs.declared.token.Fixed.{Fixed}
use Rattle.quel_grammar.specs.declared.token.Token.{Token}
use Rattle.quel_grammar.specs.declared.token.Token.TheVariants as tokens
use Rattle.quel_grammar.specs.Token.{same_fixed}
use Rattle.quel_grammar.specs.Reading.{Read, Reader, ◌>>=◌, done, first, choose, expect, on_fixed, on_name, is_fixed, after, name_of, name_at, look_up}
use Rattle.quel_grammar.proofs.Exact.{Lang, Starts, Exact, exact_first, exact_done, exact_stop}

-- a reserved word or a symbol that is this to f
pub record IsOnFixed {X : Type 0} (f : Fixed → Option X) (c : Token) (x : X) : Type 0 where
  pub said : Fixed
  pub same : c ≡ tokens.Fixed said
  pub known : f said ≡ Some x

pub is_on_fixed : {X : Type 0} (f : Fixed → Option X) (c : Token) (x : X) → on_fixed f c ≡ Some x → IsOnFixed f c x
is_on_fixed f (tokens.Fixed g) x e = record { said = g; same = refl; known = e }
is_on_fixed f (tokens.Name v) x e = absurd cc
is_on_fixed f (tokens.Int n) x e = absurd cc
is_on_fixed f (tokens.Text t) x e = absurd cc

-- a name that is this to f
pub record IsOnName {X : Type 0} (f : List ℕ → Option X) (c : Token) (x : X) : Type 0 where
  pub said : List ℕ
  pub same : c ≡ tokens.Name said
  pub known : f said ≡ Some x

pub is_on_name : {X : Type 0} (f : List ℕ → Option X) (c : Token) (x : X) → on_name f c ≡ Some x → IsOnName f c x
is_on_name f (tokens.Name v) x e = record { said = v; same = refl; known = e }
is_on_name f (tokens.Fixed g) x e = absurd cc
is_on_name f (tokens.Int n) x e = absurd cc
is_on_name f (tokens.Text t) x e = absurd cc

pub is_name_token : (c : Token) (v : List ℕ) → name_of c ≡ Some v → c ≡ tokens.Name v
is_name_token (tokens.Name v) w e = let f : v ≡ w = cc in ap tokens.Name f
is_name_token (tokens.Fixed g) w e = absurd cc
is_name_token (tokens.Int n) w e = absurd cc
is_name_token (tokens.Text t) w e = absurd cc

some_is : (b : Bool) (x : Unit {0}) → cond b (Some tt) None ≡ Some x → b ≡ true
some_is true x e = refl
some_is false x e = absurd cc

pub is_fixed_token : (f : Fixed) (c : Token) (x : Unit {0}) → is_fixed f c ≡ Some x → c ≡ tokens.Fixed f
is_fixed_token f (tokens.Fixed g) x e = ap tokens.Fixed (same_true the_type tt g f (some_is (same_fixed g f) x e))
is_fixed_token f (tokens.Name v) x e = absurd cc
is_fixed_token f (tokens.Int n) x e = absurd cc
is_fixed_token f (tokens.Text t) x e = absurd cc

-- each entry of a table is so
abbrev pub EachEntry : {X : Type 0} → (List ℕ → X → Type 0) → List (List ℕ × X) → Type 0
EachEntry P [] = Unit {0}
EachEntry P (e ∷ table) = P e.0 e.1 × EachEntry P table

entry_or : {X : Type 0} (P : List ℕ → X → Type 0) (w v : List ℕ) (y x : X) (o : Option X) (b : Bool) → bytes_eq w v ≡ b → P v y → (o ≡ Some x → P w x)
    → elim b [ true ↦ Some y | false ↦ o ] ≡ Some x → P w x
entry_or P w v y x o true e p later f = let g : y ≡ x = cc in rw ((bytes_eq-Decides w v).0 e, ← g) p
entry_or P w v y x o false e p later f = later f

-- what a table has for a word is an entry of it
pub looked_up : {X : Type 0} (P : List ℕ → X → Type 0) (table : List (List ℕ × X)) (w : List ℕ) (x : X) → EachEntry P table → look_up table w ≡ Some x → P w x
unfolding look_up
looked_up P [] w x each e = absurd cc
looked_up P (y ∷ table) w x each e = entry_or P w y.0 y.1 x (look_up table w) (bytes_eq w y.0) refl each.0 (looked_up P table w x each.1) e

-- ---- readers

funext : {A B : Type 0} (f g : A → B) → ((x : A) → f x ≡ g x) → f ≡ g
funext f g h = λ i x. h x i

pub exact_same : {B : Type 0} (L : Lang B) (k : ℕ) (r r2 q q2 : Reader B) → ((us : List Token) → r us ≡ q us) → ((us : List Token) → r2 us ≡ q2 us) → Exact L k q q2
    → Exact L k r r2
exact_same L k r r2 q q2 e e2 second = rw (funext r q e, funext r2 q2 e2) second

expect_bind : {X B : Type 0} (g : X × List Token → Read B) (ts : List Token) (o : Option (X × List Token)) → (choose Err done ts o >>= g) ≡ choose Err (λ x us. g (x, us)) ts o
expect_bind g ts None = refl
expect_bind g ts (Some x) = refl

-- a token that is something to f must be there
pub exact_expect : {X B : Type 0} (L : Lang B) (k : ℕ) (f : Token → Option X) (g g2 : X × List Token → Read B) → Starts L []
    → ((c : Token) (x : X) → f c ≡ Some x → Exact (λ us v. L (c ∷ us) v) k (λ us. g (x, us)) (λ us. g2 (x, us))) → Exact L k (λ us. expect f us >>= g) (λ us. expect f us >>= g2)
exact_expect L k f g g2 begins go = exact_same L k _ _ _ _ (λ us. expect_bind g us (first f us)) (λ us. expect_bind g2 us (first f us))
    (exact_first L k k (omega arith) f Err Err (λ x us. g (x, us)) (λ x us. g2 (x, us)) go (exact_stop L k begins))

-- a token that is something to f is all
pub exact_only : {X : Type 0} (L : Lang X) (k : ℕ) (f : Token → Option X) → Starts L [] → ((c : Token) (x : X) → f c ≡ Some x → L (c ∷ []) x) → Exact L k (expect f) (expect f)
exact_only L k f begins go = exact_first L k k (omega arith) f Err Err done done (λ c x e. exact_done (λ us v. L (c ∷ us) v) k x (go c x e)) (exact_stop L k begins)

-- this reserved word or symbol must be there
pub exact_after : {B : Type 0} (L : Lang B) (k : ℕ) (f : Fixed) (g g2 : Unit {0} × List Token → Read B) → Starts L []
    → Exact (λ us v. L (tokens.Fixed f ∷ us) v) k (λ us. g (tt, us)) (λ us. g2 (tt, us)) → Exact L k (λ us. after f us >>= g) (λ us. after f us >>= g2)
exact_after L k f g g2 begins go = exact_expect L k (is_fixed f) g g2 begins (λ c x e. rw (is_fixed_token f c x e) go)

-- a name must be there
pub exact_name : {B : Type 0} (L : Lang B) (k : ℕ) (g g2 : List ℕ × List Token → Read B) → Starts L []
    → ((v : List ℕ) → Exact (λ us u. L (tokens.Name v ∷ us) u) k (λ us. g (v, us)) (λ us. g2 (v, us))) → Exact L k (λ us. name_at us >>= g) (λ us. name_at us >>= g2)
exact_name L k g g2 begins go = exact_expect L k name_of g g2 begins (λ c v e. rw (is_name_token c v e) (go v))

module _ {B : Type 0} (L : Lang B) (k : ℕ) (f : Fixed) (none none2 some some2 : Reader B) where
  -- behind this reserved word or symbol the readers are one level lower
  pub exact_found : Exact (λ us v. L (tokens.Fixed f ∷ us) v) k some some2 → Exact L (suc k) none none2
      → Exact L (suc k) (λ us. choose none (λ u. some) us (first (is_fixed f) us)) (λ us. choose none2 (λ u. some2) us (first (is_fixed f) us))
  exact_found go stay = exact_first L k (suc k) (omega arith) (is_fixed f) none none2 (λ u. some) (λ u. some2) (λ c x e. rw (is_fixed_token f c x e) go) stay

  -- behind this reserved word or symbol the readers are of the same level
  pub exact_found_same : Exact (λ us v. L (tokens.Fixed f ∷ us) v) k some some2 → Exact L k none none2
      → Exact L k (λ us. choose none (λ u. some) us (first (is_fixed f) us)) (λ us. choose none2 (λ u. some2) us (first (is_fixed f) us))
  exact_found_same go stay = exact_first L k k (omega arith) (is_fixed f) none none2 (λ u. some) (λ u. some2) (λ c x e. rw (is_fixed_token f c x e) go) stay

-- what a name is decides
pub exact_if_name : {B : Type 0} (L : Lang B) (k : ℕ) (none none2 : Reader B) (some some2 : List ℕ → Reader B)
    → ((v : List ℕ) → Exact (λ us u. L (tokens.Name v ∷ us) u) k (some v) (some2 v)) → Exact L k none none2
    → Exact L k (λ us. choose none some us (first name_of us)) (λ us. choose none2 some2 us (first name_of us))
exact_if_name L k none none2 some some2 go stay = exact_first L k k (omega arith) name_of none none2 some some2 (λ c v e. rw (is_name_token c v e) (go v)) stay
