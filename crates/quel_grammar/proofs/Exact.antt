-- When a reader takes exactly what is in a language and stops exactly where no more can be, and how that goes over to what is made of readers.
use Rattle.std.proofs.Common.{◌≡◌, ℕ, suc, ◌<◌, ◌≤◌, List, [], ◌∷◌, ◌++◌, length, length-append, Option, Some, None, Ok, Err, refl, sym, ap, ◌∙◌, append_assoc, append-nil, arith}
use Rattle.std.specs.Prelude.{option_map}
use Rattle.quel_grammar.specs.declared.token.Token.{Token}
use Rattle.quel_grammar.specs.Reading.{Read, Reader, ◌>>=◌, done, first, choose}

-- which tokens stand for which values
abbrev pub Lang : Type 0 → Type 1
Lang A = List Token → A → Type 0

-- more tokens behind these make a value
pub record Starts {A : Type 0} (L : Lang A) (front : List Token) : Type 0 where
  pub more : List Token
  pub value : A
  pub whole : L (front ++ more) value

-- tokens that begin with the same token, or none
pub data Alike : List Token → List Token → Type 0 where
  nothing : {ts : List Token} → Alike ts []
  begin : {t : Token} {a b : List Token} → Alike (t ∷ a) (t ∷ b)

-- on any tokens that are the same up to the first one that was not taken, or that end there, the second reader reads the same; less than k tokens were taken
abbrev pub Keeps : {A : Type 0} → ℕ → Reader A → List Token → List Token → Reader A → Type 0
Keeps k r2 front rest x = length front < k → (b : List Token) → Alike rest b → r2 (front ++ b) ≡ x b

pub record Took {A : Type 0} (L : Lang A) (k : ℕ) (r2 : Reader A) (ts : List Token) (v : A) (rest : List Token) : Type 0 where
  pub front : List Token
  pub same : ts ≡ front ++ rest
  pub whole : L front v
  pub keeps : Keeps k r2 front rest (done v)

pub record Stopped {A : Type 0} (L : Lang A) (k : ℕ) (r2 : Reader A) (ts rest : List Token) : Type 0 where
  pub front : List Token
  pub same : ts ≡ front ++ rest
  pub begins : Starts L front
  pub keeps : Keeps k r2 front rest Err

abbrev pub Reads : {A : Type 0} → Lang A → ℕ → Reader A → List Token → Read A → Type 0
Reads L k r2 ts (Ok x) = Took L k r2 ts x.0 x.1
Reads L k r2 ts (Err rest) = Stopped L k r2 ts rest

-- the first reader takes only what is in the language, and stops only where that begins something in it; the second one, which may go deeper, reads the same, also where the tokens end there
pub record Exact {A : Type 0} (L : Lang A) (k : ℕ) (r r2 : Reader A) : Type 0 where
  pub at : (ts : List Token) → Reads L k r2 ts (r ts)

-- what is in the language begins something in it
pub starts_whole : {A : Type 0} (L : Lang A) (front : List Token) (v : A) → L front v → Starts L front
starts_whole L front v p = record { more = []; value = v; whole = rw append-nil p }

-- something in the language, of which no token is there yet
pub starts : {A : Type 0} (L : Lang A) (ts : List Token) (v : A) → L ts v → Starts L []
starts L ts v p = record { more = ts; value = v; whole = p }

regroup : {A : Type 0} (L : Lang A) (a b c : List Token) (v : A) → L (a ++ (b ++ c)) v → L ((a ++ b) ++ c) v
regroup L a b c v h = rw append_assoc h

pub ungroup : {A : Type 0} (L : Lang A) (a b c : List Token) (v : A) → L ((a ++ b) ++ c) v → L (a ++ (b ++ c)) v
ungroup L a b c v h = rw (← append_assoc) h

alike_front : (front rest b : List Token) → Alike rest b → Alike (front ++ rest) (front ++ b)
alike_front [] rest b same = same
alike_front (c ∷ cs) rest b same = begin

-- ---- one reader, and then another

keeps_first : {A : Type 0} (k : ℕ) (r2 : Reader A) (v : A) (front rest : List Token) → Keeps k r2 front rest (done v)
    → (front2 rest2 : List Token) → rest ≡ front2 ++ rest2 → length (front ++ front2) < k → (b : List Token) → Alike rest2 b → r2 (front ++ (front2 ++ b)) ≡ Ok (v, front2 ++ b)
keeps_first k r2 v front rest keeps front2 rest2 e lt b same = keeps (omega (arith, length-append front front2)) (front2 ++ b) (rw e (alike_front front2 rest2 b same))

module _ {A B : Type 0} (L1 : Lang A) (L : Lang B) (k : ℕ) (r r2 : Reader A) (f f2 : A × List Token → Read B) where
  after_took : (ts : List Token) (v : A) (rest : List Token) (took : Took L1 k r2 ts v rest) (y : Read B)
      → Reads (λ us u. L (took.front ++ us) u) k (λ us. f2 (v, us)) rest y → Reads L k (λ us. r2 us >>= f2) ts y
  after_took ts v rest took (Ok y) second = record {
    front = took.front ++ second.front;
    same = took.same ∙ ap (λ us. took.front ++ us) second.same ∙ sym (append_assoc took.front second.front y.1);
    whole = second.whole;
    keeps = λ lt b same. rw append_assoc (ap (λ x. x >>= f2) (keeps_first k r2 v took.front rest took.keeps second.front y.1 second.same lt b same) ∙ second.keeps
        (omega (arith, length-append took.front second.front)) b same);
  }
  after_took ts v rest took (Err s) second = record {
    front = took.front ++ second.front;
    same = took.same ∙ ap (λ us. took.front ++ us) second.same ∙ sym (append_assoc took.front second.front s);
    begins = record { more = second.begins.more; value = second.begins.value; whole = regroup L took.front second.front _ _ second.begins.whole };
    keeps = λ lt b same. rw append_assoc (ap (λ x. x >>= f2) (keeps_first k r2 v took.front rest took.keeps second.front s second.same lt b same) ∙ second.keeps
        (omega (arith, length-append took.front second.front)) b same);
  }

  bind_at : (ts : List Token) (x : Read A) → Reads L1 k r2 ts x
      → ((front : List Token) (v : A) → L1 front v → Starts L front)
      → ((front : List Token) (v : A) → L1 front v → Exact (λ us u. L (front ++ us) u) k (λ us. f (v, us)) (λ us. f2 (v, us)))
      → Reads L k (λ us. r2 us >>= f2) ts (x >>= f)
  bind_at ts (Ok x) took goes_on second = after_took ts x.0 x.1 took (f x) ((second took.front x.0 took.whole).at x.1)
  bind_at ts (Err s) stopped goes_on second =
      let g = goes_on _ _ stopped.begins.whole in
      record {
        front = stopped.front;
        same = stopped.same;
        begins = record { more = stopped.begins.more ++ g.more; value = g.value; whole = rw (← append_assoc) g.whole };
        keeps = λ lt b same. ap (λ x. x >>= f2) (stopped.keeps lt b same);
      }

  pub exact_bind : Exact L1 k r r2
      → ((front : List Token) (v : A) → L1 front v → Starts L front)
      → ((front : List Token) (v : A) → L1 front v → Exact (λ us u. L (front ++ us) u) k (λ us. f (v, us)) (λ us. f2 (v, us)))
      → Exact L k (λ us. r us >>= f) (λ us. r2 us >>= f2)
  exact_bind one goes_on second = record { at = λ ts. bind_at ts (r ts) (one.at ts) goes_on second }

-- ---- a bound that is smaller

weaken_at : {A : Type 0} (L : Lang A) (j k : ℕ) → j ≤ k → (r2 : Reader A) (ts : List Token) (x : Read A) → Reads L k r2 ts x → Reads L j r2 ts x
weaken_at L j k le r2 ts (Ok x) took = record { front = took.front; same = took.same; whole = took.whole; keeps = λ lt. took.keeps (omega arith) }
weaken_at L j k le r2 ts (Err s) stopped = record { front = stopped.front; same = stopped.same; begins = stopped.begins; keeps = λ lt. stopped.keeps (omega arith) }

pub weaken : {A : Type 0} (L : Lang A) (j k : ℕ) → j ≤ k → (r r2 : Reader A) → Exact L k r r2 → Exact L j r r2
weaken L j k le r r2 e = record { at = λ ts. weaken_at L j k le r2 ts (r ts) (e.at ts) }

pub fewer : {A : Type 0} (L : Lang A) (k : ℕ) (r r2 : Reader A) → Exact L (suc k) r r2 → Exact L k r r2
fewer L k r r2 e = weaken L k (suc k) (omega arith) r r2 e

-- ---- nothing is taken

pub exact_done : {A : Type 0} (L : Lang A) (k : ℕ) (v : A) → L [] v → Exact L k (done v) (done v)
exact_done L k v here = record { at = λ ts. record { front = []; same = refl; whole = here; keeps = λ lt b same. refl } }

pub exact_stop : {A : Type 0} (L : Lang A) (k : ℕ) → Starts L [] → Exact L k Err Err
exact_stop L k begins = record { at = λ ts. record { front = []; same = refl; begins = begins; keeps = λ lt b same. refl } }

-- too deep: nothing is said of the second reader
pub exact_none : {A : Type 0} (L : Lang A) (r2 : Reader A) → Starts L [] → Exact L 0 Err r2
exact_none L r2 begins = record { at = λ ts. record { front = []; same = refl; begins = begins; keeps = λ lt b same. absurd (omega arith) } }

-- ---- the same tokens for another value, or in another language

map_at : {A B : Type 0} (L1 : Lang A) (L : Lang B) (k : ℕ) (g : A → B) (r2 : Reader A) (ts : List Token) (x : Read A) → ((front : List Token) (v : A) → L1 front v → L front (g v))
    → Reads L1 k r2 ts x → Reads L k (λ us. r2 us >>= λ y. Ok (g y.0, y.1)) ts (x >>= λ y. Ok (g y.0, y.1))
map_at L1 L k g r2 ts (Ok x) join took = record {
  front = took.front;
  same = took.same;
  whole = join _ _ took.whole;
  keeps = λ lt b same. ap (λ x. x >>= λ y. Ok (g y.0, y.1))
      (took.keeps lt b same);
}
map_at L1 L k g r2 ts (Err s) join stopped = record {
  front = stopped.front;
  same = stopped.same;
  begins = record { more = stopped.begins.more; value = g stopped.begins.value; whole = join _ _ stopped.begins.whole };
  keeps = λ lt b same. ap (λ x. x >>= λ y. Ok (g y.0, y.1)) (stopped.keeps lt b same);
}

pub exact_map : {A B : Type 0} (L1 : Lang A) (L : Lang B) (k : ℕ) (g : A → B) (r r2 : Reader A) → ((front : List Token) (v : A) → L1 front v → L front (g v)) → Exact L1 k r r2
    → Exact L k (λ us. r us >>= λ y. Ok (g y.0, y.1)) (λ us. r2 us >>= λ y. Ok (g y.0, y.1))
exact_map L1 L k g r r2 join e = record { at = λ ts. map_at L1 L k g r2 ts (r ts) join (e.at ts) }

as_at : {A : Type 0} (L1 L : Lang A) (k : ℕ) (r2 : Reader A) (ts : List Token) (x : Read A) → ((front : List Token) (v : A) → L1 front v → L front v) → Reads L1 k r2 ts x
    → Reads L k r2 ts x
as_at L1 L k r2 ts (Ok x) join took = record { front = took.front; same = took.same; whole = join _ _ took.whole; keeps = took.keeps }
as_at L1 L k r2 ts (Err s) join stopped = record {
  front = stopped.front;
  same = stopped.same;
  begins = record { more = stopped.begins.more; value = stopped.begins.value; whole = join _ _ stopped.begins.whole };
  keeps = stopped.keeps;
}

pub exact_as : {A : Type 0} (L1 L : Lang A) (k : ℕ) (r r2 : Reader A) → ((front : List Token) (v : A) → L1 front v → L front v) → Exact L1 k r r2 → Exact L k r r2
exact_as L1 L k r r2 join e = record { at = λ ts. as_at L1 L k r2 ts (r ts) join (e.at ts) }

-- ---- the first token decides

token_at : {A : Type 0} (L : Lang A) (j k : ℕ) → k ≤ suc j → (r2 q2 : Reader A) (c : Token) (ts : List Token) (x : Read A) → ((us : List Token) → r2 (c ∷ us) ≡ q2 us)
    → Reads (λ us v. L (c ∷ us) v) j q2 ts x → Reads L k r2 (c ∷ ts) x
token_at L j k le r2 q2 c ts (Ok x) e took =
    record { front = c ∷ took.front; same = ap (λ us. c ∷ us) took.same; whole = took.whole; keeps = λ lt b same. e _ ∙ took.keeps (omega arith) b same }
token_at L j k le r2 q2 c ts (Err s) e stopped = record {
  front = c ∷ stopped.front;
  same = ap (λ us. c ∷ us) stopped.same;
  begins = record { more = stopped.begins.more; value = stopped.begins.value; whole = stopped.begins.whole };
  keeps = λ lt b same. e _ ∙ stopped.keeps (omega arith) b same;
}

none_of : {X : Type 0} (us vs : List Token) (o : Option X) → option_map {U = X × List Token} (λ x. (x, us)) o ≡ None → option_map {U = X × List Token} (λ x. (x, vs)) o ≡ None
none_of us vs None e = refl
none_of us vs (Some x) e = absurd cc

still_none : {X : Type 0} (f : Token → Option X) (rest b : List Token) → Alike rest b → first f rest ≡ None → first f b ≡ None
still_none f rest [] nothing e = refl
still_none f [] (t ∷ b) same e = elim same [ ]
still_none f (c ∷ a) (t ∷ b) begin e = none_of a b (f c) e

module _ {X B : Type 0} (L : Lang B) (j k : ℕ) (le : k ≤ suc j) (f : Token → Option X) (none none2 : Reader B) (some some2 : X → Reader B) where
  none_at : (ts : List Token) (x : Read B) → first f ts ≡ None → Reads L k none2 ts x → Reads L k (λ us. choose none2 some2 us (first f us)) ts x
  none_at ts (Ok x) e took = record {
    front = took.front;
    same = took.same;
    whole = took.whole;
    keeps = λ lt b same. rw (still_none f ts (took.front ++ b) (rw took.same (alike_front took.front x.1 b same)) e) (took.keeps lt b same);
  }
  none_at ts (Err s) e stopped = record {
    front = stopped.front;
    same = stopped.same;
    begins = stopped.begins;
    keeps = λ lt b same. rw (still_none f ts (stopped.front ++ b) (rw stopped.same (alike_front stopped.front s b same)) e) (stopped.keeps lt b same);
  }

  choose_token : (c : Token) (ts : List Token) (o : Option X) → f c ≡ o → ((x : X) → f c ≡ Some x → Exact (λ us v. L (c ∷ us) v) j (some x) (some2 x)) → Exact L k none none2
      → Reads L k (λ us. choose none2 some2 us (first f us)) (c ∷ ts) (choose none some (c ∷ ts) (option_map (λ x. (x, ts)) o))
  choose_token c ts None e go stay = none_at (c ∷ ts) (none (c ∷ ts)) (rw e refl) (stay.at (c ∷ ts))
  choose_token c ts (Some x) e go stay = token_at L j k le (λ us. choose none2 some2 us (first f us)) (some2 x) c ts (some x ts) (λ us. rw e refl) ((go x e).at ts)

  choose_at : (ts : List Token) → ((c : Token) (x : X) → f c ≡ Some x → Exact (λ us v. L (c ∷ us) v) j (some x) (some2 x)) → Exact L k none none2
      → Reads L k (λ us. choose none2 some2 us (first f us)) ts (choose none some ts (first f ts))
  choose_at (c ∷ ts) go stay = choose_token c ts (f c) refl (go c) stay
  choose_at [] go stay = none_at [] (none []) refl (stay.at [])

  -- what the first token is decides; behind it the readers may be one level lower
  pub exact_first : ((c : Token) (x : X) → f c ≡ Some x → Exact (λ us v. L (c ∷ us) v) j (some x) (some2 x)) → Exact L k none none2
      → Exact L k (λ us. choose none some us (first f us)) (λ us. choose none2 some2 us (first f us))
  exact_first go stay = record { at = λ ts. choose_at ts go stay }
