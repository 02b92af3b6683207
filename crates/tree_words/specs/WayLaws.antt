-- Ways behind a number, and a byte in front that says the way: the laws.
use Rattle.std.specs.Prelude.{◌≡◌, ℕ, zero, suc, Bool, true, ◌⊎◌, List, [], ◌∷◌, ◌++◌, length, Ok, Err}
use Rattle.std.proofs.Common.{inl, inr, refl, sym, ap, subst, ◌∙◌}
use Rattle.tree_words.specs.Codec.{Codec, Reading}
use Rattle.tree_words.specs.Ways.{Ways, last, last_read, last_if, ◌or◌, or_tag, or_read, gated, gated_read, tagged, tagged_read}
use Rattle.tree_words.specs.Exact.{Refused, Exact, Shut, Inside, ExactWays}
use Rattle.tree_words.specs.Steps.{bind_ok, bind_err, ok_value, ok_err, err_place}
use Rattle.std.proofs.lemmas.Bool.{cases_Bool}

last_only : {A : Type 0} (c : Codec A) → Exact c → (t : ℕ) (bytes : List ℕ) (a : A) (rest : List ℕ) → last_read c t bytes ≡ Ok (a, rest) → c.Fits a × (0 ≡ t) × (bytes ≡ c.write a ++ rest)
last_only c ce zero bytes a rest e = let o = ce.only bytes a rest e in (o.0, refl, o.1)
last_only c ce (suc t) bytes a rest e = absurd (ok_err (a, rest) (suc (length bytes)) (sym e))

last_first : {A : Type 0} (c : Codec A) → Exact c → (t : ℕ) (bytes : List ℕ) (left : ℕ) → last_read c t bytes ≡ Err left → Shut (last c) t bytes left ⊎ Inside (last c) t bytes left
last_first c ce zero bytes left e = let r = ce.first bytes left e in inr (record {
  front = r.front;
  behind = r.behind;
  split = r.split;
  place = r.place;
  value = r.value;
  fits = r.fits;
  tagged = refl;
  more = r.more;
  goes_on = r.goes_on;
  wrong = r.wrong;
})
last_first {A = A} c ce (suc t) bytes left e = inl (record { place = err_place {A = A} (suc (length bytes)) left e; wrong = λ other. refl })

pub last_exact : {A : Type 0} (c : Codec A) → Exact c → ExactWays (last c)
last_exact c ce = record { again = ce.again; only = last_only c ce; first = last_first c ce }

gated_again : {A B : Type 0} (test : Bool) (c : Codec A) (w : Ways B) → (test ≡ true → Exact c) → ExactWays w → (x : A ⊎ B) (rest : List ℕ) → (gated test c w).Fits x → (gated test c w).read ((gated test c w).tag x) ((gated test c w).write x ++ rest) ≡ Ok (x, rest)
gated_again test c w ce we (inl a) rest f = rw f.0 (rw ((ce f.0).again a rest f.1) refl)
gated_again test c w ce we (inr b) rest f = rw (we.again b rest f) refl

gated_only : {A B : Type 0} (test : Bool) (c : Codec A) (w : Ways B) → (test ≡ true → Exact c) → ExactWays w → (t : ℕ) (bytes : List ℕ) (x : A ⊎ B) (rest : List ℕ) → gated_read test c w t bytes ≡ Ok (x, rest) → (gated test c w).Fits x × ((gated test c w).tag x ≡ t) × (bytes ≡ (gated test c w).write x ++ rest)
gated_only {A = A} {B = B} test c w ce we zero bytes x rest e =
    elim (cases_Bool test) [
      | inl t ↦ (let s = bind_ok (c.read bytes) (λ y. let r : Reading (A ⊎ B) = Ok (inl y.0, y.1) in r) (x, rest) (rw t at e) in
          let v = ok_value (inl s.0.0, s.0.1) (x, rest) s.2 in
          let o = (ce t).only bytes s.0.0 s.0.1 s.1 in
          let P : A ⊎ B → Type 0 = λ z. (gated test c w).Fits z × ((gated test c w).tag z ≡ 0) × (bytes ≡ (gated test c w).write z ++ rest) in
          subst P v.0 ((t, o.0), refl, o.1 ∙ ap (λ bs. c.write s.0.0 ++ bs) v.1))
      | inr f ↦ absurd (ok_err (x, rest) (suc (length bytes)) (sym (rw f at e)))
    ]
gated_only {A = A} {B = B} test c w ce we (suc n) bytes x rest e =
    let s = bind_ok (w.read n bytes) (λ y. let r : Reading (A ⊎ B) = Ok (inr y.0, y.1) in r) (x, rest) e in
    let v = ok_value (inr s.0.0, s.0.1) (x, rest) s.2 in
    let o = we.only n bytes s.0.0 s.0.1 s.1 in
    let P : A ⊎ B → Type 0 = λ z. (gated test c w).Fits z × ((gated test c w).tag z ≡ suc n) × (bytes ≡ (gated test c w).write z ++ rest) in
    subst P v.0 (o.0, ap (λ k. suc k) o.1, o.2 ∙ ap (λ bs. w.write s.0.0 ++ bs) v.1)

gated_first : {A B : Type 0} (test : Bool) (c : Codec A) (w : Ways B) → (test ≡ true → Exact c) → ExactWays w → (t : ℕ) (bytes : List ℕ) (left : ℕ) → gated_read test c w t bytes ≡ Err left → Shut (gated test c w) t bytes left ⊎ Inside (gated test c w) t bytes left
gated_first {A = A} {B = B} test c w ce we zero bytes left e =
    elim (cases_Bool test) [
      | inl t ↦ elim (bind_err (c.read bytes) (λ y. let r : Reading (A ⊎ B) = Ok (inl y.0, y.1) in r) left (rw t at e)) [
        | inl k ↦ (let r = (ce t).first bytes left k in inr (record {
          front = r.front;
          behind = r.behind;
          split = r.split;
          place = r.place;
          value = inl r.value;
          fits = (t, r.fits);
          tagged = refl;
          more = r.more;
          goes_on = r.goes_on;
          wrong = λ b after other is. rw t (rw (r.wrong b after other is) refl);
        }))
        | inr s ↦ absurd (ok_err (inl s.0.0, s.0.1) left s.2)
      ]
      | inr f ↦ inl (record { place = err_place {A = A ⊎ B} (suc (length bytes)) left (rw f at e); wrong = λ other. rw f refl })
    ]
gated_first {A = A} {B = B} test c w ce we (suc n) bytes left e =
    elim (bind_err (w.read n bytes) (λ y. let r : Reading (A ⊎ B) = Ok (inr y.0, y.1) in r) left e) [
      | inl k ↦ elim (we.first n bytes left k) [
        | inl h ↦ inl (record { place = h.place; wrong = λ other. rw (h.wrong other) refl })
        | inr r ↦ inr (record {
          front = r.front;
          behind = r.behind;
          split = r.split;
          place = r.place;
          value = inr r.value;
          fits = r.fits;
          tagged = ap (λ k. suc k) r.tagged;
          more = r.more;
          goes_on = r.goes_on;
          wrong = λ b after other is. rw (r.wrong b after other is) refl;
        })
      ]
      | inr s ↦ absurd (ok_err (inr s.0.0, s.0.1) left s.2)
    ]

pub gated_exact : {A B : Type 0} (test : Bool) (c : Codec A) (w : Ways B) → (test ≡ true → Exact c) → ExactWays w → ExactWays (gated test c w)
gated_exact test c w ce we = record { again = gated_again test c w ce we; only = gated_only test c w ce we; first = gated_first test c w ce we }

last_if_again : {A : Type 0} (test : Bool) (c : Codec A) → (test ≡ true → Exact c) → (a : A) (rest : List ℕ) → (last_if test c).Fits a → (last_if test c).read 0 (c.write a ++ rest) ≡ Ok (a, rest)
last_if_again test c ce a rest f = rw f.0 ((ce f.0).again a rest f.1)

last_if_only : {A : Type 0} (test : Bool) (c : Codec A) → (test ≡ true → Exact c) → (t : ℕ) (bytes : List ℕ) (a : A) (rest : List ℕ) → (last_if test c).read t bytes ≡ Ok (a, rest) → (last_if test c).Fits a × (0 ≡ t) × (bytes ≡ c.write a ++ rest)
last_if_only test c ce zero bytes a rest e = elim (cases_Bool test) [
  | inl t ↦ (let o = (ce t).only bytes a rest (rw t at e) in ((t, o.0), refl, o.1))
  | inr f ↦ absurd (ok_err (a, rest) (suc (length bytes)) (sym (rw f at e)))
]
last_if_only test c ce (suc t) bytes a rest e = absurd (ok_err (a, rest) (suc (length bytes)) (sym e))

last_if_first : {A : Type 0} (test : Bool) (c : Codec A) → (test ≡ true → Exact c) → (t : ℕ) (bytes : List ℕ) (left : ℕ) → (last_if test c).read t bytes ≡ Err left → Shut (last_if test c) t bytes left ⊎ Inside (last_if test c) t bytes left
last_if_first {A = A} test c ce zero bytes left e = elim (cases_Bool test) [
  | inl t ↦ (let r = (ce t).first bytes left (rw t at e) in inr (record {
    front = r.front;
    behind = r.behind;
    split = r.split;
    place = r.place;
    value = r.value;
    fits = (t, r.fits);
    tagged = refl;
    more = r.more;
    goes_on = r.goes_on;
    wrong = λ b after other is. rw t (r.wrong b after other is);
  }))
  | inr f ↦ inl (record { place = err_place {A = A} (suc (length bytes)) left (rw f at e); wrong = λ other. rw f refl })
]
last_if_first {A = A} test c ce (suc t) bytes left e = inl (record { place = err_place {A = A} (suc (length bytes)) left e; wrong = λ other. refl })

pub last_if_exact : {A : Type 0} (test : Bool) (c : Codec A) → (test ≡ true → Exact c) → ExactWays (last_if test c)
last_if_exact test c ce = record { again = last_if_again test c ce; only = last_if_only test c ce; first = last_if_first test c ce }

-- a way or a later one, as the same behind a test that holds
as_gated : {A B : Type 0} (c : Codec A) (w : Ways B) (t : ℕ) (bytes : List ℕ) → or_read c w t bytes ≡ gated_read true c w t bytes
as_gated c w zero bytes = refl
as_gated c w (suc t) bytes = refl

ungated_fits : {A B : Type 0} (c : Codec A) (w : Ways B) (x : A ⊎ B) → (gated true c w).Fits x → (c or w).Fits x
ungated_fits c w (inl a) f = f.1
ungated_fits c w (inr b) f = f

gated_fits : {A B : Type 0} (c : Codec A) (w : Ways B) (x : A ⊎ B) → (c or w).Fits x → (gated true c w).Fits x
gated_fits c w (inl a) f = (refl, f)
gated_fits c w (inr b) f = f

or_first : {A B : Type 0} (c : Codec A) (w : Ways B) (t : ℕ) (bytes : List ℕ) (left : ℕ) → Shut (gated true c w) t bytes left ⊎ Inside (gated true c w) t bytes left → Shut (c or w) t bytes left ⊎ Inside (c or w) t bytes left
or_first c w t bytes left (inl h) = inl (record { place = h.place; wrong = λ other. as_gated c w t other ∙ h.wrong other })
or_first c w t bytes left (inr r) = inr (record {
  front = r.front;
  behind = r.behind;
  split = r.split;
  place = r.place;
  value = r.value;
  fits = ungated_fits c w r.value r.fits;
  tagged = r.tagged;
  more = r.more;
  goes_on = r.goes_on;
  wrong = λ b after other is. as_gated c w t (r.front ++ (b ∷ other)) ∙ r.wrong b after other is;
})

pub or_exact : {A B : Type 0} (c : Codec A) (w : Ways B) → Exact c → ExactWays w → ExactWays (c or w)
or_exact c w ce we = let g = gated_exact true c w (λ _. ce) we in record {
  again = λ x rest f. as_gated c w (or_tag w x) ((c or w).write x ++ rest) ∙ g.again x rest (gated_fits c w x f);
  only = λ t bytes x rest e. (let o = g.only t bytes x rest (sym (as_gated c w t bytes) ∙ e) in (ungated_fits c w x o.0, o.1, o.2));
  first = λ t bytes left e. or_first c w t bytes left (g.first t bytes left (sym (as_gated c w t bytes) ∙ e));
}

tagged_only : {A : Type 0} (w : Ways A) → ExactWays w → (bytes : List ℕ) (a : A) (rest : List ℕ) → tagged_read w bytes ≡ Ok (a, rest) → w.Fits a × (bytes ≡ w.tag a ∷ (w.write a ++ rest))
tagged_only w we [] a rest e = absurd cc
tagged_only w we (t ∷ bytes) a rest e = let o = we.only t bytes a rest e in (o.0, ap (λ k. k ∷ bytes) (sym o.1) ∙ ap (λ bs. w.tag a ∷ bs) o.2)

tagged_first : {A : Type 0} (w : Ways A) (a : A) → w.Fits a → ExactWays w → (bytes : List ℕ) (left : ℕ) → tagged_read w bytes ≡ Err left → Refused (tagged w) bytes left
tagged_first w a f we [] left e = record {
  front = [];
  behind = [];
  split = refl;
  place = cc;
  value = a;
  fits = f;
  more = w.tag a ∷ w.write a;
  goes_on = refl;
  wrong = λ b after other is. absurd cc;
}
tagged_first w a f we (t ∷ bytes) left e = elim (we.first t bytes left e) [
  | inl h ↦ record {
    front = [];
    behind = t ∷ bytes;
    split = refl;
    place = h.place;
    value = a;
    fits = f;
    more = w.tag a ∷ w.write a;
    goes_on = refl;
    wrong = λ b after other is. (let same : t ≡ b = cc in rw (← same) (h.wrong other));
  }
  | inr r ↦ record {
    front = t ∷ r.front;
    behind = r.behind;
    split = ap (λ bs. t ∷ bs) r.split;
    place = r.place;
    value = r.value;
    fits = r.fits;
    more = r.more;
    goes_on = ap (λ k. k ∷ w.write r.value) r.tagged ∙ ap (λ bs. t ∷ bs) r.goes_on;
    wrong = r.wrong;
  }
]

-- a value of some way, so that not all of them are shut, and the ways
pub tagged_exact : {A : Type 0} (w : Ways A) (a : A) → w.Fits a → ExactWays w → Exact (tagged w)
tagged_exact w a f we = record { example = a; lawful = f; again = we.again; only = tagged_only w we; first = tagged_first w a f we }
