-- The same values in another form, or said in other words: the laws.
use Rattle.std.specs.Prelude.{◌≡◌, ℕ, List, ◌++◌, Ok, Err}
use Rattle.std.proofs.Common.{inl, inr, refl, sym, ap, subst, ◌∙◌}
use Rattle.tree_words.specs.Codec.{Codec, Reading, Writes}
use Rattle.tree_words.specs.Words.{remade, mapped, lawful}
use Rattle.tree_words.specs.Exact.{Refused, Exact}
use Rattle.tree_words.specs.Steps.{bind_ok, bind_err, ok_value, ok_err}

-- the step that makes the other form
abbrev made : {A B : Type 0} → (A → B) → A × List ℕ → Reading B
made make x = Ok (make x.0, x.1)

remade_only : {A B : Type 0} (Fits : B → Type 0) (make : A → B) (parts : B → A) (c : Codec A) → ((a : A) → c.Fits a → Fits (make a) × (parts (make a) ≡ a)) → Exact c → (bytes : List ℕ) (b : B) (rest : List ℕ) → (remade Fits make parts c).read bytes ≡ Ok (b, rest) → Fits b × (bytes ≡ c.write (parts b) ++ rest)
remade_only {A = A} Fits make parts c there ce bytes b rest e =
    let s = bind_ok (c.read bytes) (made make) (b, rest) e in
    let v = ok_value (make s.0.0, s.0.1) (b, rest) s.2 in
    let one = ce.only bytes s.0.0 s.0.1 s.1 in
    let t = there s.0.0 one.0 in
    let is : s.0.0 ≡ parts b = sym t.1 ∙ ap parts v.0 in
    (subst Fits v.0 t.0, one.1 ∙ ap (λ a. c.write a ++ s.0.1) is ∙ ap (λ bs. c.write (parts b) ++ bs) v.1)

remade_first : {A B : Type 0} (Fits : B → Type 0) (make : A → B) (parts : B → A) (c : Codec A) → ((a : A) → c.Fits a → Fits (make a) × (parts (make a) ≡ a)) → Exact c → (bytes : List ℕ) (left : ℕ) → (remade Fits make parts c).read bytes ≡ Err left → Refused (remade Fits make parts c) bytes left
remade_first Fits make parts c there ce bytes left e =
    elim (bind_err (c.read bytes) (made make) left e) [
      | inl k ↦ (let r = ce.first bytes left k in let t = there r.value r.fits in record {
        front = r.front;
        behind = r.behind;
        split = r.split;
        place = r.place;
        value = make r.value;
        fits = t.0;
        more = r.more;
        goes_on = ap c.write t.1 ∙ r.goes_on;
        wrong = λ b after other is. rw (r.wrong b after other is) refl;
      })
      | inr s ↦ absurd (ok_err (make s.0.0, s.0.1) left s.2)
    ]

-- another form of exact spellings is exact, where each form is made of the other
pub remade_exact : {A B : Type 0} (Fits : B → Type 0) (make : A → B) (parts : B → A) (c : Codec A) → ((a : A) → c.Fits a → Fits (make a) × (parts (make a) ≡ a)) → ((b : B) → Fits b → c.Fits (parts b) × (make (parts b) ≡ b)) → Exact c → Exact (remade Fits make parts c)
remade_exact Fits make parts c there back ce = record {
  example = make ce.example;
  lawful = (there ce.example ce.lawful).0;
  again = λ b rest f. rw (ce.again (parts b) rest (back b f).0) (ap (λ x. Ok (x, rest)) (back b f).1);
  only = remade_only Fits make parts c there ce;
  first = remade_first Fits make parts c there ce;
}

pub mapped_exact : {A B : Type 0} (make : A → B) (parts : B → A) (c : Codec A) → ((a : A) → c.Fits a → parts (make a) ≡ a) → ((b : B) → c.Fits (parts b) → make (parts b) ≡ b) → Exact c → Exact (mapped make parts c)
mapped_exact {A = A} {B = B} make parts c there back ce = let P : A → Type 0 = λ a. c.Fits a in let Q : B → Type 0 = λ b. c.Fits (parts b) in
    remade_exact Q make parts c (λ a f. (subst P (sym (there a f)) f, there a f)) (λ b f. (f, back b f)) ce

lawful_first : {A : Type 0} (Fits : A → Type 0) (c : Codec A) (bytes : List ℕ) (left : ℕ) → ((a : A) → c.Fits a → Fits a) → Refused c bytes left → Refused (lawful Fits c) bytes left
lawful_first Fits c bytes left from r = record {
  front = r.front;
  behind = r.behind;
  split = r.split;
  place = r.place;
  value = r.value;
  fits = from r.value r.fits;
  more = r.more;
  goes_on = r.goes_on;
  wrong = r.wrong;
}

-- exact spellings stay exact where it is said in other words which values there are
pub lawful_exact : {A : Type 0} (Fits : A → Type 0) (c : Codec A) → ((a : A) → c.Fits a → Fits a) → ((a : A) → Fits a → c.Fits a) → Exact c → Exact (lawful Fits c)
lawful_exact Fits c from to ce = record {
  example = ce.example;
  lawful = from ce.example ce.lawful;
  again = λ a rest f. ce.again a rest (to a f);
  only = λ bytes a rest e. (let o = ce.only bytes a rest e in (from a o.0, o.1));
  first = λ bytes left e. lawful_first Fits c bytes left from (ce.first bytes left e);
}

-- what was written is spelled so, too, where it is said in other words which values there are
pub wrote_lawful : {A : Type 0} (Fits : A → Type 0) (c : Codec A) → ((a : A) → Fits a → c.Fits a) → (a : A) (old new : List ℕ) → Writes (λ _. c) a old new → Writes (λ _. lawful Fits c) a old new
wrote_lawful Fits c to a old new w n f = w n (to a f)
