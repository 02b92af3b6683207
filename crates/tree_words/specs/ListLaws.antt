-- So many items, and a count in front of them: the laws.
use Rattle.std.specs.Prelude.{◌≡◌, ℕ, zero, suc, List, [], ◌∷◌, ◌++◌, length, Ok, Err}
use Rattle.std.proofs.Common.{inl, inr, refl, sym, ap, subst, ◌∙◌, append_assoc}
use Rattle.tree_words.specs.Codec.{Codec, Reading, ◌>>=◌}
use Rattle.tree_words.specs.Words.{items, items_read, items_write, ItemsFit, list}
use Rattle.tree_words.specs.Exact.{Refused, Exact}
use Rattle.tree_words.specs.Steps.{bind_ok, bind_err, ok_value, ok_err}
use Rattle.tree_words.specs.SizeLaws.{sized_exact}

-- so many items
abbrev consed : {A : Type 0} → A → List A × List ℕ → Reading (List A)
consed a xs = Ok (a ∷ xs.0, xs.1)

none_only : {A : Type 0} (c : Codec A) (bytes : List ℕ) (xs : List A) (rest : List ℕ) → [] ≡ xs → bytes ≡ rest → ItemsFit c 0 xs × (bytes ≡ items_write c xs ++ rest)
none_only c bytes [] rest e f = (tt, f)
none_only c bytes (x ∷ xs) rest e f = absurd cc

none_again : {A : Type 0} (c : Codec A) (xs : List A) (rest : List ℕ) → ItemsFit c 0 xs → items_read c 0 (items_write c xs ++ rest) ≡ Ok (xs, rest)
unfolding items_read
none_again c [] rest f = refl
none_again c (x ∷ xs) rest f = absurd f

more_again : {A : Type 0} (c : Codec A) (n : ℕ) → Exact c → Exact (items c n) → (xs : List A) (rest : List ℕ) → ItemsFit c (suc n) xs → items_read c (suc n) (items_write c xs ++ rest) ≡ Ok (xs, rest)
unfolding items_read
more_again c n ce ie [] rest f = absurd f
more_again c n ce ie (x ∷ xs) rest f =
    let at : (c.write x ++ items_write c xs) ++ rest ≡ c.write x ++ (items_write c xs ++ rest) = append_assoc (c.write x) (items_write c xs) rest in
    rw at (rw (ce.again x (items_write c xs ++ rest) f.0) (rw (ie.again xs rest f.1) refl))

more_only : {A : Type 0} (c : Codec A) (n : ℕ) → Exact c → Exact (items c n) → (bytes : List ℕ) (xs : List A) (rest : List ℕ) → items_read c (suc n) bytes ≡ Ok (xs, rest) → ItemsFit c (suc n) xs × (bytes ≡ items_write c xs ++ rest)
unfolding items_read
more_only {A = A} c n ce ie bytes xs rest e =
    let s = bind_ok (c.read bytes) (λ x. items_read c n x.1 >>= consed x.0) (xs, rest) e in
    let t = bind_ok (items_read c n s.0.1) (consed s.0.0) (xs, rest) s.2 in
    let v = ok_value (s.0.0 ∷ t.0.0, t.0.1) (xs, rest) t.2 in
    let one = ce.only bytes s.0.0 s.0.1 s.1 in
    let two = ie.only s.0.1 t.0.0 t.0.1 t.1 in
    let P : List A → Type 0 = λ ys. ItemsFit c (suc n) ys in (
      subst P v.0 (one.0, two.0),
      one.1 ∙ ap (λ bs. c.write s.0.0 ++ bs) two.1 ∙ sym (append_assoc (c.write s.0.0) (items_write c t.0.0) t.0.1) ∙ ap (λ ys. items_write c ys ++ t.0.1) v.0 ∙ ap (λ bs. items_write c xs ++ bs) v.1,
    )

more_left : {A : Type 0} (c : Codec A) (n : ℕ) → Exact (items c n) → (bytes : List ℕ) (left : ℕ) → Refused c bytes left → Refused (items c (suc n)) bytes left
unfolding items_read
more_left c n ie bytes left r = record {
  front = r.front;
  behind = r.behind;
  split = r.split;
  place = r.place;
  value = r.value ∷ ie.example;
  fits = (r.fits, ie.lawful);
  more = r.more ++ items_write c ie.example;
  goes_on = ap (λ bs. bs ++ items_write c ie.example) r.goes_on ∙ append_assoc r.front r.more (items_write c ie.example);
  wrong = λ b after other is. rw (r.wrong b after other is) refl;
}

more_right : {A : Type 0} (c : Codec A) (n : ℕ) → Exact c → (bytes : List ℕ) (a : A) (rest : List ℕ) (left : ℕ) → c.Fits a × (bytes ≡ c.write a ++ rest) → Refused (items c n) rest left → Refused (items c (suc n)) bytes left
unfolding items_read
more_right c n ce bytes a rest left o r = record {
  front = c.write a ++ r.front;
  behind = r.behind;
  split = o.1 ∙ ap (λ bs. c.write a ++ bs) r.split ∙ sym (append_assoc (c.write a) r.front r.behind);
  place = r.place;
  value = a ∷ r.value;
  fits = (o.0, r.fits);
  more = r.more;
  goes_on = ap (λ bs. c.write a ++ bs) r.goes_on ∙ sym (append_assoc (c.write a) r.front r.more);
  wrong = λ b after other is. (let at : (c.write a ++ r.front) ++ (b ∷ other) ≡ c.write a ++ (r.front ++ (b ∷ other)) = append_assoc (c.write a) r.front (b ∷ other) in
      rw at (rw (ce.again a (r.front ++ (b ∷ other)) o.0) (rw (r.wrong b after other is) refl)));
}

more_first : {A : Type 0} (c : Codec A) (n : ℕ) → Exact c → Exact (items c n) → (bytes : List ℕ) (left : ℕ) → items_read c (suc n) bytes ≡ Err left → Refused (items c (suc n)) bytes left
unfolding items_read
more_first c n ce ie bytes left e =
    elim (bind_err (c.read bytes) (λ x. items_read c n x.1 >>= consed x.0) left e) [
      | inl r ↦ more_left c n ie bytes left (ce.first bytes left r)
      | inr s ↦ elim (bind_err (items_read c n s.0.1) (consed s.0.0) left s.2) [
        | inl r ↦ more_right c n ce bytes s.0.0 s.0.1 left (ce.only bytes s.0.0 s.0.1 s.1) (ie.first s.0.1 left r)
        | inr t ↦ absurd (ok_err (s.0.0 ∷ t.0.0, t.0.1) left t.2)
      ]
    ]

none_first : {A : Type 0} (c : Codec A) (bytes : List ℕ) (left : ℕ) → items_read c 0 bytes ≡ Err left → Refused (items c 0) bytes left
unfolding items_read
none_first c bytes left e = absurd (ok_err ([], bytes) left e)

none_found : {A : Type 0} (c : Codec A) (bytes : List ℕ) (xs : List A) (rest : List ℕ) → items_read c 0 bytes ≡ Ok (xs, rest) → ItemsFit c 0 xs × (bytes ≡ items_write c xs ++ rest)
unfolding items_read
none_found c bytes xs rest e = let v = ok_value ([], bytes) (xs, rest) e in none_only c bytes xs rest v.0 v.1

pub items_exact : {A : Type 0} (c : Codec A) → Exact c → (n : ℕ) → Exact (items c n)
items_exact c ce zero = record { example = []; lawful = tt; again = none_again c; only = none_found c; first = none_first c }
items_exact c ce (suc n) = let ie = items_exact c ce n in record {
  example = ce.example ∷ ie.example;
  lawful = (ce.lawful, ie.lawful);
  again = more_again c n ce ie;
  only = more_only c n ce ie;
  first = more_first c n ce ie;
}

pub items_length : {A : Type 0} (c : Codec A) (n : ℕ) (xs : List A) → ItemsFit c n xs → length xs ≡ n
items_length c zero [] f = refl
items_length c zero (x ∷ xs) f = absurd f
items_length c (suc n) [] f = absurd f
items_length c (suc n) (x ∷ xs) f = ap (λ k. suc k) (items_length c n xs f.1)

pub list_exact : {A : Type 0} (count : Codec ℕ) (c : Codec A) → Exact count → Exact c → Exact (list count c)
unfolding list
list_exact count c ne ce = sized_exact count (items c) length (items_length c) ne (λ n f. items_exact c ce n)
