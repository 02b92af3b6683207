-- A size and then a value of that size: the law.
use Rattle.std.specs.Prelude.{◌≡◌, ℕ, List, ◌∷◌, ◌++◌, Ok, Err}
use Rattle.std.proofs.Common.{inl, inr, refl, sym, ap, subst, ◌∙◌, append_assoc}
use Rattle.tree_words.specs.Codec.{Codec}
use Rattle.tree_words.specs.Words.{sized}
use Rattle.tree_words.specs.Exact.{Refused, Exact}
use Rattle.tree_words.specs.Steps.{bind_ok, bind_err}

sized_only : {A : Type 0} (count : Codec ℕ) (body : ℕ → Codec A) (size : A → ℕ) → ((n : ℕ) (a : A) → (body n).Fits a → size a ≡ n) → Exact count → ((n : ℕ) → count.Fits n → Exact (body n)) → (bytes : List ℕ) (a : A) (rest : List ℕ) → (sized count body size).read bytes ≡ Ok (a, rest) → (sized count body size).Fits a × (bytes ≡ (sized count body size).write a ++ rest)
sized_only count body size sure ce be bytes a rest e =
    let s = bind_ok (count.read bytes) (λ n. (body n.0).read n.1) (a, rest) e in
    let one = ce.only bytes s.0.0 s.0.1 s.1 in
    let two = (be s.0.0 one.0).only s.0.1 a rest s.2 in
    let is : s.0.0 ≡ size a = sym (sure s.0.0 a two.0) in
    let P : ℕ → Type 0 = λ n. count.Fits n × (body n).Fits a in (
      subst P is (one.0, two.0),
      one.1 ∙ ap (λ bs. count.write s.0.0 ++ bs) two.1 ∙ sym (append_assoc (count.write s.0.0) ((body s.0.0).write a) rest) ∙ ap (λ n. (count.write n ++ (body n).write a) ++ rest) is,
    )

sized_again : {A : Type 0} (count : Codec ℕ) (body : ℕ → Codec A) (size : A → ℕ) → Exact count → ((n : ℕ) → count.Fits n → Exact (body n)) → (a : A) (rest : List ℕ) → (sized count body size).Fits a → (sized count body size).read ((sized count body size).write a ++ rest) ≡ Ok (a, rest)
sized_again count body size ce be a rest f =
    let at : (count.write (size a) ++ (body (size a)).write a) ++ rest ≡ count.write (size a) ++ ((body (size a)).write a ++ rest) = append_assoc (count.write (size a)) ((body (size a)).write a) rest in
    rw at (rw (ce.again (size a) ((body (size a)).write a ++ rest) f.0) ((be (size a) f.0).again a rest f.1))

sized_first : {A : Type 0} (count : Codec ℕ) (body : ℕ → Codec A) (size : A → ℕ) → ((n : ℕ) (a : A) → (body n).Fits a → size a ≡ n) → Exact count → ((n : ℕ) → count.Fits n → Exact (body n)) → (bytes : List ℕ) (left : ℕ) → (sized count body size).read bytes ≡ Err left → Refused (sized count body size) bytes left
sized_first count body size sure ce be bytes left e =
    elim (bind_err (count.read bytes) (λ n. (body n.0).read n.1) left e) [
      | inl k ↦ left_part count body size sure be bytes left (ce.first bytes left k)
      | inr s ↦ (let one = ce.only bytes s.0.0 s.0.1 s.1 in right_part count body size sure ce bytes s.0.0 s.0.1 left one ((be s.0.0 one.0).first s.0.1 left s.2))
    ]
  where
    left_part : {A : Type 0} (count : Codec ℕ) (body : ℕ → Codec A) (size : A → ℕ) → ((n : ℕ) (a : A) → (body n).Fits a → size a ≡ n) → ((n : ℕ) → count.Fits n → Exact (body n)) → (bytes : List ℕ) (left : ℕ) → Refused count bytes left → Refused (sized count body size) bytes left
    left_part {A = A} count body size sure be bytes left r =
        let b = be r.value r.fits in
        let is : r.value ≡ size b.example = sym (sure r.value b.example b.lawful) in
        let P : ℕ → Type 0 = λ n. count.Fits n × (body n).Fits b.example in
        record {
          front = r.front;
          behind = r.behind;
          split = r.split;
          place = r.place;
          value = b.example;
          fits = subst P is (r.fits, b.lawful);
          more = r.more ++ (body (size b.example)).write b.example;
          goes_on = ap (λ n. count.write n ++ (body (size b.example)).write b.example) (sym is) ∙ ap (λ bs. bs ++ (body (size b.example)).write b.example) r.goes_on ∙ append_assoc r.front r.more ((body (size b.example)).write b.example);
          wrong = λ b after other at. rw (r.wrong b after other at) refl;
        }

    right_part : {A : Type 0} (count : Codec ℕ) (body : ℕ → Codec A) (size : A → ℕ) → ((n : ℕ) (a : A) → (body n).Fits a → size a ≡ n) → Exact count → (bytes : List ℕ) (n : ℕ) (rest : List ℕ) (left : ℕ) → count.Fits n × (bytes ≡ count.write n ++ rest) → Refused (body n) rest left → Refused (sized count body size) bytes left
    right_part {A = A} count body size sure ce bytes n rest left o r =
        let is : n ≡ size r.value = sym (sure n r.value r.fits) in
        let P : ℕ → Type 0 = λ m. count.Fits m × (body m).Fits r.value in
        record {
          front = count.write n ++ r.front;
          behind = r.behind;
          split = o.1 ∙ ap (λ bs. count.write n ++ bs) r.split ∙ sym (append_assoc (count.write n) r.front r.behind);
          place = r.place;
          value = r.value;
          fits = subst P is (o.0, r.fits);
          more = r.more;
          goes_on = ap (λ m. count.write m ++ (body m).write r.value) (sym is) ∙ ap (λ bs. count.write n ++ bs) r.goes_on ∙ sym (append_assoc (count.write n) r.front r.more);
          wrong = λ b after other at. (let e : (count.write n ++ r.front) ++ (b ∷ other) ≡ count.write n ++ (r.front ++ (b ∷ other)) = append_assoc (count.write n) r.front (b ∷ other) in
              rw e (rw (ce.again n (r.front ++ (b ∷ other)) o.0) (r.wrong b after other at)));
        }

pub sized_exact : {A : Type 0} (count : Codec ℕ) (body : ℕ → Codec A) (size : A → ℕ) → ((n : ℕ) (a : A) → (body n).Fits a → size a ≡ n) → Exact count → ((n : ℕ) → count.Fits n → Exact (body n)) → Exact (sized count body size)
sized_exact count body size sure ce be =
    let b = be ce.example ce.lawful in
    let is : ce.example ≡ size b.example = sym (sure ce.example b.example b.lawful) in
    let P : ℕ → Type 0 = λ n. count.Fits n × (body n).Fits b.example in
    record {
      example = b.example;
      lawful = subst P is (ce.lawful, b.lawful);
      again = sized_again count body size ce be;
      only = sized_only count body size sure ce be;
      first = sized_first count body size sure ce be;
    }
