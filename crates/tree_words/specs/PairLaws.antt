-- One value and then the other: the law.
use Rattle.std.specs.Prelude.{◌≡◌, ℕ, List, ◌∷◌, ◌++◌, Ok, Err}
use Rattle.std.proofs.Common.{inl, inr, refl, sym, ap, subst, ◌∙◌, append_assoc}
use Rattle.tree_words.specs.Codec.{Codec, Reading, ◌>>=◌}
use Rattle.tree_words.specs.Words.{both}
use Rattle.tree_words.specs.Exact.{Refused, Exact}
use Rattle.tree_words.specs.Steps.{bind_ok, bind_err, ok_value, ok_err}

abbrev paired : {A B : Type 0} → A → B × List ℕ → Reading (A × B)
paired a y = Ok ((a, y.0), y.1)

both_again : {A B : Type 0} (c : Codec A) (d : Codec B) → Exact c → Exact d → (p : A × B) (rest : List ℕ) → (both c d).Fits p → (both c d).read ((both c d).write p ++ rest) ≡ Ok (p, rest)
both_again c d ce de p rest f =
    let at : (c.write p.0 ++ d.write p.1) ++ rest ≡ c.write p.0 ++ (d.write p.1 ++ rest) = append_assoc (c.write p.0) (d.write p.1) rest in
    rw at (rw (ce.again p.0 (d.write p.1 ++ rest) f.0) (rw (de.again p.1 rest f.1) refl))

pub pair_read : {A B : Type 0} (c : Codec A) (d : Codec B) (bytes mid rest : List ℕ) (a : A) (b : B) → c.read bytes ≡ Ok (a, mid) → d.read mid ≡ Ok (b, rest) → (both c d).read bytes ≡ Ok ((a, b), rest)
pair_read c d bytes mid rest a b e f = rw e (rw f refl)

both_only : {A B : Type 0} (c : Codec A) (d : Codec B) → Exact c → Exact d → (bytes : List ℕ) (p : A × B) (rest : List ℕ) → (both c d).read bytes ≡ Ok (p, rest) → (both c d).Fits p × (bytes ≡ (both c d).write p ++ rest)
both_only {A = A} {B = B} c d ce de bytes p rest e =
    let s = bind_ok (c.read bytes) (λ x. d.read x.1 >>= paired x.0) (p, rest) e in
    let t = bind_ok (d.read s.0.1) (paired s.0.0) (p, rest) s.2 in
    let v = ok_value ((s.0.0, t.0.0), t.0.1) (p, rest) t.2 in
    let one = ce.only bytes s.0.0 s.0.1 s.1 in
    let two = de.only s.0.1 t.0.0 t.0.1 t.1 in
    let P : A × B → Type 0 = λ q. (both c d).Fits q in
    let fits : (both c d).Fits p = subst P v.0 (one.0, two.0) in
    let bytes_are : bytes ≡ (c.write s.0.0 ++ d.write t.0.0) ++ t.0.1 = one.1 ∙ ap (λ bs. c.write s.0.0 ++ bs) two.1 ∙ sym (append_assoc (c.write s.0.0) (d.write t.0.0) t.0.1) in
    (fits, bytes_are ∙ ap (λ q. (both c d).write q ++ t.0.1) v.0 ∙ ap (λ bs. (both c d).write p ++ bs) v.1)

both_first : {A B : Type 0} (c : Codec A) (d : Codec B) → Exact c → Exact d → (bytes : List ℕ) (left : ℕ) → (both c d).read bytes ≡ Err left → Refused (both c d) bytes left
both_first c d ce de bytes left e =
    elim (bind_err (c.read bytes) (λ x. d.read x.1 >>= paired x.0) left e) [
      | inl r ↦ both_first_left c d de bytes left (ce.first bytes left r)
      | inr s ↦ elim (bind_err (d.read s.0.1) (paired s.0.0) left s.2) [
        | inl r ↦ both_first_right c d ce bytes s.0.0 s.0.1 left (ce.only bytes s.0.0 s.0.1 s.1) (de.first s.0.1 left r)
        | inr t ↦ absurd (ok_err ((s.0.0, t.0.0), t.0.1) left t.2)
      ]
    ]
  where
    both_first_left : {A B : Type 0} (c : Codec A) (d : Codec B) → Exact d → (bytes : List ℕ) (left : ℕ) → Refused c bytes left → Refused (both c d) bytes left
    both_first_left c d de bytes left r = record {
      front = r.front;
      behind = r.behind;
      split = r.split;
      place = r.place;
      value = (r.value, de.example);
      fits = (r.fits, de.lawful);
      more = r.more ++ d.write de.example;
      goes_on = ap (λ bs. bs ++ d.write de.example) r.goes_on ∙ append_assoc r.front r.more (d.write de.example);
      wrong = λ b after other is. rw (r.wrong b after other is) refl;
    }

    both_first_right : {A B : Type 0} (c : Codec A) (d : Codec B) → Exact c → (bytes : List ℕ) (a : A) (rest : List ℕ) (left : ℕ) → c.Fits a × (bytes ≡ c.write a ++ rest) → Refused d rest left → Refused (both c d) bytes left
    both_first_right c d ce bytes a rest left o r = record {
      front = c.write a ++ r.front;
      behind = r.behind;
      split = o.1 ∙ ap (λ bs. c.write a ++ bs) r.split ∙ sym (append_assoc (c.write a) r.front r.behind);
      place = r.place;
      value = (a, r.value);
      fits = (o.0, r.fits);
      more = r.more;
      goes_on = ap (λ bs. c.write a ++ bs) r.goes_on ∙ sym (append_assoc (c.write a) r.front r.more);
      wrong = λ b after other is. (let at : (c.write a ++ r.front) ++ (b ∷ other) ≡ c.write a ++ (r.front ++ (b ∷ other)) = append_assoc (c.write a) r.front (b ∷ other) in
          rw at (rw (ce.again a (r.front ++ (b ∷ other)) o.0) (rw (r.wrong b after other is) refl)));
    }

pub both_exact : {A B : Type 0} (c : Codec A) (d : Codec B) → Exact c → Exact d → Exact (both c d)
both_exact c d ce de = record {
  example = (ce.example, de.example);
  lawful = (ce.lawful, de.lawful);
  again = both_again c d ce de;
  only = both_only c d ce de;
  first = both_first c d ce de;
}
