-- Bytes that are one spelling, and those that aren't: the laws.
use Rattle.std.specs.Prelude.{◌≡◌, ℕ, suc, ◌+◌, ◌-◌, ◌<◌, ◌≤◌, List, [], ◌∷◌, ◌++◌, length, take, Result, Ok, Err}
use Rattle.std.proofs.Common.{refl, sym, ap, subst, ◌∙◌, append_assoc, arith, length-append}
use Rattle.tree_words.specs.Codec.{Codec, Reading}
use Rattle.tree_words.specs.Exact.{Exact, Refused}
use Rattle.std.specs.Prelude.{IfOk, IfErr}
use Rattle.tree_words.specs.declared.fault.Fault.{Fault}
use Rattle.tree_words.specs.declared.fault.Fault.TheVariants as faults
use Rattle.tree_words.specs.Whole.{ended, whole, reads_whole, FirstWrong, ReadsWhole, Answers, Refuses}
use Rattle.tree_words.proofs.Fronts.{append_none, take_front, take_one_more}
use Rattle.tree_words.specs.Steps.{ok_value, ok_err}

ended_ok : {A : Type 0} (a : A) (rest : List ℕ) (b : A) → ended a rest ≡ Ok b → (a ≡ b) × (rest ≡ [])
ended_ok a [] b e = (cc, refl)
ended_ok a (x ∷ rest) b e = absurd cc

whole_ok : {A : Type 0} (r : Reading A) (b : A) → whole r ≡ Ok b → r ≡ Ok (b, [])
whole_ok (Ok x) b e = let v = ended_ok x.0 x.1 b e in rw (← v.0) (ap (λ bs. Ok (x.0, bs)) v.1)
whole_ok (Err left) b e = absurd cc

pub all_found : {A : Type 0} (c : Codec A) → Exact c → (bytes : List ℕ) (a : A) → reads_whole c bytes ≡ Ok a → c.Fits a × (bytes ≡ c.write a)
unfolding reads_whole
all_found c ce bytes a e = let o = ce.only bytes a [] (whole_ok (c.read bytes) a e) in (o.0, o.1 ∙ append_none (c.write a))

read_alone : {A : Type 0} (c : Codec A) → Exact c → (a : A) → c.Fits a → c.read (c.write a) ≡ Ok (a, [])
read_alone c ce a f = ap c.read (sym (append_none (c.write a))) ∙ ce.again a [] f

pub all_only : {A : Type 0} (c : Codec A) → Exact c → (bytes : List ℕ) (a : A) → c.Fits a → bytes ≡ c.write a → reads_whole c bytes ≡ Ok a
unfolding reads_whole
all_only c ce bytes a f e = rw e (rw (read_alone c ce a f) refl)

-- where reading stops
record Stops {A : Type 0} (c : Codec A) (bytes : List ℕ) (left : ℕ) : Type 0 where
  front : List ℕ
  behind : List ℕ
  split : bytes ≡ front ++ behind
  place : left ≡ length behind
  begun : (a : A) × (more : List ℕ) × c.Fits a × (c.write a ≡ front ++ more)
  wrong : (b : ℕ) (after more : List ℕ) (a : A) → behind ≡ b ∷ after → c.Fits a → c.write a ≡ front ++ (b ∷ more) → ⊥

stops_refused : {A : Type 0} (c : Codec A) → Exact c → (bytes : List ℕ) (left : ℕ) → Refused c bytes left → Stops c bytes left
stops_refused {A = A} c ce bytes left r = record {
  front = r.front;
  behind = r.behind;
  split = r.split;
  place = r.place;
  begun = (r.value, r.more, r.fits, r.goes_on);
  wrong = λ b after more a is f e. ok_err (a, []) (suc (length more)) (sym (read_alone c ce a f) ∙ ap c.read e ∙ r.wrong b after more is);
}

stops_early : {A : Type 0} (c : Codec A) → Exact c → (bytes : List ℕ) (a : A) (b : ℕ) (rest : List ℕ) → c.read bytes ≡ Ok (a, b ∷ rest) → Stops c bytes (suc (length rest))
stops_early {A = A} c ce bytes a b rest e = let o = ce.only bytes a (b ∷ rest) e in record {
  front = c.write a;
  behind = b ∷ rest;
  split = o.1;
  place = refl;
  begun = (a, [], o.0, sym (append_none (c.write a)));
  wrong = λ d after more x is f g. (let v = ok_value (x, []) (a, d ∷ more) (sym (read_alone c ce x f) ∙ ap c.read g ∙ ce.again a (d ∷ more) o.0) in nil_cons d more v.1);
}
  where
    nil_cons : (d : ℕ) (more : List ℕ) → [] ≡ d ∷ more → ⊥
    nil_cons d more e = cc

stops : {A : Type 0} (c : Codec A) → Exact c → (bytes : List ℕ) (left : ℕ) (r : Reading A) → c.read bytes ≡ r → whole r ≡ Err left → Stops c bytes left
stops c ce bytes left (Ok x) e w = after_value c ce bytes left x.0 x.1 e w
  where
    after_value : {A : Type 0} (c : Codec A) → Exact c → (bytes : List ℕ) (left : ℕ) (a : A) (rest : List ℕ) → c.read bytes ≡ Ok (a, rest) → ended a rest ≡ Err left → Stops c bytes left
    after_value c ce bytes left a [] e w = absurd cc
    after_value c ce bytes left a (b ∷ rest) e w = let k : suc (length rest) ≡ left = cc in subst (λ n. Stops c bytes n) k (stops_early c ce bytes a b rest e)
stops {A = A} c ce bytes left (Err l) e w = let k : l ≡ left = cc in stops_refused c ce bytes left (ce.first bytes left (e ∙ ap (λ n. let r : Reading A = Err n in r) k))

some_behind : (xs : List ℕ) → 0 < length xs → (b : ℕ) × (after : List ℕ) × (xs ≡ b ∷ after)
some_behind [] h = absurd (omega arith)
some_behind (x ∷ xs) h = (x, xs, refl)

first_wrong : {A : Type 0} (c : Codec A) (bytes : List ℕ) (left : ℕ) → ((a : A) → c.Fits a → c.write a ≡ bytes → ⊥) → Stops c bytes left → (left ≤ length bytes) × FirstWrong c bytes (length bytes - left)
first_wrong {A = A} c bytes left none s =
    let total : length bytes ≡ length s.front + left = ap length s.split ∙ length-append s.front s.behind ∙ ap (λ n. length s.front + n) (sym s.place) in
    let at : length bytes - left ≡ length s.front = omega arith in
    let front_is : take (length bytes - left) bytes ≡ s.front = ap (λ n. take n bytes) at ∙ ap (λ bs. take (length s.front) bs) s.split ∙ take_front s.front s.behind in (
      omega arith,
      record {
        inside = omega arith;
        begun = (s.begun.0, s.begun.1, s.begun.2, s.begun.3 ∙ ap (λ bs. bs ++ s.begun.1) (sym front_is));
        wrong = λ h a more f e. (
            let b = some_behind s.behind (let p : left ≡ length s.behind = s.place in omega arith) in
            let here : take (suc (length bytes - left)) bytes ≡ s.front ++ (b.0 ∷ []) = ap (λ n. take (suc n) bytes) at ∙ ap (λ bs. take (suc (length s.front)) bs) (s.split ∙ ap (λ bs. s.front ++ bs) b.2) ∙ take_one_more s.front b.0 b.1 in
            s.wrong b.0 b.1 more a b.2 f (e ∙ ap (λ bs. bs ++ more) here ∙ append_assoc s.front (b.0 ∷ []) more));
        no_spelling = none;
      },
    )

all_opened : {A : Type 0} (c : Codec A) (bytes : List ℕ) (left : ℕ) → reads_whole c bytes ≡ Err left → whole (c.read bytes) ≡ Err left
unfolding reads_whole
all_opened c bytes left e = e

pub all_first : {A : Type 0} (c : Codec A) → Exact c → (bytes : List ℕ) (left : ℕ) → reads_whole c bytes ≡ Err left → (left ≤ length bytes) × FirstWrong c bytes (length bytes - left)
all_first {A = A} c ce bytes left e = first_wrong c bytes left (λ a f g. both_ways a left (sym (all_only c ce bytes a f (sym g)) ∙ e)) (stops c ce bytes left (c.read bytes) refl (all_opened c bytes left e))
  where
    both_ways : {A : Type 0} (a : A) (left : ℕ) → let l : Result A ℕ = Ok a in let r : Result A ℕ = Err left in l ≡ r → ⊥
    both_ways a left e = cc

-- what a call answers that reads the whole
pub answer_found : {A : Type 0} (c : Codec A) → Exact c → (bytes : List ℕ) (r : Result A Fault) → ReadsWhole r (reads_whole c bytes) → IfOk r (λ t. c.Fits t × (bytes ≡ c.write t))
answer_found c ce bytes (Ok a) e = all_found c ce bytes a e
answer_found c ce bytes (Err e) f = tt

pub answer_only : {A : Type 0} (c : Codec A) → Exact c → (bytes : List ℕ) (r : Result A Fault) → ReadsWhole r (reads_whole c bytes) → (t : A) → c.Fits t → bytes ≡ c.write t → Answers r t
answer_only {A = A} c ce bytes (Ok a) e t f is = same a t (sym e ∙ all_only c ce bytes t f is)
  where
    same : {A : Type 0} (a b : A) → let l : Result A ℕ = Ok a in let r : Result A ℕ = Ok b in l ≡ r → a ≡ b
    same a b e = cc
answer_only {A = A} c ce bytes (Err (faults.Wrong left)) e t f is = either t left (sym (all_only c ce bytes t f is) ∙ e)
  where
    either : {A : Type 0} (a : A) (left : ℕ) → let l : Result A ℕ = Ok a in let r : Result A ℕ = Err left in l ≡ r → ⊥
    either a left e = cc
answer_only c ce bytes (Err faults.OutOfMemory) e t f is = tt

pub answer_first : {A : Type 0} (c : Codec A) → Exact c → (bytes : List ℕ) (r : Result A Fault) → ReadsWhole r (reads_whole c bytes) → IfErr r (Refuses c bytes)
answer_first c ce bytes (Ok a) e = tt
answer_first c ce bytes (Err (faults.Wrong left)) e = all_first c ce bytes left e
answer_first c ce bytes (Err faults.OutOfMemory) e = tt
