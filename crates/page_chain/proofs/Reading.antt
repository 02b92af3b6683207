-- How many pages are read as a chain is walked.
use Rattle.std.proofs.Common.{◌≡◌, refl, sym, ap, ◌∙◌, ℕ, zero, suc, ◌+◌, ◌<◌, List, [], ◌∷◌, length, Option, Some, None, arith}
use Rattle.std.specs.Prelude.{option_map}
use Rattle.std.proofs.lemmas.Option.{none-some, same_Some}
use Rattle.disk_model.specs.Disk.{RisesUpTo}
use Rattle.page_chain.specs.Chains.{chain, chain_from}
use Rattle.page_chain.specs.Pages.{Pages, next_of}

-- Of a chain so many pages were read, and what is left of it begins at this page.
pub record IsCounted (bound : ℕ) (pages : Pages) (numbers : List ℕ) (at before now : ℕ) : Type 0 where
  pub read : ℕ
  pub most : ℕ
  pub rest : List ℕ
  pub rose : RisesUpTo read before now
  pub goes_on : chain_from most bound pages at ≡ Some rest
  pub in_all : read + length rest ≡ length numbers

pub count_starts : (bound : ℕ) (pages : Pages) (numbers : List ℕ) (n : ℕ) → chain bound pages ≡ Some numbers → IsCounted bound pages numbers 0 n n
unfolding chain
count_starts bound pages numbers n is = record {
  read = 0;
  most = bound;
  rest = numbers;
  rose = record { later = omega arith; at_most = omega arith };
  goes_on = is;
  in_all = omega arith;
}

-- a list that something stands before
one_more : (at : ℕ) (o : Option (List ℕ)) (rest : List ℕ) → option_map (λ rest. at ∷ rest) o ≡ Some rest → (more : List ℕ) × (o ≡ Some more) × (length rest ≡ suc (length more))
one_more at None rest is = absurd (none-some rest is)
one_more at (Some more) rest is = (more, refl, sym (ap length (same_Some (at ∷ more) rest is)))

-- the page that the chain goes on with is one of it
some_left : (most bound : ℕ) (pages : Pages) (at : ℕ) (rest : List ℕ) → chain_from most bound pages at ≡ Some rest → 0 < length rest
some_left zero bound pages at rest is = absurd (none-some rest is)
some_left (suc most) bound pages at rest is = go (next_of bound at (pages at)) is
  where
    go : (o : Option ℕ) → (elim o as (λ (o : Option ℕ). Option (List ℕ)) [ None ↦ None | Some zero ↦ Some (at ∷ []) | Some (suc next) ↦ option_map (λ rest. at ∷ rest) (chain_from most bound pages (suc next)) ]) ≡ Some rest → 0 < length rest
    go None is = absurd (none-some rest is)
    go (Some zero) is = let e : length rest ≡ 1 = sym (ap length (same_Some (at ∷ []) rest is)) in omega (arith, e)
    go (Some (suc next)) is = let its = one_more at (chain_from most bound pages (suc next)) rest is in let e = its.2 in omega (arith, e)

module _ (bound : ℕ) (pages : Pages) (numbers : List ℕ) (at before mid now : ℕ) (counted : IsCounted bound pages numbers at before mid) (one : RisesUpTo 1 mid now) where
  -- the page was read, and another follows
  pub count_more : (next : ℕ) → 0 < next → next_of bound at (pages at) ≡ Some next → IsCounted bound pages numbers next before now
  count_more zero some follows = absurd (omega arith)
  count_more (suc next) some follows = go counted.most counted.goes_on
    where
      rose : RisesUpTo (counted.read + 1) before now
      rose = let a = counted.rose.later in let b = counted.rose.at_most in let c = one.later in let d = one.at_most in record { later = omega arith; at_most = omega arith }

      go : (most : ℕ) → chain_from most bound pages at ≡ Some counted.rest → IsCounted bound pages numbers (suc next) before now
      go zero is = absurd (none-some counted.rest is)
      go (suc most) is = on (next_of bound at (pages at)) follows is
        where
          on : (o : Option ℕ) → o ≡ Some (suc next) → (elim o as (λ (o : Option ℕ). Option (List ℕ)) [ None ↦ None | Some zero ↦ Some (at ∷ []) | Some (suc next) ↦ option_map (λ rest. at ∷ rest) (chain_from most bound pages (suc next)) ]) ≡ Some counted.rest
              → IsCounted bound pages numbers (suc next) before now
          on None e is = absurd (none-some (suc next) e)
          on (Some zero) e is = let no : 0 ≡ suc next = same_Some 0 (suc next) e in absurd (omega (arith, no))
          on (Some (suc k)) e is =
              let its = one_more at (chain_from most bound pages (suc k)) counted.rest is in
              let all = counted.in_all in
              record {
                read = counted.read + 1;
                most = most;
                rest = its.0;
                rose = rose;
                goes_on = sym (ap (chain_from most bound pages) (same_Some (suc k) (suc next) e)) ∙ its.1;
                in_all = let more = its.2 in omega (arith, all, more);
              }

  -- the page was read, and no more are
  pub count_ends : RisesUpTo (length numbers) before now
  count_ends =
      let some = some_left counted.most bound pages at counted.rest counted.goes_on in
      let all = counted.in_all in let a = counted.rose.later in let b = counted.rose.at_most in let c = one.later in let d = one.at_most in
      record { later = omega arith; at_most = omega arith }
