-- Things at places, in the order of their places.
use Rattle.std.proofs.Common.{◌≡◌, ◌⊎◌, inl, inr, refl, sym, ap, ap₂, ◌∙◌, ◌+◌, ◌<◌, ◌≤◌, Bool, true, false, List, [], ◌∷◌, ◌++◌, filter, find, Option, Some, None, arith, if◌then◌else◌}
use Rattle.std.proofs.lemmas.Bool.Decides.{nat_tests}
use Rattle.calculus.specs.declared.probe.Place.{Place}
use Rattle.am_traits.specs.Placed.{is_place, is_from}

-- the place of the next line
abbrev pub next_line : Place → Place
next_line at = record { page = at.page; line = at.line + 1 }

-- b is a, or lies behind it
abbrev pub From : Place → Place → Type 0
From a b = (a.page < b.page) ⊎ ((a.page ≡ b.page) × (a.line ≤ b.line))

pub from_decides : (a b : Place) → is_from a b ≡ true → From a b
from_decides a b e = grind (arith, nat_tests)

pub from_holds : (a b : Place) → From a b → is_from a b ≡ true
from_holds a b h = grind (arith, nat_tests)

pub not_from : (a b : Place) → From (next_line b) a → is_from a b ≡ false
not_from a b h = grind (arith, nat_tests)

pub from_trans : (a b c : Place) → From a b → From b c → From a c
from_trans a b c h k = grind arith

pub from_step : (a b : Place) → From (next_line a) b → From a b
from_step a b h = grind arith

pub from_same : (a : Place) → From a a
from_same a = grind arith

pub place_not : (a b : Place) → From (next_line b) a → is_place a b ≡ false
place_not a b h = grind (arith, nat_tests)

pub place_not_before : (a b : Place) → From (next_line a) b → is_place a b ≡ false
place_not_before a b h = grind (arith, nat_tests)

pub place_is : (a b : Place) → a.page ≡ b.page → a.line ≡ b.line → is_place a b ≡ true
place_is a b e f = grind (arith, nat_tests)

-- a lies before b, at it, or behind it
pub either : (a b : Place) → From (next_line a) b ⊎ (((a.page ≡ b.page) × (a.line ≡ b.line)) ⊎ From (next_line b) a)
either a b = grind arith

module _ {T : Type 0} where
  -- the things are in order, from one place on and before another
  abbrev pub LieTo : Place → Place → List (Place × T) → Type 0
  LieTo a b [] = From a b
  LieTo a b (r ∷ rs) = From a r.0 × LieTo (next_line r.0) b rs

  pub lie_bounds : (a b : Place) (rs : List (Place × T)) → LieTo a b rs → From a b
  lie_bounds a b [] h = h
  lie_bounds a b (r ∷ rs) h = from_trans a r.0 b h.0 (from_step r.0 b (lie_bounds (next_line r.0) b rs h.1))

  pub lie_sooner : (a b c : Place) (rs : List (Place × T)) → From a b → LieTo b c rs → LieTo a c rs
  lie_sooner a b c [] h l = from_trans a b c h l
  lie_sooner a b c (r ∷ rs) h l = (from_trans a b r.0 h l.0, l.1)

  pub lie_later : (a b c : Place) (rs : List (Place × T)) → From b c → LieTo a b rs → LieTo a c rs
  lie_later a b c [] h l = from_trans a b c l h
  lie_later a b c (r ∷ rs) h l = (l.0, lie_later (next_line r.0) b c rs h l.1)

  pub lie_append : (a b c : Place) (xs ys : List (Place × T)) → LieTo a b xs → LieTo b c ys → LieTo a c (xs ++ ys)
  lie_append a b c [] ys h l = lie_sooner a b c ys h l
  lie_append a b c (x ∷ xs) ys h l = (h.0, lie_append (next_line x.0) b c xs ys h.1 l)

  -- the things from a place on
  abbrev pub from_place : Place → List (Place × T) → List (Place × T)
  from_place at rs = filter (λ r. is_from at r.0) rs

  -- the first thing at a place
  abbrev pub at_place : Place → List (Place × T) → Option (Place × T)
  at_place at rs = find (λ r. is_place r.0 at) rs

  -- one thing or none, as a list
  abbrev pub as_list : Option (Place × T) → List (Place × T)
  as_list None = []
  as_list (Some r) = r ∷ []

  passed : (p : Place × T → Bool) (r : Place × T) (rs : List (Place × T)) → p r ≡ true → filter p (r ∷ rs) ≡ r ∷ filter p rs
  passed p r rs e = ap (λ b. if b then r ∷ filter p rs else filter p rs) e

  left_out : (p : Place × T → Bool) (r : Place × T) (rs : List (Place × T)) → p r ≡ false → filter p (r ∷ rs) ≡ filter p rs
  left_out p r rs e = ap (λ b. if b then r ∷ filter p rs else filter p rs) e

  found : (p : Place × T → Bool) (r : Place × T) (rs : List (Place × T)) → p r ≡ true → find p (r ∷ rs) ≡ Some r
  found p r rs e = ap (λ b. if b then Some r else find p rs) e

  passed_over : (p : Place × T → Bool) (r : Place × T) (rs : List (Place × T)) → p r ≡ false → find p (r ∷ rs) ≡ find p rs
  passed_over p r rs e = ap (λ b. if b then Some r else find p rs) e

  -- all lie behind the place
  pub all_from : (at a b : Place) (rs : List (Place × T)) → From at a → LieTo a b rs → from_place at rs ≡ rs
  all_from at a b [] h l = refl
  all_from at a b (r ∷ rs) h l =
      let here = from_trans at a r.0 h l.0 in
      passed (λ r. is_from at r.0) r rs (from_holds at r.0 here)
      ∙ ap (λ xs. r ∷ xs) (all_from at (next_line r.0) b rs (from_trans at r.0 (next_line r.0) here (from_step r.0 (next_line r.0) (from_same (next_line r.0)))) l.1)

  -- none is at a place before them
  pub none_before : (at a b : Place) (rs : List (Place × T)) → From (next_line at) a → LieTo a b rs → at_place at rs ≡ None
  none_before at a b [] h l = refl
  none_before at a b (r ∷ rs) h l =
      let here = from_trans (next_line at) a r.0 h l.0 in
      passed_over (λ r. is_place r.0 at) r rs (place_not r.0 at here)
      ∙ none_before at (next_line r.0) b rs (from_trans (next_line at) r.0 (next_line r.0) here (from_step r.0 (next_line r.0) (from_same (next_line r.0)))) l.1

  -- all lie before the place
  pub none_from : (at a b : Place) (rs : List (Place × T)) → From b at → LieTo a b rs → from_place at rs ≡ []
  none_from at a b [] h l = refl
  none_from at a b (r ∷ rs) h l =
      left_out (λ r. is_from at r.0) r rs (not_from at r.0 (from_trans (next_line r.0) b at (lie_bounds (next_line r.0) b rs l.1) h))
      ∙ none_from at (next_line r.0) b rs h l.1

  -- none is at a place behind them
  pub none_behind : (at a b : Place) (rs : List (Place × T)) → From b at → LieTo a b rs → at_place at rs ≡ None
  none_behind at a b [] h l = refl
  none_behind at a b (r ∷ rs) h l =
      passed_over (λ r. is_place r.0 at) r rs (place_not_before r.0 at (from_trans (next_line r.0) b at (lie_bounds (next_line r.0) b rs l.1) h))
      ∙ none_behind at (next_line r.0) b rs h l.1

  -- those from a place on are the one at the place, and those from the next line on
  pub one_line : (at a b : Place) (rs : List (Place × T)) → LieTo a b rs → from_place at rs ≡ as_list (at_place at rs) ++ from_place (next_line at) rs
  one_line at a b [] l = refl
  one_line at a b (r ∷ rs) l = by_order (one_line at (next_line r.0) b rs l.1) (either r.0 at)
    where
      Split : List (Place × T) → Type 0
      Split xs = from_place at xs ≡ as_list (at_place at xs) ++ from_place (next_line at) xs

      before : Split rs → From (next_line r.0) at → Split (r ∷ rs)
      before rest h =
          left_out (λ r. is_from at r.0) r rs (not_from at r.0 h) ∙ rest
          ∙ ap₂ (λ o xs. as_list o ++ xs) (sym (passed_over (λ r. is_place r.0 at) r rs (place_not_before r.0 at h)))
          (sym (left_out (λ r. is_from (next_line at) r.0) r rs (not_from (next_line at) r.0 (from_trans (next_line r.0) at (next_line at) h (from_step at (next_line at) (from_same (next_line at)))))))

      same : r.0.page ≡ at.page → r.0.line ≡ at.line → Split (r ∷ rs)
      same e f =
          let next : From (next_line at) (next_line r.0) = grind arith in
          let here : From at r.0 = grind arith in
          passed (λ r. is_from at r.0) r rs (from_holds at r.0 here)
          ∙ ap (λ xs. r ∷ xs) (all_from at (next_line r.0) b rs (from_step at (next_line r.0) next) l.1
          ∙ sym (all_from (next_line at) (next_line r.0) b rs next l.1)
          ∙ sym (left_out (λ r. is_from (next_line at) r.0) r rs (not_from (next_line at) r.0 (grind arith))))
          ∙ ap (λ o. as_list o ++ from_place (next_line at) (r ∷ rs)) (sym (found (λ r. is_place r.0 at) r rs (place_is r.0 at e f)))

      after : From (next_line at) r.0 → Split (r ∷ rs)
      after h =
          let on = from_trans (next_line at) r.0 (next_line r.0) h (from_step r.0 (next_line r.0) (from_same (next_line r.0))) in
          passed (λ r. is_from at r.0) r rs (from_holds at r.0 (from_step at r.0 h))
          ∙ ap (λ xs. r ∷ xs) (all_from at (next_line r.0) b rs (from_step at (next_line r.0) on) l.1 ∙ sym (all_from (next_line at) (next_line r.0) b rs on l.1))
          ∙ sym (passed (λ r. is_from (next_line at) r.0) r rs (from_holds (next_line at) r.0 h))
          ∙ ap (λ o. as_list o ++ from_place (next_line at) (r ∷ rs)) (sym (passed_over (λ r. is_place r.0 at) r rs (place_not r.0 at h) ∙ none_before at (next_line r.0) b rs on l.1))

      by_order : Split rs → From (next_line r.0) at ⊎ (((r.0.page ≡ at.page) × (r.0.line ≡ at.line)) ⊎ From (next_line at) r.0) → Split (r ∷ rs)
      by_order rest (inl h) = before rest h
      by_order rest (inr (inl h)) = same h.0 h.1
      by_order rest (inr (inr h)) = after h
