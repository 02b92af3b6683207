-- Which items of a list go and which come, where each item of another list gives one.
use Rattle.std.proofs.Common.{◌≡◌, refl, sym, ap, subst, ◌∙◌, true≢false, inl, inr, Bool, true, false, not, List, [], ◌∷◌, ◌++◌, map, filter}
use Rattle.std.specs.Prelude.{◌⊎◌}
use Rattle.std.specs.List.{AllByRecursion}
use Rattle.std.specs.declared.cmp.Ordering.{Ordering}
use Rattle.std.specs.declared.cmp.Ordering.TheVariants.{Equal}
use Rattle.calculus.specs.Lists.{insert_by}
use Rattle.std.proofs.lemmas.List.{append-nil}
use Rattle.stored_database.proofs.Members.{IsIn, of_all, all_of, in_first, in_second, in_either, in_filter, filter_in, in_map, map_in, apart_same}
use Rattle.stored_database.proofs.Pairs.{Pairs, pairs_apart, pairs_unmap, pairs_behind, pairs_append, pairs_map, pairs_filter}
use Rattle.stored_database.proofs.Sets.{insert_in, in_insert}
use Rattle.stored_database.proofs.Moved.{Moved}

-- tests that fail
failed : (b : Bool) → not b ≡ true → b ≡ false
failed true e = sym e
failed false e = refl

fails : (b : Bool) → b ≡ false → not b ≡ true
fails b e = ap not e

-- it doesn't pass
abbrev besides : {Y : Type 0} → (Y → Bool) → Y → Bool
besides at y = not (at y)

-- what doesn't pass is among the rest
pub among_rest : {Y : Type 0} (at : Y → Bool) (ys : List Y) (y : Y) → IsIn y ys → at y ≡ false → IsIn y (filter (λ y. not (at y)) ys)
among_rest at ys y i off = in_filter (besides at) ys y i (fails (at y) off)

-- nothing more goes, or comes
pub no_more_go : {X : Type 0} {same : X → X → Bool} {o g c n : List X} → Moved same o (g ++ []) c n → Moved same o g c n
no_more_go {X} {same} {o} {g} {c} {n} = subst (λ l. Moved same o l c n) (append-nil g)

pub no_more_come : {X : Type 0} {same : X → X → Bool} {o g c n : List X} → Moved same o g (c ++ []) n → Moved same o g c n
no_more_come {X} {same} {o} {g} {c} {n} = subst (λ l. Moved same o g l n) (append-nil c)

-- a list of which nothing is changed
as_it_is : {Y : Type 0} (ys : List Y) → map (λ (y : Y). y) ys ≡ ys
as_it_is [] = refl
as_it_is (y ∷ ys) = ap (λ l. y ∷ l) (as_it_is ys)

module _ {X : Type 0} (same : X → X → Bool) (itself : (x : X) → same x x ≡ true) (turned : (x y : X) → same x y ≡ same y x) where
  abbrev Differ : List X → Type 0
  Differ = Pairs (λ x y. same x y ≡ false)

  -- items that give the same are one, where what they give differs
  one : {Y : Type 0} (h : Y → X) (ys : List Y) → Differ (map h ys) → (y z : Y) → IsIn y ys → IsIn z ys → h y ≡ h z → y ≡ z
  one h ys differ y z at bt e =
      apart_same (λ y z. same (h y) (h z)) (λ y z e. turned (h z) (h y) ∙ e) ys y z
      (pairs_apart (λ y z. same (h y) (h z)) ys (pairs_unmap (λ x y. same x y ≡ false) h ys differ)) at bt (ap (same (h y)) (sym e) ∙ itself (h y))

  -- of lists behind each other that differ, no item is in both
  in_one : (xs ys : List X) → Differ (xs ++ ys) → (x : X) → IsIn x xs → IsIn x ys → ⊥
  in_one [] ys differ x at bt = at
  in_one (y ∷ xs) ys differ x (inl e) bt =
      true≢false (sym (itself x) ∙ ap (λ z. same z x) e ∙ of_all (λ z. same y z ≡ false) (xs ++ ys) x differ.0 (in_second xs ys x bt))
  in_one (y ∷ xs) ys differ x (inr at) bt = in_one xs ys differ.1 x at bt

  -- and an item of the one differs from one of the other
  crossing : (xs ys : List X) → Differ (xs ++ ys) → (x y : X) → IsIn x xs → IsIn y ys → same x y ≡ false
  crossing [] ys differ x y at bt = absurd at
  crossing (z ∷ xs) ys differ x y (inl e) bt = ap (λ z. same z y) e ∙ of_all (λ y. same z y ≡ false) (xs ++ ys) y differ.0 (in_second xs ys y bt)
  crossing (z ∷ xs) ys differ x y (inr at) bt = crossing xs ys differ.1 x y at bt

  -- what those give that pass a test differs, where what all give does
  some_differ : {Y : Type 0} (h : Y → X) (at : Y → Bool) (ys : List Y) → Differ (map h ys) → Differ (map h (filter at ys))
  some_differ h at ys differ =
      pairs_map (λ x y. same x y ≡ false) h (filter at ys)
      (pairs_filter (λ y z. same (h y) (h z) ≡ false) at ys (pairs_unmap (λ x y. same x y ≡ false) h ys differ))

  -- so it is where what these give is the same in another way
  differ_too : {Y : Type 0} (h new : Y → X) (ys : List Y) → ((y : Y) → IsIn y ys → h y ≡ new y) → Differ (map h ys) → Differ (map new ys)
  differ_too h new [] is differ = tt
  differ_too {Y} h new (y ∷ ys) is differ =
      (all_of (λ x. same (new y) x ≡ false) (map new ys) (λ x at. first x (map_in new ys x at)), differ_too h new ys (λ z at. is z (inr at)) differ.1)
    where
      first : (x : X) → (z : Y) × IsIn z ys × (x ≡ new z) → same (new y) x ≡ false
      first x s =
          ap (same (new y)) (s.2 ∙ sym (is s.0 (inr s.1))) ∙ ap (λ w. same w (h s.0)) (sym (is y (inl refl)))
          ∙ of_all (λ x. same (h y) x ≡ false) (map h ys) (h s.0) differ.0 (in_map h ys s.0 s.1)

  -- ---- two lists

  -- what goes and comes in each of two lists goes and comes in both
  pub moved_both : {o g c n p h d m : List X} → Moved same o g c n → Moved same p h d m → Differ (o ++ p) → Differ (n ++ m) → Moved same (o ++ p) (g ++ h) (c ++ d) (n ++ m)
  moved_both {o} {g} {c} {n} {p} {h} {d} {m} first second differ new = record {
    kept_or_come = λ x at. elim (in_either n m x at) [
      | inl k ↦ elim (first.kept_or_come x k) [
        | inl is ↦ inl (in_first o p x is.0, λ gone. elim (in_either g h x gone) [ inl q ↦ is.1 q | inr q ↦ in_one o p differ x is.0 (second.goes x q) ])
        | inr is ↦ inr (in_first c d x is)
      ]
      | inr k ↦ elim (second.kept_or_come x k) [
        | inl is ↦ inl (in_second o p x is.0, λ gone. elim (in_either g h x gone) [ inl q ↦ in_one o p differ x (first.goes x q) is.0 | inr q ↦ is.1 q ])
        | inr is ↦ inr (in_second c d x is)
      ]
    ];
    stay_or_go = λ x at. elim (in_either o p x at) [
      | inl k ↦ elim (first.stay_or_go x k) [ inl is ↦ inl (in_first g h x is) | inr is ↦ inr (in_first n m x is) ]
      | inr k ↦ elim (second.stay_or_go x k) [ inl is ↦ inl (in_second g h x is) | inr is ↦ inr (in_second n m x is) ]
    ];
    comes = λ x at. elim (in_either c d x at) [ inl k ↦ in_first n m x (first.comes x k) | inr k ↦ in_second n m x (second.comes x k) ];
    goes = λ x at. elim (in_either g h x at) [ inl k ↦ in_first o p x (first.goes x k) | inr k ↦ in_second o p x (second.goes x k) ];
    comes_new = λ x at old. elim (in_either c d x at) [
      | inl k ↦ elim (in_either o p x old) [
        | inl is ↦ in_first g h x (first.comes_new x k is)
        | inr is ↦ elim (second.stay_or_go x is) [ inl q ↦ in_second g h x q | inr q ↦ absurd (in_one n m new x (first.comes x k) q) ]
      ]
      | inr k ↦ elim (in_either o p x old) [
        | inl is ↦ elim (first.stay_or_go x is) [ inl q ↦ in_first g h x q | inr q ↦ absurd (in_one n m new x q (second.comes x k)) ]
        | inr is ↦ in_second g h x (second.comes_new x k is)
      ]
    ];
    gone_differ = pairs_append (λ x y. same x y ≡ false) g h first.gone_differ second.gone_differ
        (all_of (λ x. AllByRecursion (λ y. same x y ≡ false) h) g (λ x at. all_of (λ y. same x y ≡ false) h (λ y bt. crossing o p differ x y (first.goes x at) (second.goes y bt))));
    come_differ = pairs_append (λ x y. same x y ≡ false) c d first.come_differ second.come_differ
        (all_of (λ x. AllByRecursion (λ y. same x y ≡ false) d) c (λ x at. all_of (λ y. same x y ≡ false) d (λ y bt. crossing n m new x y (first.comes x at) (second.comes y bt))));
  }

  -- and in three
  pub moved_three : {o g c n p h d m q i e l : List X} → Moved same o g c n → Moved same p h d m → Moved same q i e l → Differ (o ++ (p ++ q)) → Differ (n ++ (m ++ l))
      → Moved same (o ++ (p ++ q)) (g ++ (h ++ i)) (c ++ (d ++ e)) (n ++ (m ++ l))
  moved_three {o} {g} {c} {n} {p} {h} {d} {m} {q} {i} {e} {l} first second third differ new =
      moved_both first (moved_both second third (pairs_behind (λ x y. same x y ≡ false) o (p ++ q) differ) (pairs_behind (λ x y. same x y ≡ false) n (m ++ l) new)) differ new

  -- ---- one list

  module _ {Y : Type 0} (h after : Y → X) (ys : List Y) where
    -- Items that pass a test go, and others come for them.
    pub moved_at : (its : Y → Y) (new : Y → X) (at : Y → Bool) → Differ (map h ys) → Differ (map after (map its ys))
        → ((y : Y) → IsIn y ys → at y ≡ false → after (its y) ≡ h y) → ((y : Y) → IsIn y ys → at y ≡ true → after (its y) ≡ new y)
        → Moved same (map h ys) (map h (filter at ys)) (map new (filter at ys)) (map after (map its ys))
    moved_at its new at differ later stays comes = record {
      kept_or_come = λ x i. (
          let s = map_in after (map its ys) x i in
          let t = map_in its ys s.0 s.1 in
          kept x t.0 t.1 (s.2 ∙ ap after t.2) (at t.0) refl);
      stay_or_go = λ x i. (let s = map_in h ys x i in was x s.0 s.1 s.2 (at s.0) refl);
      comes = λ x i. (
          let s = map_in new (filter at ys) x i in
          let t = filter_in at ys s.0 s.1 in
          subst (λ x. IsIn x (map after (map its ys))) (comes s.0 t.0 t.1 ∙ sym s.2) (in_map after (map its ys) (its s.0) (in_map its ys s.0 t.0)));
      goes = λ x i. (
          let s = map_in h (filter at ys) x i in
          subst (λ x. IsIn x (map h ys)) (sym s.2) (in_map h ys s.0 (filter_in at ys s.0 s.1).0));
      comes_new = λ x i old. (
          let s = map_in new (filter at ys) x i in
          let t = filter_in at ys s.0 s.1 in
          let u = map_in h ys x old in
          back x s.0 t.0 t.1 s.2 u.0 u.1 u.2 (at u.0) refl);
      gone_differ = some_differ h at ys differ;
      come_differ = differ_too (λ y. after (its y)) new (filter at ys) (λ y i. (let t = filter_in at ys y i in comes y t.0 t.1)) (some_differ (λ y. after (its y)) at ys changed_differ);
    }
      where
        changed_differ : Differ (map (λ y. after (its y)) ys)
        changed_differ = pairs_map (λ x y. same x y ≡ false) (λ y. after (its y)) ys (pairs_unmap (λ y z. same (after y) (after z) ≡ false) its ys (pairs_unmap (λ x y. same x y ≡ false) after (map its ys) later))

        back : (x : X) (y : Y) → IsIn y ys → at y ≡ true → x ≡ new y → (z : Y) → IsIn z ys → x ≡ h z → (b : Bool) → at z ≡ b → IsIn x (map h (filter at ys))
        back x y i is e z k g true on = subst (λ x. IsIn x (map h (filter at ys))) (sym g) (in_map h (filter at ys) z (in_filter at ys z k on))
        back x y i is e z k g false off =
            absurd (true≢false (sym is ∙ ap at (one (λ y. after (its y)) ys changed_differ y z i k (comes y i is ∙ sym e ∙ g ∙ sym (stays z k off))) ∙ off))

        kept : (x : X) (y : Y) → IsIn y ys → x ≡ after (its y) → (b : Bool) → at y ≡ b → (IsIn x (map h ys) × (IsIn x (map h (filter at ys)) → ⊥)) ⊎ IsIn x (map new (filter at ys))
        kept x y i e true is = inr (subst (λ x. IsIn x (map new (filter at ys))) (sym (e ∙ comes y i is)) (in_map new (filter at ys) y (in_filter at ys y i is)))
        kept x y i e false is = inl (
          subst (λ x. IsIn x (map h ys)) (sym (e ∙ stays y i is)) (in_map h ys y i),
          λ k. (
              let s = map_in h (filter at ys) x k in
              let t = filter_in at ys s.0 s.1 in
              true≢false (sym t.1 ∙ ap at (one h ys differ s.0 y t.0 i (sym s.2 ∙ e ∙ stays y i is)) ∙ is)),
        )

        was : (x : X) (y : Y) → IsIn y ys → x ≡ h y → (b : Bool) → at y ≡ b → IsIn x (map h (filter at ys)) ⊎ IsIn x (map after (map its ys))
        was x y i e true is = inl (subst (λ x. IsIn x (map h (filter at ys))) (sym e) (in_map h (filter at ys) y (in_filter at ys y i is)))
        was x y i e false is = inr (subst (λ x. IsIn x (map after (map its ys))) (stays y i is ∙ sym e) (in_map after (map its ys) (its y) (in_map its ys y i)))

    -- Items that pass a test go, and come again with what they give afterwards.
    pub moved_again : (at : Y → Bool) → Differ (map h ys) → Differ (map after ys) → ((y : Y) → IsIn y ys → at y ≡ false → after y ≡ h y)
        → Moved same (map h ys) (map h (filter at ys)) (map after (filter at ys)) (map after ys)
    moved_again at differ later stays =
        subst (λ l. Moved same (map h ys) (map h (filter at ys)) (map after (filter at ys)) (map after l)) (as_it_is ys)
        (moved_at (λ y. y) after at differ (subst (λ l. Differ (map after l)) (sym (as_it_is ys)) later) stays (λ y i is. refl))

    -- Items that pass a test go.
    pub moved_out : (at : Y → Bool) → Differ (map h ys) → ((y : Y) → IsIn y ys → at y ≡ false → after y ≡ h y)
        → Moved same (map h ys) (map h (filter at ys)) [] (map after (filter (λ y. not (at y)) ys))
    moved_out at differ stays = record {
      kept_or_come = λ x i. (
          let s = map_in after (filter (besides at) ys) x i in
          let t = filter_in (besides at) ys s.0 s.1 in
          let off = failed (at s.0) t.1 in
          inl (
            subst (λ x. IsIn x (map h ys)) (sym (s.2 ∙ stays s.0 t.0 off)) (in_map h ys s.0 t.0),
            λ k. (
                let u = map_in h (filter at ys) x k in
                let v = filter_in at ys u.0 u.1 in
                true≢false (sym v.1 ∙ ap at (one h ys differ u.0 s.0 v.0 t.0 (sym u.2 ∙ s.2 ∙ stays s.0 t.0 off)) ∙ off)),
          ));
      stay_or_go = λ x i. (let s = map_in h ys x i in was x s.0 s.1 s.2 (at s.0) refl);
      comes = λ x i. absurd i;
      goes = λ x i. (
          let s = map_in h (filter at ys) x i in
          subst (λ x. IsIn x (map h ys)) (sym s.2) (in_map h ys s.0 (filter_in at ys s.0 s.1).0));
      comes_new = λ x i old. absurd i;
      gone_differ = some_differ h at ys differ;
      come_differ = tt;
    }
      where
        was : (x : X) (y : Y) → IsIn y ys → x ≡ h y → (b : Bool) → at y ≡ b → IsIn x (map h (filter at ys)) ⊎ IsIn x (map after (filter (besides at) ys))
        was x y i e true is = inl (subst (λ x. IsIn x (map h (filter at ys))) (sym e) (in_map h (filter at ys) y (in_filter at ys y i is)))
        was x y i e false is = inr (subst (λ x. IsIn x (map after (filter (besides at) ys))) (stays y i is ∙ sym e) (in_map after (filter (besides at) ys) y (in_filter (besides at) ys y i (fails (at y) is))))

    -- Nothing goes or comes.
    pub moved_none : ((y : Y) → IsIn y ys → after y ≡ h y) → Moved same (map h ys) [] [] (map after ys)
    moved_none stays = record {
      kept_or_come = λ x i. (let s = map_in after ys x i in inl (subst (λ x. IsIn x (map h ys)) (sym (s.2 ∙ stays s.0 s.1)) (in_map h ys s.0 s.1), λ k. k));
      stay_or_go = λ x i. (let s = map_in h ys x i in inr (subst (λ x. IsIn x (map after ys)) (stays s.0 s.1 ∙ sym s.2) (in_map after ys s.0 s.1)));
      comes = λ x i. absurd i;
      goes = λ x i. absurd i;
      comes_new = λ x i old. absurd i;
      gone_differ = tt;
      come_differ = tt;
    }

    -- Nor do they where each is changed and gives the same.
    pub moved_still : (its : Y → Y) → ((y : Y) → IsIn y ys → after (its y) ≡ h y) → Moved same (map h ys) [] [] (map after (map its ys))
    moved_still its stays = record {
      kept_or_come = λ x i. (
          let s = map_in after (map its ys) x i in
          let t = map_in its ys s.0 s.1 in
          inl (subst (λ x. IsIn x (map h ys)) (sym (s.2 ∙ ap after t.2 ∙ stays t.0 t.1)) (in_map h ys t.0 t.1), λ k. k));
      stay_or_go = λ x i. (
          let s = map_in h ys x i in
          inr (subst (λ x. IsIn x (map after (map its ys))) (stays s.0 s.1 ∙ sym s.2) (in_map after (map its ys) (its s.0) (in_map its ys s.0 s.1))));
      comes = λ x i. absurd i;
      goes = λ x i. absurd i;
      comes_new = λ x i old. absurd i;
      gone_differ = tt;
      come_differ = tt;
    }

    -- One item comes.
    pub moved_in : (cmp : Y → Y → Ordering) (new : Y) → cmp new new ≡ Equal → Differ (map after (insert_by cmp new ys)) → ((y : Y) → IsIn y ys → cmp new y ≡ Equal → ⊥) → ((y : Y) → IsIn y ys → after y ≡ h y)
        → Moved same (map h ys) [] (after new ∷ []) (map after (insert_by cmp new ys))
    moved_in cmp new alike later fresh stays = record {
      kept_or_come = λ x i. (let s = map_in after (insert_by cmp new ys) x i in kept x s.0 s.2 (insert_in cmp new ys s.0 s.1));
      stay_or_go = λ x i. (let s = map_in h ys x i in inr (subst (λ x. IsIn x (map after (insert_by cmp new ys))) (stays s.0 s.1 ∙ sym s.2) (there s.0 (inr s.1))));
      comes = λ x i. arrived x i;
      goes = λ x i. absurd i;
      comes_new = λ x i old. absurd (not_old x i (map_in h ys x old));
      gone_differ = tt;
      come_differ = (tt, tt);
    }
      where
        put : (y : Y) → IsIn y (new ∷ ys) → IsIn y (insert_by cmp new ys)
        put y i = in_insert cmp new ys y (λ y k e. absurd (fresh y k e)) i

        not_old : (x : X) → IsIn x (after new ∷ []) → (y : Y) × IsIn y ys × (x ≡ h y) → ⊥
        not_old x (inl e) s = fresh s.0 s.1 (ap (cmp new) (sym (one after (insert_by cmp new ys) later new s.0 (put new (inl refl)) (put s.0 (inr s.1)) (sym e ∙ s.2 ∙ sym (stays s.0 s.1)))) ∙ alike)
        not_old x (inr k) s = k

        there : (y : Y) → IsIn y (new ∷ ys) → IsIn (after y) (map after (insert_by cmp new ys))
        there y i = in_map after (insert_by cmp new ys) y (in_insert cmp new ys y (λ y k e. absurd (fresh y k e)) i)

        kept : (x : X) (y : Y) → x ≡ after y → IsIn y (new ∷ ys) → (IsIn x (map h ys) × (IsIn x [] → ⊥)) ⊎ IsIn x (after new ∷ [])
        kept x y e (inl f) = inr (inl (e ∙ ap after f))
        kept x y e (inr k) = inl (subst (λ x. IsIn x (map h ys)) (sym (e ∙ stays y k)) (in_map h ys y k), λ k. k)

        arrived : (x : X) → IsIn x (after new ∷ []) → IsIn x (map after (insert_by cmp new ys))
        arrived x (inl e) = subst (λ x. IsIn x (map after (insert_by cmp new ys))) (sym e) (there new (inl refl))
        arrived x (inr k) = absurd k
