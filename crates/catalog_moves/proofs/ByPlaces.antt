-- What goes with a Destroy, by the places of a table: in the order of the keys, so it is what is destroyed of the database.
use Rattle.std.proofs.Common.{◌≡◌, refl, sym, ap, ap₂, ◌∙◌, subst, inl, inr, ℕ, Bool, true, false, cond, List, [], ◌∷◌, ◌++◌, append_assoc, map, filter}
use Rattle.std.specs.List.{flat_map}
use Rattle.std.specs.List.Sorted.{IsStrictlySortedBy}
use Rattle.std.specs.declared.cmp.Ordering.{Ordering}
use Rattle.std.specs.declared.cmp.Ordering.TheVariants.{Less}
use Rattle.std.proofs.lemmas.List.Kept.{IsStrictlySortedBy-filter}
use Rattle.calculus.specs.declared.query.RelKey.{RelKey}
use Rattle.calculus.specs.Keys.{same_key, key_cmp, numbered_cmp, has_key}
use Rattle.stored_database.proofs.Members.{IsIn, of_all, all_of, in_map, map_in, in_filter, filter_in, in_flat_map, flat_map_in}
use Rattle.stored_database.proofs.Orders.{key_total, numbered_total, same_key_is, same_key_itself}
use Rattle.stored_database.proofs.Pairs.{all_append}
use Rattle.catalog_moves.specs.declared.files.FilePlace.{FilePlace}
use Rattle.catalog_moves.specs.Files.{by_place}
use Rattle.catalog_moves.proofs.OnBase.{same_up}
use Rattle.catalog_moves.proofs.Placing.{keys_up}

-- ---- lists

-- where the others give nothing, only those that pass count
flat_kept : {X A : Type 0} (test : X → Bool) (g : X → List A) (xs : List X) → ((x : X) → IsIn x xs → test x ≡ false → g x ≡ []) → flat_map g xs ≡ flat_map g (filter test xs)
flat_kept test g [] none = refl
flat_kept {X} {A} test g (x ∷ xs) none = go (test x) refl (flat_kept test g xs (λ y at. none y (inr at)))
  where
    go : (b : Bool) → test x ≡ b → flat_map g xs ≡ flat_map g (filter test xs) → g x ++ flat_map g xs ≡ flat_map g (cond b (x ∷ filter test xs) (filter test xs))
    go true e later = ap (λ l. g x ++ l) later
    go false e later = ap (λ l. l ++ flat_map g xs) (none x (inl refl) e) ∙ later

-- lists of the same keys give the same, where each key gives the same
flat_matched : {P X A : Type 0} (k : P → RelKey) (l : X → RelKey) (g : P → List A) (h : X → List A) (ps : List P) (xs : List X) → map k ps ≡ map l xs
    → ((p : P) (x : X) → IsIn p ps → IsIn x xs → k p ≡ l x → g p ≡ h x) → flat_map g ps ≡ flat_map h xs
flat_matched k l g h [] [] e same = refl
flat_matched k l g h [] (x ∷ xs) e same = cc e
flat_matched k l g h (p ∷ ps) [] e same = cc e
flat_matched k l g h (p ∷ ps) (x ∷ xs) e same =
    ap₂ (λ a b. a ++ b) (same p x (inl refl) (inl refl) (cc e)) (flat_matched k l g h ps xs (cc e) (λ q y at bt. same q y (inr at) (inr bt)))

-- what each gives of what each gives
pub flat_flat : {X Y A : Type 0} (g : Y → List A) (h : X → List Y) (xs : List X) → flat_map g (flat_map h xs) ≡ flat_map (λ x. flat_map g (h x)) xs
flat_flat g h [] = refl
flat_flat {X} {Y} {A} g h (x ∷ xs) = first (h x) ∙ ap (λ l. flat_map g (h x) ++ l) (flat_flat g h xs)
  where
    first : (ys : List Y) → flat_map g (ys ++ flat_map h xs) ≡ flat_map g ys ++ flat_map g (flat_map h xs)
    first [] = refl
    first (y ∷ ys) = ap (λ l. g y ++ l) (first ys) ∙ sym (append_assoc (g y) (flat_map g ys) (flat_map g (flat_map h xs)))

pub flat_same : {X A : Type 0} (g h : X → List A) (xs : List X) → ((x : X) → IsIn x xs → g x ≡ h x) → flat_map g xs ≡ flat_map h xs
flat_same g h [] same = refl
flat_same g h (x ∷ xs) same = ap₂ (λ a b. a ++ b) (same x (inl refl)) (flat_same g h xs (λ y at. same y (inr at)))

-- lists that ascend, the one behind the other
up_behind : {A : Type 0} (cmp : A → A → Ordering) (xs ys : List A) → IsStrictlySortedBy cmp xs → IsStrictlySortedBy cmp ys → ((a b : A) → IsIn a xs → IsIn b ys → cmp a b ≡ Less) → IsStrictlySortedBy cmp (xs ++ ys)
unfolding IsStrictlySortedBy
up_behind cmp [] ys up over across = over
up_behind cmp (x ∷ xs) ys up over across =
    (all_append (λ y. cmp x y ≡ Less) xs ys up.0 (all_of (λ y. cmp x y ≡ Less) ys (λ y at. across x y (inl refl) at)), up_behind cmp xs ys up.1 over (λ a b at bt. across a b (inr at) bt))

-- what is in a list that is kept or not
in_kept : {A : Type 0} (b : Bool) (xs : List A) (x : A) → IsIn x (cond b xs []) → (b ≡ true) × IsIn x xs
in_kept true xs x at = (refl, at)
in_kept false xs x at = absurd at

-- ---- places and what they are those of

module _ (places : List FilePlace) (up : IsStrictlySortedBy by_place places) where
  -- places and items of the same keys give the same
  pub all_matched : {X A : Type 0} (l : X → RelKey) (xs : List X) (test : FilePlace → Bool) → IsStrictlySortedBy key_cmp (map l xs)
      → ((p : FilePlace) → IsIn p places → test p ≡ true → (x : X) × IsIn x xs × (l x ≡ p.key))
      → ((x : X) → IsIn x xs → (p : FilePlace) × IsIn p places × (p.key ≡ l x) × (test p ≡ true))
      → (g : FilePlace → List A) (h : X → List A)
      → ((p : FilePlace) → IsIn p places → test p ≡ false → g p ≡ [])
      → ((p : FilePlace) (x : X) → IsIn p places → IsIn x xs → p.key ≡ l x → g p ≡ h x)
      → flat_map g places ≡ flat_map h xs
  all_matched {X} {A} l xs test over there back g h none same =
      flat_kept test g places none
      ∙ flat_matched (λ (p : FilePlace). p.key) l g h ours xs keys (λ p x at bt e. same p x (filter_in test places p at).0 bt e)
    where
      ours : List FilePlace
      ours = filter test places

      keys : map (λ (p : FilePlace). p.key) (filter test places) ≡ map l xs
      keys = same_up key_total (map (λ (p : FilePlace). p.key) (filter test places)) (map l xs)
          (keys_up (λ (p : FilePlace). p.key) (filter test places) (IsStrictlySortedBy-filter by_place test places up)) over
          (λ k at. (let p = map_in (λ (p : FilePlace). p.key) (filter test places) k at in
          let f = filter_in test places p.0 p.1 in
          let x = there p.0 f.0 f.1 in
          subst (λ k. IsIn k (map l xs)) (x.2 ∙ sym p.2) (in_map l xs x.0 x.1)))
          (λ k at. (let x = map_in l xs k at in
          let p = back x.0 x.1 in
          subst (λ k. IsIn k (map (λ (p : FilePlace). p.key) (filter test places))) (p.2 ∙ sym x.2) (in_map (λ (p : FilePlace). p.key) (filter test places) p.0 (in_filter test places p.0 p.1 p.3))))

-- ---- rules and permits by relation

module _ {X : Type 0} (number : X → ℕ) (xs : List (RelKey × X)) (over : IsStrictlySortedBy (numbered_cmp number) xs) (rels : List RelKey) where
  -- those on what lies at a place, where it is listed
  abbrev pub group : FilePlace → List (RelKey × X)
  group p = cond (has_key rels p.key) (filter (λ (y : RelKey × X). same_key y.0 p.key) xs) []

  pub in_group : (p : FilePlace) (y : RelKey × X) → IsIn y (group p) → (has_key rels p.key ≡ true) × IsIn y xs × (y.0 ≡ p.key)
  in_group p y at =
      let k = in_kept (has_key rels p.key) (filter (λ (y : RelKey × X). same_key y.0 p.key) xs) y at in
      let f = filter_in (λ (y : RelKey × X). same_key y.0 p.key) xs y k.1 in
      (k.0, f.0, same_key_is y.0 p.key f.1)

  group_up : (b : Bool) (p : FilePlace) → IsStrictlySortedBy (numbered_cmp number) (cond b (filter (λ (y : RelKey × X). same_key y.0 p.key) xs) [])
  unfolding IsStrictlySortedBy
  group_up true p = IsStrictlySortedBy-filter (numbered_cmp number) (λ (y : RelKey × X). same_key y.0 p.key) xs over
  group_up false p = tt

  groups_up : (ps : List FilePlace) → IsStrictlySortedBy by_place ps → IsStrictlySortedBy (numbered_cmp number) (flat_map group ps)
  unfolding IsStrictlySortedBy
  groups_up [] up = tt
  groups_up (p ∷ ps) up = up_behind (numbered_cmp number) (group p) (flat_map group ps) (group_up (has_key rels p.key) p) (groups_up ps up.1) across
    where
      across : (a b : RelKey × X) → IsIn a (group p) → IsIn b (flat_map group ps) → numbered_cmp number a b ≡ Less
      across a b at bt =
          let q = flat_map_in group ps b bt in
          let less : key_cmp a.0 b.0 ≡ Less = ap₂ key_cmp (in_group p a at).2 (in_group q.0 b q.2).2 ∙ of_all (λ (q : FilePlace). key_cmp p.key q.key ≡ Less) ps q.0 up.0 q.1 in
          cc less

  -- place by place, those that are listed
  pub grouped : (places : List FilePlace) → IsStrictlySortedBy by_place places → ((y : RelKey × X) → IsIn y xs → (p : FilePlace) × IsIn p places × (p.key ≡ y.0))
      → flat_map group places ≡ filter (λ (y : RelKey × X). has_key rels y.0) xs
  grouped places up there =
      same_up (numbered_total number) (flat_map group places) (filter (λ (y : RelKey × X). has_key rels y.0) xs) (groups_up places up) (IsStrictlySortedBy-filter (numbered_cmp number) (λ (y : RelKey × X). has_key rels y.0) xs over)
      (λ y at. (let p = flat_map_in group places y at in
      let g = in_group p.0 y p.2 in
      in_filter (λ (y : RelKey × X). has_key rels y.0) xs y g.1 (ap (has_key rels) g.2 ∙ g.0)))
      (λ y at. (let f = filter_in (λ (y : RelKey × X). has_key rels y.0) xs y at in
      let p = there y f.0 in
      in_flat_map group places p.0 y p.1
      (subst (λ b. IsIn y (cond b (filter (λ (z : RelKey × X). same_key z.0 p.0.key) xs) [])) (sym (ap (has_key rels) p.2 ∙ f.1))
      (in_filter (λ (z : RelKey × X). same_key z.0 p.0.key) xs y f.0 (ap (same_key y.0) p.2 ∙ same_key_itself y.0)))))
