-- The number of the last entry that is to stand at an address, and what stands there.
use Rattle.std.proofs.Common.{◌≡◌, ◌⊎◌, inl, inr, ℕ, zero, suc, Bool, true, false, List, [], ◌∷◌, ◌++◌, length, Option, Some, None, refl, sym, ◌∙◌, ap, subst, if◌then◌else◌}
use Rattle.disk_model.specs.declared.disk.Addr.{Addr}
use Rattle.disk_model.specs.Disk.{is_at}
use Rattle.disk_model.proofs.Addresses.{at_cases}
use Rattle.batch_file.specs.Layout.{Entries}
use Rattle.batch_file.specs.OnDisk.{renewed, image_in}
use Rattle.batch_file.specs.Redone.{latest}
use Rattle.batch_store.specs.Numbers.{from_first, last_for}

-- a number is there, or none is
pub option_cases : (o : Option ℕ) → ((j : ℕ) × (o ≡ Some j)) ⊎ (o ≡ None)
option_cases (Some j) = inl (j, refl)
option_cases None = inr refl

-- where no entry is to stand, what was there stays
pub latest_none : (cs : Entries) (a : Addr) (x : Option (List ℕ)) → last_for cs a ≡ None → latest cs a x ≡ x
latest_none [] a x none = refl
latest_none (c ∷ cs) a x none = elim (option_cases (last_for cs a)) [
  | inl some ↦ let e : Some (suc some.0) ≡ None = sym (ap (from_first (is_at a c.0)) some.1) ∙ none in cc e
  | inr absent ↦ elim (at_cases a c.0) [
    | inl same ↦ let e : Some 0 ≡ None = sym (ap (from_first (is_at a c.0)) absent ∙ ap (λ t. from_first t None) same.1) ∙ none in cc e
    | inr off ↦ latest_none cs a _ absent ∙ ap (λ t. if t then Some c.1 else x) off.1
  ]
]

-- at an address the image of that number stands
pub latest_image : (cs : Entries) (a : Addr) (i : ℕ) (page : List ℕ) (x : Option (List ℕ)) → last_for cs a ≡ Some i → image_in cs i ≡ Some page → latest cs a x ≡ Some page
latest_image [] a i page x some image = let e : None ≡ Some i = some in cc
latest_image (c ∷ cs) a i page x some image = elim (option_cases (last_for cs a)) [
  | inl behind ↦
      let e : Some (suc behind.0) ≡ Some i = sym (ap (from_first (is_at a c.0)) behind.1) ∙ some in
      let at : suc behind.0 ≡ i = cc e in
      latest_image cs a behind.0 page _ behind.1 (subst (λ n. image_in (c ∷ cs) n ≡ Some page) (sym at) image)
  | inr absent ↦ elim (at_cases a c.0) [
    | inl same ↦
        let e : Some 0 ≡ Some i = sym (ap (from_first (is_at a c.0)) absent ∙ ap (λ t. from_first t None) same.1) ∙ some in
        let at : 0 ≡ i = cc e in
        latest_none cs a _ absent ∙ ap (λ t. if t then Some c.1 else x) same.1 ∙ subst (λ n. image_in (c ∷ cs) n ≡ Some page) (sym at) image
    | inr off ↦
        let e : None ≡ Some i = sym (ap (from_first (is_at a c.0)) absent ∙ ap (λ t. from_first t None) off.1) ∙ some in
        cc e
  ]
]

first_none : (t : Bool) → from_first t None ≡ (if t then Some 0 else None)
first_none true = refl
first_none false = refl

first_behind : (s t : Bool) (n : ℕ) (o : Option ℕ) → from_first s (if t then Some n else o) ≡ (if t then Some (suc n) else from_first s o)
first_behind s true n o = refl
first_behind s false n o = refl

-- one entry more behind the others
pub last_for-append : (cs : Entries) (a b : Addr) (page : List ℕ) → last_for (cs ++ (a, page) ∷ []) b ≡ (if is_at b a then Some (length cs) else last_for cs b)
last_for-append [] a b page = first_none (is_at b a)
last_for-append (c ∷ cs) a b page =
    ap (from_first (is_at b c.0)) (last_for-append cs a b page) ∙ first_behind (is_at b c.0) (is_at b a) (length cs) (last_for cs b)

-- another page in the place of an image
pub last_for-renewed : (cs : Entries) (i : ℕ) (page : List ℕ) (b : Addr) → last_for (renewed cs i page) b ≡ last_for cs b
last_for-renewed [] i page b = refl
last_for-renewed (c ∷ cs) zero page b = refl
last_for-renewed (c ∷ cs) (suc i) page b = ap (from_first (is_at b c.0)) (last_for-renewed cs i page b)

renewed_first : (c : Addr × List ℕ) (cs : Entries) (a : Addr) (page : List ℕ) (b : Addr) (x : Option (List ℕ)) → a ≡ c.0 → last_for cs a ≡ None → latest ((c.0, page) ∷ cs) b x ≡ (if is_at b a then Some page else latest (c ∷ cs) b x)
renewed_first c cs a page b x same absent = elim (at_cases b a) [
  | inl is ↦
      let here : is_at b c.0 ≡ true = subst (λ (d : Addr). is_at b d ≡ true) same is.1 in
      let none : last_for cs b ≡ None = subst (λ (d : Addr). last_for cs d ≡ None) (sym is.0) absent in
      ap (λ t. latest cs b (if t then Some page else x)) here ∙ latest_none cs b (Some page) none ∙ sym (ap (λ t. if t then Some page else latest (c ∷ cs) b x) is.1)
  | inr off ↦
      let there : is_at b c.0 ≡ false = subst (λ (d : Addr). is_at b d ≡ false) same off.1 in
      ap (λ t. latest cs b (if t then Some page else x)) there ∙ sym (ap (λ t. latest cs b (if t then Some c.1 else x)) there) ∙ sym (ap (λ t. if t then Some page else latest (c ∷ cs) b x) off.1)
]

-- once the last image of an address is another, that one stands there, and at each other address what stood there
pub latest-renewed : (cs : Entries) (i : ℕ) (a : Addr) (page : List ℕ) (b : Addr) (x : Option (List ℕ)) → last_for cs a ≡ Some i → latest (renewed cs i page) b x ≡ (if is_at b a then Some page else latest cs b x)
latest-renewed [] i a page b x some = let e : None ≡ Some i = some in cc e
latest-renewed (c ∷ cs) i a page b x some = elim (option_cases (last_for cs a)) [
  | inl behind ↦
      let e : Some (suc behind.0) ≡ Some i = sym (ap (from_first (is_at a c.0)) behind.1) ∙ some in
      let at : suc behind.0 ≡ i = cc e in
      subst (λ n. latest (renewed (c ∷ cs) n page) b x ≡ (if is_at b a then Some page else latest (c ∷ cs) b x)) at (latest-renewed cs behind.0 a page b _ behind.1)
  | inr absent ↦ elim (at_cases a c.0) [
    | inl same ↦
        let e : Some 0 ≡ Some i = sym (ap (from_first (is_at a c.0)) absent ∙ ap (λ t. from_first t None) same.1) ∙ some in
        let at : 0 ≡ i = cc e in
        subst (λ n. latest (renewed (c ∷ cs) n page) b x ≡ (if is_at b a then Some page else latest (c ∷ cs) b x)) at (renewed_first c cs a page b x same.0 absent)
    | inr off ↦
        let e : None ≡ Some i = sym (ap (from_first (is_at a c.0)) absent ∙ ap (λ t. from_first t None) off.1) ∙ some in
        cc e
  ]
]
