-- Trying a pattern along a text: what the items behind the last `*` can still give, and that earlier ones can give no more.
use Rattle.std.proofs.Common.{◌≡◌, refl, sym, ap, ◌∙◌, ℕ, Bool, true, false, ◌&&◌, ◌||◌, ◌==◌, if◌then◌else◌, List, [], ◌∷◌, length, Option, Some, None, arith}
use Rattle.calculus.specs.Constant.{unescaped}
use Rattle.calculus.specs.Pattern.{Item, Byte, AnyByte, AnyText, Class, some_rest, fits_items}
use Rattle.scalar_eval.proofs.Items.{written_some}
use Rattle.scalar_eval.specs.Walk.{takes, written_items, behind_byte, behind_any_text}

-- what the items give at a later place of the text
abbrev pub later : List Item → List ℕ → Bool
later is [] = false
later is (x ∷ xs) = some_rest (fits_items is) xs

or_false : (a : Bool) → (a || false) ≡ a
or_false true = refl
or_false false = refl

or_true : (a : Bool) → (a || true) ≡ true
or_true true = refl
or_true false = refl

-- what gives no more needn't be tried
absorbed : (a b : Bool) → (b ≡ true → a ≡ true) → (a || b) ≡ a
absorbed true b h = refl
absorbed false true h = sym (h refl)
absorbed false false h = refl

either_of : {P : Type 0} → (a b : Bool) → (a || b) ≡ true → (a ≡ true → P) → (b ≡ true → P) → P
either_of true b h f g = f refl
either_of false b h f g = g h

here_or_later : (is : List Item) (xs : List ℕ) → (fits_items is xs || later is xs) ≡ some_rest (fits_items is) xs
here_or_later is [] = or_false (fits_items is [])
here_or_later is (x ∷ xs) = refl

later_is_some : (is : List Item) (xs : List ℕ) → later is xs ≡ true → some_rest (fits_items is) xs ≡ true
later_is_some is [] h = cc h
later_is_some is (x ∷ xs) h = ap (λ u. fits_items is (x ∷ xs) || u) h ∙ or_true (fits_items is (x ∷ xs))

-- ---- any text

-- the list that is there
abbrev there : Option (List Item) → List Item
there None = []
there (Some is) = is

any_text_is : (is js : List Item) → behind_any_text is ≡ Some js → is ≡ AnyText ∷ js
any_text_is [] js h = cc h
any_text_is (Byte b ∷ is) js h = cc h
any_text_is (AnyByte ∷ is) js h = cc h
any_text_is (Class rs ∷ is) js h = cc h
any_text_is (AnyText ∷ is) js h = ap (λ o. AnyText ∷ there o) h

some_of_some : (js : List Item) (xs : List ℕ) → some_rest (fits_items (AnyText ∷ js)) xs ≡ true → some_rest (fits_items js) xs ≡ true
unfolding fits_items
some_of_some js [] h = h
some_of_some js (x ∷ xs) h =
    either_of (some_rest (fits_items js) (x ∷ xs)) (some_rest (fits_items (AnyText ∷ js)) xs) h (λ p. p)
    (λ p. ap (λ u. fits_items js (x ∷ xs) || u) (some_of_some js xs p) ∙ or_true (fits_items js (x ∷ xs)))

at_star : (js : List Item) (xs : List ℕ) (b w : Bool) → (fits_items (AnyText ∷ js) xs || b) ≡ w → (b ≡ true → some_rest (fits_items (AnyText ∷ js)) xs ≡ true)
    → (fits_items js xs || later js xs) ≡ w
unfolding fits_items
at_star js xs b w h k =
    here_or_later js xs ∙ sym (absorbed (some_rest (fits_items js) xs) b (λ e. some_of_some js xs (k e))) ∙ h

-- at a `*` what was to be tried again can be forgotten
pub star_step : (is js : List Item) (xs : List ℕ) (b w : Bool) → behind_any_text is ≡ Some js → (fits_items is xs || b) ≡ w → (b ≡ true → some_rest (fits_items is) xs ≡ true)
    → (fits_items js xs || later js xs) ≡ w
star_step is js xs b w e h k =
    let s : is ≡ AnyText ∷ js = any_text_is is js e in
    at_star js xs b w (ap (λ qs. fits_items qs xs || b) (sym s) ∙ h) (λ t. ap (λ qs. some_rest (fits_items qs) xs) (sym s) ∙ k t)

pub star_hidden : (js : List Item) (xs : List ℕ) → later js xs ≡ true → some_rest (fits_items js) xs ≡ true
star_hidden = later_is_some

-- ---- one byte

chosen : (t : Bool) (is js : List Item) → (if t then Some is else None) ≡ Some js → (t ≡ true) × (is ≡ js)
chosen true is js h = (refl, ap there h)
chosen false is js h = cc h

not_chosen : (t : Bool) (is : List Item) → (if t then Some is else None) ≡ None → t ≡ false
not_chosen true is h = cc h
not_chosen false is h = refl

-- an item of one byte, in front of others
fits_one : (i : Item) (is : List Item) (x : ℕ) (xs : List ℕ) → behind_any_text (i ∷ is) ≡ None → fits_items (i ∷ is) (x ∷ xs) ≡ (takes i x && fits_items is xs)
unfolding fits_items
fits_one (Byte b) is x xs h = refl
fits_one AnyByte is x xs h = refl
fits_one AnyText is x xs h = cc h
fits_one (Class rs) is x xs h = refl

fits_nothing : (i : Item) (is : List Item) → behind_any_text (i ∷ is) ≡ None → fits_items (i ∷ is) [] ≡ false
unfolding fits_items
fits_nothing (Byte b) is h = refl
fits_nothing AnyByte is h = refl
fits_nothing AnyText is h = cc h
fits_nothing (Class rs) is h = refl

byte_taken : (is js : List Item) (x : ℕ) (xs : List ℕ) → behind_any_text is ≡ None → behind_byte is x ≡ Some js → fits_items is (x ∷ xs) ≡ fits_items js xs
byte_taken [] js x xs n h = cc h
byte_taken (i ∷ is) js x xs n h =
    let c = chosen (takes i x) is js h in
    fits_one i is x xs n ∙ ap (λ t. t && fits_items is xs) c.0 ∙ ap (λ qs. fits_items qs xs) c.1

and_right : (a b : Bool) → (a && b) ≡ true → b ≡ true
and_right true b h = h
and_right false b h = cc h

some_behind : (i : Item) (is : List Item) (x : ℕ) (xs : List ℕ) → behind_any_text (i ∷ is) ≡ None → some_rest (fits_items (i ∷ is)) (x ∷ xs) ≡ true → some_rest (fits_items is) xs ≡ true
some_behind i is x [] n h =
    either_of (fits_items (i ∷ is) (x ∷ [])) (fits_items (i ∷ is) []) h
    (λ p. and_right (takes i x) (fits_items is []) (sym (fits_one i is x [] n) ∙ p))
    (λ p. let q : false ≡ true = sym (fits_nothing i is n) ∙ p in cc q)
some_behind i is x (y ∷ ys) n h =
    either_of (fits_items (i ∷ is) (x ∷ y ∷ ys)) (some_rest (fits_items (i ∷ is)) (y ∷ ys)) h
    (λ p. ap (λ u. u || some_rest (fits_items is) ys) (and_right (takes i x) (fits_items is (y ∷ ys)) (sym (fits_one i is x (y ∷ ys) n) ∙ p)))
    (λ p. ap (λ u. fits_items is (y ∷ ys) || u) (some_behind i is y ys n p) ∙ or_true (fits_items is (y ∷ ys)))

some_taken : (is js : List Item) (x : ℕ) (xs : List ℕ) → behind_any_text is ≡ None → behind_byte is x ≡ Some js → some_rest (fits_items is) (x ∷ xs) ≡ true → some_rest (fits_items js) xs ≡ true
some_taken [] js x xs n h k = cc h
some_taken (i ∷ is) js x xs n h k =
    let c = chosen (takes i x) is js h in ap (λ qs. some_rest (fits_items qs) xs) (sym c.1) ∙ some_behind i is x xs n k

pub byte_step : (is js : List Item) (x : ℕ) (xs : List ℕ) (b w : Bool) → behind_any_text is ≡ None → behind_byte is x ≡ Some js → (fits_items is (x ∷ xs) || b) ≡ w → (fits_items js xs || b) ≡ w
byte_step is js x xs b w n h k = ap (λ u. u || b) (sym (byte_taken is js x xs n h)) ∙ k

pub byte_hidden : (is js : List Item) (x : ℕ) (xs : List ℕ) (b : Bool) → behind_any_text is ≡ None → behind_byte is x ≡ Some js
    → (b ≡ true → some_rest (fits_items is) (x ∷ xs) ≡ true) → b ≡ true → some_rest (fits_items js) xs ≡ true
byte_hidden is js x xs b n h k e = some_taken is js x xs n h (k e)

byte_refused : (is : List Item) (x : ℕ) (xs : List ℕ) → behind_any_text is ≡ None → behind_byte is x ≡ None → fits_items is (x ∷ xs) ≡ false
unfolding fits_items
byte_refused [] x xs n h = refl
byte_refused (i ∷ is) x xs n h = fits_one i is x xs n ∙ ap (λ t. t && fits_items is xs) (not_chosen (takes i x) is h)

-- a byte that isn't taken, with nothing to try again
pub refused : (is : List Item) (x : ℕ) (xs : List ℕ) (b w : Bool) → behind_any_text is ≡ None → behind_byte is x ≡ None → (fits_items is (x ∷ xs) || b) ≡ w → b ≡ w
refused is x xs b w n h k = ap (λ u. u || b) (sym (byte_refused is x xs n h)) ∙ k

-- the items behind the last `*` at the next place
pub again_step : (is js : List Item) (x : ℕ) (xs ys : List ℕ) (y : ℕ) (w : Bool) → behind_any_text is ≡ None → behind_byte is x ≡ None
    → (fits_items is (x ∷ xs) || later js (y ∷ ys)) ≡ w → (fits_items js ys || later js ys) ≡ w
again_step is js x xs ys y w n h k = here_or_later js ys ∙ refused is x xs (later js (y ∷ ys)) w n h k

-- ---- the end of the text

nothing_fits : (is : List Item) (i : Item) (js : List Item) → is ≡ i ∷ js → behind_any_text is ≡ None → fits_items is [] ≡ false
nothing_fits is i js h n = ap (λ qs. fits_items qs []) h ∙ fits_nothing i js (ap behind_any_text (sym h) ∙ n)

-- where no `*` comes first, only the end fits the end of the text
pub end_written : (p : List ℕ) → behind_any_text (written_items p) ≡ None → fits_items (written_items p) [] ≡ (length p == 0)
unfolding fits_items unescaped written_items
end_written [] n = refl
end_written (b ∷ bs) n =
    let s = written_some b bs in
    let z : false ≡ (length (b ∷ bs) == 0) = grind arith in
    nothing_fits (written_items (b ∷ bs)) s.0 s.1 s.2 n ∙ z

pub at_end : (is : List Item) (b w : Bool) → (fits_items is [] || b) ≡ w → (b ≡ true → some_rest (fits_items is) [] ≡ true) → fits_items is [] ≡ w
at_end is b w h k = sym (absorbed (fits_items is []) b k) ∙ h
