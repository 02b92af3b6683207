-- Items read and written one by one.
use Rattle.std.proofs.Common.{◌≡◌, ℕ, zero, suc, ◌+◌, ◌-◌, ◌/◌, ◌%◌, ◌<◌, ◌≤◌, List, [], ◌∷◌, ◌++◌, length, get_or, take, Ok, Err, refl, sym, ap, ◌∙◌, append_assoc, add-one, arith}
use Rattle.tree_words.proofs.Fronts.{append_none}
use Rattle.tree_words.specs.declared.fault.Fault.{Fault}
use Rattle.tree_words.specs.declared.fault.Fault.TheVariants as faults
use Rattle.tree_words.specs.Codec.{Codec, Reading, Reads, ◌>>=◌}
use Rattle.tree_words.specs.Words.{items_read, items_write, ItemsFit, number16, number32, list, with_front}

front_end : {A : Type 0} (front : List A) (bytes : List ℕ) (x : A) (r : Reading (List A)) → (r >>= (λ xs. Ok (front ++ (x ∷ xs.0), xs.1))) ≡ (r >>= (λ xs. Ok ((front ++ (x ∷ [])) ++ xs.0, xs.1)))
front_end front bytes x (Ok xs) = let e : front ++ (x ∷ xs.0) ≡ (front ++ (x ∷ [])) ++ xs.0 = sym (append_assoc front (x ∷ []) xs.0) in ap (λ ys. Ok (ys, xs.1)) e
front_end front bytes x (Err left) = refl

nested : {A : Type 0} (front : List A) (x : A) (r : Reading (List A)) → ((r >>= (λ xs. Ok (x ∷ xs.0, xs.1))) >>= (λ xs. Ok (front ++ xs.0, xs.1))) ≡ (r >>= (λ xs. Ok (front ++ (x ∷ xs.0), xs.1)))
nested front x (Ok xs) = refl
nested front x (Err left) = refl

pub none_left : {A : Type 0} (c : Codec A) (front : List A) (bytes : List ℕ) → with_front front (items_read c 0 bytes) ≡ Ok (front, bytes)
unfolding items_read
none_left c front bytes = ap (λ xs. Ok (xs, bytes)) (append_none front)

pub one_read : {A : Type 0} (c : Codec A) (n : ℕ) (front : List A) (bytes : List ℕ) (x : A) (rest : List ℕ) → c.read bytes ≡ Ok (x, rest) → with_front front (items_read c (suc n) bytes) ≡ with_front (front ++ x ∷ []) (items_read c n rest)
unfolding items_read
one_read c n front bytes x rest e = rw e (nested front x (items_read c n rest) ∙ front_end front bytes x (items_read c n rest))

pub one_wrong : {A : Type 0} (c : Codec A) (n : ℕ) (front : List A) (bytes : List ℕ) (left : ℕ) → c.read bytes ≡ Err left → with_front front (items_read c (suc n) bytes) ≡ Err left
unfolding items_read
one_wrong c n front bytes left e = rw e refl

pub all_read : {A : Type 0} (c : Codec A) (n : ℕ) (bytes : List ℕ) → items_read c n bytes ≡ with_front [] (items_read c n bytes)
all_read c n bytes = same (items_read c n bytes)
  where
    same : {A : Type 0} (r : Reading (List A)) → r ≡ with_front [] r
    same (Ok x) = refl
    same (Err left) = refl

-- the loop's steps
fewer : (n m : ℕ) → m < n → n - m ≡ suc (n - (m + 1))
fewer n m h = omega arith

pub reading_failed : {A : Type 0} (c : Codec A) (n m : ℕ) (front : List A) (all : Reading (List A)) (bytes after last : List ℕ) (e : Fault) → m < n → all ≡ with_front front (items_read c (n - m) bytes) → Reads {A = A} (Err e) after (c.read bytes) → Reads {A = List A} (Err e) last all
reading_failed c n m front all bytes after last (faults.Wrong left) h inv r = inv ∙ (rw (fewer n m h) (one_wrong c (n - (m + 1)) front bytes left r))
reading_failed c n m front all bytes after last faults.OutOfMemory h inv r = tt

pub reading_went_on : {A : Type 0} (c : Codec A) (n m : ℕ) (front : List A) (all : Reading (List A)) (bytes : List ℕ) (x : A) (rest : List ℕ) → m < n → all ≡ with_front front (items_read c (n - m) bytes) → c.read bytes ≡ Ok (x, rest) → all ≡ with_front (front ++ x ∷ []) (items_read c (n - (m + 1)) rest)
reading_went_on c n m front all bytes x rest h inv r = inv ∙ (rw (fewer n m h) (one_read c (n - (m + 1)) front bytes x rest r))

pub reading_ended : {A : Type 0} (c : Codec A) (n m : ℕ) (front : List A) (all : Reading (List A)) (bytes : List ℕ) → n ≤ m → all ≡ with_front front (items_read c (n - m) bytes) → all ≡ Ok (front, bytes)
reading_ended c n m front all bytes h inv = let z : n - m ≡ 0 = omega arith in inv ∙ (rw z (none_left c front bytes))

fit_at : {A : Type 0} (c : Codec A) (xs : List A) (i : ℕ) (d : A) → i < length xs → ItemsFit c (length xs) xs → c.Fits (get_or xs i d)
fit_at c [] i d h f = absurd (omega arith)
fit_at c (x ∷ xs) zero d h f = f.0
fit_at c (x ∷ xs) (suc i) d h f = fit_at c xs i d (omega arith) f.1

write_next : {A : Type 0} (c : Codec A) (xs : List A) (i : ℕ) (d : A) → i < length xs → items_write c (take (suc i) xs) ≡ items_write c (take i xs) ++ c.write (get_or xs i d)
write_next c [] i d h = absurd (omega arith)
write_next c (x ∷ xs) zero d h = append_none (c.write x)
write_next c (x ∷ xs) (suc i) d h = ap (λ bs. c.write x ++ bs) (write_next c xs i d (omega arith)) ∙ sym (append_assoc (c.write x) (items_write c (take i xs)) (c.write (get_or xs i d)))

pub written_one_more : {A : Type 0} (codec : ℕ → Codec A) (xs : List A) (i : ℕ) (d : A) (x : A) (old mid new : List ℕ) → i < length xs → x ≡ get_or xs i d → ((n : ℕ) → ItemsFit (codec n) (length xs) xs → mid ≡ old ++ items_write (codec n) (take i xs)) → ((n : ℕ) → (codec n).Fits x → new ≡ mid ++ (codec n).write x) → (n : ℕ) → ItemsFit (codec n) (length xs) xs → new ≡ old ++ items_write (codec n) (take (i + 1) xs)
written_one_more codec xs i d x old mid new h is before step n f =
    let fits : (codec n).Fits x = rw is (fit_at (codec n) xs i d h f) in
    let here : items_write (codec n) (take (i + 1) xs) ≡ items_write (codec n) (take i xs) ++ (codec n).write x = rw (add-one, is) (write_next (codec n) xs i d h) in
    step n fits ∙ ap (λ bs. bs ++ (codec n).write x) (before n f) ∙ append_assoc old (items_write (codec n) (take i xs)) ((codec n).write x) ∙ ap (λ bs. old ++ bs) (sym here)

-- a list whose count was written, and then its items
pub written_list : {A : Type 0} (count : Codec ℕ) (codec : ℕ → Codec A) (xs : List A) (k : ℕ) (old mid new : List ℕ) → (count.Fits (length xs) → k ≡ length xs) → ((n : ℕ) → count.Fits k → mid ≡ old ++ count.write k) → ((n : ℕ) → ItemsFit (codec n) (length xs) xs → new ≡ mid ++ items_write (codec n) xs) → (n : ℕ) → (list count (codec n)).Fits xs → new ≡ old ++ (list count (codec n)).write xs
unfolding list
written_list count codec xs k old mid new small first second n f =
    let is : k ≡ length xs = small f.0 in
    let fits : count.Fits k = rw is f.0 in
    let at : mid ≡ old ++ count.write (length xs) = (let e = first n fits in rw is at e) in
    second n f.1 ∙ ap (λ bs. bs ++ items_write (codec n) xs) at ∙ append_assoc old (count.write (length xs)) (items_write (codec n) xs)

pub small_count16 : (n : ℕ) → number16.Fits n → n % 65536 ≡ n
unfolding number16
small_count16 n f = let h : n / 256 < 256 = f.0 in omega arith

below16 : (n : ℕ) → number16.Fits n → n < 65536
unfolding number16
below16 n f = let h : n / 256 < 256 = f.0 in omega arith

pub small_count32 : (n : ℕ) → number32.Fits n → n % 4294967296 ≡ n
unfolding number32
small_count32 n f = let h : n / 65536 < 65536 = below16 (n / 65536) f.0 in omega arith
