-- Texts by their lines: those with a newline, and what is left behind them.
use Rattle.std.proofs.Common.{◌≡◌, ◌⊎◌, inl, inr, refl, sym, ap, ◌∙◌, ℕ, suc, ◌-◌, ◌<◌, Bool, true, false, List, [], ◌∷◌, ◌++◌, append_assoc, append-nil, length, length-append, arith}
use Rattle.std.proofs.Math.Seq.{get_or-append_seam}
use Rattle.std.proofs.lemmas.Bool.{cases_Bool, eqb-true, lt-ltb}
use Rattle.std.proofs.lemmas.List.Folds.{list_all-append}
use Rattle.std.specs.Io.BufRead.{ends_with_byte}
use Rattle.std.specs.List.{list_all}
use Rattle.std.specs.Prelude.{◌==◌, ◌&&◌, nat_lt, not, slice_index, ⊤}
use Rattle.quel_meaning.proofs.LineLaws.{line_first, line_last}
use Rattle.quel_meaning.specs.Lines.{is_no_newline, lines_of, whole_lines}
use Rattle.net_core.specs.Reads.{IsWhole}

-- ---- bytes without a newline

both : (a b : Bool) → (a && b) ≡ true → (a ≡ true) × (b ≡ true)
both true b e = (refl, e)
both false b e = absurd cc

joint : (a b : Bool) → a ≡ true → b ≡ true → (a && b) ≡ true
joint true b e f = f
joint false b e f = absurd cc

unequal : (b : Bool) → not b ≡ true → b ≡ false
unequal true e = absurd cc
unequal false e = refl

-- none in the one, and none in the other
pub free_both : (xs ys : List ℕ) → list_all is_no_newline xs ≡ true → list_all is_no_newline ys ≡ true → list_all is_no_newline (xs ++ ys) ≡ true
free_both xs ys e f = list_all-append is_no_newline xs ys ∙ joint (list_all is_no_newline xs) (list_all is_no_newline ys) e f

-- none in a front
pub free_front : (xs ys : List ℕ) → list_all is_no_newline (xs ++ ys) ≡ true → list_all is_no_newline xs ≡ true
free_front xs ys e = (both (list_all is_no_newline xs) (list_all is_no_newline ys) (sym (list_all-append is_no_newline xs ys) ∙ e)).0

-- ---- lines that end with a newline, and lines that don't

ends_with : (l : List ℕ) → ends_with_byte 10 (l ++ 10 ∷ []) ≡ true
ends_with l =
    let place : length (l ++ 10 ∷ []) - 1 ≡ length l = omega (arith, length-append l (10 ∷ [])) in
    let some : 0 < length (l ++ 10 ∷ []) = omega (arith, length-append l (10 ∷ [])) in
    rw (place, get_or-append_seam l 10 [] 0, lt-ltb 0 (length (l ++ 10 ∷ [])) some) refl

last_is_none : (l : List ℕ) → list_all is_no_newline l ≡ true → (slice_index l (length l - 1) == 10) ≡ false
last_is_none [] e = refl
last_is_none (b ∷ []) e = let parts = both (is_no_newline b) true e in unequal (b == 10) parts.0
last_is_none (b ∷ c ∷ l) e =
    let parts = both (is_no_newline b) (list_all is_no_newline (c ∷ l)) e in
    let place : length (b ∷ c ∷ l) - 1 ≡ suc (length l) = omega arith in
    let before : length (c ∷ l) - 1 ≡ length l = omega arith in
    rw place (rw before at (last_is_none (c ∷ l) parts.1))

and_false : (a : Bool) → (a && false) ≡ false
and_false true = refl
and_false false = refl

ends_without : (l : List ℕ) → list_all is_no_newline l ≡ true → ends_with_byte 10 l ≡ false
ends_without l e = ap (λ (b : Bool). nat_lt 0 (length l) && b) (last_is_none l e) ∙ and_false (nat_lt 0 (length l))

whole_first : (l rest : List ℕ) → list_all is_no_newline l ≡ true → whole_lines ((l ++ 10 ∷ []) ++ rest) ≡ (l ++ 10 ∷ []) ∷ whole_lines rest
whole_first l rest e = rw (line_first l rest e, ends_with l) refl

pub no_lines : lines_of [] ≡ []
unfolding lines_of
no_lines = refl

-- of the front of a line no line is whole
whole_none : (l : List ℕ) → list_all is_no_newline l ≡ true → whole_lines l ≡ []
whole_none [] e = rw no_lines refl
whole_none (b ∷ l) e = rw (line_last b l e, ends_without (b ∷ l) e) refl

-- ---- a text by its lines

-- none of these has a newline
abbrev AreFree : List (List ℕ) → Type 0
AreFree [] = ⊤
AreFree (l ∷ ls) = (list_all is_no_newline l ≡ true) × AreFree ls

-- each with a newline
abbrev closed : List (List ℕ) → List (List ℕ)
closed [] = []
closed (l ∷ ls) = (l ++ 10 ∷ []) ∷ closed ls

-- the text of these, each with a newline
abbrev joined : List (List ℕ) → List ℕ
joined [] = []
joined (l ∷ ls) = (l ++ 10 ∷ []) ++ joined ls

-- a text is lines, each with its newline, and then bytes without one
record Parted (text : List ℕ) : Type 0 where
  pub lines : List (List ℕ)
  pub left : List ℕ
  pub free : AreFree lines
  pub open_end : list_all is_no_newline left ≡ true
  pub is : text ≡ joined lines ++ left

byte_before : (b : ℕ) (text : List ℕ) (lines : List (List ℕ)) (left : List ℕ) → is_no_newline b ≡ true → AreFree lines → list_all is_no_newline left ≡ true → text ≡ joined lines ++ left → Parted (b ∷ text)
byte_before b text [] left e f o is = record { lines = []; left = b ∷ left; free = tt; open_end = joint (is_no_newline b) (list_all is_no_newline left) e o; is = ap (λ (x : List ℕ). b ∷ x) is }
byte_before b text (l ∷ ls) left e f o is =
    record { lines = (b ∷ l) ∷ ls; left = left; free = (joint (is_no_newline b) (list_all is_no_newline l) e f.0, f.1); open_end = o; is = ap (λ (x : List ℕ). b ∷ x) is }

parted_more : (b : ℕ) (text : List ℕ) → Parted text → Parted (b ∷ text)
parted_more b text p = elim (cases_Bool (b == 10)) [
  | inl e ↦ record { lines = [] ∷ p.lines; left = p.left; free = (refl, p.free); open_end = p.open_end; is = ap (λ (x : ℕ). x ∷ text) (eqb-true b 10 e) ∙ ap (λ (x : List ℕ). 10 ∷ x) p.is }
  | inr e ↦ byte_before b text p.lines p.left (ap (λ (t : Bool). not t) e) p.free p.open_end p.is
]

parted : (text : List ℕ) → Parted text
parted [] = record { lines = []; left = []; free = tt; open_end = refl; is = refl }
parted (b ∷ text) = parted_more b text (parted text)

lines_joined : (ls : List (List ℕ)) (x : List ℕ) → AreFree ls → lines_of (joined ls ++ x) ≡ closed ls ++ lines_of x
lines_joined [] x f = refl
lines_joined (l ∷ ls) x f = ap lines_of (append_assoc (l ++ 10 ∷ []) (joined ls) x) ∙ line_first l (joined ls ++ x) f.0 ∙ ap (λ (ys : List (List ℕ)). (l ++ 10 ∷ []) ∷ ys) (lines_joined ls x f.1)

whole_joined : (ls : List (List ℕ)) (x : List ℕ) → AreFree ls → list_all is_no_newline x ≡ true → whole_lines (joined ls ++ x) ≡ closed ls
whole_joined [] x f e = whole_none x e
whole_joined (l ∷ ls) x f e = ap (λ (t : List ℕ). whole_lines t) (append_assoc (l ++ 10 ∷ []) (joined ls) x) ∙ whole_first l (joined ls ++ x) f.0 ∙ ap (λ (ys : List (List ℕ)). (l ++ 10 ∷ []) ∷ ys) (whole_joined ls x f.1 e)

-- the lines that lie wholly in a text and in bytes without a newline behind it are a front of its lines
pub front_of_lines : (text front : List ℕ) → list_all is_no_newline front ≡ true → (more : List (List ℕ)) × (lines_of text ≡ whole_lines (text ++ front) ++ more)
front_of_lines text front e =
    let p = parted text in
    let whole : whole_lines (text ++ front) ≡ closed p.lines = ap (λ (x : List ℕ). whole_lines (x ++ front)) p.is ∙ ap (λ (x : List ℕ). whole_lines x) (append_assoc (joined p.lines) p.left front) ∙ whole_joined p.lines (p.left ++ front) p.free (free_both p.left front p.open_end e) in
    (lines_of p.left, ap (λ (x : List ℕ). lines_of x) p.is ∙ lines_joined p.lines p.left p.free ∙ ap (λ (x : List (List ℕ)). x ++ lines_of p.left) (sym whole))

-- ---- whole lines

joined_more : (ls : List (List ℕ)) (l : List ℕ) → joined (ls ++ l ∷ []) ≡ joined ls ++ (l ++ 10 ∷ [])
joined_more [] l = append-nil (l ++ 10 ∷ [])
joined_more (x ∷ ls) l = ap (λ (y : List ℕ). (x ++ 10 ∷ []) ++ y) (joined_more ls l) ∙ sym (append_assoc (x ++ 10 ∷ []) (joined ls) (l ++ 10 ∷ []))

free_more : (ls : List (List ℕ)) (l : List ℕ) → AreFree ls → list_all is_no_newline l ≡ true → AreFree (ls ++ l ∷ [])
free_more [] l f e = (e, tt)
free_more (x ∷ ls) l f e = (f.0, free_more ls l f.1 e)

-- the text is lines, each with its newline
record Joined (text : List ℕ) : Type 0 where
  pub lines : List (List ℕ)
  pub free : AreFree lines
  pub is : text ≡ joined lines

whole_is_joined : (text : List ℕ) → IsWhole text → Joined text
whole_is_joined text (inl e) = record { lines = []; free = tt; is = e }
whole_is_joined text (inr (front, e)) =
    let p = parted front in
    record {
      lines = p.lines ++ p.left ∷ [];
      free = free_more p.lines p.left p.free p.open_end;
      is = e ∙ ap (λ (x : List ℕ). x ++ 10 ∷ []) p.is ∙ append_assoc (joined p.lines) p.left (10 ∷ []) ∙ sym (joined_more p.lines p.left);
    }

-- behind whole lines bytes without a newline add no line that is whole
pub lines_of_whole : (text front : List ℕ) → IsWhole text → list_all is_no_newline front ≡ true → whole_lines (text ++ front) ≡ lines_of text
lines_of_whole text front w e =
    let j = whole_is_joined text w in
    ap (λ (x : List ℕ). whole_lines (x ++ front)) j.is ∙ whole_joined j.lines front j.free e ∙ sym (append-nil (closed j.lines))
    ∙ ap (λ (x : List (List ℕ)). closed j.lines ++ x) (sym no_lines) ∙ sym (lines_joined j.lines [] j.free) ∙ ap (λ (x : List ℕ). lines_of x) (append-nil (joined j.lines) ∙ sym j.is)

-- ---- the first line

-- a text has a first line: bytes without a newline, a last byte, which is a newline unless it is the text's last, and then the rest
pub record FirstLine (text : List ℕ) : Type 0 where
  pub front : List ℕ
  pub last : ℕ
  pub rest : List ℕ
  pub free : list_all is_no_newline front ≡ true
  pub is : text ≡ (front ++ last ∷ []) ++ rest
  pub lines : lines_of text ≡ (front ++ last ∷ []) ∷ lines_of rest
  pub ends : (last ≡ 10) ⊎ (rest ≡ [])

-- bytes but the last
pub but_last : (b : ℕ) (l : List ℕ) → (front : List ℕ) × (last : ℕ) × (b ∷ l ≡ front ++ last ∷ [])
but_last b [] = ([], b, refl)
but_last b (c ∷ l) = let (front, last, e) = but_last c l in (b ∷ front, last, ap (λ (x : List ℕ). b ∷ x) e)

only_line : (b : ℕ) (l : List ℕ) → list_all is_no_newline (b ∷ l) ≡ true → FirstLine (b ∷ l)
only_line b l e =
    let (front, last, cut) = but_last b l in
    record {
      front = front;
      last = last;
      rest = [];
      free = free_front front (last ∷ []) (ap (λ (x : List ℕ). list_all is_no_newline x) (sym cut) ∙ e);
      is = cut ∙ sym (append-nil (front ++ last ∷ []));
      lines = line_last b l e ∙ ap (λ (x : List ℕ). x ∷ []) cut ∙ ap (λ (x : List (List ℕ)). (front ++ last ∷ []) ∷ x) (sym no_lines);
      ends = inr refl;
    }

first_by : (text : List ℕ) (lines : List (List ℕ)) (left : List ℕ) → AreFree lines → list_all is_no_newline left ≡ true → text ≡ joined lines ++ left → (text ≡ []) ⊎ FirstLine text
first_by text [] [] f o is = inl is
first_by text [] (b ∷ l) f o is = inr (rw is (only_line b l o))
first_by text (l ∷ ls) left f o is =
    let cut : text ≡ (l ++ 10 ∷ []) ++ (joined ls ++ left) = is ∙ append_assoc (l ++ 10 ∷ []) (joined ls) left in
    inr (record { front = l; last = 10; rest = joined ls ++ left; free = f.0; is = cut; lines = ap (λ (x : List ℕ). lines_of x) cut ∙ line_first l (joined ls ++ left) f.0; ends = inl refl })

-- a text is empty or has a first line
pub first_line : (text : List ℕ) → (text ≡ []) ⊎ FirstLine text
first_line text = let p = parted text in first_by text p.lines p.left p.free p.open_end p.is
