-- A line that was read byte by byte, and what that did to its source.
use Rattle.std.proofs.Common.{◌≡◌, ◌⊎◌, ◌<◌, ◌≤◌, ◌+◌, ◌-◌, ◌^◌, inl, inr, refl, sym, ap, subst, ◌∙◌, ℕ, min, nat_le, Bool, true, false, List, [], ◌∷◌, ◌++◌, length, length-append, Some, None, Result, Ok, Err, IfErr, IsErrOf, append_assoc, arith}
use Rattle.std.proofs.lemmas.Bool.{leb-false, leb-true}
use Rattle.std.proofs.lemmas.List.{append-nil}
use Rattle.std.specs.Prelude.{◌==◌}
use Rattle.std.specs.List.{list_all}
use Rattle.std.specs.declared.option.Option.{Option}
use Rattle.fault_io.specs.Causes.{Rose}
use Rattle.net_core.proofs.Faulty.{heard_more}
use Rattle.net_core.specs.declared.fault.WorkFault.{WorkFault}
use Rattle.net_core.specs.declared.fault.WorkFault.TheVariants as faults
use Rattle.net_core.specs.Reads.{CountsHeard, EndsWithin, ReadsNoLine, ReadsOfLine}
use Rattle.quel_meaning.specs.Lines.{is_no_newline, lines_of}
use Rattle.quel_meaning.proofs.LineLaws.{line_first, line_last}
use Rattle.monitor.specs.Faults.{IsLater}
use Rattle.monitor.specs.Lines.{HasLine, IsByte, IsLine, IsOneLine, SourceRead, SourceSays}
use Rattle.monitor.proofs.Erring.{same_err}

-- ---- the line

pub first_byte : (rest : List ℕ) (o : Option ℕ) (b : ℕ) (left : Option (List ℕ)) → o ≡ Some b → IsByte rest o left → IsByte rest (Some b) left
first_byte rest o b left e h = subst (λ (x : Option ℕ). IsByte rest x left) e h

-- its newline came
pub line_whole : (script line rest line' : List ℕ) (b : ℕ) (left : Option (List ℕ)) → list_all is_no_newline line ≡ true → script ≡ line ++ rest → IsByte rest (Some b) left → b ≡ 10 → line' ≡ line ++ b ∷ []
    → IsLine script (Some line') left
line_whole script line rest line' b left plain is h ten grown = (
  h.0,
  h.1,
  ap lines_of (is ∙ ap (λ (x : List ℕ). line ++ x) (h.2 ∙ ap (λ (n : ℕ). n ∷ h.0) ten) ∙ sym (append_assoc line (10 ∷ []) h.0))
      ∙ line_first line h.0 plain
      ∙ ap (λ (x : List ℕ). x ∷ lines_of h.0) (sym (grown ∙ ap (λ (n : ℕ). line ++ n ∷ []) ten)),
)

pub nothing_left : lines_of [] ≡ []
unfolding lines_of
nothing_left = refl

-- the script has ended behind a line without a newline
pub line_ends : (script line rest : List ℕ) (left : Option (List ℕ)) → list_all is_no_newline line ≡ true → script ≡ line ++ rest → IsByte rest None left → (length line ≡ 0 → ⊥) → IsLine script (Some line) left
line_ends script [] rest left plain is h some = absurd (some refl)
line_ends script (b ∷ line) rest left plain is h some = (
  [],
  h.1,
  ap lines_of (is ∙ ap (λ (x : List ℕ). (b ∷ line) ++ x) h.0 ∙ append-nil (b ∷ line)) ∙ line_last b line plain ∙ ap (λ (ls : List (List ℕ)). (b ∷ line) ∷ ls) (sym nothing_left),
)

-- the script has ended, and there was no line
pub none_ends : (script line rest : List ℕ) (left : Option (List ℕ)) → script ≡ line ++ rest → IsByte rest None left → length line ≡ 0 → IsLine script None left
none_ends script [] rest left is h e = (is ∙ h.0, h.1)
none_ends script (b ∷ line) rest left is h e = absurd (omega (arith, e))

-- the line by itself is one line
pub one_whole : (line line' : List ℕ) (b : ℕ) → list_all is_no_newline line ≡ true → b ≡ 10 → line' ≡ line ++ b ∷ [] → IsOneLine line'
one_whole line line' b plain ten grown =
    let is : line' ≡ line ++ 10 ∷ [] = grown ∙ ap (λ (n : ℕ). line ++ n ∷ []) ten in
    subst (λ (x : List ℕ). IsOneLine x) (sym is)
    (ap lines_of (sym (append-nil (line ++ 10 ∷ []))) ∙ line_first line [] plain ∙ ap (λ (ls : List (List ℕ)). (line ++ 10 ∷ []) ∷ ls) nothing_left)

pub one_last : (line : List ℕ) → list_all is_no_newline line ≡ true → (length line ≡ 0 → ⊥) → IsOneLine line
one_last [] plain some = absurd (some refl)
one_last (b ∷ line) plain some = line_last b line plain

pub plain_behind : (line : List ℕ) (b : ℕ) → list_all is_no_newline line ≡ true → (b == 10) ≡ false → list_all is_no_newline (line ++ b ∷ []) ≡ true
plain_behind [] b plain other = rw other refl
plain_behind (c ∷ line) b plain other = go (c == 10) refl plain (λ h. plain_behind line b h other)
  where
    go : (t : Bool) → (c == 10) ≡ t → list_all is_no_newline (c ∷ line) ≡ true → (list_all is_no_newline line ≡ true → list_all is_no_newline (line ++ b ∷ []) ≡ true) → list_all is_no_newline ((c ∷ line) ++ b ∷ []) ≡ true
    go true e h later = let g = rw e at h in absurd (cc g)
    go false e h later = let g = rw e at h in rw e (later g)

all_plain : (xs ys : List ℕ) → list_all is_no_newline xs ≡ true → list_all is_no_newline ys ≡ true → list_all is_no_newline (xs ++ ys) ≡ true
all_plain [] ys p q = q
all_plain (c ∷ xs) ys p q = go (c == 10) refl p (λ h. all_plain xs ys h q)
  where
    go : (t : Bool) → (c == 10) ≡ t → list_all is_no_newline (c ∷ xs) ≡ true → (list_all is_no_newline xs ≡ true → list_all is_no_newline (xs ++ ys) ≡ true) → list_all is_no_newline ((c ∷ xs) ++ ys) ≡ true
    go true e h later = let g = rw e at h in absurd (cc g)
    go false e h later = let g = rw e at h in rw e (later g)

-- one byte more was read of it
line_grows : (script line rest : List ℕ) (b : ℕ) (left : Option (List ℕ)) → script ≡ line ++ rest → IsByte rest (Some b) left → (later : List ℕ) × (left ≡ Some later) × (script ≡ (line ++ b ∷ []) ++ later)
line_grows script line rest b left is h = (h.0, h.1, is ∙ ap (λ (x : List ℕ). line ++ x) h.2 ∙ sym (append_assoc line (b ∷ []) h.0))

-- ---- the source, where a byte was wanted

-- nothing was read
nothing_read : (heard : ℕ) (script : List ℕ) (left : Option (List ℕ)) → left ≡ Some script → ReadsOfLine heard heard script left
nothing_read heard script left known = ([], [], script, known, refl, omega arith, refl, omega arith)

le_or_lt : (a b : ℕ) → (a ≤ b) ⊎ (b < a)
le_or_lt a b = go (nat_le a b) refl
  where
    go : (t : Bool) → nat_le a b ≡ t → (a ≤ b) ⊎ (b < a)
    go true e = inl (leb-true a b e)
    go false e = inr (leb-false a b e)

-- the source counts what it gave
counts_more : (heard heard' given given' n : ℕ) → heard' ≡ heard + n → given' ≡ min (given + n) (2 ^ 64 - 1) → CountsHeard heard heard' given given'
counts_more heard heard' given given' n e g = (n, e, go (le_or_lt (given + n) (2 ^ 64 - 1)))
  where
    go : (given + n ≤ 2 ^ 64 - 1) ⊎ (2 ^ 64 - 1 < given + n) → (given' ≡ given + n) ⊎ (2 ^ 64 - 1 ≤ given')
    go (inl le) = inl (omega (arith, g, le))
    go (inr lt) = inr (omega (arith, g, lt))

-- too much was read before
pub too_long_before : {T : Type 0} (heard : ℕ) (left : Option (List ℕ)) (given before : ℕ) → 16777216 < heard → SourceRead {T = T} heard heard left left given given before before (Err faults.TooLong)
too_long_before heard left given before over = record {
  line = λ script known. nothing_read heard script left known;
  broken = λ e script known. absurd (cc e);
  counted = (0, omega arith, inl (omega arith));
  within = λ le. absurd (omega (arith, over, le));
  later = omega arith;
  says = (refl, λ script known. omega (arith, over));
}

-- the source failed
pub byte_failed : {T : Type 0} (heard : ℕ) (left left' : Option (List ℕ)) (given given' before now : ℕ) → ((script : List ℕ) → left ≡ Some script → left' ≡ Some script) → given' ≡ given → before ≤ now → Rose before now
    → SourceRead {T = T} heard heard left left' given given' before now (Err faults.Source)
byte_failed heard left left' given given' before now kept same later rose = record {
  line = λ script known. nothing_read heard script left' (kept script known);
  broken = λ e script known. ([], script, kept script known, refl, refl);
  counted = (0, omega arith, inl (omega (arith, same)));
  within = λ le. le;
  later = later;
  says = rose;
}

-- the source has ended
pub byte_none : {T : Type 0} (heard : ℕ) (left left' : Option (List ℕ)) (given given' before now : ℕ) (x : T) → ((script : List ℕ) → left ≡ Some script → IsByte script None left') → given' ≡ min (given + 0) (2 ^ 64 - 1) → now ≡ before
    → SourceRead heard heard left left' given given' before now (Ok x)
byte_none heard left left' given given' before now x ends gave same = record {
  line = λ script known. let h = ends script known in ([], [], [], h.1, h.0, omega arith, refl, omega arith);
  broken = λ e script known. absurd (cc e);
  counted = counts_more heard heard given given' 0 (omega arith) gave;
  within = λ le. le;
  later = omega (arith, same);
  says = same;
}

one_read : (heard heard' : ℕ) (script : List ℕ) (left : Option (List ℕ)) (b : ℕ) → IsByte script (Some b) left → heard' ≡ heard + 1 → ReadsOfLine heard heard' script left
one_read heard heard' script left b h more = ([], b ∷ [], h.0, h.1, h.2, omega (arith, more), refl, omega arith)

-- it gave a byte
pub byte_some : {T : Type 0} (heard heard' : ℕ) (left left' : Option (List ℕ)) (given given' before now b : ℕ) (x : T) → ((script : List ℕ) → left ≡ Some script → IsByte script (Some b) left') → heard' ≡ heard + 1 → heard' ≤ 16777216
    → given' ≡ min (given + 1) (2 ^ 64 - 1) → now ≡ before → SourceRead heard heard' left left' given given' before now (Ok x)
byte_some heard heard' left left' given given' before now b x gives more short gave same = record {
  line = λ script known. one_read heard heard' script left' b (gives script known) more;
  broken = λ e script known. absurd (cc e);
  counted = counts_more heard heard' given given' 1 more gave;
  within = λ le. short;
  later = omega (arith, same);
  says = same;
}

-- it gave one byte too many
pub byte_over : {T : Type 0} (heard heard' : ℕ) (left left' : Option (List ℕ)) (given given' before now b : ℕ) → ((script : List ℕ) → left ≡ Some script → IsByte script (Some b) left') → heard' ≡ heard + 1 → 16777216 < heard'
    → given' ≡ min (given + 1) (2 ^ 64 - 1) → now ≡ before → SourceRead {T = T} heard heard' left left' given given' before now (Err faults.TooLong)
byte_over heard heard' left left' given given' before now b gives more over gave same = record {
  line = λ script known. one_read heard heard' script left' b (gives script known) more;
  broken = λ e script known. absurd (cc e);
  counted = counts_more heard heard' given given' 1 more gave;
  within = λ le. omega (arith, more, over, le);
  later = omega (arith, same);
  says = (same, λ script known. let all = ap length (gives script known).2 in omega (arith, all, more, over));
}

-- ---- the source, behind bytes that were read

pub line_begun : (line : List ℕ) (heard : ℕ) (left : Option (List ℕ)) (given before : ℕ) → line ≡ [] → HasLine line heard heard left left given given before before
line_begun line heard left given before e = subst (λ (x : List ℕ). HasLine x heard heard left left given given before before) (sym e) (record {
  plain = refl;
  script = λ script known. (script, known, refl);
  many = omega arith;
  counted = (0, omega arith, inl (omega arith));
  within = λ le. le;
  same = refl;
})

pub line_grown : {heard h h' : ℕ} {left l l' : Option (List ℕ)} {given g g' before n n' : ℕ} (line line' : List ℕ) (b : ℕ) (o : Option ℕ) → o ≡ Some b → HasLine line heard h left l given g before n
    → ((script : List ℕ) → l ≡ Some script → IsByte script o l') → SourceRead h h' l l' g g' n n' (Ok o) → h' ≡ h + 1 → (b == 10) ≡ false → line' ≡ line ++ b ∷ [] → HasLine line' heard h' left l' given g' before n'
line_grown {heard} {h} {h'} {left} {l} {l'} {given} {g} {g'} {before} {n} {n'} line line' b o some was byte read more other grown =
    let long = length-append line (b ∷ []) in
    let all = ap length grown in
    record {
      plain = subst (λ (x : List ℕ). list_all is_no_newline x ≡ true) (sym grown) (plain_behind line b was.plain other);
      script = λ script known.
          let old = was.script script known in
          let now = line_grows script line old.0 b l' old.2 (first_byte old.0 o b l' some (byte old.0 old.1)) in
          (now.0, now.1, now.2 ∙ ap (λ (x : List ℕ). x ++ now.0) (sym grown));
      many = omega (arith, more, long, all, was.many);
      counted = heard_more heard h h' given g g' was.counted read.counted;
      within = λ le. read.within (was.within le);
      same = read.says ∙ was.same;
    }

line_behind : (line : List ℕ) (heard h h' : ℕ) (script rest : List ℕ) (left : Option (List ℕ)) → list_all is_no_newline line ≡ true → script ≡ line ++ rest → h ≡ heard + length line → ReadsOfLine h h' rest left → ReadsOfLine heard h' script left
line_behind line heard h h' script rest left plain is many k =
    let (front, last, later, there, all, counted, free, one) = k in
    let a = length-append (line ++ front) last in
    let b = length-append line front in
    let c = length-append front last in (
      line ++ front,
      last,
      later,
      there,
      is ∙ ap (λ (x : List ℕ). line ++ x) all ∙ sym (append_assoc line (front ++ last) later) ∙ ap (λ (x : List ℕ). x ++ later) (sym (append_assoc line front last)),
      omega (arith, a, b, c, many, counted),
      all_plain line front plain free,
      one,
    )

no_line_behind : (line script rest : List ℕ) (left : Option (List ℕ)) → list_all is_no_newline line ≡ true → script ≡ line ++ rest → ReadsNoLine rest left → ReadsNoLine script left
no_line_behind line script rest left plain is k =
    let (front, later, there, all, free) = k in
    (line ++ front, later, there, is ∙ ap (λ (x : List ℕ). line ++ x) all ∙ sym (append_assoc line front later), all_plain line front plain free)

says_behind : (f : WorkFault) (line : List ℕ) (heard h : ℕ) (left l : Option (List ℕ)) (before n n' : ℕ) → h ≡ heard + length line → ((script : List ℕ) → left ≡ Some script → (rest : List ℕ) × (l ≡ Some rest) × (script ≡ line ++ rest)) → n ≡ before
    → SourceSays h l n n' f → SourceSays heard left before n' f
says_behind faults.Source line heard h left l before n n' many on same s = subst (λ (m : ℕ). Rose m n') same s
says_behind faults.TooLong line heard h left l before n n' many on same s = (
  s.0 ∙ same,
  λ script known.
      let rest = on script known in
      let all = ap length rest.2 in
      let sum = length-append line rest.0 in
      omega (arith, s.1 rest.0 rest.1, all, sum, many),
)
says_behind _ line heard h left l before n n' many on same s = s ∙ same

-- the next byte wasn't read
pub line_failed : {T : Type 0} {heard h h' : ℕ} {left l l' : Option (List ℕ)} {given g g' before n n' : ℕ} (line : List ℕ) (f : WorkFault) (r : Result T WorkFault) → r ≡ Err f → HasLine line heard h left l given g before n
    → SourceRead {T = Option ℕ} h h' l l' g g' n n' (Err f) → SourceRead heard h' left l' given g' before n' r
line_failed {T} {heard} {h} {h'} {left} {l} {l'} {given} {g} {g'} {before} {n} {n'} line f r is was read = subst (λ (x : Result T WorkFault). SourceRead heard h' left l' given g' before n' x) (sym is) (record {
  line = λ script known. let old = was.script script known in line_behind line heard h h' script old.0 l' was.plain old.2 was.many (read.line old.0 old.1);
  broken = λ e script known. let old = was.script script known in no_line_behind line script old.0 l' was.plain old.2 (read.broken (same_err f faults.Source e) old.0 old.1);
  counted = heard_more heard h h' given g g' was.counted read.counted;
  within = λ le. read.within (was.within le);
  later = omega (arith, read.later, was.same);
  says = says_behind f line heard h left l before n n' was.many was.script was.same read.says;
})

-- the next byte, or the end, was read
line_ok : {heard h h' : ℕ} {left l l' : Option (List ℕ)} {given g g' before n n' : ℕ} (line : List ℕ) (o : Option ℕ) → HasLine line heard h left l given g before n → SourceRead h h' l l' g g' n n' (Ok o) → SourceRead heard h' left l' given g' before n' (Ok o)
line_ok {heard} {h} {h'} {left} {l} {l'} {given} {g} {g'} {before} {n} {n'} line o was read = record {
  line = λ script known. let old = was.script script known in line_behind line heard h h' script old.0 l' was.plain old.2 was.many (read.line old.0 old.1);
  broken = λ e script known. absurd (cc e);
  counted = heard_more heard h h' given g g' was.counted read.counted;
  within = λ le. read.within (was.within le);
  later = omega (arith, read.says, was.same);
  says = read.says ∙ was.same;
}

-- ---- the source, when the line was read

says_calm : (f : WorkFault) (heard : ℕ) (left : Option (List ℕ)) (before now : ℕ) → IsLater f → now ≡ before → SourceSays heard left before now f
says_calm faults.Source heard left before now l e = absurd l
says_calm faults.TooLong heard left before now l e = absurd l
says_calm _ heard left before now l e = e

ends_within : (f : WorkFault) (heard : ℕ) → IsLater f → heard ≤ 16777216 → EndsWithin heard f
ends_within faults.TooLong heard l le = absurd l
ends_within _ heard l le = le

not_source : {T : Type 0} (f : WorkFault) → IsLater f → IsErrOf {T = T} (Err f) faults.Source → ⊥
not_source f l e = let same : f ≡ faults.Source = cc e in subst (λ (x : WorkFault). IsLater x) same l

-- an answer, or a fault that isn't the source's, behind an answer
pub source_behind : {T U : Type 0} {heard heard' : ℕ} {left left' : Option (List ℕ)} {given given' before now : ℕ} (x : T) (r : Result U WorkFault) → IfErr r (λ f. IsLater f) → SourceRead heard heard' left left' given given' before now (Ok x)
    → SourceRead heard heard' left left' given given' before now r
source_behind x (Ok y) l h = record { line = h.line; broken = λ e script known. absurd (cc e); counted = h.counted; within = h.within; later = h.later; says = h.says }
source_behind {heard = heard} {heard' = heard'} {left = left} {before = before} {now = now} x (Err f) l h = record {
  line = h.line;
  broken = λ e script known. absurd (not_source f l e);
  counted = h.counted;
  within = λ le. ends_within f heard' l (h.within le);
  later = h.later;
  says = says_calm f heard left before now l h.says;
}

-- the fault of a call is handed on
pub source_err : {T U : Type 0} {heard heard' : ℕ} {left left' : Option (List ℕ)} {given given' before now : ℕ} (f : WorkFault) (r : Result U WorkFault) → r ≡ Err f → SourceRead {T = T} heard heard' left left' given given' before now (Err f)
    → SourceRead heard heard' left left' given given' before now r
source_err {T} {U} {heard} {heard'} {left} {left'} {given} {given'} {before} {now} f r is h = subst (λ (x : Result U WorkFault). SourceRead heard heard' left left' given given' before now x) (sym is) (record {
  line = h.line;
  broken = λ e script known. h.broken (same_err f faults.Source e) script known;
  counted = h.counted;
  within = h.within;
  later = h.later;
  says = h.says;
})

-- an answer behind an answer
pub source_as : {T U : Type 0} {heard heard' : ℕ} {left left' : Option (List ℕ)} {given given' before now : ℕ} (x : T) (y : U) → SourceRead heard heard' left left' given given' before now (Ok x) → SourceRead heard heard' left left' given given' before now (Ok y)
source_as x y h = source_behind x (Ok y) tt h

-- a fault that isn't the source's, behind an answer
pub source_then : {T U : Type 0} {heard heard' : ℕ} {left left' : Option (List ℕ)} {given given' before now : ℕ} (x : T) (f : WorkFault) → IsLater f → SourceRead heard heard' left left' given given' before now (Ok x)
    → SourceRead {T = U} heard heard' left left' given given' before now (Err f)
source_then x f l h = source_behind x (Err f) l h

-- nothing was read
pub source_same : {T : Type 0} (heard : ℕ) (left : Option (List ℕ)) (given before : ℕ) (x : T) → SourceRead heard heard left left given given before before (Ok x)
source_same heard left given before x = record {
  line = λ script known. nothing_read heard script left known;
  broken = λ e script known. absurd (cc e);
  counted = (0, omega arith, inl (omega arith));
  within = λ le. le;
  later = omega arith;
  says = refl;
}

-- and the source isn't at fault
pub source_unread : {T : Type 0} (heard : ℕ) (left : Option (List ℕ)) (given before : ℕ) (r : Result T WorkFault) → IfErr r (λ f. IsLater f) → SourceRead heard heard left left given given before before r
source_unread heard left given before r l = source_behind tt r l (source_same {T = Unit {0}} heard left given before tt)

-- a line was read, and its bytes and the end were counted
pub line_on : {T : Type 0} {heard h h' : ℕ} {left l l' : Option (List ℕ)} {given g g' before n n' : ℕ} (line : List ℕ) (o : Option ℕ) (r : Result T WorkFault) → IfErr r (λ f. IsLater f) → HasLine line heard h left l given g before n
    → SourceRead h h' l l' g g' n n' (Ok o) → SourceRead heard h' left l' given g' before n' r
line_on line o r l was read = source_behind o r l (line_ok line o was read)

pub line_as : {T : Type 0} {heard h h' : ℕ} {left l l' : Option (List ℕ)} {given g g' before n n' : ℕ} (line : List ℕ) (o : Option ℕ) (x : T) → HasLine line heard h left l given g before n
    → SourceRead h h' l l' g g' n n' (Ok o) → SourceRead heard h' left l' given g' before n' (Ok x)
line_as line o x was read = source_as o x (line_ok line o was read)
