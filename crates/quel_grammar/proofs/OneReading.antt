-- At most one thing is read.
use Rattle.std.proofs.Common.{◌≡◌, inl, inr, ℕ, List, [], ◌∷◌, ◌++◌, length, length-append, Option, Some, None, Ok, refl, sym, ap, subst, ◌∙◌, append_assoc, append-nil, arith}
use Rattle.calculus.specs.declared.statement.Statement.{Statement}
use Rattle.quel_grammar.specs.declared.token.Token.{Token}
use Rattle.quel_grammar.specs.Statements.{IsStatement}
use Rattle.quel_grammar.specs.Begins.{Begins, IsLast, Longest}
use Rattle.quel_grammar.specs.Bounds.{first_past}
use Rattle.quel_grammar.specs.Pieces.{Pieces, tokens_of, end_of, place_behind}
use Rattle.quel_grammar.specs.Next.{Next, IsBlank, IsRead, IsRefused, IsStopped, IsNextOf}
use Rattle.quel_grammar.specs.Next.Next.{Nothing, Read, Syntax}
use Rattle.quel_grammar.specs.StatementReaders.{statement_by}
use Rattle.quel_grammar.proofs.CompleteStatements.{read_statement}

-- tokens are at most one statement
pub one_reading : (ts : List Token) (s u : Statement) → IsStatement ts s → IsStatement ts u → s ≡ u
one_reading ts s u p q =
    let e : statement_by (length ts) ts ≡ Ok (s, []) = read_statement p (length ts) (omega arith) in
    let f : statement_by (length ts) ts ≡ Ok (u, []) = read_statement q (length ts) (omega arith) in
    let g : ◌≡◌ {A = Statement × List Token} (s, []) (u, []) = cc in
    ap (λ x. x.0) g

-- a front of what begins a statement begins one
pub begins_front : (front more : List Token) → Begins (front ++ more) → Begins front
begins_front front more b = record { more = more ++ b.more; statement = b.statement; is_one = rw (← append_assoc) b.is_one }

-- a whole statement begins one
pub begins_whole : (front : List Token) (s : Statement) → IsStatement front s → Begins front
begins_whole front s p = record { more = []; statement = s; is_one = rw append-nil p }

cons_both : (f c : Token) (front a : List Token) → f ≡ c → (more : List Token) × (front ≡ a ++ more) → (more : List Token) × (f ∷ front ≡ c ∷ (a ++ more))
cons_both f c front a same r = (r.0, let g : front ≡ a ++ r.0 = r.1 in cc)

-- what begins a statement here is no longer than the longest run
within : (before front rest : List Token) → IsLast (before ++ front) rest → (a x : List Token) → Begins (before ++ a) → front ++ rest ≡ a ++ x
    → (more : List Token) × (front ≡ a ++ more)
within before front rest last [] x b e = (front, refl)
within before [] [] last (c ∷ a) x b e = absurd cc
within before [] (t ∷ rest) last (c ∷ a) x b e =
    let same : c ≡ t = cc in
    let b2 : Begins ((before ++ c ∷ []) ++ a) = rw append_assoc b in
    let b3 : Begins (before ++ c ∷ []) = begins_front (before ++ c ∷ []) a b2 in
    let b4 : Begins (before ++ t ∷ []) = rw (← same) b3 in
    let last2 : Begins (before ++ t ∷ []) → ⊥ = let l2 = last in let P : List Token → Type 0 = λ us. Begins (us ++ t ∷ []) → ⊥ in subst P (append-nil before) l2 in
    absurd (last2 b4)
within before (f ∷ front) rest last (c ∷ a) x b e =
    let same : f ≡ c = cc in
    let tails : front ++ rest ≡ a ++ x = cc in
    let b2 : Begins ((before ++ c ∷ []) ++ a) = rw append_assoc b in
    let b3 : Begins ((before ++ f ∷ []) ++ a) = rw same b2 in
    let last2 : IsLast ((before ++ f ∷ []) ++ front) rest = rw append_assoc last in
    cons_both f c front a same (within (before ++ f ∷ []) front rest last2 a x b3 tails)

pub longest_holds : (tokens front rest : List Token) → Longest tokens front rest → (a x : List Token) → Begins a → tokens ≡ a ++ x → (more : List Token) × (front ≡ a ++ more)
longest_holds tokens front rest l a x b e = within [] front rest l.last a x b (sym l.same ∙ e)

no_more : (more : List Token) → length more ≡ 0 → more ≡ []
no_more [] e = refl
no_more (t ∷ more) e = absurd (omega (arith, e))

same_front : (a b more more2 : List Token) → a ≡ b ++ more → b ≡ a ++ more2 → a ≡ b
same_front a b more more2 e f =
    let g : length more ≡ 0 = omega (arith, ap length e, ap length f, length-append b more, length-append a more2) in
    e ∙ ap (λ us. b ++ us) (no_more more g) ∙ append-nil b

-- there is one longest run
pub one_longest : (tokens front rest front2 rest2 : List Token) → Longest tokens front rest → Longest tokens front2 rest2 → front ≡ front2
one_longest tokens front rest front2 rest2 l m =
    let a = longest_holds tokens front rest l front2 rest2 m.begins m.same in
    let b = longest_holds tokens front2 rest2 m front rest l.begins l.same in
    same_front front front2 a.0 b.0 a.1 b.1

some_same : {A : Type 0} (o : Option A) (x y : A) → o ≡ Some x → o ≡ Some y → x ≡ y
some_same None x y e f = absurd cc
some_same (Some z) x y e f = let g : z ≡ x = cc in let h : z ≡ y = cc in sym g ∙ h

one_stop : (front : List Token) (n m : ℕ) → IsStopped front n → IsStopped front m → n ≡ m
one_stop front n m (inl p) (inl q) = some_same (first_past front) n m p q
one_stop front n m (inl p) (inr q) = let e = q.0 in absurd cc
one_stop front n m (inr p) (inl q) = let e = p.0 in absurd cc
one_stop front n m (inr p) (inr q) = p.2 ∙ sym q.2

pub no_statement : (s : Statement) → IsStatement [] s → ⊥
unfolding statement_by
no_statement s p = let e : statement_by 0 [] ≡ Ok (s, []) = read_statement p 0 (omega arith) in absurd cc

empty_front : (front rest : List Token) → [] ≡ front ++ rest → front ≡ []
empty_front [] rest e = refl
empty_front (t ∷ front) rest e = absurd cc

not_blank : (pieces : Pieces) (s : Statement) (end : ℕ) → IsBlank pieces → IsRead pieces s end → ⊥
not_blank pieces s end blank read =
    let e : [] ≡ read.front ++ read.rest = sym (ap (λ ps. tokens_of (record { placed = ps; bad = pieces.bad })) blank.no_token) ∙ read.longest.same in
    no_statement s (let p = read.is_one in rw (empty_front read.front read.rest e) at p)

not_stopped : (front : List Token) (s : Statement) (n : ℕ) → first_past front ≡ None → IsStatement front s → IsStopped front n → ⊥
not_stopped front s n e p (inl q) = cc
not_stopped front s n e p (inr q) = q.1 s p

not_refused : (pieces : Pieces) (s : Statement) (end at : ℕ) → IsRead pieces s end → IsRefused pieces at → ⊥
not_refused pieces s end at read refused =
    let same : read.front ≡ refused.front = one_longest _ _ _ _ _ read.longest refused.longest in
    let stopped : IsStopped read.front refused.number = rw same refused.stopped in
    not_stopped read.front s refused.number read.bounded read.is_one stopped

same_read : (pieces : Pieces) (s u : Statement) (end end2 : ℕ) → IsRead pieces s end → IsRead pieces u end2 → Read s end ≡ Read u end2
same_read pieces s u end end2 p q =
    let same : p.front ≡ q.front = one_longest _ _ _ _ _ p.longest q.longest in
    let is_one : IsStatement p.front u = rw same q.is_one in
    let e : s ≡ u = one_reading p.front s u p.is_one is_one in
    let f : end ≡ end2 = p.there ∙ ap (λ ts. end_of pieces (length ts)) same ∙ sym q.there in
    rw (e, f) refl

same_refused : (pieces : Pieces) (at at2 : ℕ) → IsRefused pieces at → IsRefused pieces at2 → Syntax at ≡ Syntax at2
same_refused pieces at at2 p q =
    let same : p.front ≡ q.front = one_longest _ _ _ _ _ p.longest q.longest in
    let stopped : IsStopped p.front q.number = rw same q.stopped in
    let e : p.number ≡ q.number = one_stop p.front p.number q.number p.stopped stopped in
    ap Syntax (p.there ∙ ap (place_behind pieces) e ∙ sym q.there)

-- at most one thing is read of pieces
pub one_next : (pieces : Pieces) (a b : Next) → IsNextOf pieces a → IsNextOf pieces b → a ≡ b
one_next pieces Nothing Nothing p q = refl
one_next pieces Nothing (Read s end) p q = absurd (not_blank pieces s end p q)
one_next pieces Nothing (Syntax at) p q = absurd (q.some p)
one_next pieces (Read s end) Nothing p q = absurd (not_blank pieces s end q p)
one_next pieces (Read s end) (Read u end2) p q = same_read pieces s u end end2 p q
one_next pieces (Read s end) (Syntax at) p q = absurd (not_refused pieces s end at p q)
one_next pieces (Syntax at) Nothing p q = absurd (p.some q)
one_next pieces (Syntax at) (Read s end) p q = absurd (not_refused pieces s end at q p)
one_next pieces (Syntax at) (Syntax at2) p q = same_refused pieces at at2 p q
