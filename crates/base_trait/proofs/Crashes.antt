-- What crashes leave over several calls.
use Rattle.std.proofs.Common.{◌≡◌, ◌⊎◌, ◌≤◌, inl, inr, ℕ, Bool, Option, Some, refl, ◌∙◌, arith}
use Rattle.base_trait.specs.Crashes.{LeavesBut, OnlyAsked, AllDenote}
use Rattle.calculus.specs.Database.{Db}

pub nothing_else : (P : Option Db → Type 0) (clock : ℕ) (left : ℕ → Option Db → Type 0) → LeavesBut P clock clock left left
nothing_else P clock left = record { later = omega arith; each = λ t o le l. inl l }

either : {A B C : Type 0} (h : A ⊎ B) → (B → C) → A ⊎ C
either (inl a) f = inl a
either (inr b) f = inr (f b)

-- what has P has Q
pub leaves_as : (P Q : Option Db → Type 0) (before now : ℕ) (left left' : ℕ → Option Db → Type 0) → ((o : Option Db) → P o → Q o) → LeavesBut P before now left left' → LeavesBut Q before now left left'
leaves_as P Q before now left left' f b = record { later = b.later; each = λ t o le l. either (b.each t o le l) (f o) }

-- calls that only asked leave nothing that hasn't P
pub asked_leaves : (P : Option Db → Type 0) (before now : ℕ) (left left' : ℕ → Option Db → Type 0) → LeavesBut (λ o. ⊥) before now left left' → LeavesBut P before now left left'
asked_leaves P before now left left' = leaves_as (λ o. ⊥) P before now left left' (λ o never. absurd never)

behind : {A B C D : Type 0} (h : A ⊎ B) → (A → C ⊎ D) → (B → D) → C ⊎ D
behind (inl a) f g = f a
behind (inr b) f g = inr (g b)

-- one behind the other
pub leaves_more : (P Q : Option Db → Type 0) (first then now : ℕ) (a b c : ℕ → Option Db → Type 0) → ((o : Option Db) → Q o → P o) → LeavesBut P first then a b → LeavesBut Q then now b c → LeavesBut P first now a c
leaves_more P Q first then now a b c f one two = record {
  later = omega (arith, one.later, two.later);
  each = λ t o le l. behind (two.each t o (omega (arith, le, one.later)) l) (λ before. one.each t o le before) (f o);
}

no_other : {A : Type 0} (h : A ⊎ ⊥) → A
no_other (inl a) = a
no_other (inr never) = absurd never

-- where each image denotes a database, each one does behind calls that only asked
pub still_stands : (before now : ℕ) (left left' : ℕ → Option Db → Type 0) (db : Db) → ((t : ℕ) (o : Option Db) → t ≤ now → left' now o → left' t o) → LeavesBut (λ o. ⊥) before now left left' → AllDenote before left db → AllDenote now left' db
still_stands before now left left' db counts asked s o l = s o (no_other (asked.each before o (omega arith) (counts before o asked.later l)))

-- where each image stood for a database, each one since then stands for it or has P
pub each_stands : (P : Option Db → Type 0) (before now : ℕ) (left left' : ℕ → Option Db → Type 0) (db : Db) → LeavesBut P before now left left' → AllDenote before left db → (o : Option Db) → left' before o → (o ≡ Some db) ⊎ P o
each_stands P before now left left' db b s o l = behind (b.each before o (omega arith) l) (λ old. inl (s o old)) (λ p. p)

-- questions behind questions
pub asked_more : (first then now : ℕ) (ready ready' ready'' : Bool) (a b c : ℕ → Option Db → Type 0) → OnlyAsked first then ready ready' a b → OnlyAsked then now ready' ready'' b c → OnlyAsked first now ready ready'' a c
asked_more first then now ready ready' ready'' a b c one two = record {
  nothing_else = leaves_more (λ o. ⊥) (λ o. ⊥) first then now a b c (λ o never. never) one.nothing_else two.nothing_else;
  quiet = λ is. let mid = one.quiet is in let end = two.quiet mid.1 in (end.0 ∙ mid.0, end.1);
}

pub asked_itself : (clock : ℕ) (ready : Bool) (left : ℕ → Option Db → Type 0) → OnlyAsked clock clock ready ready left left
asked_itself clock ready left = record { nothing_else = nothing_else (λ o. ⊥) clock left; quiet = λ is. (refl, is) }
