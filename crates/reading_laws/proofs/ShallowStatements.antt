-- A statement has at most as many levels as tokens, and what is read of a text at most 500.
use Rattle.std.proofs.Common.{◌≡◌, ℕ, ◌+◌, ◌≤◌, Bool, true, false, List, [], ◌∷◌, map, length, length-append, Option, Some, None, refl, subst, arith}
use Rattle.std.specs.Prelude.{nat_le, ◌||◌, ◌&&◌}
use Rattle.std.proofs.lemmas.Bool.Decides.{nat_tests}
use Rattle.calculus.specs.declared.statement.Item.{Item}
use Rattle.calculus.specs.declared.statement.Statement.{Statement}
use Rattle.quel_grammar.specs.declared.token.Fixed.TheVariants as fixed
use Rattle.quel_grammar.specs.declared.token.Token.{Token}
use Rattle.quel_grammar.specs.Bounds.{Before, is_open, is_past, has_keys, with_token, past_behind, first_past}
use Rattle.quel_grammar.specs.Grammar.{one, word, ◌⋅◌, IsList}
use Rattle.quel_grammar.specs.Grammar.IsList.{last, next}
use Rattle.quel_grammar.specs.Next.{Reading, IsNext, IsGrammatical}
use Rattle.quel_grammar.specs.Next.Next.{Read}
use Rattle.quel_grammar.specs.NextReader.{next_at}
use Rattle.quel_grammar.specs.Statements.{IsStatement, IsTarget}
use Rattle.quel_grammar.specs.Statements.IsTarget.{set_target, attribute_target, all_target}
use Rattle.quel_grammar.specs.Statements.IsStatement.{range, retrieve, append, replace, delete, create, destroy, destroy_permit, destroy_integrity, modify, index, print, help, help_about, copy, define_view, define_permit, define_integrity}
use Rattle.quel_grammar.proofs.Answered.{reads}
use Rattle.quel_meaning.specs.Planned.{greatest}
use Rattle.quel_meaning.proofs.Each.{not_left}
use Rattle.reading_laws.specs.Shallow.{item_levels, statement_levels}
use Rattle.reading_laws.proofs.Terms.{term_few, where_few, qual_few}

-- ---- target lists

item_few : {ts : List Token} {i : Item} → IsTarget ts i → item_levels i ≤ length ts
item_few (set_target p) = omega (arith, term_few p)
item_few attribute_target = omega arith
item_few all_target = omega arith

items_few : {ts : List Token} {is : List Item} → IsList IsTarget ts is → greatest (map item_levels is) ≤ length ts
items_few (last p) = omega (arith, item_few p)
items_few (next {ts = ts} {us = us} p q) = omega (arith, item_few p, items_few q, length-append ts (one fixed.Comma ⋅ us))

-- ---- statements

-- a statement has at most as many levels as tokens
pub statement_few : {ts : List Token} {s : Statement} → IsStatement ts s → statement_levels s ≤ length ts
unfolding statement_levels
statement_few range = omega arith
statement_few (retrieve {us = us} {rs = rs} {ts = ts} {ws = ws} {ks = ks} u i p w k) =
    let before_into = length-append us (rs ⋅ one fixed.Open ⋅ ts ⋅ one fixed.Close ⋅ ws ⋅ ks) in
    let before_targets = length-append rs (one fixed.Open ⋅ ts ⋅ one fixed.Close ⋅ ws ⋅ ks) in
    omega (arith, items_few p, where_few w, before_into, before_targets, length-append ts (one fixed.Close ⋅ ws ⋅ ks), length-append ws ks)
statement_few (append {us = us} {ts = ts} {ws = ws} {r = r} u p w) =
    omega (arith, items_few p, where_few w, length-append us (word r ⋅ one fixed.Open ⋅ ts ⋅ one fixed.Close ⋅ ws), length-append ts (one fixed.Close ⋅ ws))
statement_few (replace {ts = ts} {ws = ws} p w) = omega (arith, items_few p, where_few w, length-append ts (one fixed.Close ⋅ ws))
statement_few (delete w) = omega (arith, where_few w)
statement_few (create p) = omega arith
statement_few (destroy p) = omega arith
statement_few (destroy_permit p) = omega arith
statement_few (destroy_integrity p) = omega arith
statement_few (modify p) = omega arith
statement_few (index p) = omega arith
statement_few (print p) = omega arith
statement_few help = omega arith
statement_few help_about = omega arith
statement_few (copy p w) = omega arith
statement_few (define_view {ts = ts} {ws = ws} p w) = omega (arith, items_few p, where_few w, length-append ts (one fixed.Close ⋅ ws))
statement_few (define_permit {os = os} {vs = vs} {as_ = as_} {us = us} {ws = ws} {v = v} o over c u w) =
    let before_over = length-append os (vs ⋅ word v ⋅ as_ ⋅ one fixed.To ⋅ us ⋅ ws) in
    let before_variable = length-append vs (word v ⋅ as_ ⋅ one fixed.To ⋅ us ⋅ ws) in
    omega (arith, where_few w, before_over, before_variable, length-append as_ (one fixed.To ⋅ us ⋅ ws), length-append us ws)
statement_few (define_integrity p) = omega (arith, qual_few p)

-- ---- bounds

-- tokens that pass no bound are at most 500
in_bounds : (keyed : Bool) (before : Before) (ts : List Token) → before.tokens ≤ 500 → past_behind keyed before ts ≡ None → before.tokens + length ts ≤ 500
unfolding past_behind
in_bounds keyed before [] h e = omega (arith, h)
in_bounds keyed before (t ∷ ts) h e = by_test (is_past before t) refl e (in_bounds keyed (with_token keyed before t) ts)
  where
    room : is_past before t ≡ false → before.tokens + 1 ≤ 500
    room k =
        let few = not_left (nat_le 500 before.tokens) (is_open t && nat_le 50 before.open_) (not_left (nat_le 500 before.tokens || (is_open t && nat_le 50 before.open_)) (nat_le 6 before.commas) k) in
        grind (arith, nat_tests)

    by_test : (b : Bool) → is_past before t ≡ b → ◌≡◌ {A = Option ℕ} (elim b [ true ↦ Some before.tokens | false ↦ past_behind keyed (with_token keyed before t) ts ]) None
        → (before.tokens + 1 ≤ 500 → past_behind keyed (with_token keyed before t) ts ≡ None → before.tokens + 1 + length ts ≤ 500) → before.tokens + length (t ∷ ts) ≤ 500
    by_test true k f later = absurd (cc f)
    by_test false k f later = omega (arith, later (room k) f)

few_tokens : (ts : List Token) → first_past ts ≡ None → length ts ≤ 500
unfolding first_past
few_tokens ts h =
    let few = in_bounds (has_keys ts) (record { tokens = 0; open_ = 0; commas = 0 }) ts (omega arith) h in
    omega (arith, few)

-- ---- what is read

pub read_shallow : (text : List ℕ) (from : ℕ) (s : Statement) (end : ℕ) → IsNext text from (Read s end) → statement_levels s ≤ 500
read_shallow text from s end read = omega (arith, statement_few read.is_one, few_tokens read.front read.bounded)

pub grammatical_shallow : (reading : Reading) → IsGrammatical reading → (text : List ℕ) (from : ℕ) (s : Statement) (end : ℕ) → reading text from ≡ Read s end → statement_levels s ≤ 500
grammatical_shallow reading lawful text from s end e = read_shallow text from s end (subst (IsNext text from) e (lawful text from))

pub computed_shallow : (text : List ℕ) (from : ℕ) (s : Statement) (end : ℕ) → next_at text from ≡ Read s end → statement_levels s ≤ 500
computed_shallow = grammatical_shallow next_at reads
