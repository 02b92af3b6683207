-- Each statement of the grammar is read to its end.
use Rattle.std.proofs.Common.{◌≡◌, ℕ, Bool, List, [], ◌∷◌, ◌++◌, append-nil, Option, None, Ok, refl, ◌≤◌, ◌<◌, length, length-append, arith}
use Rattle.calculus.specs.declared.statement.Item.{Item}
use Rattle.calculus.specs.declared.statement.Qual.{Qual}
use Rattle.calculus.specs.declared.statement.Statement.{Statement}
use Rattle.calculus.specs.declared.statement.Statement.TheVariants as statements
use Rattle.quel_grammar.specs.declared.token.Fixed.TheVariants as fixed
use Rattle.quel_grammar.specs.declared.token.Token.{Token}
use Rattle.quel_grammar.specs.declared.token.Token.TheVariants as tokens
use Rattle.quel_grammar.specs.Grammar.{one, IsWhere, IsQual, IsList, IsName}
use Rattle.quel_grammar.specs.Grammar.IsList.{last, next}
use Rattle.quel_grammar.specs.Grammar.IsName.{name}
use Rattle.quel_grammar.specs.Statements.{joined, IsTarget, IsDeclared, IsColumn, IsSort, IsUnique, IsInto, IsWay, IsOperation, IsOver, IsCovered, IsUser, IsStatement}
use Rattle.quel_grammar.specs.Statements.IsWay.{from, into}
use Rattle.quel_grammar.specs.Statements.IsOver.{over_on, over_of, over_to}
use Rattle.quel_grammar.specs.Statements.IsUser.{user, everyone}
use Rattle.quel_grammar.specs.Statements.IsStatement.{range, retrieve, append, replace, delete, create, destroy, destroy_permit, destroy_integrity, modify, index, print, help, help_about, copy, define_view, define_permit, define_integrity}
use Rattle.quel_grammar.specs.Reading.{first, on_fixed, is_fixed, expect}
use Rattle.quel_grammar.specs.TermReaders.{level, qual_by}
use Rattle.quel_grammar.specs.PartReaders.{format_of, copy_form_of, drop_by, over_of as over_word, user_of, way_of}
use Rattle.quel_grammar.specs.StatementReaders.{range_at, retrieve_by, changed_by, append_by, delete_by, create_by, drop_of, destroy_names, destroy_by, modify_by, index_by, print_by, help_at, copy_by, permit_by, rule_by, define_by, statement_by}
use Rattle.quel_grammar.proofs.Ends.{nothing_ends}
use Rattle.quel_grammar.proofs.Complete.{read_qual}
use Rattle.quel_grammar.proofs.CompleteParts.{read_outer_where, read_last_where, read_last_names, read_targets, read_sort, sort_front, read_into, read_unique, read_to, declared_part, column_part, read_parts, read_numbers, read_structure, read_operations, read_names_inside, read_covered, qual_step}

abbrev inside : List Token → List Token → List Token
inside ts rest = tokens.Fixed fixed.Open ∷ ts ++ tokens.Fixed fixed.Close ∷ rest

read_retrieve : {us rs ts ws ks : List Token} {r : Option (List ℕ)} {targets : List Item} {q : Qual} {keys : List (List ℕ × Bool)}
    → IsUnique us → IsInto rs r → IsList IsTarget ts targets → IsWhere ws q → IsSort ks keys → (n : ℕ) → length (us ++ (rs ++ inside ts (ws ++ ks))) ≤ n
    → retrieve_by n (level n) (us ++ (rs ++ inside ts (ws ++ ks))) ≡ Ok (statements.Retrieve r targets q keys, [])
unfolding retrieve_by
read_retrieve {us = us} {rs = rs} {ts = ts} {ws = ws} {ks = ks} p o l w s n le =
    let a = length-append us (rs ++ inside ts (ws ++ ks)) in
    let b = length-append rs (inside ts (ws ++ ks)) in
    let c = length-append ts (tokens.Fixed fixed.Close ∷ (ws ++ ks)) in
    let d = length-append ws ks in
    rw (
      read_unique p o (ts ++ tokens.Fixed fixed.Close ∷ (ws ++ ks)),
      read_into o (ts ++ tokens.Fixed fixed.Close ∷ (ws ++ ks)),
      read_targets n l (omega (arith, a, b, c, d)) (ws ++ ks),
      read_outer_where w n (omega (arith, a, b, c, d)) ks (sort_front s).0 (sort_front s).1,
      read_sort s n (omega (arith, a, b, c, d)),
    ) refl

read_changed : {ts ws : List Token} {targets : List Item} {q : Qual} (make : List ℕ → List Item → Qual → Statement) (r : List ℕ) → IsList IsTarget ts targets → IsWhere ws q
    → (n : ℕ) → length (inside ts ws) ≤ n
    → changed_by n (level n) make (tokens.Name r ∷ inside ts ws) ≡ Ok (make r targets q, [])
unfolding changed_by
read_changed {ts = ts} {ws = ws} make r l w n le =
    let a = length-append ts (tokens.Fixed fixed.Close ∷ ws) in
    rw (read_targets n l (omega (arith, a)) ws, read_last_where w n (omega (arith, a))) refl

names_front : {ts : List Token} {names : List (List ℕ)} → IsList IsName ts names → first (on_fixed drop_of) ts ≡ None
names_front (last name) = refl
names_front (next name l) = refl

over_front : {vs : List Token} → IsOver vs → (rest : List Token) → first (is_fixed fixed.Comma) (vs ++ rest) ≡ None
over_front over_on rest = refl
over_front over_of rest = refl
over_front over_to rest = refl

read_over : {vs : List Token} → IsOver vs → (rest : List Token) → expect (on_fixed over_word) (vs ++ rest) ≡ Ok (tt, rest)
read_over over_on rest = refl
read_over over_of rest = refl
read_over over_to rest = refl

read_user : {us : List Token} {asker : Option (List ℕ)} → IsUser us asker → (rest : List Token) → expect user_of (us ++ rest) ≡ Ok (asker, rest)
read_user user rest = refl
read_user everyone rest = refl

read_permit : {os vs cs us ws : List Token} {v : List ℕ} {sums : List ℕ} {names : List (List ℕ)} {asker : Option (List ℕ)} {q : Qual}
    → IsList IsOperation os sums → IsOver vs → IsCovered cs names → IsUser us asker → IsWhere ws q → (n : ℕ)
    → length (os ++ (vs ++ tokens.Name v ∷ (cs ++ tokens.Fixed fixed.To ∷ (us ++ ws)))) < n
    → permit_by n (level n) (os ++ (vs ++ tokens.Name v ∷ (cs ++ tokens.Fixed fixed.To ∷ (us ++ ws)))) ≡ Ok (statements.Permit (joined sums) v names asker q, [])
unfolding permit_by
read_permit {os = os} {vs = vs} {cs = cs} {us = us} {ws = ws} {v = v} l over c u w n lt =
    let a = length-append os (vs ++ tokens.Name v ∷ (cs ++ tokens.Fixed fixed.To ∷ (us ++ ws))) in
    let b = length-append vs (tokens.Name v ∷ (cs ++ tokens.Fixed fixed.To ∷ (us ++ ws))) in
    let d = length-append cs (tokens.Fixed fixed.To ∷ (us ++ ws)) in
    let e = length-append us ws in
    rw (
      read_operations n l (omega (arith, a)) (vs ++ tokens.Name v ∷ (cs ++ tokens.Fixed fixed.To ∷ (us ++ ws))) (over_front over _),
      read_over over (tokens.Name v ∷ (cs ++ tokens.Fixed fixed.To ∷ (us ++ ws))),
      read_covered c n (omega (arith, a, b, d)) (us ++ ws),
      read_user u ws,
      read_last_where w n (omega (arith, a, b, d, e)),
    ) refl

read_copy : {us : List Token} {is_from : Bool} → IsWay us is_from → (file : List ℕ) → expect (on_fixed way_of) (us ++ tokens.Text file ∷ []) ≡ Ok (is_from, tokens.Text file ∷ [])
read_copy from file = refl
read_copy into file = refl

read_rule_qual : {ts : List Token} {q : Qual} → IsQual ts q → (n : ℕ) → length ts ≤ n → qual_by (level n) ts ≡ Ok (q, [])
read_rule_qual {ts = ts} p n le = let e = qual_step (level n) _ _ _ (read_qual p n le [] nothing_ends) in rw append-nil at e

pub read_statement : {ts : List Token} {s : Statement} → IsStatement ts s → (n : ℕ) → length ts ≤ n → statement_by n ts ≡ Ok (s, [])
unfolding statement_by range_at append_by delete_by create_by destroy_names destroy_by drop_by modify_by index_by print_by help_at copy_by rule_by define_by
read_statement range n le = refl
read_statement (retrieve p o l w s) n le = read_retrieve p o l w s n (omega arith)
read_statement (append {us = us} {ts = ts} {ws = ws} {r = r} t l w) n le =
    rw (read_to t r (inside ts ws), read_changed statements.Append r l w n (omega (arith, length-append us (tokens.Name r ∷ inside ts ws)))) refl
read_statement (replace {v = v} l w) n le = read_changed statements.Replace v l w n (omega arith)
read_statement (delete w) n le = rw (read_last_where w n (omega arith)) refl
read_statement (create {ts = ts} l) n le = rw (read_parts format_of IsDeclared declared_part n l (omega (arith, length-append ts (one fixed.Close))) []) refl
read_statement (destroy l) n le = rw (names_front l, read_last_names n l (omega arith)) refl
read_statement (destroy_permit p) n le = rw (read_numbers p n (omega arith)) refl
read_statement (destroy_integrity p) n le = rw (read_numbers p n (omega arith)) refl
read_statement (modify p) n le = rw (read_structure p n (omega arith)) refl
read_statement (index {ts = ts} l) n le = rw (read_names_inside n l (omega (arith, length-append ts (one fixed.Close))) []) refl
read_statement (print l) n le = rw (read_last_names n l (omega arith)) refl
read_statement help n le = refl
read_statement help_about n le = refl
read_statement (copy {ts = ts} {us = us} {file = file} l way) n le =
    rw (
      read_parts copy_form_of IsColumn column_part n l (omega (arith, length-append ts (tokens.Fixed fixed.Close ∷ (us ++ tokens.Text file ∷ []))))
          (us ++ tokens.Text file ∷ []),
      read_copy way file,
    ) refl
read_statement (define_view {n = v} l w) n le = read_changed statements.View v l w n (omega arith)
read_statement (define_permit l over c u w) n le = read_permit l over c u w n (omega arith)
read_statement (define_integrity p) n le = rw (read_rule_qual p n (omega arith)) refl
