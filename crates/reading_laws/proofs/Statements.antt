-- What is read of a text is written.
use Rattle.std.proofs.Common.{◌≡◌, ℕ, true, ◌&&◌, List, ◌++◌, Option, None, refl, subst}
use Rattle.std.specs.List.{list_all}
use Rattle.calculus.specs.declared.statement.Item.{Item}
use Rattle.calculus.specs.declared.statement.Qual.{Qual}
use Rattle.calculus.specs.declared.statement.Statement.{Statement}
use Rattle.calculus.specs.Chars.{is_chars}
use Rattle.calculus.specs.IsDatabase.{user_is_named}
use Rattle.calculus.specs.Lists.{is_any}
use Rattle.calculus.specs.Name.{is_name}
use Rattle.calculus.specs.Rights.{are_rights}
use Rattle.quel_grammar.specs.declared.token.Fixed.TheVariants as fixed
use Rattle.quel_grammar.specs.declared.token.Token.{Token}
use Rattle.quel_grammar.specs.Bounds.{first_past}
use Rattle.quel_grammar.specs.Grammar.{one, word, ◌⋅◌, IsList, IsWhere}
use Rattle.quel_grammar.specs.Next.{Reading, IsNext, IsGrammatical}
use Rattle.quel_grammar.specs.Next.Next.{Read}
use Rattle.quel_grammar.specs.NextReader.{next_at}
use Rattle.quel_grammar.specs.Statements.{IsStatement, IsInto, IsTarget, IsOperation, IsUser, joined}
use Rattle.quel_grammar.specs.Statements.IsInto.{shown, kept, kept_into}
use Rattle.quel_grammar.specs.Statements.IsStatement.{range, retrieve, append, replace, delete, create, destroy, destroy_permit, destroy_integrity, modify, index, print, help, help_about, copy, define_view, define_permit, define_integrity}
use Rattle.quel_grammar.proofs.Answered.{reads}
use Rattle.quel_meaning.specs.Columns.{is_copy_form}
use Rattle.quel_meaning.specs.IsWritten.{qual_is_written, query_is_written, result_is_named, is_written}
use Rattle.quel_meaning.proofs.Each.{front_of, back_of, and}
use Rattle.reading_laws.proofs.Spelled.{Spelled, text_spelled}
use Rattle.reading_laws.proofs.Items.{list_any, query_written}
use Rattle.reading_laws.proofs.Constants.{where_safe, qual_safe}
use Rattle.reading_laws.proofs.Permits.{rights_read, user_read}
use Rattle.reading_laws.proofs.Attributes.{attributes_stand}
use Rattle.reading_laws.proofs.Forms.{forms_written}
use Rattle.reading_laws.proofs.Keys.{modify_written, index_written}

into_named : {ts : List Token} {name : Option (List ℕ)} → IsInto ts name → Spelled ts → result_is_named name ≡ true
into_named shown h = refl
into_named kept h = h.0
into_named kept_into h = h.1.0

-- a target list, and a qualification behind its parenthesis
in_parens : {ts ws : List Token} {is : List Item} {q : Qual} → IsList IsTarget ts is → IsWhere ws q → Spelled (ts ⋅ one fixed.Close ⋅ ws) → query_is_written is q ≡ true
in_parens {ts = ts} p w h = query_written p w (front_of _ ts _ h) (back_of _ ts _ h).1

permit_written : (vs as_ : List Token) (v : List ℕ) {os us ws : List Token} {sums : List ℕ} {asker : Option (List ℕ)} {q : Qual}
    → IsList IsOperation os sums → IsUser us asker → IsWhere ws q → Spelled (os ⋅ vs ⋅ word v ⋅ as_ ⋅ one fixed.To ⋅ us ⋅ ws)
    → (are_rights (joined sums) && (user_is_named asker && qual_is_written q)) ≡ true
permit_written vs as_ v {os = os} {us = us} {sums = sums} {asker = asker} {q = q} o u w h =
    let behind = (back_of _ as_ _ (back_of _ vs _ (back_of _ os _ h)).1).1 in
    and (are_rights (joined sums)) _ (rights_read o (front_of _ os _ h)) (and (user_is_named asker) (qual_is_written q) (user_read u (front_of _ us _ behind)) (where_safe w (back_of _ us _ behind)))

-- a statement of tokens that are spelled as they must be and pass no bound is written
statement_written : {ts : List Token} {s : Statement} → IsStatement ts s → Spelled ts → first_past ts ≡ None → is_written s ≡ true
unfolding is_written
statement_written range h e = refl
statement_written (retrieve {us = us} {rs = rs} {ts = ts} {ws = ws} {r = r} {targets = targets} {q = q} u i p w k) h e =
    let behind = back_of _ us _ h.1 in
    let inside = (back_of _ rs _ behind).1 in
    and (result_is_named r) (query_is_written targets q) (into_named i (front_of _ rs _ behind)) (query_written p w (front_of _ ts _ inside) (front_of _ ws _ (back_of _ ts _ inside).1))
statement_written (append {us = us} u p w) h e = in_parens p w (back_of _ us _ h.1).1.1
statement_written (replace p w) h e = in_parens p w h.1.1.1
statement_written (delete w) h e = where_safe w h.1.1
statement_written (create {ts = ts} {r = r} p) h e = and (is_name r) _ h.1.0 (attributes_stand p (front_of _ ts _ h.1.1.1))
statement_written (destroy p) h e = refl
statement_written (destroy_permit p) h e = refl
statement_written (destroy_integrity p) h e = refl
statement_written (modify p) h e = modify_written _ p e
statement_written (index {n = n} p) h e = and (is_name n) _ h.1.1.1.1.0 (index_written _ _ p e)
statement_written (print p) h e = refl
statement_written help h e = refl
statement_written help_about h e = refl
statement_written (copy {ts = ts} {us = us} {file = file} {columns = columns} p w) h e =
    and (is_any columns) _ (list_any p)
    (and (list_all (λ c. is_copy_form c.1) columns) (is_chars file) (forms_written p (front_of _ ts _ h.1.1.1)) (back_of _ us _ (back_of _ ts _ h.1.1.1).1).0)
statement_written (define_view {n = n} {targets = targets} {q = q} p w) h e = and (is_name n) (query_is_written targets q) h.1.1.0 (in_parens p w h.1.1.1.1)
statement_written (define_permit {vs = vs} {as_ = as_} {v = v} o over c u w) h e = permit_written vs as_ v o u w h.1.1
statement_written (define_integrity p) h e = qual_safe p h.1.1.1.1.1

-- what may be read of a text is written
pub read_written : (text : List ℕ) (from : ℕ) (s : Statement) (end : ℕ) → IsNext text from (Read s end) → is_written s ≡ true
read_written text from s end read =
    let tokens : Spelled (read.front ++ read.rest) = subst Spelled read.longest.same (text_spelled text from) in
    statement_written read.is_one (front_of _ read.front read.rest tokens) read.bounded

-- what a reading reads that the grammar allows is written
pub grammatical_written : (reading : Reading) → IsGrammatical reading → (text : List ℕ) (from : ℕ) (s : Statement) (end : ℕ) → reading text from ≡ Read s end → is_written s ≡ true
grammatical_written reading lawful text from s end e = read_written text from s end (subst (IsNext text from) e (lawful text from))

-- what is computed is written
pub computed_written : (text : List ℕ) (from : ℕ) (s : Statement) (end : ℕ) → next_at text from ≡ Read s end → is_written s ≡ true
computed_written = grammatical_written next_at reads
