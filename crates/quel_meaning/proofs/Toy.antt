-- A small language to try sessions with: `h` is done and puts a byte in front of the administrator's name, `r` prints nothing, `p` is refused, and no other byte begins a statement.
use Rattle.std.proofs.Common.{ℕ, suc, List, [], ◌∷◌, None}
use Rattle.std.specs.Prelude.{◌==◌, if◌then◌else◌, drop, codes}
use Rattle.calculus.specs.declared.reply.Reply.TheVariants.{Done, Refused}
use Rattle.calculus.specs.declared.reply.Reply.TheVariants as replies
use Rattle.calculus.specs.declared.statement.Statement.{Statement}
use Rattle.calculus.specs.declared.statement.Statement.TheVariants as statements
use Rattle.calculus.specs.Database.{Db}
use Rattle.quel_grammar.specs.Lexer.{is_white}
use Rattle.quel_grammar.specs.Next.{Next, Nothing, Read, Syntax}
use Rattle.fault_io.specs.Files.{Files}
use Rattle.quel_meaning.specs.State.{State, Outcome}
use Rattle.quel_meaning.specs.Happening.{Setting}

-- what is read at a place, where these bytes stand there
abbrev pub read_at : ℕ → List ℕ → Next
read_at place [] = Nothing
read_at place (b ∷ bs) =
    if is_white b then read_at (suc place) bs
    else if b == 104 then Read (statements.Help None) (suc place)
    else if b == 114 then Read (statements.Range [] []) (suc place)
    else if b == 112 then Read (statements.Print []) (suc place)
    else Syntax place

-- the database whose administrator has this name
abbrev pub named : List ℕ → Db
named name = record { dba = name; relations = []; indexes = []; views = []; rules = []; permits = [] }

-- what a statement does
abbrev pub done : State → Statement → Outcome
done state (statements.Help rel) = record { state = record state { db = named (33 ∷ state.db.dba) }; reply = Done }
done state (statements.Range var rel) = record { state = state; reply = replies.Nothing }
done state _ = record { state = state; reply = Refused (record { code = 10; line = 0; row = 0 }) }

-- the small language
abbrev pub toy : Setting
toy = record { reading = λ text from. read_at from (drop from text); meaning = done }

-- the database of ann, with these files
abbrev pub of_ann : Files → State
of_ann shelf = record { db = named (codes "ann"); shelf = shelf; ranges = [] }
