-- What the four stages speak about, and the messages that they send one another.
use Rattle.std.specs.Prelude.{ℕ, Bool, List}

-- what a language speaks about; a monitor is where stage 1 stands in a script, ranges are what variables range over, a text is a batch as it is sent
pub record Sorts : Type 1 where
  pub Db : Type 0
  pub Shelf : Type 0
  pub Script : Type 0
  pub Monitor : Type 0
  pub Ranges : Type 0
  pub Batch : Type 0
  pub Text : Type 0
  pub Statement : Type 0
  pub Tree : Type 0
  pub Change : Type 0
  pub Head : Type 0
  pub Row : Type 0
  pub Refusal : Type 0

-- what carries a statement to the right
pub data Cargo (S : Sorts) : Type 0 where
  tree : S.Tree → Cargo S
  change : S.Change → Cargo S

-- what a table is made of: its head, and its rows
pub data Shown (S : Sorts) : Type 0 where
  head : S.Head → Shown S
  row : S.Row → Shown S

-- the reply of a statement that shows no table
pub data Reply (S : Sorts) : Type 0 where
  done : Reply S
  refused : S.Refusal → Reply S

-- what stage 1 prints
pub data Said (S : Sorts) : Type 0 where
  shown : Shown S → Said S
  replied : Reply S → Said S

-- what goes through pipes: a batch, a tree or a change, what stage 1 prints, the end of what was asked, and the end of all
pub data Message (S : Sorts) : Type 0 where
  text : S.Text → Message S
  cargo : Cargo S → Message S
  said : Said S → Message S
  end : Message S
  quit : Message S

-- a table: its head and its rows
pub record Table (S : Sorts) : Type 0 where
  pub top : S.Head
  pub rows : List S.Row

-- what a tree or a change does to a database and a shelf: a refusal changes nothing, nor do tables
pub data Outcome (S : Sorts) : Type 0 where
  tables : List (Table S) → Outcome S
  made : S.Db → S.Shelf → Outcome S
  refuses : S.Refusal → Outcome S

-- what a statement means: stage 2 settles the first two
pub data Meaning (S : Sorts) : Type 0 where
  names : S.Ranges → Meaning S
  objects : S.Refusal → Meaning S
  runs : Outcome S → Meaning S

-- the next statement of a batch
pub data Next (S : Sorts) : Type 0 where
  no_more : Next S
  bad : S.Refusal → Next S
  found : S.Statement → ℕ → S.Batch → Next S

-- what reading comes to: the monitor goes on, sends a batch, or leaves
pub data Event (S : Sorts) : Type 0 where
  goes_on : Event S
  sends : S.Text → Event S
  leaves : Event S

-- what the monitor reads at once: where it stands then, the rest of the script, the shelf, what it prints, and what it comes to
pub record Read (S : Sorts) : Type 0 where
  pub monitor : S.Monitor
  pub script : S.Script
  pub shelf : S.Shelf
  pub bytes : List ℕ
  pub event : Event S

-- where a batch leaves the session, and what it prints
pub record After (S : Sorts) : Type 0 where
  pub db : S.Db
  pub shelf : S.Shelf
  pub ranges : S.Ranges
  pub bytes : List ℕ

-- a statement that ran: its reply, the database after it, and what is printed behind the reply
pub record Finished (S : Sorts) : Type 0 where
  pub reply : List ℕ
  pub db : S.Db
  pub later : List ℕ

-- where a session ends: the database and the shelf then, and whether a command ended it
pub record SessionEnd (S : Sorts) : Type 0 where
  pub db : S.Db
  pub shelf : S.Shelf
  pub quit : Bool

-- what a tree asks for
pub data Kind : Type 0 where
  answer : Kind
  update : Kind
  utility : Kind
