-- Who reads and changes a database.
use Rattle.std.specs.Prelude.{ℕ, List}

-- one who asks: a user
pub record Asker : Type 0 where
  pub user : List ℕ

-- the one who asks as this user
abbrev pub asker_of : List ℕ → Asker
asker_of user = record { user = user }

-- whoever is unrestricted, whom no permit binds, or one who asks
pub data Who : Type 0 where
  Unrestricted : Who
  AsUser : Asker → Who

-- this user asks
abbrev pub as_user : List ℕ → Who
as_user user = AsUser (asker_of user)
