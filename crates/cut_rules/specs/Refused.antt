-- Which variable of a query, an update or a tree may not be read or changed.
use Rattle.std.specs.Prelude.{◌≡◌, ◌⊎◌, ℕ, false, not, List, Some, Contains, filter}
use Rattle.calculus.specs.declared.query.RelKey.{RelKey}
use Rattle.calculus.specs.declared.query.Query.{Query}
use Rattle.calculus.specs.declared.request.Asked.{Asked}
use Rattle.calculus.specs.declared.request.Update.{Update}
use Rattle.calculus.specs.declared.request.UpdateOp.TheVariants as op
use Rattle.calculus.specs.declared.request.Checked.{Checked}
use Rattle.calculus.specs.declared.request.Checked.TheVariants as checked
use Rattle.calculus.specs.Who.{Who}
use Rattle.calculus.specs.Database.{Db}
use Rattle.calculus.specs.Rights.{Right, Append, permitted}
use Rattle.calculus.specs.Used.{used_in_query, used_vars}
use Rattle.calculus.specs.Assignments.{changed, is_changed}
use Rattle.calculus.specs.Permission.{readable, aggregates_permitted, change_permitted}

-- the place is that of one of these variables of a query, and what it uses of it may not be read
abbrev pub IsRefusedAmong : Db → Who → Query → List (ℕ × RelKey) → ℕ → Type 0
IsRefusedAmong db who q vars var = (key : RelKey) × (Contains vars (var, key)) × (readable db who key (used_in_query var q) ≡ false)

-- the number stands for no variable, and what an aggregate of the query names may not be read
abbrev pub HasRefusedAggregate : Db → Who → Query → ℕ → Type 0
HasRefusedAggregate db who q var = (var ≡ 255) × (aggregates_permitted (readable db who) q ≡ false)

-- of a query: a variable that it uses, or an aggregate
abbrev pub IsRefusedIn : Db → Who → Query → ℕ → Type 0
IsRefusedIn db who q var = IsRefusedAmong db who q (used_vars q) var ⊎ HasRefusedAggregate db who q var

-- the place is that of the variable whose rows are replaced or deleted, and they may not be so changed, or not be read
abbrev pub IsRefusedChange : Db → Who → Update → ℕ → Type 0
IsRefusedChange db who u var =
    (right : Right) × (changed u ≡ Some (var, right)) × (change_permitted db who right u.places u.rel (used_in_query var u.query) ≡ false)

-- the number stands for no variable, and the relation may not be appended to
abbrev pub IsRefusedAppend : Db → Who → Update → ℕ → Type 0
IsRefusedAppend db who u var = (var ≡ 255) × (u.op ≡ op.Append) × (permitted db who Append u.places u.rel ≡ false)

-- of an update: what is changed; else another variable that it uses, or an aggregate
abbrev pub IsRefusedOf : Db → Who → Update → ℕ → Type 0
IsRefusedOf db who u var =
    (IsRefusedChange db who u var ⊎ IsRefusedAppend db who u var)
    ⊎ (IsRefusedAmong db who u.query (filter (λ p. not (is_changed u p.0)) (used_vars u.query)) var ⊎ HasRefusedAggregate db who u.query var)

-- of a tree: of one of its queries, or of its update
abbrev pub IsRefusedBy : Db → Who → Checked → ℕ → Type 0
IsRefusedBy db who (checked.Answer asked) var = (a : Asked) × (Contains asked a) × IsRefusedIn db who a.query var
IsRefusedBy db who (checked.Update u) var = IsRefusedOf db who u var
IsRefusedBy db who (checked.Utility work) var = ⊥
