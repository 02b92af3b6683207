-- A change that is laid, and a refusal that is answered.
use Rattle.std.specs.Prelude.{◌≡◌, ◌⊎◌, false, Some, Result, Ok, Err}
use Rattle.base_trait.specs.Crashes.{LeavesBut, AllDenote}
use Rattle.calculus.specs.declared.change.DbChange.{DbChange}
use Rattle.calculus.specs.declared.reply.Refusal.{Refusal}
use Rattle.calculus.specs.Change.{laid}
use Rattle.calculus.specs.Database.{Db}
use Rattle.net_core.specs.Crashes.{IsForgotten}
use Rattle.net_core.specs.declared.fault.WorkFault.{WorkFault}
use Rattle.net_core.specs.declared.fault.WorkFault.TheVariants as faults
use Rattle.quel_network.specs.RefusalLaws.{HasSpelling}
use Rattle.quel_network.specs.Spelling.{is_refusal_number}
use Rattle.stage_util.specs.declared.carried.Carried.{Carried}
use Rattle.stage_util.specs.declared.carried.Carried.TheVariants as carried
use Rattle.stage_util.specs.Working.{Kept, HandedOver, SparesDatabase, Span}

-- the change was laid, and the base handed over
pub record Laid (c : DbChange) (s : Span) (answer : Carried) : Type 0 where
  pub is : answer ≡ carried.Done
  pub made : (db : Db) → s.old ≡ Some db → s.new ≡ Some (laid db c)
  pub crash : (db : Db) → s.old ≡ Some db → LeavesBut (λ o. o ≡ Some (laid db c)) s.before s.now s.left_before s.left_now
  pub durable : (db : Db) → s.old ≡ Some db → AllDenote s.now s.left_now (laid db c)
  pub handed : IsForgotten s.schema s.new

-- it failed, and the database is that of before or of after
pub record NotLaid (c : DbChange) (s : Span) (f : WorkFault) : Type 0 where
  pub fault : f ≡ faults.Unlawful → ⊥
  pub spares : SparesDatabase s.old s.new f
  pub either : (db now : Db) → s.old ≡ Some db → s.new ≡ Some now → (now ≡ db) ⊎ (now ≡ laid db c)
  pub crash : (db : Db) → s.old ≡ Some db → LeavesBut (λ o. o ≡ Some (laid db c)) s.before s.now s.left_before s.left_now

-- the change was laid, or not
abbrev pub Lays : DbChange → Span → Result Carried WorkFault → Type 0
Lays c s (Ok answer) = Laid c s answer
Lays c s (Err f) = NotLaid c s f

-- the refusal is the answer, which has a spelling, and the base was handed over; or its number is none that refusals have, and so nothing is answered; or memory ran out
abbrev pub Refuses : Refusal → Span → Result Carried WorkFault → Type 0
Refuses r s (Ok answer) = (answer ≡ carried.Refused r) × HasSpelling r × HandedOver s
Refuses r s (Err faults.Unlawful) = (is_refusal_number r.code ≡ false) × Kept s
Refuses r s (Err faults.OutOfMemory) = Kept s
Refuses r s (Err _) = ⊥
