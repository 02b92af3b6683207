-- Where the turn is, and all else by it.
use Rattle.std.specs.Prelude.{◌≡◌, ℕ, true, List, [], ◌∷◌, ◌++◌, Some, None, map, ⊤}
use Rattle.std.specs.declared.option.Option.{Option}
use Rattle.network_meaning.specs.Sorts.{Sorts, Cargo, Shown, Reply, Said, Message}
use Rattle.network_meaning.specs.Sorts.{Cargo.tree, Said.shown, Said.replied, Message.text, Message.cargo, Message.said, Message.end, Message.quit}
use Rattle.network_meaning.specs.Language.{Language}
use Rattle.network_meaning.specs.LocalSteps.{Mode, Room, IsFit, goes_to_four}
use Rattle.network_meaning.specs.LocalSteps.{Mode.reading, Mode.waiting, Mode.printing, Mode.idle2, Mode.parsing, Mode.passing2, Mode.idle3, Mode.working3, Mode.passing3, Mode.idle4, Mode.working4, Mode.ended}
use Rattle.network_meaning.specs.MessageNetwork.{MessageNetwork}

-- where the turn is while stage 1 waits for it
pub data Place (S : Sorts) : Type 0 where
  at_two : S.Batch → Place S
  in_b : ℕ → S.Batch → S.Tree → Place S
  at_three : ℕ → S.Batch → S.Tree → Place S
  in_c : ℕ → S.Batch → Cargo S → Place S
  at_four : ℕ → S.Batch → Cargo S → Place S
  in_d : ℕ → S.Batch → Reply S → Place S
  -- tables, and the end behind them
  in_e_tables : ℕ → S.Batch → List (Shown S) → Place S
  in_e_reply : ℕ → S.Batch → Reply S → Place S
  in_f : Place S

-- stage 1 while it waits: its table, what it is to print next, what is on its way behind that
pub record Front (S : Sorts) : Type 0 where
  pub monitor : S.Monitor
  pub open_head : Option S.Head
  pub prints : Option (Said S)
  pub coming : List (Said S)
  pub ranges : S.Ranges

-- where the network stands: stage 1 reads, closes a batch, sends one, waits while the turn is away, or the stages end one after the other
pub data Phase (S : Sorts) : Type 0 where
  reads : S.Monitor → S.Ranges → Phase S
  -- stage 1 has the turn back, and is to print the end of a batch
  closes : S.Monitor → Option S.Head → S.Ranges → Phase S
  -- a batch is on its way to stage 2
  sends : S.Monitor → S.Ranges → S.Text → Phase S
  away : Front S → Place S → Phase S
  quits_a : S.Ranges → Phase S
  quits_b : Phase S
  quits_c : Phase S
  over : Phase S

-- stage 1 while it waits: it takes, or prints what it took
abbrev pub front_mode : {S : Sorts} → S.Monitor → Option S.Head → Option (Said S) → Mode S
front_mode m o None = waiting m o
front_mode m o (Some s) = printing m o (said s)

-- stage 2 while the turn is there
abbrev pub mode_two : {S : Sorts} → S.Ranges → Place S → Mode S
mode_two ranges (at_two b) = parsing ranges b
mode_two ranges (in_b line b t) = passing2 ranges line b
mode_two ranges (at_three line b t) = passing2 ranges line b
mode_two ranges (in_c line b x) = passing2 ranges line b
mode_two ranges (at_four line b x) = passing2 ranges line b
mode_two ranges (in_d line b r) = passing2 ranges line b
mode_two ranges (in_e_tables line b ss) = passing2 ranges line b
mode_two ranges (in_e_reply line b r) = passing2 ranges line b
mode_two ranges in_f = idle2 ranges

-- stage 3 while the turn is there
abbrev pub mode_three : {S : Sorts} → Place S → Mode S
mode_three (at_three line b t) = working3 t
mode_three (in_c line b x) = passing3
mode_three (at_four line b x) = passing3
mode_three (in_d line b r) = passing3
mode_three _ = idle3

-- stage 4 while the turn is there
abbrev pub mode_four : {S : Sorts} → Place S → Mode S
mode_four (at_four line b x) = working4 x
mode_four _ = idle4

-- what is on its way from 2 to 3
abbrev pub in_pipe_b : {S : Sorts} → Place S → List (Message S)
in_pipe_b (in_b line b t) = cargo (tree t) ∷ []
in_pipe_b _ = []

-- what is on its way from 3 to 4
abbrev pub in_pipe_c : {S : Sorts} → Place S → List (Message S)
in_pipe_c (in_c line b x) = cargo x ∷ []
in_pipe_c _ = []

-- what is on its way from 4 to 3
abbrev pub in_pipe_d : {S : Sorts} → Place S → List (Message S)
in_pipe_d (in_d line b r) = said (replied r) ∷ []
in_pipe_d _ = []

-- what is on its way from 3 to 2
abbrev pub in_pipe_e : {S : Sorts} → Place S → List (Message S)
in_pipe_e (in_e_tables line b ss) = map (λ s. said (shown s)) ss ++ end ∷ []
in_pipe_e (in_e_reply line b r) = said (replied r) ∷ []
in_pipe_e _ = []

-- the end of the batch, where it is on its way to stage 1
abbrev pub last_in_f : {S : Sorts} → Place S → List (Message S)
last_in_f in_f = end ∷ []
last_in_f _ = []

-- a network in which nothing is on its way to the left
abbrev pub quiet : {S : Sorts} → Mode S → Mode S → Mode S → Mode S → List (Message S) → List (Message S) → List (Message S) → Room S → MessageNetwork S
quiet one two three four a b c room = record { one = one; two = two; three = three; four = four; a = a; b = b; c = c; d = []; e = []; f = []; first_left = []; last_right = []; room = room }

-- the network in this phase
abbrev pub spread : {S : Sorts} → Phase S → Room S → MessageNetwork S
spread (reads m ranges) room = quiet (reading m) (idle2 ranges) idle3 idle4 [] [] [] room
spread (closes m o ranges) room = quiet (printing m o end) (idle2 ranges) idle3 idle4 [] [] [] room
spread (sends m ranges t) room = quiet (waiting m None) (idle2 ranges) idle3 idle4 (text t ∷ []) [] [] room
spread (away w p) room =
    record {
      one = front_mode w.monitor w.open_head w.prints;
      two = mode_two w.ranges p;
      three = mode_three p;
      four = mode_four p;
      a = [];
      b = in_pipe_b p;
      c = in_pipe_c p;
      d = in_pipe_d p;
      e = in_pipe_e p;
      f = map said w.coming ++ last_in_f p;
      first_left = [];
      last_right = [];
      room = room;
    }
spread (quits_a ranges) room = quiet ended (idle2 ranges) idle3 idle4 (quit ∷ []) [] [] room
spread quits_b room = quiet ended ended idle3 idle4 [] (quit ∷ []) [] room
spread quits_c room = quiet ended ended ended idle4 [] [] (quit ∷ []) room
spread over room = quiet ended ended ended ended [] [] [] room

-- what travels is fit for the present database
abbrev pub FitPlace : {S : Sorts} → Language S → Place S → S.Db → Type 0
FitPlace L (in_b line b t) db = L.Fits t db
FitPlace L (at_three line b t) db = L.Fits t db
FitPlace L (in_c line b x) db = IsFit L x db × (goes_to_four L x ≡ true)
FitPlace L (at_four line b x) db = IsFit L x db × (goes_to_four L x ≡ true)
FitPlace L _ db = ⊤

-- what travels in this phase is fit for the database
abbrev pub FitPhase : {S : Sorts} → Language S → Phase S → S.Db → Type 0
FitPhase L (away w p) db = FitPlace L p db
FitPhase L _ db = ⊤

-- what goes to stage 4 is a change, or a tree of a utility
abbrev pub RoutedPlace : {S : Sorts} → Language S → Place S → Type 0
RoutedPlace L (in_c line b x) = goes_to_four L x ≡ true
RoutedPlace L (at_four line b x) = goes_to_four L x ≡ true
RoutedPlace L _ = ⊤

-- what goes to stage 4 in this phase is a change, or a tree of a utility
abbrev pub RoutedPhase : {S : Sorts} → Language S → Phase S → Type 0
RoutedPhase L (away w p) = RoutedPlace L p
RoutedPhase L _ = ⊤
