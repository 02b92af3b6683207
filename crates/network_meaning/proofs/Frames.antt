-- Frames and messages.
use Rattle.std.proofs.Common.{◌≡◌, ℕ, zero, suc, ◌/◌, ◌==◌, ◌<◌, ◌≤◌, Bool, true, false, List, [], ◌∷◌, ◌++◌, Some, None, take, drop, length, map, refl, sym, ap, subst, ◌∙◌, append_assoc, arith, length-append}
use Rattle.std.proofs.lemmas.List.{append-nil}
use Rattle.std.specs.declared.option.Option.{Option}
use Rattle.frame_codec.specs.declared.frame.Frame.{Frame}
use Rattle.frame_codec.specs.Messages.{frame, cut_into, message_frames}
use Rattle.frame_codec.proofs.Spelled.{cut_joined}
use Rattle.network_meaning.specs.Sorts.{Sorts, Message, Said}
use Rattle.network_meaning.specs.Sorts.{Cargo.tree, Cargo.change, Shown.head, Shown.row, Reply.done, Reply.refused, Said.shown, Said.replied, Message.text, Message.cargo, Message.said, Message.end, Message.quit}
use Rattle.network_meaning.specs.Language.{Language}
use Rattle.network_meaning.specs.Frames.{spell, AllMore, frames, whole, is_more, kind_of, may_be_cut, last_of, payloads, read_by}
use Rattle.network_meaning.specs.Laws.{Laws}
use Rattle.network_meaning.specs.Spelled.{Spelled, EachSpelled}

-- frames that are some More frames and a last one of this kind
pub record EndsAs (kind : ℕ) (fs : List Frame) : Type 0 where
  pub mores : List Frame
  pub last : Frame
  pub cut : fs ≡ mores ++ last ∷ []
  pub more : AllMore mores
  pub is : last.kind ≡ kind

ends_as_into : (n kind : ℕ) (bytes : List ℕ) → EndsAs kind (cut_into n kind bytes)
ends_as_into zero kind bytes = record { mores = []; last = frame kind bytes; cut = refl; more = tt; is = refl }
ends_as_into (suc n) kind bytes =
    let e : EndsAs kind (cut_into n kind (drop 4096 bytes)) = ends_as_into n kind (drop 4096 bytes) in
    record { mores = frame 11 (take 4096 bytes) ∷ e.mores; last = e.last; cut = ap (λ (fs : List Frame). frame 11 (take 4096 bytes) ∷ fs) e.cut; more = (refl, e.more); is = e.is }

ends_as : (kind : ℕ) (bytes : List ℕ) → EndsAs kind (message_frames kind bytes)
unfolding message_frames
ends_as kind bytes = ends_as_into (length bytes / 4096) kind bytes

-- no message's kind is that of More frames
no_more_kind : {S : Sorts} (m : Message S) → (kind_of m == 11) ≡ false
no_more_kind (text t) = refl
no_more_kind (cargo (tree t)) = refl
no_more_kind (cargo (change c)) = refl
no_more_kind (said (shown (head h))) = refl
no_more_kind (said (shown (row r))) = refl
no_more_kind (said (replied (refused r))) = refl
no_more_kind (said (replied done)) = refl
no_more_kind end = refl
no_more_kind quit = refl

-- a message is some More frames and a last one of its kind
pub record IsCut {S : Sorts} (L : Language S) (m : Message S) : Type 0 where
  pub mores : List Frame
  pub last : Frame
  pub cut : frames L m ≡ mores ++ last ∷ []
  pub more : AllMore mores
  pub ends : is_more last ≡ false
  pub is : last.kind ≡ kind_of m

pub is_cut : {S : Sorts} (L : Language S) (m : Message S) → IsCut L m
is_cut L m =
    let e : EndsAs (kind_of m) (frames L m) = ends_as (kind_of m) (L.payload m) in
    record { mores = e.mores; last = e.last; cut = e.cut; more = e.more; ends = ap (λ (k : ℕ). k == 11) e.is ∙ no_more_kind m; is = e.is }

one_frame : (kind : ℕ) (bytes : List ℕ) → length bytes < 4096 → message_frames kind bytes ≡ frame kind bytes ∷ []
unfolding message_frames
one_frame kind bytes h = let z : length bytes / 4096 ≡ 0 = omega arith in ap (λ (n : ℕ). cut_into n kind bytes) z

two_or_more : (fs : List Frame) (f g h : Frame) (gs : List Frame) → (fs ++ f ∷ []) ++ g ∷ gs ≡ h ∷ [] → ⊥
two_or_more fs f g h gs e =
    let n : length ((fs ++ f ∷ []) ++ g ∷ gs) ≡ 1 = ap length e in
    omega (arith, length-append (fs ++ f ∷ []) (g ∷ gs), length-append fs (f ∷ []))

cut_or_one : {S : Sorts} (L : Language S) (laws : Laws L) (m : Message S) (b : Bool) → may_be_cut m ≡ b → Spelled L m → (fs : List Frame) (f g : Frame) (gs : List Frame) → frames L m ≡ (fs ++ f ∷ []) ++ g ∷ gs → b ≡ true
cut_or_one L laws m true eb sp fs f g gs e = refl
cut_or_one L laws m false eb sp fs f g gs e =
    absurd (two_or_more fs f g (frame (kind_of m) (L.payload m)) gs (sym e ∙ one_frame (kind_of m) (L.payload m) (laws.short (kind_of m) (L.payload m) m sp eb)))

-- a message of more than one frame is one that may have them
pub cut_has_more : {S : Sorts} (L : Language S) (laws : Laws L) (m : Message S) → Spelled L m → (fs : List Frame) (f g : Frame) (gs : List Frame) → frames L m ≡ (fs ++ f ∷ []) ++ g ∷ gs → may_be_cut m ≡ true
cut_has_more L laws m sp fs f g gs e = cut_or_one L laws m (may_be_cut m) refl sp fs f g gs e

-- what begins with as many bytes as a More frame has is no reply, end or quit
long_read : {S : Sorts} (L : Language S) (laws : Laws L) (m : Message S) (b : Bool) (last : Option Frame) (bytes more : List ℕ) → may_be_cut m ≡ b → 4096 ≤ length bytes → read_by L last (bytes ++ more) ≡ Some m → b ≡ true
long_read L laws m true last bytes more eb le e = refl
long_read L laws m false None bytes more eb le e = cc
long_read L laws m false (Some f) bytes more eb le e =
    let short : length (bytes ++ more) < 4096 = laws.short f.kind (bytes ++ more) m e eb in
    absurd (omega (arith, length-append bytes more))

pub long_may_be_cut : {S : Sorts} (L : Language S) (laws : Laws L) (first : Frame) (later : List Frame) (m : Message S) → 4096 ≤ length first.payload → whole L (first ∷ later) ≡ Some m → may_be_cut m ≡ true
long_may_be_cut L laws first later m le e = long_read L laws m (may_be_cut m) (last_of (first ∷ later)) first.payload (payloads later) refl le e

last_behind : (fs : List Frame) (f : Frame) → last_of (fs ++ f ∷ []) ≡ Some f
last_behind [] f = refl
last_behind (g ∷ []) f = refl
last_behind (g ∷ h ∷ fs) f = last_behind (h ∷ fs) f

payloads_behind : (fs : List Frame) (f : Frame) → payloads (fs ++ f ∷ []) ≡ payloads fs ++ f.payload
payloads_behind [] f = append-nil f.payload
payloads_behind (g ∷ fs) f = ap (λ (bytes : List ℕ). g.payload ++ bytes) (payloads_behind fs f) ∙ sym (append_assoc g.payload (payloads fs) f.payload)

-- what is read of a frame behind others: by its kind, their bytes and then its own
pub whole_behind : {S : Sorts} (L : Language S) (fs : List Frame) (f : Frame) → whole L (fs ++ f ∷ []) ≡ L.message_of f.kind (payloads fs ++ f.payload)
whole_behind {S} L fs f = ap (λ (o : Option Frame). read_by L o (payloads (fs ++ f ∷ []))) (last_behind fs f) ∙ ap (L.message_of f.kind) (payloads_behind fs f)

-- what is cut into frames is read by its kind
pub read_again : {S : Sorts} (L : Language S) (m : Message S) → whole L (frames L m) ≡ L.message_of (kind_of m) (L.payload m)
read_again {S} L m =
    let c : IsCut L m = is_cut L m in
    let last : last_of (frames L m) ≡ Some c.last = ap last_of c.cut ∙ last_behind c.mores c.last in
    ap (λ (o : Option Frame). read_by L o (payloads (frames L m))) last
    ∙ ap (λ (k : ℕ). L.message_of k (payloads (frames L m))) c.is
    ∙ ap (L.message_of (kind_of m)) (cut_joined (kind_of m) (L.payload m))

-- a message that is spelled is what its frames are joined to
pub whole_frames : {S : Sorts} (L : Language S) (m : Message S) → Spelled L m → whole L (frames L m) ≡ Some m
whole_frames L m e = read_again L m ∙ e

pub spell-append : {S : Sorts} (L : Language S) (xs ys : List (Message S)) → spell L (xs ++ ys) ≡ spell L xs ++ spell L ys
spell-append L [] ys = refl
spell-append L (x ∷ xs) ys = rw (spell-append L xs ys) (sym (append_assoc (frames L x) (spell L xs) (spell L ys)))

pub more-append : (fs : List Frame) (f : Frame) → AllMore fs → is_more f ≡ true → AllMore (fs ++ f ∷ [])
more-append [] f h e = (e, tt)
more-append (g ∷ fs) f h e = (h.0, more-append fs f h.1 e)

pub record Split (xs ys : List Frame) (f g : Frame) (r s : List Frame) : Type 0 where
  pub before : xs ≡ ys
  pub here : f ≡ g
  pub behind : r ≡ s

-- the first frame that isn't More is the same on both sides
pub split : (xs ys : List Frame) (f g : Frame) (r s : List Frame) → AllMore xs → AllMore ys → is_more f ≡ false → is_more g ≡ false →
    xs ++ f ∷ r ≡ ys ++ g ∷ s → Split xs ys f g r s
split [] [] f g r s hx hy hf hg e = record { before = refl; here = cc; behind = cc }
split [] (y ∷ ys) f g r s hx hy hf hg e = let same : f ≡ y = cc in let t : is_more y ≡ false = subst (λ z. is_more z ≡ false) same hf in let u : is_more y ≡ true = hy.0 in cc
split (x ∷ xs) [] f g r s hx hy hf hg e = let same : g ≡ x = cc in let t : is_more x ≡ false = subst (λ z. is_more z ≡ false) same hg in let u : is_more x ≡ true = hx.0 in cc
split (x ∷ xs) (y ∷ ys) f g r s hx hy hf hg e =
    let tails : xs ++ f ∷ r ≡ ys ++ g ∷ s = cc in
    let heads : x ≡ y = cc in
    let h : Split xs ys f g r s = split xs ys f g r s hx.1 hy.1 hf hg tails in
    record { before = (let b : xs ≡ ys = h.before in cc); here = h.here; behind = h.behind }

pub record First {S : Sorts} (L : Language S) (got : List Frame) (f : Frame) (rest : List Frame) (ms : List (Message S)) : Type 0 where
  pub message : Message S
  pub later : List (Message S)
  pub is : ms ≡ message ∷ later
  pub read : whole L (got ++ f ∷ []) ≡ Some message
  pub behind : rest ≡ spell L later
  pub spelled : EachSpelled L later

-- the last frame makes the first message whole
pub first_whole : {S : Sorts} (L : Language S) (got : List Frame) (f : Frame) (rest : List Frame) (ms : List (Message S)) → AllMore got → is_more f ≡ false → EachSpelled L ms →
    got ++ f ∷ rest ≡ spell L ms → First L got f rest ms
first_whole L [] f rest [] h hf sp e = cc
first_whole L (g ∷ got) f rest [] h hf sp e = cc
first_whole {S} L got f rest (m ∷ ms) h hf sp e =
    let c : IsCut L m = is_cut L m in
    let e' : got ++ f ∷ rest ≡ c.mores ++ c.last ∷ spell L ms = e ∙ ap (λ (x : List Frame). x ++ spell L ms) c.cut ∙ append_assoc c.mores (c.last ∷ []) (spell L ms) in
    let s : Split got c.mores f c.last rest (spell L ms) = split got c.mores f c.last rest (spell L ms) h c.more hf c.ends e' in
    let same : got ++ f ∷ [] ≡ frames L m = ap (λ (x : List Frame). x ++ f ∷ []) s.before ∙ ap (λ (x : Frame). c.mores ++ x ∷ []) s.here ∙ sym c.cut in
    record {
      message = m;
      later = ms;
      is = refl;
      read = ap (whole L) same ∙ whole_frames L m sp.0;
      behind = s.behind;
      spelled = sp.1;
    }

-- some messages and others
pub each-append : {S : Sorts} (L : Language S) (xs ys : List (Message S)) → EachSpelled L xs → EachSpelled L ys → EachSpelled L (xs ++ ys)
each-append L [] ys h k = k
each-append L (x ∷ xs) ys h k = (h.0, each-append L xs ys h.1 k)

-- what is said behind all that comes
pub coming_more : {S : Sorts} (L : Language S) (coming more : List (Said S)) (xs : List (Message S)) → EachSpelled L (map said coming ++ []) → EachSpelled L (map said more ++ xs) → EachSpelled L (map said (coming ++ more) ++ xs)
coming_more L [] more xs h k = k
coming_more L (s ∷ ss) more xs h k = (h.0, coming_more L ss more xs h.1 k)
