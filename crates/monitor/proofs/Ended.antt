-- The end of the source, and when it was asked.
use Rattle.std.proofs.Common.{◌≡◌, ◌⊎◌, inl, inr, refl, sym, ap, subst, ◌∙◌, ℕ, Bool, true, false, List, [], ◌∷◌, ◌++◌, Some, None, Result, Ok, Err, IfErr, IsErrOf, append_assoc}
use Rattle.std.specs.declared.option.Option.{Option}
use Rattle.net_core.specs.declared.fault.WorkFault.{WorkFault}
use Rattle.net_core.specs.declared.fault.WorkFault.TheVariants as faults
use Rattle.net_core.specs.Reads.{NoLineOpen, ReadsScript}
use Rattle.net_core.proofs.Faulty.{whole_same}
use Rattle.network_meaning.specs.LocalSteps.{Mode.reading}
use Rattle.quel_meaning.specs.OpenFiles.{OpenFiles}
use Rattle.quel_network.specs.Sorts.{Monitor}
use Rattle.monitor.specs.Asked.{EndSeen, SourceAsked, Unasked}
use Rattle.monitor.specs.Faults.{IsLater}
use Rattle.monitor.specs.Files.{next_line}
use Rattle.monitor.specs.Lines.{IsByte}
use Rattle.monitor.proofs.Erring.{same_err}

-- ---- a fault that isn't the source's

never_source : {T : Type 0} (f : WorkFault) → IsLater f → IsErrOf {T = T} (Err f) faults.Source → ⊥
never_source f l e = let same : f ≡ faults.Source = cc e in subst (λ (x : WorkFault). IsLater x) same l

pub later_apart : {T : Type 0} (r : Result T WorkFault) → IfErr r (λ f. IsLater f) → IsErrOf r faults.Source → ⊥
later_apart (Ok x) l e = absurd (cc e)
later_apart (Err f) l e = never_source f l e

-- ---- no open file has a line left

pub no_line_open : (files : OpenFiles) → next_line files ≡ None → NoLineOpen files
no_line_open [] e = tt
no_line_open ([] ∷ files) e = no_line_open files e
no_line_open ((line ∷ lines) ∷ files) e = absurd (cc e)

-- ---- the end of the source

hadn't_ended : (ended : Bool) {now : Bool} → (ended ≡ true → now ≡ true) → now ≡ false → ended ≡ false
hadn't_ended false stays e = refl
hadn't_ended true stays e = absurd (let is = stays refl in cc (is, e))

-- the next byte wasn't read
pub end_failed : {T : Type 0} {left left' : Option (List ℕ)} {ended mid ended' : Bool} (f : WorkFault) (r : Result T WorkFault) → r ≡ Err f → (ended ≡ true → mid ≡ true) → (IsErrOf {T = Option ℕ} (Err f) faults.Source → mid ≡ false)
    → EndSeen left left' ended ended' r
end_failed {T} {left} {left'} {ended} {mid} {ended'} f r is stays going = subst (λ (x : Result T WorkFault). EndSeen left left' ended ended' x) (sym is) (record {
  stays = λ d. absurd (cc d);
  whole = λ d. absurd (cc d);
  going = λ e. hadn't_ended ended stays (going (same_err f faults.Source e));
})

-- its newline came
pub end_whole : {T : Type 0} (line : List ℕ) (o : Option ℕ) (b : ℕ) {left mid left' : Option (List ℕ)} {ended ended' : Bool} (x : T) → o ≡ Some b → b ≡ 10
    → ((script : List ℕ) → left ≡ Some script → (rest : List ℕ) × (mid ≡ Some rest) × (script ≡ line ++ rest)) → ((script : List ℕ) → mid ≡ Some script → IsByte script o left') → (ended ≡ true → ended' ≡ true)
    → EndSeen left left' ended ended' (Ok x)
end_whole line o b {left} {mid} {left'} x some ten was byte stays = record {
  stays = λ d. stays;
  whole = λ d. inl (λ script known.
      let old = was script known in
      let next = subst (λ (p : Option ℕ). IsByte old.0 p left') some (byte old.0 old.1) in
      let is : script ≡ line ++ 10 ∷ next.0 = old.2 ∙ ap (λ (y : List ℕ). line ++ y) (next.2 ∙ ap (λ (n : ℕ). n ∷ next.0) ten) in
      (line ++ 10 ∷ [], next.0, next.1, is ∙ sym (append_assoc line (10 ∷ []) next.0), inr (line, refl)));
  going = λ e. absurd (cc e);
}

-- the source has ended
pub end_reached : {T : Type 0} {left left' : Option (List ℕ)} {ended ended' : Bool} (x : T) → ended' ≡ true → EndSeen left left' ended ended' (Ok x)
end_reached x is = record {
  stays = λ d e. is;
  whole = λ d. inr is;
  going = λ e. absurd (cc e);
}

-- a fault that isn't the source's, whatever was read
pub end_faulty : {T : Type 0} {left left' : Option (List ℕ)} {ended ended' : Bool} (f : WorkFault) (r : Result T WorkFault) → r ≡ Err f → IsLater f → EndSeen left left' ended ended' r
end_faulty {T} {left} {left'} {ended} {ended'} f r is l = subst (λ (x : Result T WorkFault). EndSeen left left' ended ended' x) (sym is) (record {
  stays = λ d. absurd (cc d);
  whole = λ d. absurd (cc d);
  going = λ e. absurd (never_source f l e);
})

-- an answer, or a fault that isn't the source's, behind an answer
pub end_behind : {T U : Type 0} {left left' : Option (List ℕ)} {ended ended' : Bool} (x : T) (r : Result U WorkFault) → IfErr r (λ f. IsLater f) → EndSeen left left' ended ended' (Ok x) → EndSeen left left' ended ended' r
end_behind x (Ok y) l h = record { stays = λ d. h.stays refl; whole = λ d. h.whole refl; going = λ e. absurd (cc e) }
end_behind x (Err f) l h = end_faulty f (Err f) refl l

-- the fault of a call is handed on
pub end_err : {T U : Type 0} {left left' : Option (List ℕ)} {ended ended' : Bool} (f : WorkFault) (r : Result U WorkFault) → r ≡ Err f → EndSeen {T = T} left left' ended ended' (Err f) → EndSeen left left' ended ended' r
end_err {T} {U} {left} {left'} {ended} {ended'} f r is h = subst (λ (x : Result U WorkFault). EndSeen left left' ended ended' x) (sym is) (record {
  stays = λ d. absurd (cc d);
  whole = λ d. absurd (cc d);
  going = λ e. h.going (same_err f faults.Source e);
})

-- nothing was read
end_same : {T : Type 0} (left : Option (List ℕ)) (ended : Bool) (x : T) → EndSeen left left ended ended (Ok x)
end_same left ended x = record {
  stays = λ d e. e;
  whole = λ d. inl (whole_same left);
  going = λ e. absurd (cc e);
}

-- ---- whether the source was asked

-- the next line is the script's, and it was read so
pub asked_script : {T : Type 0} {heard heard' : ℕ} {left left' : Option (List ℕ)} {ended ended' : Bool} (m : Monitor) (r : Result T WorkFault) → ReadsScript (reading m) → EndSeen left left' ended ended' r
    → SourceAsked m heard heard' left left' ended ended' r
asked_script m r s h = record { ends = h; asks = inl s }

-- nothing was read, and the source isn't at fault
pub asked_nothing : {T : Type 0} (m : Monitor) (heard : ℕ) (left : Option (List ℕ)) (ended : Bool) (r : Result T WorkFault) → IfErr r (λ f. IsLater f) → SourceAsked m heard heard left left ended ended r
asked_nothing m heard left ended r l = record { ends = end_behind tt r l (end_same {T = Unit {0}} left ended tt); asks = inr (refl, refl, later_apart r l) }

-- an answer, or a fault that isn't the source's, behind an answer
pub asked_behind : {T U : Type 0} {m : Monitor} {heard heard' : ℕ} {left left' : Option (List ℕ)} {ended ended' : Bool} (x : T) (r : Result U WorkFault) → IfErr r (λ f. IsLater f) → SourceAsked m heard heard' left left' ended ended' (Ok x)
    → SourceAsked m heard heard' left left' ended ended' r
asked_behind {m = m} {heard = heard} {heard' = heard'} {left = left} {left' = left'} x r l h = record { ends = end_behind x r l h.ends; asks = by h.asks }
  where
    by : ReadsScript (reading m) ⊎ Unasked heard heard' left left' (Ok x) → ReadsScript (reading m) ⊎ Unasked heard heard' left left' r
    by (inl s) = inl s
    by (inr n) = inr (n.0, n.1, later_apart r l)

-- an answer behind an answer
pub asked_as : {T U : Type 0} {m : Monitor} {heard heard' : ℕ} {left left' : Option (List ℕ)} {ended ended' : Bool} (x : T) (y : U) → SourceAsked m heard heard' left left' ended ended' (Ok x)
    → SourceAsked m heard heard' left left' ended ended' (Ok y)
asked_as x y h = asked_behind x (Ok y) tt h

-- a fault that isn't the source's, behind an answer
pub asked_then : {T U : Type 0} {m : Monitor} {heard heard' : ℕ} {left left' : Option (List ℕ)} {ended ended' : Bool} (x : T) (f : WorkFault) → IsLater f → SourceAsked m heard heard' left left' ended ended' (Ok x)
    → SourceAsked {T = U} m heard heard' left left' ended ended' (Err f)
asked_then x f l h = asked_behind x (Err f) l h

-- the fault of a call is handed on
pub asked_err : {T U : Type 0} {m : Monitor} {heard heard' : ℕ} {left left' : Option (List ℕ)} {ended ended' : Bool} (f : WorkFault) (r : Result U WorkFault) → r ≡ Err f → SourceAsked {T = T} m heard heard' left left' ended ended' (Err f)
    → SourceAsked m heard heard' left left' ended ended' r
asked_err {T} {U} {m} {heard} {heard'} {left} {left'} {ended} {ended'} f r is h = subst (λ (x : Result U WorkFault). SourceAsked m heard heard' left left' ended ended' x) (sym is) (record { ends = end_err f (Err f) refl h.ends; asks = by h.asks })
  where
    by : ReadsScript (reading m) ⊎ Unasked {T = T} heard heard' left left' (Err f) → ReadsScript (reading m) ⊎ Unasked {T = U} heard heard' left left' (Err f)
    by (inl s) = inl s
    by (inr n) = inr (n.0, n.1, λ e. n.2 (same_err f faults.Source e))
