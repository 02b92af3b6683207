use Rattle.std.proofs.Common.{◌≡◌, ℕ, refl, sym, subst, arith}
use Rattle.std.specs.declared.option.Option.{Option}
use Rattle.frame_codec.specs.declared.fault.FrameFault.TheVariants.{OutOfMemory as no_memory}
use Rattle.net_core.specs.Incoming.{IsFaultAt}
use Rattle.net_core.proofs.Readers.{counted, holds_more, stands_bad, stands_long}
use Rattle.net_core.proofs.incoming.Incoming.feed.Goals as goal

pub feed-requires : goal.feed-requires
feed-requires c =
    let h = c.requires.held in
    let k = counted h.0 h.1 c.args.self.now h.2 in
    omega (arith, k, c.requires.counted)

pub returns-in-Ok-clause-held : goal.returns-in-Ok-clause-held
returns-in-Ok-clause-held c = λ taken bytes h.
    holds_more taken bytes c.args.self.now _ c.args.piece.now h c.in-Ok.ensures.ok refl refl (subst (λ (f : Option ℕ). IsFaultAt c.feed.new.self.fault f) (sym c.requires.unbroken) c.in-Ok.ensures.whole)

pub returns-in-Err-BadKind-clause-held : goal.returns-in-Err-BadKind-clause-held
returns-in-Err-BadKind-clause-held c = λ taken bytes h.
    let is = c.in-Err-BadKind.field-0-is in
    let ne : c.in-Err-BadKind.field-0 ≡ no_memory → ⊥ = λ e. cc in
    holds_more taken bytes c.args.self.now _ c.args.piece.now h (c.in-Err-BadKind.ensures.broken ne) refl refl (stands_bad _ _ _ (c.in-Err-BadKind.ensures.fault ne) is)

pub returns-in-Err-TooLong-clause-held : goal.returns-in-Err-TooLong-clause-held
returns-in-Err-TooLong-clause-held c = λ taken bytes h.
    let is = c.in-Err-TooLong.field-0-is in
    let ne : c.in-Err-TooLong.field-0 ≡ no_memory → ⊥ = λ e. cc in
    holds_more taken bytes c.args.self.now _ c.args.piece.now h (c.in-Err-TooLong.ensures.broken ne) refl refl (stands_long _ _ _ (c.in-Err-TooLong.ensures.fault ne) is)
