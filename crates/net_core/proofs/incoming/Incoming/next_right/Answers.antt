use Rattle.std.proofs.Common.{◌≡◌, ◌∙◌, refl, sym, subst, [], ◌++◌, Err, arith, rules}
use Rattle.net_core.specs.declared.incoming.Incoming.{Incoming}
use Rattle.net_core.specs.Incoming.{Holds}
use Rattle.net_core.proofs.Pieces.{SoFar, begins, got_frame, got_none, goes_on}
use Rattle.net_core.proofs.incoming.Incoming.next_right.Goals as goal

pub frames-init : goal.frames-init
frames-init g c = record {
  held = c.requires.held;
  so_far = λ taken bytes h. begins taken bytes (g.L.Link.left c.args.link.now) c.args.self.now h;
  size = c.requires.size;
  faults = refl;
  stalls = refl;
  written = refl;
}

pub returns-in-Some-clause-asked : goal.returns-in-Some-clause-asked
returns-in-Some-clause-asked g c = λ taken bytes h.
    got_frame taken bytes _ _ _ c.frames.self c.take_ready.new.self c.in-Some.frame (c.frames.invariant.so_far taken bytes h) c.in-Some.ensures.given

pub frames-preserved : goal.frames-preserved
frames-preserved g c =
    let same = c.in-None.ensures.stays in
    let none : c.take_ready.new.self.reader.frames ≡ [] = subst (λ (s : Incoming). s.reader.frames ≡ []) (sym same) c.in-None.ensures.none in
    let was = c.frames.invariant.held in
    let done = c.in_ok-read_right-in-None.ensures.done was.0 was.1 (subst (λ (s : Incoming). Holds was.0 was.1 s) (sym same) was.2) in
    record {
      held = (was.0, was.1 ++ done.piece, done.got);
      so_far = λ taken bytes h.
          goes_on taken bytes _ _ _ _ c.take_ready.new.self c.read_right.new.self _
          (subst (λ (s : Incoming). SoFar taken bytes (g.L.Link.left c.args.link.now) (g.L.Link.left c.frames.link) s) (sym same) (c.frames.invariant.so_far taken bytes h)) none c.in_ok-read_right-in-None.ensures.done;
      size = omega (arith, c.read_right.auto.buf, c.frames.invariant.size);
      faults = c.in_ok-read_right-in-None.ensures.answered ∙ c.frames.invariant.faults;
      stalls = c.in_ok-read_right-in-None.ensures.stalls ∙ c.frames.invariant.stalls;
      written = c.in_ok-read_right-in-None.ensures.written ∙ c.frames.invariant.written;
    }

pub returns-in_err-read_right-in-None-clause-asked : goal.returns-in_err-read_right-in-None-clause-asked
returns-in_err-read_right-in-None-clause-asked g c = λ taken bytes h.
    let same = c.in-None.ensures.stays in
    let none : c.take_ready.new.self.reader.frames ≡ [] = subst (λ (s : Incoming). s.reader.frames ≡ []) (sym same) c.in-None.ensures.none in
    let is : c.from_residual.result ≡ Err c.in_err-read_right-in-None.field-0.0 = search rules in
    rw is
    (got_none taken bytes _ _ _ _ c.in_err-read_right-in-None.field-0.0 c.take_ready.new.self c.read_right.new.self
    (subst (λ (s : Incoming). SoFar taken bytes (g.L.Link.left c.args.link.now) (g.L.Link.left c.frames.link) s) (sym same) (c.frames.invariant.so_far taken bytes h)) none c.in_err-read_right-in-None.ensures.done)
