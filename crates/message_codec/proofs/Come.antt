-- What comes with a frame, by what its bytes come to.
use Rattle.std.specs.Prelude.{◌≡◌, ◌++◌, true, false, List, IfOk, Result, Ok, Err}
use Rattle.std.proofs.Common.{inl, inr}
use Rattle.frame_codec.specs.declared.frame.Frame.{Frame}
use Rattle.frame_codec.specs.Frames.{is_lawful}
use Rattle.message_codec.specs.Coming.{HasCome, IsCome}
use Rattle.message_codec.specs.declared.gathered.Came.{Came}
use Rattle.message_codec.specs.declared.gathered.Came.TheVariants as came
use Rattle.network_meaning.specs.Frames.{is_more, payloads}

pub come_unlawful : (got : List Frame) (f : Frame) → is_lawful f ≡ false → HasCome got f came.Unlawful
come_unlawful got f e = inl e

pub come_part : (got : List Frame) (f : Frame) → is_lawful f ≡ true → is_more f ≡ true → HasCome got f came.Part
come_part got f lawful more = (lawful, more)

pub come_last : (got : List Frame) (f : Frame) (x : Came) → is_lawful f ≡ true → is_more f ≡ false → IsCome f.kind (payloads got ++ f.payload) x → HasCome got f x
come_last got f came.Part lawful last h = absurd h
come_last got f (came.Whole m) lawful last h = (lawful, last, h)
come_last got f came.Unlawful lawful last h = inr (last, h)

pub comes_last : {E : Type 0} (got : List Frame) (f : Frame) (r : Result Came E) → is_lawful f ≡ true → is_more f ≡ false → IfOk r (IsCome f.kind (payloads got ++ f.payload)) → IfOk r (HasCome got f)
comes_last got f (Ok x) lawful last h = come_last got f x lawful last h
comes_last got f (Err e) lawful last h = h
