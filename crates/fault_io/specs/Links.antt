-- What the start of a child counts.
use Rattle.std.specs.Prelude.{◌≡◌, ℕ, ◌+◌, Result, OnErr, OnOk, option_map}
use Rattle.std.specs.declared.option.Option.{Option}

-- With an answer one child more was started, where it is known; with an error none was.
pub record CountsStart {T E : Type 0} (before now : Option ℕ) (result : Result T E) : Type 0 where
  pub more : OnOk result (now ≡ option_map (λ n. n + 1) before)
  pub same : OnErr result (now ≡ before)
