-- What is fit, by the tests of the present database.
use Rattle.std.proofs.Common.{◌≡◌, ◌↔◌, sym, ap, ◌∙◌, ℕ, Bool, true, false, List}
use Rattle.calculus.specs.declared.request.Checked.{Checked}
use Rattle.calculus.specs.declared.request.Checked.TheVariants as checked
use Rattle.calculus.specs.declared.request.Utility.{Utility}
use Rattle.calculus.specs.Database.{Db}
use Rattle.quel_meaning.specs.Fit.{is_fit}

-- the test of the tree has said so of the work that it asks for
pub fits_so : (db : Db) (user : List ℕ) (t : Checked) (work : Utility) (b : Bool) → t ≡ checked.Utility work → b ≡ is_fit db user t → b ≡ true → is_fit db user (checked.Utility work) ≡ true
fits_so db user t work b is e so = sym (ap (is_fit db user) is) ∙ (sym e ∙ so)

pub not_fit : (db : Db) (user : List ℕ) (t : Checked) (work : Utility) (b : Bool) → t ≡ checked.Utility work → b ≡ is_fit db user t → b ≡ false → is_fit db user (checked.Utility work) ≡ true → ⊥
not_fit db user t work b is e so fit = let both : ◌≡◌ {A = Bool} true false = sym (ap (is_fit db user) is ∙ fit) ∙ (sym e ∙ so) in cc both

-- what a test has said
pub holds_so : (b : Bool) (P : Type 0) → b ≡ true → (b ≡ true) ↔ P → P
holds_so b P so h = h.0 so

pub fails_so : (b : Bool) (P : Type 0) → b ≡ false → (b ≡ true) ↔ P → P → ⊥
fails_so b P so h p = let both : ◌≡◌ {A = Bool} true false = sym (h.1 p) ∙ so in cc both
