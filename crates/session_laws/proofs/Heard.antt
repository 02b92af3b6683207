-- What the monitor reads at once, by what it reads of the script.
use Rattle.std.proofs.Common.{◌≡◌, ◌⊎◌, inl, inr, refl, sym, ap, ◌∙◌, ℕ, false, List, [], ◌∷◌, ◌++◌, append_assoc}
use Rattle.std.specs.List.{concat}
use Rattle.calculus.specs.Database.{Db}
use Rattle.fault_io.specs.Files.{Files}
use Rattle.network_meaning.specs.Sorts.{Read}
use Rattle.quel_meaning.proofs.LeftOpen.{end_of_file}
use Rattle.quel_meaning.proofs.LineLaws.{joined_again, line_first}
use Rattle.quel_meaning.specs.Buffer.{with_piece}
use Rattle.quel_meaning.specs.Happening.{After, Kept, Setting, over, quiet}
use Rattle.quel_meaning.specs.Lines.{lines_of}
use Rattle.quel_meaning.specs.Monitor.{Append, Go, Include, Print, Quit, Reset, Unknown, Write, Order, Part, Piece, parts_of}
use Rattle.quel_meaning.specs.OpenFiles.{OpenFiles, after_files}
use Rattle.quel_meaning.specs.Ranges.{Ranges}
use Rattle.quel_meaning.specs.Session.{printed}
use Rattle.quel_network.specs.Quel.{quel, setting_for}
use Rattle.quel_network.specs.Reading.{Standing, ordered, read, read_line, read_on, read_parts, read_script, standing}
use Rattle.quel_network.specs.Session.{after_parts, after_script_at, end_of, kept_at, open_files, up_to_file}
use Rattle.quel_network.specs.Sorts.{Monitor, User, quel_sorts}
use Rattle.net_core.specs.Reads.{NoLineOpen}
use Rattle.session_laws.proofs.Texts.{FirstLine, first_line, no_lines}

-- the same, with this left of the script
abbrev pub leaving : List ℕ → Read quel_sorts → Read quel_sorts
leaving script got = record { monitor = got.monitor; script = script; shelf = got.shelf; bytes = got.bytes; event = got.event }

-- ---- the parts of a line don't depend on the script

parts_alike : (s : Standing) (x y : List ℕ) (parts : List Part) → read_parts s y parts ≡ leaving y (read_parts s x parts)
unfolding read_parts
parts_alike s x y [] = refl
parts_alike s x y (Piece bytes ∷ parts) = parts_alike (record s { buffer = with_piece s.buffer bytes }) x y parts
parts_alike s x y (Order Go ∷ parts) = refl
parts_alike s x y (Order Quit ∷ parts) = refl
parts_alike s x y (Order Print ∷ parts) = parts_alike (ordered s Print) x y parts
parts_alike s x y (Order Reset ∷ parts) = parts_alike (ordered s Reset) x y parts
parts_alike s x y (Order Append ∷ parts) = parts_alike (ordered s Append) x y parts
parts_alike s x y (Order (Include file) ∷ parts) = refl
parts_alike s x y (Order (Write file) ∷ parts) = refl
parts_alike s x y (Order Unknown ∷ parts) = parts_alike (ordered s Unknown) x y parts

parts_leave : (s : Standing) (x : List ℕ) (parts : List Part) → (read_parts s x parts).script ≡ x
parts_leave s x parts = ap (λ (got : Read quel_sorts). got.script) (parts_alike s x x parts)

-- ---- what is read of a script, and of a front of it

-- what was read is that of the script that ends where this does
record Cut (m : Monitor) (shelf : Files) (script : List ℕ) (got : Read quel_sorts) (b u : List ℕ) (read_of : List ℕ → Read quel_sorts) : Type 0 where
  pub before : List ℕ
  pub is : script ≡ before ++ u
  pub reads : read_of before ≡ leaving b got

-- where the script isn't looked at
cut_parts : (m : Monitor) (shelf : Files) (s : Standing) (script b u : List ℕ) (parts : List Part) → (read_parts s script parts).script ≡ b ++ u → Cut m shelf script (read_parts s script parts) b u (λ x. read_parts s x parts)
cut_parts m shelf s script b u parts e = record { before = b; is = sym (parts_leave s script parts) ∙ e; reads = parts_alike s script b parts }

none_before : (b u : List ℕ) → [] ≡ b ++ u → b ≡ []
none_before [] u e = refl
none_before (x ∷ b) u e = absurd (cc e)

-- the same last line, or the same line and then what is left of the front
line_again : (script b u : List ℕ) (f : FirstLine script) → f.rest ≡ b ++ u → lines_of ((f.front ++ f.last ∷ []) ++ b) ≡ (f.front ++ f.last ∷ []) ∷ lines_of b
line_again script b u f e = elim f.ends [
  | inl ten ↦ rw ten (line_first f.front b f.free)
  | inr none ↦ (let same : b ≡ f.rest = none_before b u (sym none ∙ e) ∙ sym none in rw same (ap (λ (x : List ℕ). lines_of x) (sym f.is) ∙ f.lines))
]

cut_line : (m : Monitor) (shelf : Files) (script b u : List ℕ) (f : FirstLine script) → (read_script m shelf (lines_of script)).script ≡ b ++ u
    → Cut m shelf script (read_script m shelf (lines_of script)) b u (λ x. read_script m shelf (lines_of x))
cut_line m shelf script b u f e =
    let line = f.front ++ f.last ∷ [] in
    let s = standing m [] shelf in
    let here : read_script m shelf (lines_of script) ≡ read_parts s f.rest (parts_of line) = ap (read_script m shelf) f.lines ∙ ap (λ (x : List ℕ). read_parts s x (parts_of line)) (joined_again f.rest) in
    let rest : f.rest ≡ b ++ u = sym (parts_leave s f.rest (parts_of line)) ∙ ap (λ (got : Read quel_sorts). got.script) (sym here) ∙ e in
    let there : read_script m shelf (lines_of (line ++ b)) ≡ read_parts s b (parts_of line) = ap (read_script m shelf) (line_again script b u f rest) ∙ ap (λ (x : List ℕ). read_parts s x (parts_of line)) (joined_again b) in
    record {
      before = line ++ b;
      is = f.is ∙ ap (λ (x : List ℕ). line ++ x) rest ∙ sym (append_assoc line b u);
      reads = there ∙ parts_alike s f.rest b (parts_of line) ∙ ap (λ (got : Read quel_sorts). leaving b got) (sym here);
    }

cut_none : (m : Monitor) (shelf : Files) (script b u : List ℕ) → script ≡ [] → (read_script m shelf (lines_of script)).script ≡ b ++ u
    → Cut m shelf script (read_script m shelf (lines_of script)) b u (λ x. read_script m shelf (lines_of x))
cut_none m shelf script b u e left =
    let empty : read_script m shelf (lines_of script) ≡ read_script m shelf [] = ap (λ (x : List ℕ). read_script m shelf (lines_of x)) e ∙ ap (read_script m shelf) no_lines in
    let rest : [] ≡ b ++ u = sym (ap (λ (got : Read quel_sorts). got.script) empty) ∙ left in
    let none : b ≡ [] = none_before b u rest in
    record {
      before = b;
      is = e ∙ rest;
      reads = ap (λ (x : List ℕ). read_script m shelf (lines_of x)) (none ∙ sym e) ∙ empty ∙ ap (λ (x : List ℕ). leaving x (read_script m shelf [])) (sym none) ∙ ap (λ (got : Read quel_sorts). leaving b got) (sym empty);
    }

cut_files : (m : Monitor) (script b u : List ℕ) (shelf : Files) (files : OpenFiles) → (read_line m script shelf files).script ≡ b ++ u → Cut m shelf script (read_line m script shelf files) b u (λ x. read_line m x shelf files)
cut_files m script b u shelf [] e = elim (first_line script) [ inl none ↦ cut_none m shelf script b u none e | inr f ↦ cut_line m shelf script b u f e ]
cut_files m script b u shelf ([] ∷ files) e = cut_files m script b u shelf files e
cut_files m script b u shelf ((line ∷ lines) ∷ files) e = cut_parts m shelf (standing m (lines ∷ files) shelf) script b u (parts_of line) e

cut_on : (m : Monitor) (script b u : List ℕ) (shelf : Files) (parts : List Part) → (read_on m script shelf parts).script ≡ b ++ u → Cut m shelf script (read_on m script shelf parts) b u (λ x. read_on m x shelf parts)
cut_on m script b u shelf [] e = cut_files m script b u shelf m.files e
cut_on m script b u shelf (part ∷ parts) e = cut_parts m shelf (standing m m.files shelf) script b u (part ∷ parts) e

-- where a read leaves the end of a script, it is that of the script without this end
pub read_cut : (m : Monitor) (script b u : List ℕ) (shelf : Files) → (read m script shelf).script ≡ b ++ u → (before : List ℕ) × (script ≡ before ++ u) × (read m before shelf ≡ leaving b (read m script shelf))
unfolding read
read_cut m script b u shelf e = let c = cut_on m script b u shelf m.parts e in (c.before, c.is, c.reads)

-- ---- a line of the script

-- nothing is read of a script, or its first line, where neither an open file has a line left nor anything is left of the present line
abbrev pub ReadsLine : Monitor → List ℕ → List ℕ → Type 0
ReadsLine m script script' = (m.parts ≡ []) × NoLineOpen m.files × (f : FirstLine script) × (script' ≡ f.rest)

script_kind : (m : Monitor) (shelf : Files) (script : List ℕ) → ((read_script m shelf (lines_of script)).script ≡ script) ⊎ ((f : FirstLine script) × ((read_script m shelf (lines_of script)).script ≡ f.rest))
script_kind m shelf script = elim (first_line script) [
  | inl none ↦ inl (ap (λ (x : List ℕ). (read_script m shelf (lines_of x)).script) none ∙ ap (λ (ls : List (List ℕ)). (read_script m shelf ls).script) no_lines ∙ sym none)
  | inr f ↦ inr (f, ap (λ (ls : List (List ℕ)). (read_script m shelf ls).script) f.lines ∙ parts_leave (standing m [] shelf) (concat (lines_of f.rest)) (parts_of (f.front ++ f.last ∷ [])) ∙ joined_again f.rest)
]

files_kind : (m : Monitor) (script : List ℕ) (shelf : Files) (files : OpenFiles)
    → ((read_line m script shelf files).script ≡ script) ⊎ (NoLineOpen files × (f : FirstLine script) × ((read_line m script shelf files).script ≡ f.rest))
files_kind m script shelf [] = elim (script_kind m shelf script) [ inl e ↦ inl e | inr (f, e) ↦ inr (tt, f, e) ]
files_kind m script shelf ([] ∷ files) = files_kind m script shelf files
files_kind m script shelf ((line ∷ lines) ∷ files) = inl (parts_leave (standing m (lines ∷ files) shelf) script (parts_of line))

on_kind : (m : Monitor) (script : List ℕ) (shelf : Files) (parts : List Part)
    → ((read_on m script shelf parts).script ≡ script) ⊎ ((parts ≡ []) × NoLineOpen m.files × (f : FirstLine script) × ((read_on m script shelf parts).script ≡ f.rest))
on_kind m script shelf [] = elim (files_kind m script shelf m.files) [ inl e ↦ inl e | inr (none, f, e) ↦ inr (refl, none, f, e) ]
on_kind m script shelf (part ∷ parts) = inl (parts_leave (standing m m.files shelf) script (part ∷ parts))

pub read_kind : (m : Monitor) (script : List ℕ) (shelf : Files) → ((read m script shelf).script ≡ script) ⊎ ReadsLine m script (read m script shelf).script
unfolding read
read_kind m script shelf = on_kind m script shelf m.parts

-- ---- where nothing is left

files_done : (setting : Setting) (kept : Kept) (files : OpenFiles) → NoLineOpen files → after_files setting kept (files ++ [] ∷ []) ≡ quiet kept
unfolding after_files
files_done setting kept [] none = end_of_file setting kept []
files_done setting kept ([] ∷ files) none = end_of_file setting kept (files ++ [] ∷ []) ∙ files_done setting kept files none
files_done setting kept ((line ∷ lines) ∷ files) none = absurd none

-- of a script of which nothing is left nothing more happens
done_at : (setting : Setting) (db : Db) (shelf : Files) (ranges : Ranges) (m : Monitor) → m.parts ≡ [] → NoLineOpen m.files → after_script_at setting db shelf ranges m [] ≡ quiet (kept_at m db shelf ranges)
unfolding after_script_at over
done_at setting db shelf ranges m e none =
    let kept = kept_at m db shelf ranges in
    ap (λ (parts : List Part). after_parts setting kept (up_to_file parts) (open_files m [])) e
    ∙ ap (λ (lines : List (List ℕ)). after_files setting kept (m.files ++ lines ∷ [])) no_lines ∙ files_done setting kept m.files none

pub prints_nothing : (user : User) (db : Db) (shelf : Files) (ranges : Ranges) (m : Monitor) → m.parts ≡ [] → NoLineOpen m.files → (quel user).script_bytes db shelf ranges m [] ≡ []
unfolding quel printed
prints_nothing user db shelf ranges m e none = ap (λ (a : After). printed a.events) (done_at (setting_for user) db shelf ranges m e none)

pub ends_here : (user : User) (db : Db) (shelf : Files) (ranges : Ranges) (m : Monitor) → m.parts ≡ [] → NoLineOpen m.files → (quel user).script_end db shelf ranges m [] ≡ record { db = db; shelf = shelf; quit = false }
unfolding quel
ends_here user db shelf ranges m e none = ap end_of (done_at (setting_for user) db shelf ranges m e none)
