-- What a call of the write leaves in slices as long as a store. Assumes nothing.
use Rattle.std.specs.Prelude.{ℕ, ◌≡◌, take}
use Rattle.model.specs.Calls.{Answer}
use Rattle.model.specs.Editor.{Editor as Model}
use Rattle.model.specs.Formats.{sha1}
use Rattle.store_slots.specs.View.{editor_of, Holds}
use Rattle.editor.specs.Lent.{Lent, lent, Still}

-- the fronts of lent slices, which are as long as a store where it holds an editor
abbrev pub fronts : Lent → Lent
fronts s = lent s.ed (take 64 s.plens) (take 8192 s.paths) (take 64 s.tlens) (take 38912 s.trees) (take 64 s.order)

-- the editor in slices as long as a store
abbrev pub exactly : Lent → Model
exactly s = editor_of 20 s.ed s.plens s.paths s.tlens s.trees s.order

-- it holds one
abbrev pub HoldsExactly : Lent → Type 0
HoldsExactly s = Holds sha1 s.ed s.plens s.paths s.tlens s.trees s.order

-- f is made of the editor that is held
pub record Made (f : Model → Answer) (s q : Lent) : Type 0 where
  pub holds : HoldsExactly q
  pub is : record { code = 0; editor = exactly q } ≡ f (exactly s)

-- f is answered of the editor that is held: where nothing changes each byte is as it was, and 13 is none of them
pub record Answers (f : Model → Answer) (s : Lent) (code : ℕ) (q : Lent) : Type 0 where
  pub holds : HoldsExactly q
  pub is : record { code = code; editor = exactly q } ≡ f (exactly s)
  pub kept : Still code → q ≡ s
  pub usual : code ≡ 13 → ⊥
