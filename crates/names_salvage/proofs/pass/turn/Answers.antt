-- `names_salvage::pass::turn` meets its contract: the name decides first, then the mode, and what is kept already last. Assumes nothing.
use mathlib.Core.Path.{refl, sym, ◌∙◌}
use Rattle.names_salvage.proofs.KeepLaws.{turned_as}
use Rattle.names_salvage.proofs.PassLaws.{enters, mend_as, turned_bad_name, turned_bad_mode}
use Rattle.names_salvage.proofs.pass.turn.Goals as goal

pub returns-then-not-good_name : goal.returns-then-not-good_name
returns-then-not-good_name c = λ w m h st. turned_bad_name st h refl (sym c.good_name.ensures ∙ c.if-not-good_name.true)

pub returns-in_default : goal.returns-in_default
returns-in_default c = λ w m h st. turned_bad_mode st h refl (sym c.good_name.ensures ∙ c.if-not-good_name.false) c.in_default.ensures

pub keep-requires : goal.keep-requires
keep-requires c =
    let p = c.requires.0 in
    let g = sym c.good_name.ensures ∙ c.if-not-good_name.false in
    ((_, _, _, p.2, enters p.3 _ (sym c.in-Some.ensures) g c.is_tree.ensures), g, c.requires.1)

pub returns : goal.returns
returns c =
    let g = sym c.good_name.ensures ∙ c.if-not-good_name.false in
    λ w m h st. turned_as (sym (mend_as _ m _ g (sym c.in-Some.ensures))) (c.keep.ensures w m _ h (enters st _ (sym c.in-Some.ensures) g c.is_tree.ensures))
