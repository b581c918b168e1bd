-- `editor_walk::look::look_in` meets its contract: each way out is a case of the model's step. Assumes nothing.
use mathlib.Core.Path.{◌≡◌, sym, ap, ◌∙◌, subst}
use Rattle.model.specs.Tree.{entry_of_lookup}
use Rattle.model.proofs.SoundTrees.{sound_well}
use Rattle.names_compact.specs.Compact.{unpack}
use Rattle.store_runs.specs.Digits.{digits}
use Rattle.store_runs.specs.Runs.{cut}
use Rattle.store_runs.proofs.RunLaws.{length_cut}
use Rattle.store_runs.proofs.DigitLaws.{length_digits}
use Prim.Native.Nat.{ℕ}
use Rattle.std.specs.Prelude.{Option, Some}
use Rattle.store_slots.specs.View.{SlotIs}
use Rattle.editor_terms.specs.Edits.{parts_of, seen_as}
use Rattle.editor_walk.proofs.LookupLaws.{look_none, look_found, look_other, look_uncached, look_on_lem}
use Rattle.editor_walk.proofs.look.look_in.Goals as goal

pub seen_in-requires : goal.seen_in-requires
seen_in-requires c = (c.requires.2, (sound_well 20 (unpack 20 c.args.tree.now) c.requires.3).in_order)

-- the entry that was seen
entry_seen : (c : goal.Then-here) → seen_as (Some c.in-Some.seen) ≡ parts_of (entry_of_lookup c.args.here.name.now (unpack 20 c.args.tree.now))
entry_seen c = sym (ap seen_as c.in-Some.is) ∙ c.seen_in.ensures

pub returns-then-here : goal.returns-then-here
returns-then-here c = look_found (digits 64 c.args.v.ed.hidden) (cut c.args.v.plens.now c.args.v.paths.now) (unpack 20 c.args.tree.now) c.args.here.below.now c.args.here.name.now c.requires.3 c.requires.4 c.in-Some.seen (entry_seen c) c.args.here.last c.if-here.true

-- the entry that was seen
entry_seen-2 : (c : goal.Then-not-is_tree) → seen_as (Some c.in-Some.seen) ≡ parts_of (entry_of_lookup c.args.here.name.now (unpack 20 c.args.tree.now))
entry_seen-2 c = sym (ap seen_as c.in-Some.is) ∙ c.seen_in.ensures

pub returns-then-not-is_tree : goal.returns-then-not-is_tree
returns-then-not-is_tree c = look_other (digits 64 c.args.v.ed.hidden) (cut c.args.v.plens.now c.args.v.paths.now) (unpack 20 c.args.tree.now) c.args.here.below.now c.args.here.name.now c.requires.3 c.requires.4 c.in-Some.seen (entry_seen-2 c) c.args.here.last c.if-here.false (sym c.is_tree.ensures ∙ c.if-not-is_tree.true)

pub returns-in_default : goal.returns-in_default
returns-in_default c = look_none (digits 64 c.args.v.ed.hidden) (cut c.args.v.plens.now c.args.v.paths.now) (unpack 20 c.args.tree.now) c.args.here.below.now c.args.here.name.now c.args.here.last (sym (ap seen_as c.in_default.is) ∙ c.seen_in.ensures)

-- the entry that was seen
entry_seen-3 : (c : goal.In-Some-find) → seen_as (Some c.in-Some.seen) ≡ parts_of (entry_of_lookup c.args.here.name.now (unpack 20 c.args.tree.now))
entry_seen-3 c = sym (ap seen_as c.in-Some.is) ∙ c.seen_in.ensures

pub returns-in-Some-find : goal.returns-in-Some-find
returns-in-Some-find c =
    look_on_lem (digits 64 c.args.v.ed.hidden) (cut c.args.v.plens.now c.args.v.paths.now) (unpack 20 c.args.tree.now) c.args.here.below.now c.args.here.name.now c.requires.3 c.requires.4 c.in-Some.seen (entry_seen-3 c) c.args.here.last c.if-here.false (sym c.is_tree.ensures ∙ c.if-not-is_tree.false) (length_digits 64 c.args.v.ed.hidden) (length_cut c.args.v.plens.now c.args.v.paths.now ∙ c.requires.1) c.in-Some-find.slot
    (λ v runs l. subst (λ (z : Option ℕ). SlotIs v (digits 64 c.args.v.ed.hidden) (cut c.args.v.plens.now c.args.v.paths.now) runs c.args.here.below.now z) c.in-Some-find.is (c.find.ensures v runs l))

-- the entry that was seen
entry_seen-4 : (c : goal.In-None) → seen_as (Some c.in-Some.seen) ≡ parts_of (entry_of_lookup c.args.here.name.now (unpack 20 c.args.tree.now))
entry_seen-4 c = sym (ap seen_as c.in-Some.is) ∙ c.seen_in.ensures

pub returns-in-None : goal.returns-in-None
returns-in-None c =
    look_uncached (digits 64 c.args.v.ed.hidden) (cut c.args.v.plens.now c.args.v.paths.now) (unpack 20 c.args.tree.now) c.args.here.below.now c.args.here.name.now c.requires.3 c.requires.4 c.in-Some.seen (entry_seen-4 c) c.args.here.last c.if-here.false
    (λ v runs l. subst (λ (z : Option ℕ). SlotIs v (digits 64 c.args.v.ed.hidden) (cut c.args.v.plens.now c.args.v.paths.now) runs c.args.here.below.now z) c.in-None.is (c.find.ensures v runs l))
