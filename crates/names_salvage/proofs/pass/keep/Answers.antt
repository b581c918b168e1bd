-- `names_salvage::pass::keep` meets its contract: a name that is there is counted as a double; otherwise its slot goes into the table where its entry goes into the tree. Assumes nothing.
use Prim.Native.Nat.{◌+◌}
use mathlib.Core.Path.{sym, ap, ◌∙◌}
use native.Mathlib.Omega.{arith}
use lib.ListN.{length}
use mathlib.Core.List.{List}
use Rattle.names_salvage.specs.declared.table.Slot.{Slot}
use borrow.Author.Tests.{eq-eqb, ne_eqb}
use Rattle.names_salvage.specs.Mending.{fits}
use Rattle.names_salvage.proofs.KeepLaws.{rising_sorted, place_in, kept_double, kept_over, kept_more, fits_kept}
use Rattle.names_salvage.proofs.StandLaws.{name_within}
use Rattle.names_salvage.proofs.pass.keep.Goals as goal

pub returns-in_default : goal.returns-in_default
returns-in_default c = λ w m e h n. kept_double h n (c.place_for.ensures _ h.lists (rising_sorted m.kept)) c.in_default.is

pub returns-then-not-fits : goal.returns-then-not-fits
returns-then-not-fits c =
    λ w m e h n.
    record {
      is = kept_over h n (c.place_for.ensures _ h.lists (rising_sorted m.kept)) c.in-Err.is
          (sym c.if-not-fits.true ∙ c.fits.ensures ∙ ap (λ (l : List Slot). fits (length l + 1) (c.args.t.names + length c.args.piece.name.now)) c.kept-n.ensures);
    }

pub of-requires : goal.of-requires
of-requires c = let n = c.requires.0.4 in (n.near, omega (arith, name_within n.stands, n.near, c.requires.2))

pub insert-requires : goal.insert-requires
insert-requires c =
    let h = c.requires.0.3 in (
      place_in h c.requires.0.4 (c.place_for.ensures _ h.lists (rising_sorted _)) c.in-Err.is,
      omega (arith, fits_kept (length c.kept-n.result.now + 1) (c.args.t.names + length c.args.piece.name.now) (sym c.if-not-fits.false ∙ c.fits.ensures), ap length c.kept-n.ensures),
    )

pub returns-then-i-n : goal.returns-then-i-n
returns-then-i-n c =
    λ w m e h n.
    kept_more h n (c.place_for.ensures _ h.lists (rising_sorted m.kept)) c.in-Err.is
    (sym c.if-not-fits.false ∙ c.fits.ensures ∙ ap (λ (l : List Slot). fits (length l + 1) (c.args.t.names + length c.args.piece.name.now)) c.kept-n.ensures)
    _ _ c.of.ensures c.insert.ensures _ (sym (rw (eq-eqb _ _ (c.if-i-n.true ∙ ap length c.kept-n.ensures))))

pub returns-else-i-n : goal.returns-else-i-n
returns-else-i-n c =
    λ w m e h n.
    kept_more h n (c.place_for.ensures _ h.lists (rising_sorted m.kept)) c.in-Err.is
    (sym c.if-not-fits.false ∙ c.fits.ensures ∙ ap (λ (l : List Slot). fits (length l + 1) (c.args.t.names + length c.args.piece.name.now)) c.kept-n.ensures)
    _ _ c.of.ensures c.insert.ensures _ (sym (rw (ne_eqb _ _ (λ z. c.if-i-n.false (z ∙ sym (ap length c.kept-n.ensures))))))
