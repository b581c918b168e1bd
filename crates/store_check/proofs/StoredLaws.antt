-- The two halves decide whether a store holds an editor, since they are all that validity asks. Assumes nothing.
use mathlib.Core.Path.{◌≡◌, refl, sym, ap, ◌∙◌, subst}
use mathlib.Core.Bool.{Bool, true, false, ◌&&◌}
use mathlib.Core.List.{List}
use Prim.Native.Nat.{ℕ, ◌≤◌}
use lib.ListN.{length, take}
use Rattle.model.specs.Editor.{Format}
use Rattle.model.specs.Formats.{sha1}
use Rattle.model.specs.Valid.{root_held, write_good}
use Rattle.model.proofs.Basics.{and_left, and_right}
use Rattle.store_slots.specs.View.{editor_of, tree_room, Holds}
use Rattle.store_slots.specs.declared.Record.{Record}
use Rattle.store_check.specs.Decides.{Decides}
use Rattle.store_check.specs.Laid.{Lays}
use Rattle.store_check.specs.Stored.{Stored}
use Rattle.store_check.specs.Written.{Written}
use Rattle.store_check.proofs.Deciding.{refuses}
use Rattle.store_check.proofs.Whole.{valid_parts, valid_good, valid_fits}

module _ (F : Format) (r : Record) (plens paths tlens trees order : List ℕ) where
  -- the parts give the whole
  whole : Lays F.width r plens paths tlens trees → Written F.width r plens paths tlens trees order → Holds F r plens paths tlens trees order
  whole l t =
      record {
        laid = l.laid;
        ordered = t.ordered;
        valid =
            valid_parts F.width r plens paths tlens trees l.laid l.good l.fits order t.ordered F refl
            ∙ both (root_held (editor_of F.width r plens paths tlens trees order).cached (editor_of F.width r plens paths tlens trees order).writing) (write_good (editor_of F.width r plens paths tlens trees order).writing) t.root t.write;
      }
    where
      both : (x y : Bool) → x ≡ true → y ≡ true → (x && y) ≡ true
      both x y e f = rw e f

  -- and the whole its parts
  first_half : Holds F r plens paths tlens trees order → Lays F.width r plens paths tlens trees
  first_half h =
      record {
        laid = h.laid;
        fits = valid_fits F.width r plens paths tlens trees h.laid order h.ordered F refl h.valid;
        good = valid_good F.width r plens paths tlens trees h.laid order h.ordered F refl h.valid;
      }

  second_half : Holds F r plens paths tlens trees order → Written F.width r plens paths tlens trees order
  second_half h =
      let l : Lays F.width r plens paths tlens trees = first_half h in
      let R : Bool = root_held (editor_of F.width r plens paths tlens trees order).cached (editor_of F.width r plens paths tlens trees order).writing in
      let W : Bool = write_good (editor_of F.width r plens paths tlens trees order).writing in
      let v : (R && W) ≡ true = sym (valid_parts F.width r plens paths tlens trees l.laid l.good l.fits order h.ordered F refl) ∙ h.valid in
      record { ordered = h.ordered; root = and_left R W v; write = and_right R W v }

  module _ (w : ℕ) (e : F.width ≡ w) where
    pub not_laid : (Lays w r plens paths tlens trees → ⊥) → Decides (Holds F r plens paths tlens trees order) false
    not_laid n = refuses (λ h. n (subst (λ (x : ℕ). Lays x r plens paths tlens trees) e (first_half h)))

    pub then_written : {b : Bool} → Lays w r plens paths tlens trees → Decides (Written w r plens paths tlens trees order) b → Decides (Holds F r plens paths tlens trees order) b
    then_written l d =
        record {
          yes = λ t. whole (subst (λ (x : ℕ). Lays x r plens paths tlens trees) (sym e) l) (subst (λ (x : ℕ). Written x r plens paths tlens trees order) (sym e) (d.yes t));
          no = λ h. d.no (subst (λ (x : ℕ). Written x r plens paths tlens trees order) e (second_half h));
        }

-- ---- ids of 20 bytes

pub sha1_width : sha1.width ≡ 20
unfolding sha1
sha1_width = refl

pub sha1_room : tree_room sha1.width ≡ 38912
sha1_room = ap tree_room sha1_width

-- the fronts of slices that are long enough
pub stored_decides : (r : Record) (plens paths tlens trees order : List ℕ) (b : Bool) → 64 ≤ length plens → 8192 ≤ length paths → 64 ≤ length tlens → 38912 ≤ length trees → 64 ≤ length order →
    Decides (Holds sha1 r (take 64 plens) (take 8192 paths) (take 64 tlens) (take 38912 trees) (take 64 order)) b → Decides (Stored sha1 r plens paths tlens trees order) b
stored_decides r plens paths tlens trees order b p q t s o d =
    record {
      yes = λ y. record {
        plens_room = p;
        paths_room = q;
        tlens_room = t;
        trees_room = subst (λ (n : ℕ). n ≤ length trees) (sym sha1_room) s;
        order_room = o;
        holds = subst (λ (n : ℕ). Holds sha1 r (take 64 plens) (take 8192 paths) (take 64 tlens) (take n trees) (take 64 order)) (sym sha1_room) (d.yes y);
      };
      no = λ h. d.no (subst (λ (n : ℕ). Holds sha1 r (take 64 plens) (take 8192 paths) (take 64 tlens) (take n trees) (take 64 order)) sha1_room h.holds);
    }
