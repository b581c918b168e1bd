-- What the tests of the open write, one after the other, decide. Assumes nothing.
use mathlib.Core.Path.{◌≡◌, refl, sym, ap, ap₂, ◌∙◌}
use mathlib.Core.Bool.{Bool, true, false, ◌&&◌, ◌||◌}
use mathlib.Core.Option.{Option}
use mathlib.Core.List.{List, []}
use Prim.Native.Nat.{ℕ, zero, suc, ◌≤◌, ◌<◌}
use native.Mathlib.Omega.{arith}
use lib.ListN.{length}
use Rattle.model.specs.Bytes.{Bytes, same, is_nil}
use Rattle.model.specs.Map.{find, is_some}
use Rattle.model.specs.Editor.{Held, at, Cache, Write, start_path}
use Rattle.model.specs.Valid.{root_held, write_good, taken_good}
use Rattle.model.specs.Write.{bottom}
use Rattle.model.proofs.Basics.{and_left, and_right, no_way}
use Rattle.store_slots.specs.View.{path_of, held_at, cached_of, aside_of, stacked_of, start_of, start_from, start_slot, write_of, Closed, Opened}
use Rattle.store_slots.specs.declared.Record.{Record}
use Rattle.store_check.specs.Decides.{Decides}
use Rattle.store_check.specs.Written.{Written, start_fine}
use Rattle.store_check.proofs.ChainLaws.{taken_start, bottom_start}
use Rattle.store_check.proofs.MarkLaws.{and_assoc}
use Rattle.store_check.proofs.ParentLaws.{aside_low}

-- the start's slot is one
pub start_low : {r : Record} {order : List ℕ} → Opened r order → length order ≡ 64 → start_slot r order < 64
start_low {r} {order} o l = go r.aside refl
  where
    go : (n : ℕ) → r.aside ≡ n → start_from n r.asked order < 64
    go zero e = o.used.0.low
    go (suc n) e = aside_low o 0 (omega (arith, e)) l

both : (x y : Bool) → x ≡ true → y ≡ true → (x && y) ≡ true
both x y e f = rw e f

module _ (w : ℕ) (r : Record) (plens paths tlens trees order : List ℕ) where
  abbrev asked : Held
  asked = held_at w plens paths tlens trees r.asked

  abbrev aside : List Held
  aside = aside_of w r plens paths tlens trees order

  abbrev stacked : List Held
  stacked = stacked_of w r plens paths tlens trees order

  abbrev cached : Cache
  cached = cached_of w r plens paths tlens trees

  abbrev writing : ℕ → Option Write
  writing n = write_of n asked aside stacked

  abbrev from : Bytes
  from = path_of plens paths (start_slot r order)

  -- ---- no write is open

  root_idle : (n : ℕ) → n ≡ 0 → root_held cached (writing n) ≡ is_some (find at [] cached)
  unfolding root_held
  root_idle n e = ap (λ (x : ℕ). root_held cached (writing x)) e

  write_idle : (n : ℕ) → n ≡ 0 → write_good (writing n) ≡ true
  unfolding write_good
  write_idle n e = ap (λ (x : ℕ). write_good (writing x)) e

  pub idle_decides : r.«open» ≡ 0 → length order ≡ 64 → Closed r → (b : Bool) → b ≡ is_some (find at [] cached) → Decides (Written w r plens paths tlens trees order) b
  idle_decides e l c b t =
      record {
        yes = λ y. record {
          ordered = record { order_64 = l; closed = λ z. c; opened = λ n. absurd (n e) };
          root = root_idle r.«open» e ∙ sym t ∙ y;
          write = write_idle r.«open» e;
        };
        no = λ W. t ∙ sym (root_idle r.«open» e) ∙ W.root;
      }

  -- ---- a write is open

  parts : (n : ℕ) → (n ≡ 0 → ⊥) → r.aside ≤ length order → (root_held cached (writing n) && write_good (writing n)) ≡ (start_fine n from cached && taken_good from asked stacked aside)
  unfolding root_held write_good
  parts zero h l = absurd (h refl)
  parts (suc n) h l =
      let p : Bytes = (bottom asked aside).path in
      let e : p ≡ from = bottom_start w plens paths tlens trees order r.aside r.asked l in
      let s : Bytes = start_path (start_of (suc n) p) in
      ap (λ (x : Bool). (is_some (find at [] cached) || is_nil s) && x) (taken_start s asked stacked aside)
      ∙ sym (and_assoc (is_some (find at [] cached) || is_nil s) (same p s) (taken_good p asked stacked aside))
      ∙ ap (λ (x : Bytes). start_fine (suc n) x cached && taken_good x asked stacked aside) e

  module _ (h : r.«open» ≡ 0 → ⊥) (l : length order ≡ 64) (b : Bool) (t : b ≡ start_fine r.«open» from cached) where
    -- a start that may not be
    pub start_bad : b ≡ false → Written w r plens paths tlens trees order → ⊥
    start_bad f W =
        let o : Opened r order = W.ordered.opened h in
        let p = parts r.«open» h (omega (arith, l, o.room)) in
        let y : start_fine r.«open» from cached ≡ true =
        and_left (start_fine r.«open» from cached) (taken_good from asked stacked aside)
        (sym p ∙ both (root_held cached (writing r.«open»)) (write_good (writing r.«open»)) W.root W.write) in
        no_way (sym y ∙ sym t ∙ f)

    -- the rest is whether the taken trees hang together
    pub chain_decides : b ≡ true → Opened r order → (x : Bool) → x ≡ taken_good from asked stacked aside → Decides (Written w r plens paths tlens trees order) x
    chain_decides f o x e =
        let R : Bool = root_held cached (writing r.«open») in
        let W : Bool = write_good (writing r.«open») in
        let p : (R && W) ≡ x = parts r.«open» h (omega (arith, l, o.room)) ∙ ap₂ (λ (y z : Bool). y && z) (sym t ∙ f) (sym e) in
        record {
          yes = λ y. record {
            ordered = record { order_64 = l; closed = λ z. absurd (h z); opened = λ n. o };
            root = and_left R W (p ∙ y);
            write = and_right R W (p ∙ y);
          };
          no = λ v. sym p ∙ both R W v.root v.write;
        }
