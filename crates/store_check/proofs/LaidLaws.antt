-- The parts that are tested are together what a record and the slices of its trees have to be. Assumes nothing.
use mathlib.Core.Path.{◌≡◌, refl, sym, ap, ◌∙◌}
use mathlib.Core.Bool.{Bool, true, ◌&&◌}
use mathlib.Core.List.{List, [], map}
use Prim.Native.Nat.{ℕ, zero, suc, ◌≤◌, ◌<◌}
use native.Mathlib.Omega.{arith}
use lib.Dec.{leb}
use lib.ListN.{length, take, get_or}
use borrow.Author.Tests.{le-leb}
use Rattle.model.specs.Bytes.{Bytes}
use Rattle.model.specs.Tree.{name_bytes, distinct}
use Rattle.model.specs.Editor.{Held, at, Cache, entry_count, name_count, path_count, fits}
use Rattle.model.proofs.RoomCounts.{entries_total, names_total}
use Rattle.model.proofs.LimitLaws.{limits}
use Rattle.store_runs.specs.Digits.{digits}
use Rattle.store_runs.specs.Moves.{part}
use Rattle.store_runs.specs.Runs.{total, cut, Sound}
use Rattle.store_runs.proofs.DigitLaws.{length_digits}
use Rattle.store_runs.proofs.MoveLaws.{length_part, part_none}
use Rattle.store_runs.proofs.RunLaws.{length_cut, total_within}
use Rattle.store_runs.proofs.FindLaws.{cut_at}
use Rattle.store_slots.specs.View.{slots, view_of, tree_room, Laid}
use Rattle.store_slots.specs.declared.Record.{Record}
use Rattle.store_slots.proofs.Gather.{gather_entries, gather_names}
use Rattle.store_slots.proofs.Counts.{slots_is, paths_is}
use Rattle.store_check.specs.Laid.{Lays, Blank, good_path, Paths, Trees}
use Rattle.store_check.proofs.SlotLaws.{slots_all, all_slots, Good, good_all, all_good_lem, apart_distinct, distinct_apart, sum_slots}

-- the lengths add up to what is in use, and those of the free slots are 0
pub record Lengths (r : Record) (plens paths tlens trees : List ℕ) : Type 0 where
  pub paths_sound : Sound plens paths r.paths
  pub trees_sound : Sound tlens trees r.trees
  pub blank : (k : ℕ) → k < 64 → Blank (get_or (digits 64 r.free) k 0) (get_or plens k 0) (get_or tlens k 0)

-- a run is empty exactly where its length is 0
module _ (lens bytes : List ℕ) (used k : ℕ) (sound : Sound lens bytes used) (h : k < length lens) where
  pub run_length : length (get_or (cut lens bytes) k []) ≡ get_or lens k 0
  run_length =
      ap length (cut_at lens bytes k h)
      ∙ length_part bytes (total (take k lens)) (get_or lens k 0) (omega (arith, total_within lens k h, sound.sum, sound.fits))

  no_run : get_or lens k 0 ≡ 0 → get_or (cut lens bytes) k [] ≡ []
  no_run e = cut_at lens bytes k h ∙ ap (part bytes (total (take k lens))) e ∙ part_none bytes (total (take k lens))

  no_length : get_or (cut lens bytes) k [] ≡ [] → get_or lens k 0 ≡ 0
  no_length e = sym run_length ∙ ap length e

-- counts within the limits
within : (c : Cache) → length c ≤ 64 → entry_count c ≤ 1024 → name_count c ≤ 16384 → path_count c ≤ 8192 → fits c ≡ true
unfolding fits
within c t e n p =
    join (leb (length c) 64) (leb (entry_count c) 1024) (leb (name_count c) 16384) (leb (path_count c) 8192) (le-leb (length c) 64 t) (le-leb (entry_count c) 1024 e) (le-leb (name_count c) 16384 n)
    (le-leb (path_count c) 8192 p)
  where
    join : (x y z u : Bool) → x ≡ true → y ≡ true → z ≡ true → u ≡ true → (x && y && z && u) ≡ true
    join x y z u e f g h = rw (e, f, g, h)

module _ (w : ℕ) (r : Record) (plens paths tlens trees : List ℕ) where
  abbrev ds : List ℕ
  ds = digits 64 r.free

  abbrev ps : List Bytes
  ps = cut plens paths

  abbrev bs : List Bytes
  bs = cut tlens trees

  d64 : length ds ≡ 64
  d64 = length_digits 64 r.free

  even : (lens bytes : List ℕ) → length lens ≡ 64 → length (cut lens bytes) ≡ length ds
  even lens bytes l = length_cut lens bytes ∙ l ∙ sym d64

  abbrev hs : List Held
  hs = slots w r plens paths tlens trees

  module _ (pl : length plens ≡ 64) (tl : length tlens ≡ 64) (pr : length paths ≡ 8192) (tr : length trees ≡ tree_room w) (es : r.entries ≤ 1024) (ns : r.names ≤ 16384)
      (A : Lengths r plens paths tlens trees) (T : Trees w bs r.entries r.names) (P : Paths ds ps) where
    apart : distinct (map at hs) ≡ true
    apart = apart_distinct w ds ps bs (even plens paths pl) (even tlens trees tl) (λ j k m h u v. P.apart k (omega (arith, d64)) v j m u)

    bare : (k : ℕ) → k < 64 → (get_or ds k 0 ≡ 0 → ⊥) → get_or bs k [] ≡ []
    bare k h n = no_run tlens trees r.trees k A.trees_sound (omega (arith, tl)) (A.blank k h n).1

    laid : Laid w r plens paths tlens trees
    laid =
        record {
          plens_64 = pl;
          tlens_64 = tl;
          paths_room = pr;
          trees_room = tr;
          paths_sound = A.paths_sound;
          trees_sound = A.trees_sound;
          empty = λ k h n. (no_run plens paths r.paths k A.paths_sound (omega (arith, pl)) (A.blank k h n).0, bare k h n);
          packed = λ k h. (T.whole k h).packed;
          well = λ k h. (T.whole k h).well;
          apart = apart;
          entries = sym T.entries ∙ sum_slots w length ds ps bs refl (even plens paths pl) (even tlens trees tl) (λ k h n. bare k (omega (arith, d64)) n) ∙ sym (entries_total hs) ∙ sym (gather_entries hs apart);
          names = sym T.names ∙ sum_slots w name_bytes ds ps bs refl (even plens paths pl) (even tlens trees tl) (λ k h n. bare k (omega (arith, d64)) n) ∙ sym (names_total hs) ∙ sym (gather_names hs apart);
        }

    pub lays : Lays w r plens paths tlens trees
    lays =
        record {
          laid = laid;
          fits = within (view_of w r plens paths tlens trees) (omega (arith, slots_is w r plens paths tlens trees laid)) (omega (arith, laid.entries, es)) (omega (arith, laid.names, ns))
              (omega (arith, paths_is w r plens paths tlens trees laid, A.paths_sound.fits, pr));
          good = good_all w hs (slots_all w (Good w) ds ps bs (even plens paths pl) (even tlens trees tl) (λ k h u. (P.good k (omega (arith, d64)), (T.whole k (omega (arith, d64))).well)));
        }

  module _ (L : Lays w r plens paths tlens trees) where
    pub few_entries : r.entries ≤ 1024
    few_entries = omega (arith, L.laid.entries, (limits (view_of w r plens paths tlens trees) L.fits).entries)

    pub few_names : r.names ≤ 16384
    few_names = omega (arith, L.laid.names, (limits (view_of w r plens paths tlens trees) L.fits).names)

    pub its_lengths : Lengths r plens paths tlens trees
    its_lengths =
        record {
          paths_sound = L.laid.paths_sound;
          trees_sound = L.laid.trees_sound;
          blank = λ k h n. (no_length plens paths r.paths k L.laid.paths_sound (omega (arith, L.laid.plens_64)) (L.laid.empty k h n).0, no_length tlens trees r.trees k L.laid.trees_sound (omega (arith, L.laid.tlens_64)) (L.laid.empty k h n).1);
        }

    pub its_trees : Trees w bs r.entries r.names
    its_trees =
        record {
          whole = λ k h. record { packed = L.laid.packed k h; well = L.laid.well k h };
          entries = sum_slots w length ds ps bs refl (even plens paths L.laid.plens_64) (even tlens trees L.laid.tlens_64) (λ k h n. (L.laid.empty k (omega (arith, d64)) n).1) ∙ sym (entries_total hs) ∙ sym (gather_entries hs L.laid.apart) ∙ sym L.laid.entries;
          names = sum_slots w name_bytes ds ps bs refl (even plens paths L.laid.plens_64) (even tlens trees L.laid.tlens_64) (λ k h n. (L.laid.empty k (omega (arith, d64)) n).1) ∙ sym (names_total hs) ∙ sym (gather_names hs L.laid.apart) ∙ sym L.laid.names;
        }

    pub its_paths : Paths ds ps
    its_paths =
        record {
          good = λ k h. go k h (get_or ds k 0) refl;
          apart = λ k h v j m u. distinct_apart w ds ps bs (even plens paths L.laid.plens_64) (even tlens trees L.laid.tlens_64) L.laid.apart j k m (omega (arith, d64)) u v;
        }
      where
        go : (k : ℕ) → k < 64 → (d : ℕ) → get_or ds k 0 ≡ d → good_path (get_or ps k []) ≡ true
        go k h zero e = (all_slots w (Good w) ds ps bs (even plens paths L.laid.plens_64) (even tlens trees L.laid.tlens_64) (all_good_lem w hs L.good) k (omega (arith, d64)) e).0
        go k h (suc d) e = ap good_path (L.laid.empty k h (λ q. omega (arith, e))).0
