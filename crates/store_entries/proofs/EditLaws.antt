-- What the calls rest on, over variables: a slot's run is its tree's packed form, so an edit of its bytes at an entry's place is the model's edit of the tree, and the counts go with it. Assumes nothing.
use mathlib.Core.Path.{◌≡◌, refl, sym, ap, ap₂, ◌∙◌, subst}
use mathlib.Core.Bool.{Bool, true, false, not}
use mathlib.Core.Option.{none, some}
use mathlib.Core.List.{List, []}
use Prim.Native.Nat.{ℕ, ◌+◌, ◌-◌, ◌*◌, ◌≤◌, ◌<◌}
use native.Mathlib.Omega.{arith}
use native.Mathlib.Nat.{add-mul, mul-le-mul_right}
use lib.ListN.{length, get_or}
use Rattle.model.specs.Bytes.{Bytes}
use Rattle.model.specs.Map.{find, put, del, rising}
use Rattle.model.specs.Tree.{Mode, Entry, Tree, is_tree, key, as_kind, with_entry, good_name, name_bytes, well_formed}
use Rattle.model.specs.Editor.{Held, at, Cache, fits}
use Rattle.model.proofs.MapLaws.{put_there, put_put_same}
use Rattle.model.proofs.SoundTrees.{del_absent}
use Rattle.model.proofs.RoomCounts.{total_put_old, entries_total, names_total}
use Rattle.model.proofs.LimitLaws.{limits}
use Rattle.model.proofs.SwapShared.{well_rising}
use Rattle.model.proofs.WellFormedLaws.{well_with}
use Rattle.model.specs.Search.{searched}
use Rattle.std.specs.Prelude.{Result, Ok, Err}
use Rattle.store_runs.specs.Digits.{digits}
use Rattle.store_runs.specs.Moves.{inserted, removed}
use Rattle.store_runs.specs.Runs.{cut, with_run, run_of, Sound}
use Rattle.store_runs.proofs.RunLaws.{length_cut}
use Rattle.store_runs.proofs.FindLaws.{cut_at}
use Rattle.names_compact.specs.Compact.{packed, packed_all, unpack, Run, entry_at, Tells}
use Rattle.names.specs.Splice.{splice}
use Rattle.names_compact.specs.declared.compact.Place.{Place}
use Rattle.names_compact.proofs.CompactLaws.{packed_length}
use Rattle.store_slots.specs.View.{view_of, held_as, Laid, Used, path_of, tree_of}
use Rattle.store_slots.specs.declared.Record.{Record}
use Rattle.store_slots.proofs.Relaid.{others_with, run_in, with_here, well_unpacked, relaid_view, relaid, find_slot, entries_in_lem, names_in_lem}
use Rattle.store_slots.proofs.Changes.{run_length}
use Rattle.store_slots.proofs.Counts.{trees_is}
use Rattle.store_entries.specs.Entries.{Fresh, Kept, Edited}
use Rattle.store_entries.proofs.PlaceLaws.{well_del, missing, not_missing, inside, found_entry, marked, bytes_without, one_fewer, names_fewer, bytes_over, as_many, as_long, name_is, set_over, bytes_with, place_in, one_more, names_more, well_put, fresh_then}

pub all_kept : (r : Record) → Kept r r
all_kept r = record { free = refl; hidden = refl; paths = refl; write = record { «open» = refl; aside = refl; stacked = refl; asked = refl } }

pub kept_twice : {r q s : Record} → Kept r q → Kept q s → Kept r s
kept_twice a b =
    record {
      free = b.free ∙ a.free;
      hidden = b.hidden ∙ a.hidden;
      paths = b.paths ∙ a.paths;
      write = record { «open» = b.write.«open» ∙ a.write.«open»; aside = b.write.aside ∙ a.write.aside; stacked = b.write.stacked ∙ a.write.stacked; asked = b.write.asked ∙ a.write.asked };
    }

module _ {w : ℕ} {r : Record} {plens paths tlens trees : List ℕ} (L : Laid w r plens paths tlens trees) {k : ℕ} (U : Used r k) where
  abbrev B : Bytes
  B = get_or (cut tlens trees) k []

  abbrev t : Tree
  t = tree_of w tlens trees k

  B_is : B ≡ run_of tlens trees k
  B_is = cut_at tlens trees k (omega (arith, L.tlens_64, U.low))

  run : Run w B
  run = run_in w r plens paths tlens trees L k U.low

  ris : rising key t ≡ true
  ris = well_rising w t (L.well k U.low)

  -- one law for every edit of a slot's tree
  pub edited : (t' : Tree) (g : Bytes → Bytes) (q : Record) (tlens' trees' : List ℕ) → g B ≡ packed_all t' → well_formed w t' ≡ true → cut tlens' trees' ≡ with_run k g (cut tlens trees) →
      Kept r q → length tlens' ≡ length tlens → length trees' ≡ length trees → Sound tlens' trees' q.trees →
      q.entries + length t ≡ r.entries + length t' → q.names + name_bytes t ≡ r.names + name_bytes t' → Edited w r plens paths tlens trees k t' q tlens' trees'
  edited t' g q tlens' trees' e wf c same tl tb st ee en =
      let ef = same.free in
      record {
        view = relaid_view w r plens paths tlens trees L k U.low U.used t' g q tlens' trees' e wf c ef;
        laid = relaid w r plens paths tlens trees L k U.low U.used t' g q tlens' trees' e wf c ef (tl ∙ L.tlens_64) tb st same.paths ee en;
        tree = ap (λ (x : List Bytes). unpack w (get_or x k [])) c
            ∙ ap (unpack w) (with_here g (cut tlens trees) k (omega (arith, length_cut tlens trees, L.tlens_64, U.low)) ∙ e) ∙ well_unpacked w t' wf;
        used = record { low = U.low; used = ap (λ (x : ℕ). get_or (digits 64 x) k 0) ef ∙ U.used };
        kept = same;
        others = others_with g tlens trees tlens' trees' k c;
      }

  -- nothing changed where the tree stays as it is
  pub unchanged : (t' : Tree) → t' ≡ t → Edited w r plens paths tlens trees k t' r tlens trees
  unchanged t' e =
      record {
        view = sym (ap (λ (x : Tree). put at (held_as (path_of plens paths k) x) (view_of w r plens paths tlens trees)) e
            ∙ put_there at (held_as (path_of plens paths k) t) (view_of w r plens paths tlens trees) (find_slot w r plens paths tlens trees L k U.low U.used));
        laid = L;
        tree = sym e;
        used = U;
        kept = all_kept r;
        others = record { run = λ j n. refl };
      }

  -- the run at hand, in which a search is made
  module _ {z : Bytes} (here : z ≡ run_of tlens trees k) where
    z_is : z ≡ B
    z_is = here ∙ sym B_is

    pub good_run : Run w z
    good_run = subst (Run w) (sym z_is) run

    pub rising_run : rising key (unpack w z) ≡ true
    rising_run = ap (λ (l : Bytes). rising key (unpack w l)) z_is ∙ ris

    -- without a key that it has not the tree is as it was
    pub absent : (kk : Bytes) → find key kk (unpack w z) ≡ none → Edited w r plens paths tlens trees k (del key kk t) r tlens trees
    absent kk n = unchanged (del key kk t) (del_absent key kk t (ap (λ (l : Bytes). find key kk (unpack w l)) (sym z_is) ∙ n))

    pub missed : (kk : Bytes) {p : Place} → Tells w z (searched key kk (unpack w z)) (Err p) → find key kk t ≡ none
    missed kk {p = p} T = ap (λ (l : Bytes). find key kk (unpack w l)) (sym z_is) ∙ missing w z kk rising_run p T

    pub not_found : (kk : Bytes) {p : Place} → find key kk t ≡ none → Tells w z (searched key kk (unpack w z)) (Ok p) → ⊥
    not_found kk {p = p} n T = not_missing w z kk good_run rising_run p T (ap (λ (l : Bytes). find key kk (unpack w l)) z_is ∙ n)

    -- what the search of an entry's key says, of the slot's run
    pub told : {b : Bool} (name : Bytes) {a : Result Place Place} (m : Mode) → b ≡ is_tree m → Tells w z (searched key (as_kind b name) (unpack w z)) a
        → Tells w (run_of tlens trees k) (searched key (as_kind (is_tree m) name) (unpack w (run_of tlens trees k))) a
    told name {a = a} m eb T =
        subst (λ (l : Bytes). Tells w l (searched key (as_kind (is_tree m) name) (unpack w l)) a) here
        (subst (λ (x : Bool). Tells w z (searched key (as_kind x name) (unpack w z)) a) eb T)

    pub told_back : (b : Bool) (name : Bytes) {a : Result Place Place} (m : Mode) → b ≡ is_tree m
        → Tells w (run_of tlens trees k) (searched key (as_kind (is_tree m) name) (unpack w (run_of tlens trees k))) a → Tells w z (searched key (as_kind b name) (unpack w z)) a
    told_back b name {a = a} m eb T =
        subst (λ (l : Bytes). Tells w l (searched key (as_kind b name) (unpack w l)) a) (sym here)
        (subst (λ (x : Bool). Tells w (run_of tlens trees k) (searched key (as_kind x name) (unpack w (run_of tlens trees k))) a) (sym eb) T)

    -- an entry that was found
    module _ (kk : Bytes) {p : Place} (T : Tells w z (searched key kk (unpack w z)) (Ok p)) where
      T' : Tells w B (searched key kk (unpack w B)) (Ok p)
      T' = subst (λ (l : Bytes). Tells w l (searched key kk (unpack w l)) (Ok p)) z_is T

      -- by its number, and where it lies
      pub index_in : p.index < length (unpack w z)
      index_in = inside w z kk good_run rising_run p T

      pub name_long : length (entry_at w z p.index).name ≡ get_or z (p.at + 1) 0
      name_long = sym (marked w z kk good_run rising_run p T).word

      same_name : length (entry_at w z p.index).name ≡ get_or B (p.at + 1) 0
      same_name = name_long ∙ ap (λ (l : Bytes). get_or l (p.at + 1) 0) z_is

      pub in_run : p.at + (2 + w + length (entry_at w z p.index).name) ≤ get_or tlens k 0
      in_run = omega (arith, same_name, (marked w B kk run ris p T').room, run_length tlens trees r.trees k L.trees_sound (omega (arith, L.tlens_64, U.low)))

      pub some_entry : 1 ≤ r.entries
      some_entry = omega (arith, one_fewer w B kk run ris p T', entries_in_lem w r plens paths tlens trees L k U.low U.used)

      pub some_names : length (entry_at w z p.index).name ≤ r.names
      some_names = omega (arith, same_name, names_fewer w B kk run ris p T', names_in_lem w r plens paths tlens trees L k U.low U.used)

      pub removing : (n : ℕ) → n ≡ length (entry_at w z p.index).name → (q : Record) (tlens' trees' : List ℕ) →
          cut tlens' trees' ≡ with_run k (λ (l : Bytes). removed l p.at (2 + w + n)) (cut tlens trees) → length tlens' ≡ length tlens → length trees' ≡ length trees → Sound tlens' trees' q.trees →
          Kept r q → q.entries ≡ r.entries - 1 → q.names ≡ r.names - n → Edited w r plens paths tlens trees k (del key kk t) q tlens' trees'
      removing n en q tlens' trees' c tl tb st same ee enn =
          edited (del key kk t) (λ (l : Bytes). removed l p.at (2 + w + n)) q tlens' trees' (bytes_without w B kk run ris p T' n (en ∙ same_name)) (well_del w kk t (L.well k U.low)) c same tl tb st
          (omega (arith, ee, some_entry, one_fewer w B kk run ris p T')) (omega (arith, enn, some_names, en, same_name, names_fewer w B kk run ris p T'))

  -- an entry set over the one of its key
  module _ (m : Mode) (name id : Bytes) (li : length id ≡ w) (gn : good_name name ≡ true) {p : Place} (T : Tells w (run_of tlens trees k) (searched key (as_kind (is_tree m) name) (unpack w (run_of tlens trees k))) (Ok p)) where
    abbrev new_one : Entry
    new_one = record { mode = m; name = name; id = id }

    abbrev kn : Bytes
    kn = as_kind (is_tree m) name

    T₂ : Tells w B (searched key kn (unpack w B)) (Ok p)
    T₂ = subst (λ (l : Bytes). Tells w l (searched key kn (unpack w l)) (Ok p)) (sym B_is) T

    name_there : name ≡ (entry_at w B p.index).name
    name_there = name_is w m name id t gn (L.well k U.low) (entry_at w B p.index) (found_entry w B kn run ris p T₂)

    over_is : put key new_one t ≡ with_entry new_one t
    over_is = set_over w m name id t gn (L.well k U.low) (entry_at w B p.index) (found_entry w B kn run ris p T₂)

    pub over_fits : p.at + length (packed new_one) ≤ get_or tlens k 0
    over_fits =
        let M = marked w B kn run ris p T₂ in
        omega (arith, M.room, M.word, ap length name_there, packed_length w new_one li, run_length tlens trees r.trees k L.trees_sound (omega (arith, L.tlens_64, U.low)))

    pub rewriting : (trees' : List ℕ) → cut tlens trees' ≡ with_run k (λ (l : Bytes). splice l p.at (packed new_one)) (cut tlens trees) → length trees' ≡ length trees →
        Edited w r plens paths tlens trees k (with_entry new_one t) r tlens trees'
    rewriting trees' c tb =
        edited (with_entry new_one t) (λ (l : Bytes). splice l p.at (packed new_one)) r tlens trees' (bytes_over w B kn run ris p T₂ new_one refl li name_there ∙ ap packed_all over_is)
        (well_with w m name id t gn li (L.well k U.low)) c (all_kept r) refl tb (record { sum = L.trees_sound.sum; fits = omega (arith, L.trees_sound.fits, tb) })
        (omega (arith, as_many w B kn run ris p T₂ new_one refl, ap length over_is)) (omega (arith, as_long w B kn run ris p T₂ new_one refl name_there, ap name_bytes over_is))

  -- room for an entry put in, from the limits of the view it makes
  module _ (t' : Tree) (f : fits (put at (held_as (path_of plens paths k) t') (view_of w r plens paths tlens trees)) ≡ true) where
    abbrev new : Held
    new = held_as (path_of plens paths k) t'

    abbrev c : Cache
    c = view_of w r plens paths tlens trees

    there : find at (path_of plens paths k) c ≡ some (held_as (path_of plens paths k) t)
    there = find_slot w r plens paths tlens trees L k U.low U.used

    pub entries_then : r.entries + length t' ≤ 1024 + length t
    entries_then =
        omega (arith, L.entries, (limits (put at new c) f).entries, entries_total (put at new c), entries_total c, total_put_old at (λ h. length h.held) new c (held_as (path_of plens paths k) t) there)

    pub names_then : r.names + name_bytes t' ≤ 16384 + name_bytes t
    names_then =
        omega (arith, L.names, (limits (put at new c) f).names, names_total (put at new c), names_total c, total_put_old at (λ h. name_bytes h.held) new c (held_as (path_of plens paths k) t) there)

    pub room_then : (n : ℕ) → length t' ≡ length t + 1 → name_bytes t' ≡ name_bytes t + n → r.trees + (2 + w + n) ≤ length trees
    room_then n a b =
        let m : (r.entries + 1) * (2 + w) ≤ 1024 * (2 + w) = mul-le-mul_right (2 + w) (omega (arith, entries_then)) in
        let d : (r.entries + 1) * (2 + w) ≡ r.entries * (2 + w) + 1 * (2 + w) = add-mul r.entries 1 (2 + w) in
        omega (arith, m, d, names_then, trees_is w r plens paths tlens trees L, L.trees_room)

  -- an entry put in at the place that the search of its key gave
  module _ (m : Mode) (name id : Bytes) (li : length id ≡ w) (gn : good_name name ≡ true) (fr : Fresh name t) {p : Place}
      (T : Tells w (run_of tlens trees k) (searched key (as_kind (is_tree m) name) (unpack w (run_of tlens trees k))) (Err p)) where
    abbrev e : Entry
    e = record { mode = m; name = name; id = id }

    none_of : (x : Bool) → find key (as_kind x name) t ≡ none
    none_of true = fr.tree
    none_of false = fr.file

    T'' : Tells w B (searched key (key e) (unpack w B)) (Err p)
    T'' = subst (λ (l : Bytes). Tells w l (searched key (key e) (unpack w l)) (Err p)) (sym B_is) T

    wf : well_formed w (put key e t) ≡ true
    wf = well_put w m name id t gn li (L.well k U.low) (none_of (not (is_tree m)))

    more : length (put key e t) ≡ length t + 1
    more = one_more w B (key e) run ris p T'' e refl

    names_m : name_bytes (put key e t) ≡ name_bytes t + length name
    names_m = names_more w B (key e) run ris p T'' e refl

    pub place_fits : p.at ≤ get_or tlens k 0
    place_fits = omega (arith, place_in w B (key e) run ris p T'' e refl, run_length tlens trees r.trees k L.trees_sound (omega (arith, L.tlens_64, U.low)))

    module _ (f : fits (put at (held_as (path_of plens paths k) (put key e t)) (view_of w r plens paths tlens trees)) ≡ true) where
      pub insert_room : r.trees + (2 + w + length name) ≤ length trees
      insert_room = room_then (put key e t) f (length name) more names_m

      pub counts_fit : (r.entries ≤ 1024) × (r.names + length name ≤ 16384)
      counts_fit = (omega (arith, entries_then (put key e t) f, more), omega (arith, names_then (put key e t) f, names_m))

    pub inserting : (src : Bytes) → src ≡ packed e → (q : Record) (tlens' trees' : List ℕ) →
        cut tlens' trees' ≡ with_run k (λ (l : Bytes). inserted l p.at src) (cut tlens trees) → length tlens' ≡ length tlens → length trees' ≡ length trees → Sound tlens' trees' q.trees →
        Kept r q → q.entries ≡ r.entries + 1 → q.names ≡ r.names + length name → Edited w r plens paths tlens trees k (put key e t) q tlens' trees'
    inserting src se q tlens' trees' cc' tl tb st same ee en =
        edited (put key e t) (λ (l : Bytes). inserted l p.at src) q tlens' trees'
        (ap (inserted B p.at) se ∙ bytes_with w B (key e) run ris p T'' e refl) wf cc' same tl tb st
        (omega (arith, ee, more)) (omega (arith, en, names_m))

-- two edits of one slot, one after the other
pub edited_twice : {w : ℕ} {r q s : Record} {plens paths tlens trees tlens' trees' tlens'' trees'' : List ℕ} {k : ℕ} {t u : Tree} →
    Edited w r plens paths tlens trees k t q tlens' trees' → Edited w q plens paths tlens' trees' k u s tlens'' trees'' → Edited w r plens paths tlens trees k u s tlens'' trees''
edited_twice {w = w} {r = r} {plens = plens} {paths = paths} {tlens = tlens} {trees = trees} {k = k} {t = t} {u = u} a b =
    record {
      view = b.view ∙ ap (put at (held_as (path_of plens paths k) u)) a.view ∙ put_put_same at (held_as (path_of plens paths k) u) (held_as (path_of plens paths k) t) (view_of w r plens paths tlens trees) refl;
      laid = b.laid;
      tree = b.tree;
      used = b.used;
      kept = kept_twice a.kept b.kept;
      others = record { run = λ j n. b.others.run j n ∙ a.others.run j n };
    }

pub edited_same : {w : ℕ} {r q : Record} {plens paths tlens trees tlens' trees' : List ℕ} {k : ℕ} {t : Tree} →
    Edited w r plens paths tlens trees k t q tlens' trees' → (u : Tree) → t ≡ u → Edited w r plens paths tlens trees k u q tlens' trees'
edited_same {w = w} {r = r} {q = q} {plens = plens} {paths = paths} {tlens = tlens} {trees = trees} {tlens' = tlens'} {trees' = trees'} {k = k} a u e = subst (λ (z : Tree). Edited w r plens paths tlens trees k z q tlens' trees') e a

-- the twin of an entry removed, then the entry put in
module _ {w : ℕ} {r q : Record} {plens paths tlens trees tlens' trees' : List ℕ} {k : ℕ} (L : Laid w r plens paths tlens trees) (U : Used r k) (m : Mode) (name id : Bytes) (b : Bool) (eb : b ≡ is_tree m)
    (first : Edited w r plens paths tlens trees k (del key (as_kind (not b) name) (tree_of w tlens trees k)) q tlens' trees') where
  abbrev the : Entry
  the = record { mode = m; name = name; id = id }

  abbrev was : Tree
  was = tree_of w tlens trees k

  pub put_then : put key the (tree_of w tlens' trees' k) ≡ with_entry the was
  put_then = ap (put key the) first.tree ∙ ap (λ (x : Bool). put key the (del key (as_kind (not x) name) was)) eb

  pub fresh_kept : find key (as_kind (is_tree m) name) was ≡ none → Fresh name (tree_of w tlens' trees' k)
  fresh_kept f = subst (Fresh name) (sym first.tree) (fresh_then b name was (well_rising w was (L.well k U.low)) (ap (λ (x : Bool). find key (as_kind x name) was) eb ∙ f))

  pub fits_then : fits (put at (held_as (path_of plens paths k) (with_entry the was)) (view_of w r plens paths tlens trees)) ≡ true →
      fits (put at (held_as (path_of plens paths k) (put key the (tree_of w tlens' trees' k))) (view_of w q plens paths tlens' trees')) ≡ true
  fits_then f =
      ap₂ (λ (t : Tree) (c : Cache). fits (put at (held_as (path_of plens paths k) t) c)) put_then first.view
      ∙ ap fits (put_put_same at (held_as (path_of plens paths k) (with_entry the was)) (held_as (path_of plens paths k) (del key (as_kind (not b) name) was)) (view_of w r plens paths tlens trees) refl)
      ∙ f
