-- What a change of one slot leaves of the layout's rules, and what it makes of the view. Assumes nothing.
use mathlib.Core.Path.{◌≡◌, refl, sym, ap, ap₂, ◌∙◌, subst}
use mathlib.Core.Logic.{◌≢◌}
use mathlib.Core.Bool.{Bool, true, false}
use mathlib.Core.Option.{some}
use mathlib.Core.List.{List, [], ◌∷◌, ◌++◌, map}
use Prim.Native.Nat.{ℕ, zero, suc, ◌+◌, ◌≤◌, ◌<◌}
use native.Mathlib.Omega.{arith}
use lib.Dec.{eqb}
use borrow.Author.Tests.{eqb-true, eqb-false}
use lib.ListN.{length, get_or, set}
use lib.Seq.{get_or-set_other, get_or-set_same}
use Rattle.model.specs.Bytes.{Bytes}
use Rattle.model.specs.Map.{find, put, del}
use Rattle.model.specs.Tree.{Tree, among, distinct, name_bytes, well_formed}
use Rattle.model.specs.Editor.{Held, at, entry_count, name_count}
use Rattle.model.proofs.RawLaws.{well_entries}
use Rattle.model.proofs.SoundTrees.{total}
use Rattle.model.proofs.RoomCounts.{entries_total, names_total}
use Rattle.store_runs.specs.Digits.{digits}
use Rattle.store_runs.proofs.DigitLaws.{length_digits}
use Rattle.store_runs.specs.Runs.{cut, with_run, Sound}
use Rattle.store_runs.proofs.RunLaws.{length_cut, with_other}
use Rattle.names_compact.specs.Compact.{packed_all, unpack, Run}
use Rattle.names_compact.proofs.CompactLaws.{wide_good, unpacked}
use Rattle.store_slots.specs.View.{slots_of, slots, gather, view_of, Laid, Others}
use Rattle.store_slots.specs.declared.Record.{Record}
use Rattle.store_slots.proofs.Gather.{gather_entries, gather_names, total_mid, total_more, distinct_insert, distinct_remove, distinct_before, gather_mid}
use Rattle.model.proofs.MapLaws.{find_put_same}
use Rattle.store_slots.proofs.Slots.{front, back, slot, split_used, split_free, run_used, view_run, view_free, view_take, apart_run, slots_set}

pub well_unpacked : (w : ℕ) (t : Tree) → well_formed w t ≡ true → unpack w (packed_all t) ≡ t
well_unpacked w t h = unpacked w t (wide_good w t (well_entries w t h))

pub with_here : (f : Bytes → Bytes) (rs : List Bytes) (k : ℕ) → k < length rs → get_or (with_run k f rs) k [] ≡ f (get_or rs k [])
unfolding with_run
with_here f [] k h = absurd (omega arith)
with_here f (r ∷ rs) zero h = refl
with_here f (r ∷ rs) (suc k) h = with_here f rs k (omega arith)

pub others_with : (f : Bytes → Bytes) (lens bytes lens' bytes' : List ℕ) (k : ℕ) → cut lens' bytes' ≡ with_run k f (cut lens bytes) → Others lens bytes k lens' bytes'
others_with f lens bytes lens' bytes' k c = record { run = λ j n. ap (λ (x : List Bytes). get_or x j []) c ∙ with_other f (cut lens bytes) k j n }

module _ (w : ℕ) (r : Record) (plens paths tlens trees : List ℕ) (L : Laid w r plens paths tlens trees) (k : ℕ) (h : k < 64) where
  abbrev ds : List ℕ
  ds = digits 64 r.free

  abbrev ps : List Bytes
  ps = cut plens paths

  abbrev bs : List Bytes
  bs = cut tlens trees

  ds_length : length ds ≡ 64
  ds_length = length_digits 64 r.free

  ps_even : length ps ≡ length ds
  ps_even = length_cut plens paths ∙ L.plens_64 ∙ sym ds_length

  bs_even : length bs ≡ length ds
  bs_even = length_cut tlens trees ∙ L.tlens_64 ∙ sym ds_length

  in_ds : k < length ds
  in_ds = omega (arith, ds_length)

  -- the path and the tree of the slot
  abbrev pub path_in : Bytes
  path_in = get_or ps k []

  abbrev pub tree_in : Tree
  tree_in = unpack w (get_or bs k [])

  -- the slot's run is a tree that can be searched
  pub run_in : Run w (get_or bs k [])
  run_in = record { bytes = L.packed k h; good = well_entries w tree_in (L.well k h) }

  -- a run that becomes the packed form of another tree
  module _ (u : get_or ds k 0 ≡ 0) (t' : Tree) (g : Bytes → Bytes) (r' : Record) (tlens' trees' : List ℕ) (e : g (get_or bs k []) ≡ packed_all t') (well' : well_formed w t' ≡ true)
      (c : cut tlens' trees' ≡ with_run k g bs) (ef : r'.free ≡ r.free) where
    slots' : slots w r' plens paths tlens' trees' ≡ slots_of w ds ps (with_run k g bs)
    slots' = ap₂ (λ (x : ℕ) (y : List Bytes). slots_of w (digits 64 x) ps y) ef c

    tree' : unpack w (g (get_or bs k [])) ≡ t'
    tree' = ap (unpack w) e ∙ well_unpacked w t' well'

    pub relaid_view : view_of w r' plens paths tlens' trees' ≡ put at (record { path = path_in; held = t' }) (view_of w r plens paths tlens trees)
    relaid_view =
        ap gather slots' ∙ view_run k w ds ps bs in_ds ps_even bs_even u L.apart g
        ∙ ap (λ (t : Tree). put at (record { path = path_in; held = t }) (view_of w r plens paths tlens trees)) tree'

    apart' : distinct (map at (slots w r' plens paths tlens' trees')) ≡ true
    apart' = ap (λ (m : List Held). distinct (map at m)) slots' ∙ apart_run k w ds ps bs in_ds ps_even bs_even u L.apart g

    here' : get_or (cut tlens' trees') k [] ≡ packed_all t'
    here' = ap (λ (x : List Bytes). get_or x k []) c ∙ with_here g bs k (omega (arith, bs_even, ds_length)) ∙ e

    other' : (j : ℕ) → j ≢ k → get_or (cut tlens' trees') j [] ≡ get_or bs j []
    other' j n = ap (λ (x : List Bytes). get_or x j []) c ∙ with_other g bs k j n

    split' : slots w r' plens paths tlens' trees' ≡ front k w ds ps bs ++ (record { path = path_in; held = t' } ∷ back k w ds ps bs)
    split' = slots' ∙ run_used k w ds ps bs in_ds ps_even bs_even u L.apart g ∙ ap (λ (t : Tree). front k w ds ps bs ++ (record { path = path_in; held = t } ∷ back k w ds ps bs)) tree'

    module _ (f : Held → ℕ) where
      sums : total f (slots w r' plens paths tlens' trees') + f (record { path = path_in; held = tree_in }) ≡ total f (slots w r plens paths tlens trees) + f (record { path = path_in; held = t' })
      sums =
          ap₂ (λ (x y : List Held). total f x + f (record { path = path_in; held = tree_in })) split' (split_used k w ds ps bs in_ds ps_even bs_even u)
          ∙ total_mid f (front k w ds ps bs) (record { path = path_in; held = tree_in }) (record { path = path_in; held = t' }) (back k w ds ps bs)
          ∙ ap (λ (x : List Held). total f x + f (record { path = path_in; held = t' })) (sym (split_used k w ds ps bs in_ds ps_even bs_even u))

    pub relaid_entries : entry_count (view_of w r' plens paths tlens' trees') + length tree_in ≡ entry_count (view_of w r plens paths tlens trees) + length t'
    relaid_entries =
        omega (arith, gather_entries (slots w r' plens paths tlens' trees') apart', gather_entries (slots w r plens paths tlens trees) L.apart, entries_total (slots w r' plens paths tlens' trees'), entries_total (slots w r plens paths tlens trees), sums (λ x. length x.held))

    pub relaid_names : name_count (view_of w r' plens paths tlens' trees') + name_bytes tree_in ≡ name_count (view_of w r plens paths tlens trees) + name_bytes t'
    relaid_names =
        omega (arith, gather_names (slots w r' plens paths tlens' trees') apart', gather_names (slots w r plens paths tlens trees) L.apart, names_total (slots w r' plens paths tlens' trees'), names_total (slots w r plens paths tlens trees), sums (λ x. name_bytes x.held))

    pub relaid : length tlens' ≡ 64 → length trees' ≡ length trees → Sound tlens' trees' r'.trees → r'.paths ≡ r.paths →
        r'.entries + length tree_in ≡ r.entries + length t' → r'.names + name_bytes tree_in ≡ r.names + name_bytes t' → Laid w r' plens paths tlens' trees'
    relaid l64 lt sound ep ee en =
        record {
          plens_64 = L.plens_64;
          tlens_64 = l64;
          paths_room = L.paths_room;
          trees_room = lt ∙ L.trees_room;
          paths_sound = subst (Sound plens paths) (sym ep) L.paths_sound;
          trees_sound = sound;
          empty = λ j hj n. let m : get_or ds j 0 ≡ 0 → ⊥ = λ q. n (ap (λ (x : ℕ). get_or (digits 64 x) j 0) ef ∙ q) in
              let o : j ≢ k = λ q. m (ap (λ (x : ℕ). get_or ds x 0) q ∙ u) in
              ((L.empty j hj m).0, other' j o ∙ (L.empty j hj m).1);
          packed = λ j hj. packed_at j hj (eqb j k) refl;
          well = λ j hj. well_at j hj (eqb j k) refl;
          apart = apart';
          entries = omega (arith, relaid_entries, L.entries, ee);
          names = omega (arith, relaid_names, L.names, en);
        }
      where
        same_at : (j : ℕ) → eqb j k ≡ true → get_or (cut tlens' trees') j [] ≡ packed_all t'
        same_at j b = ap (λ (x : ℕ). get_or (cut tlens' trees') x []) (eqb-true j k b) ∙ here'

        packed_at : (j : ℕ) → j < 64 → (b : Bool) → eqb j k ≡ b → get_or (cut tlens' trees') j [] ≡ packed_all (unpack w (get_or (cut tlens' trees') j []))
        packed_at j hj true b = same_at j b ∙ ap packed_all (sym (well_unpacked w t' well')) ∙ ap (λ (x : Bytes). packed_all (unpack w x)) (sym (same_at j b))
        packed_at j hj false b = other' j (eqb-false j k b) ∙ L.packed j hj ∙ ap (λ (x : Bytes). packed_all (unpack w x)) (sym (other' j (eqb-false j k b)))

        well_at : (j : ℕ) → j < 64 → (b : Bool) → eqb j k ≡ b → well_formed w (unpack w (get_or (cut tlens' trees') j [])) ≡ true
        well_at j hj true b = ap (λ (x : Bytes). well_formed w (unpack w x)) (same_at j b) ∙ ap (well_formed w) (well_unpacked w t' well') ∙ well'
        well_at j hj false b = ap (λ (x : Bytes). well_formed w (unpack w x)) (other' j (eqb-false j k b)) ∙ L.well j hj

  -- a slot whose digit, path and run are set
  module _ (f g : Bytes → Bytes) (x : ℕ) (r' : Record) (plens' paths' tlens' trees' : List ℕ) (cp : cut plens' paths' ≡ with_run k f ps) (cb : cut tlens' trees' ≡ with_run k g bs) (ef : digits 64 r'.free ≡ set ds k x) where
    set_is : slots w r' plens' paths' tlens' trees' ≡ slots_of w (set ds k x) (with_run k f ps) (with_run k g bs)
    set_is = ap₂ (λ (a : List ℕ) (b : List Bytes). slots_of w a b (cut tlens' trees')) ef cp ∙ ap (slots_of w (set ds k x) (with_run k f ps)) cb

    path_here : get_or (cut plens' paths') k [] ≡ f path_in
    path_here = ap (λ (z : List Bytes). get_or z k []) cp ∙ with_here f ps k (omega (arith, ps_even, ds_length))

    run_here : get_or (cut tlens' trees') k [] ≡ g (get_or bs k [])
    run_here = ap (λ (z : List Bytes). get_or z k []) cb ∙ with_here g bs k (omega (arith, bs_even, ds_length))

    path_other : (j : ℕ) → j ≢ k → get_or (cut plens' paths') j [] ≡ get_or ps j []
    path_other j n = ap (λ (z : List Bytes). get_or z j []) cp ∙ with_other f ps k j n

    run_other : (j : ℕ) → j ≢ k → get_or (cut tlens' trees') j [] ≡ get_or bs j []
    run_other j n = ap (λ (z : List Bytes). get_or z j []) cb ∙ with_other g bs k j n

    module _ (t' : Tree) (e : g (get_or bs k []) ≡ packed_all t') (well' : well_formed w t' ≡ true) where
      tree_set : unpack w (g (get_or bs k [])) ≡ t'
      tree_set = ap (unpack w) e ∙ well_unpacked w t' well'

      same_set : (j : ℕ) → eqb j k ≡ true → get_or (cut tlens' trees') j [] ≡ packed_all t'
      same_set j b = ap (λ (z : ℕ). get_or (cut tlens' trees') z []) (eqb-true j k b) ∙ run_here ∙ e

      packed_set : (j : ℕ) → j < 64 → (b : Bool) → eqb j k ≡ b → get_or (cut tlens' trees') j [] ≡ packed_all (unpack w (get_or (cut tlens' trees') j []))
      packed_set j hj true b = same_set j b ∙ ap packed_all (sym (well_unpacked w t' well')) ∙ ap (λ (z : Bytes). packed_all (unpack w z)) (sym (same_set j b))
      packed_set j hj false b = run_other j (eqb-false j k b) ∙ L.packed j hj ∙ ap (λ (z : Bytes). packed_all (unpack w z)) (sym (run_other j (eqb-false j k b)))

      well_set : (j : ℕ) → j < 64 → (b : Bool) → eqb j k ≡ b → well_formed w (unpack w (get_or (cut tlens' trees') j [])) ≡ true
      well_set j hj true b = ap (λ (z : Bytes). well_formed w (unpack w z)) (same_set j b) ∙ ap (well_formed w) (well_unpacked w t' well') ∙ well'
      well_set j hj false b = ap (λ (z : Bytes). well_formed w (unpack w z)) (run_other j (eqb-false j k b)) ∙ L.well j hj

      digit_other : (j : ℕ) → j ≢ k → (get_or (digits 64 r'.free) j 0 ≡ 0 → ⊥) → get_or ds j 0 ≡ 0 → ⊥
      digit_other j n m q = m (ap (λ (z : List ℕ). get_or z j 0) ef ∙ get_or-set_other ds k j x 0 n ∙ q)

      -- the rules that do not speak of the view
      module _ (pl : length plens' ≡ 64) (tl : length tlens' ≡ 64) (pb : length paths' ≡ length paths) (tb : length trees' ≡ length trees)
          (sp : Sound plens' paths' r'.paths) (st : Sound tlens' trees' r'.trees) where
        from : ((get_or (digits 64 r'.free) k 0 ≡ 0 → ⊥) → (get_or (cut plens' paths') k [] ≡ []) × (get_or (cut tlens' trees') k [] ≡ []))
            → distinct (map at (slots w r' plens' paths' tlens' trees')) ≡ true
            → r'.entries ≡ entry_count (view_of w r' plens' paths' tlens' trees')
            → r'.names ≡ name_count (view_of w r' plens' paths' tlens' trees')
            → Laid w r' plens' paths' tlens' trees'
        from em ap' ee en =
            record {
              plens_64 = pl;
              tlens_64 = tl;
              paths_room = pb ∙ L.paths_room;
              trees_room = tb ∙ L.trees_room;
              paths_sound = sp;
              trees_sound = st;
              empty = λ j hj n. empty_at j hj n (eqb j k) refl;
              packed = λ j hj. packed_set j hj (eqb j k) refl;
              well = λ j hj. well_set j hj (eqb j k) refl;
              apart = ap';
              entries = ee;
              names = en;
            }
          where
            empty_at : (j : ℕ) → j < 64 → (get_or (digits 64 r'.free) j 0 ≡ 0 → ⊥) → (b : Bool) → eqb j k ≡ b → (get_or (cut plens' paths') j [] ≡ []) × (get_or (cut tlens' trees') j [] ≡ [])
            empty_at j hj n true b =
                let q : k ≡ j = sym (eqb-true j k b) in
                subst (λ (z : ℕ). (get_or (cut plens' paths') z [] ≡ []) × (get_or (cut tlens' trees') z [] ≡ [])) q (em (λ m. n (ap (λ (z : ℕ). get_or (digits 64 r'.free) z 0) (sym q) ∙ m)))
            empty_at j hj n false b =
                let o = eqb-false j k b in
                let m = digit_other j o n in
                (path_other j o ∙ (L.empty j hj m).0, run_other j o ∙ (L.empty j hj m).1)

  -- a slot taken: a new path with its tree
  module _ (u : get_or ds k 0 ≡ 0 → ⊥) (f g : Bytes → Bytes) (r' : Record) (plens' paths' tlens' trees' : List ℕ) (cp : cut plens' paths' ≡ with_run k f ps) (cb : cut tlens' trees' ≡ with_run k g bs) (ef : digits 64 r'.free ≡ set ds k 0)
      (p : Bytes) (ep : f path_in ≡ p) (t' : Tree) (e : g (get_or bs k []) ≡ packed_all t') (well' : well_formed w t' ≡ true) (n : among p (map at (slots w r plens paths tlens trees)) ≡ false) where
    abbrev new : Held
    new = record { path = p; held = t' }

    new_is : slot k w ps bs f g ≡ new
    new_is = ap₂ (λ (a : Bytes) (b : Tree). record { path = a; held = b }) ep (tree_set f g 0 r' plens' paths' tlens' trees' cp cb ef t' e well')

    taken_slots : slots w r' plens' paths' tlens' trees' ≡ front k w ds ps bs ++ (new ∷ back k w ds ps bs)
    taken_slots = set_is f g 0 r' plens' paths' tlens' trees' cp cb ef ∙ slots_set k w ds ps bs 0 f g in_ds ps_even bs_even ∙ ap (λ (z : Held). front k w ds ps bs ++ (z ∷ back k w ds ps bs)) new_is

    pub taken_view : view_of w r' plens' paths' tlens' trees' ≡ put at (record { path = p; held = t' }) (view_of w r plens paths tlens trees)
    taken_view =
        ap gather (set_is f g 0 r' plens' paths' tlens' trees' cp cb ef)
        ∙ view_take k w ds ps bs in_ds ps_even bs_even u f g (ap (λ (z : Bytes). among z (map at (slots w r plens paths tlens trees))) ep ∙ n)
        ∙ ap (λ (z : Held). put at z (view_of w r plens paths tlens trees)) new_is

    old_split : slots w r plens paths tlens trees ≡ front k w ds ps bs ++ back k w ds ps bs
    old_split = split_free k w ds ps bs in_ds ps_even bs_even u

    taken_apart : distinct (map at (slots w r' plens' paths' tlens' trees')) ≡ true
    taken_apart =
        ap (λ (z : List Held). distinct (map at z)) taken_slots
        ∙ distinct_insert (front k w ds ps bs) new (back k w ds ps bs) (ap (λ (z : List Held). among p (map at z)) (sym old_split) ∙ n) (ap (λ (z : List Held). distinct (map at z)) (sym old_split) ∙ L.apart)

    module _ (q : Held → ℕ) where
      taken_sum : total q (slots w r' plens' paths' tlens' trees') ≡ total q (slots w r plens paths tlens trees) + q new
      taken_sum = ap (total q) taken_slots ∙ total_more q (front k w ds ps bs) new (back k w ds ps bs) ∙ ap (λ (z : List Held). total q z + q new) (sym old_split)

    pub taken : length plens' ≡ 64 → length tlens' ≡ 64 → length paths' ≡ length paths → length trees' ≡ length trees → Sound plens' paths' r'.paths → Sound tlens' trees' r'.trees →
        r'.entries ≡ r.entries + length t' → r'.names ≡ r.names + name_bytes t' → Laid w r' plens' paths' tlens' trees'
    taken pl tl pb tb sp st ee en =
        from f g 0 r' plens' paths' tlens' trees' cp cb ef t' e well' pl tl pb tb sp st
        (λ m. absurd (m (ap (λ (z : List ℕ). get_or z k 0) ef ∙ get_or-set_same ds k 0 0 in_ds)))
        taken_apart
        (omega (arith, L.entries, gather_entries (slots w r' plens' paths' tlens' trees') taken_apart, gather_entries (slots w r plens paths tlens trees) L.apart, entries_total (slots w r' plens' paths' tlens' trees'), entries_total (slots w r plens paths tlens trees), taken_sum (λ z. length z.held)))
        (omega (arith, L.names, gather_names (slots w r' plens' paths' tlens' trees') taken_apart, gather_names (slots w r plens paths tlens trees) L.apart, names_total (slots w r' plens' paths' tlens' trees'), names_total (slots w r plens paths tlens trees), taken_sum (λ z. name_bytes z.held)))

  -- a slot freed
  module _ (u : get_or ds k 0 ≡ 0) (f g : Bytes → Bytes) (r' : Record) (plens' paths' tlens' trees' : List ℕ) (cp : cut plens' paths' ≡ with_run k f ps) (cb : cut tlens' trees' ≡ with_run k g bs) (ef : digits 64 r'.free ≡ set ds k 1)
      (ep : f path_in ≡ []) (e : g (get_or bs k []) ≡ []) where
    abbrev old : Held
    old = record { path = path_in; held = tree_in }

    freed_slots : slots w r' plens' paths' tlens' trees' ≡ front k w ds ps bs ++ back k w ds ps bs
    freed_slots = set_is f g 1 r' plens' paths' tlens' trees' cp cb ef ∙ slots_set k w ds ps bs 1 f g in_ds ps_even bs_even

    pub freed_view : view_of w r' plens' paths' tlens' trees' ≡ del at path_in (view_of w r plens paths tlens trees)
    freed_view = ap gather (set_is f g 1 r' plens' paths' tlens' trees' cp cb ef) ∙ view_free k w ds ps bs in_ds ps_even bs_even u L.apart f g

    was_split : slots w r plens paths tlens trees ≡ front k w ds ps bs ++ (old ∷ back k w ds ps bs)
    was_split = split_used k w ds ps bs in_ds ps_even bs_even u

    freed_apart : distinct (map at (slots w r' plens' paths' tlens' trees')) ≡ true
    freed_apart = ap (λ (z : List Held). distinct (map at z)) freed_slots ∙ distinct_remove (front k w ds ps bs) old (back k w ds ps bs) (ap (λ (z : List Held). distinct (map at z)) (sym was_split) ∙ L.apart)

    module _ (q : Held → ℕ) where
      freed_sum : total q (slots w r plens paths tlens trees) ≡ total q (slots w r' plens' paths' tlens' trees') + q old
      freed_sum = ap (total q) was_split ∙ total_more q (front k w ds ps bs) old (back k w ds ps bs) ∙ ap (λ (z : List Held). total q z + q old) (sym freed_slots)

    nothing_packed : packed_all [] ≡ []
    unfolding packed_all
    nothing_packed = refl

    nothing_well : well_formed w [] ≡ true
    unfolding well_formed
    nothing_well = refl

    pub freed : length plens' ≡ 64 → length tlens' ≡ 64 → length paths' ≡ length paths → length trees' ≡ length trees → Sound plens' paths' r'.paths → Sound tlens' trees' r'.trees →
        r'.entries + length tree_in ≡ r.entries → r'.names + name_bytes tree_in ≡ r.names → Laid w r' plens' paths' tlens' trees'
    freed pl tl pb tb sp st ee en =
        from f g 1 r' plens' paths' tlens' trees' cp cb ef [] (e ∙ sym nothing_packed) nothing_well pl tl pb tb sp st
        (λ m. (path_here f g 1 r' plens' paths' tlens' trees' cp cb ef ∙ ep, run_here f g 1 r' plens' paths' tlens' trees' cp cb ef ∙ e))
        freed_apart
        (omega (arith, L.entries, gather_entries (slots w r' plens' paths' tlens' trees') freed_apart, gather_entries (slots w r plens paths tlens trees) L.apart, entries_total (slots w r' plens' paths' tlens' trees'), entries_total (slots w r plens paths tlens trees), freed_sum (λ z. length z.held)))
        (omega (arith, L.names, gather_names (slots w r' plens' paths' tlens' trees') freed_apart, gather_names (slots w r plens paths tlens trees) L.apart, names_total (slots w r' plens' paths' tlens' trees'), names_total (slots w r plens paths tlens trees), freed_sum (λ z. name_bytes z.held)))

  -- a slot's tree counts in the record
  module _ (u : get_or ds k 0 ≡ 0) where
    counted : (q : Held → ℕ) → q (record { path = path_in; held = tree_in }) ≤ total q (slots w r plens paths tlens trees)
    counted q =
        omega (arith, ap (total q) (split_used k w ds ps bs in_ds ps_even bs_even u), total_more q (front k w ds ps bs) (record { path = path_in; held = tree_in }) (back k w ds ps bs))

    pub entries_in_lem : length tree_in ≤ r.entries
    entries_in_lem = omega (arith, L.entries, gather_entries (slots w r plens paths tlens trees) L.apart, entries_total (slots w r plens paths tlens trees), counted (λ x. length x.held))

    pub names_in_lem : name_bytes tree_in ≤ r.names
    names_in_lem = omega (arith, L.names, gather_names (slots w r plens paths tlens trees) L.apart, names_total (slots w r plens paths tlens trees), counted (λ x. name_bytes x.held))

    -- the view has the slot's tree under its path
    pub find_slot : find at path_in (view_of w r plens paths tlens trees) ≡ some (record { path = path_in; held = tree_in })
    find_slot =
        ap (λ (m : List Held). find at path_in (gather m)) (split_used k w ds ps bs in_ds ps_even bs_even u)
        ∙ ap (find at path_in) (gather_mid (front k w ds ps bs) (record { path = path_in; held = tree_in }) (back k w ds ps bs)
        (distinct_before (front k w ds ps bs) (record { path = path_in; held = tree_in }) (back k w ds ps bs) (ap (λ (m : List Held). distinct (map at m)) (sym (split_used k w ds ps bs in_ds ps_even bs_even u)) ∙ L.apart)))
        ∙ find_put_same at (record { path = path_in; held = tree_in }) (gather (front k w ds ps bs ++ back k w ds ps bs))
