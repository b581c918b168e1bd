-- The numbers that a measure finds by itself are at most 4, because no step of it gives a higher one; so 5 means that a step passed a limit. Assumes nothing.
use Prim.Native.Nat.{ℕ, ◌≤◌}
use mathlib.Core.List.{List, [], ◌∷◌}
use mathlib.Core.Bool.{Bool, true, false}
use mathlib.Core.Option.{Option, none, some}
use native.Mathlib.Omega.{arith}
use Rattle.model.specs.Bytes.{Bytes, same, is_nil}
use Rattle.model.specs.Map.{find}
use Rattle.model.specs.Tree.{is_tree, Entry, Tree, entry_of}
use Rattle.model.specs.Raw.{read_tree}
use Rattle.model.specs.Paths.{join}
use Rattle.model.specs.Table.{Table, looked_up}
use Rattle.model.specs.Editor.{Format, Held, at, Cache}
use Rattle.model.specs.Walk.{ANY, LEAF, Edit, remove, upsert, is_leaf_removal}
use Rattle.model.specs.Measure.{Counts, less_name, plus_tree, Sight, stays, ends, goes, pick_sight, seen_last, seen_earlier, seen, Landing, halts, there, lands, pick_landing, land_read, land_raw, land_new, landing, Measured, over, counted, pick_measured, on_landing, on_sight, measured}

abbrev SightLow : Sight → Type 0
SightLow (stays j) = j ≤ 4
SightLow (ends u) = Unit {0}
SightLow (goes u i) = Unit {0}

abbrev LandingLow : Landing → Type 0
LandingLow (halts j) = j ≤ 4
LandingLow (there t) = Unit {0}
LandingLow (lands t u) = Unit {0}

pick_sight_lem : (b : Bool) (x y : Sight) → SightLow x → SightLow y → SightLow (pick_sight b x y)
pick_sight_lem true x y h k = h
pick_sight_lem false x y h k = k

pick_landing_lem : (b : Bool) (x y : Landing) → LandingLow x → LandingLow y → LandingLow (pick_landing b x y)
pick_landing_lem true x y h k = h
pick_landing_lem false x y h k = k

seen_low : (b : Bool) (e : Edit) (n : Bytes) (u : Counts) (o : Option Entry) → SightLow (seen b e n u o)
unfolding seen seen_last seen_earlier
seen_low true (remove ANY) n u none = omega arith
seen_low true (remove ANY) n u (some x) = tt
seen_low true (remove LEAF) n u none = omega arith
seen_low true (remove LEAF) n u (some x) = pick_sight_lem (is_tree x.mode) (stays 4) (ends (less_name n u)) (omega arith) tt
seen_low true (upsert m i) n u none = tt
seen_low true (upsert m i) n u (some x) = tt
seen_low false (remove k) n u none = omega arith
seen_low false (remove k) n u (some x) = pick_sight_lem (is_tree x.mode) (goes u (some x.id)) (stays 0) tt (omega arith)
seen_low false (upsert m i) n u none = tt
seen_low false (upsert m i) n u (some x) = pick_sight_lem (is_tree x.mode) (goes u (some x.id)) (goes u none) tt tt

read_low : (q : Bytes) (u : Counts) (o : Option Tree) → LandingLow (land_read q u o)
read_low q u none = omega arith
read_low q u (some t) = tt

raw_low : (w : ℕ) (q : Bytes) (u : Counts) (o : Option Bytes) → LandingLow (land_raw w q u o)
raw_low w q u none = omega arith
raw_low w q u (some raw) = read_low q u (read_tree w raw)

landing_low : (F : Format) (T : Table) (e : Edit) (q : Bytes) (u : Counts) (i : Option Bytes) (o : Option Held) → LandingLow (landing F T e q u i o)
unfolding landing land_new
landing_low F T e q u i (some h) = tt
landing_low F T e q u none none = tt
landing_low F T e q u (some i) none =
    pick_landing_lem (same i F.empty_id) (pick_landing (is_leaf_removal e) (halts 0) (lands [] (plus_tree q [] u))) (land_raw F.width q u (looked_up F.width T i))
    (pick_landing_lem (is_leaf_removal e) (halts 0) (lands [] (plus_tree q [] u)) (omega arith) tt) (raw_low F.width q u (looked_up F.width T i))

on_landing_low : (next : Tree → Counts → Measured) → ((t : Tree) (u : Counts) → (next t u).code ≤ 4) → (u : Counts) (l : Landing) → LandingLow l → (on_landing next u l).code ≤ 4
unfolding on_landing over counted
on_landing_low next h u (halts j) k = k
on_landing_low next h u (there t) k = h t u
on_landing_low next h u (lands t v) k = h t v

on_sight_low : (F : Format) (T : Table) (e : Edit) (deep : Bool) (q : Bytes) (o : Option Held) (next : Tree → Counts → Measured) → ((t : Tree) (u : Counts) → (next t u).code ≤ 4) → (s : Sight) → SightLow s →
    (on_sight F T e deep q o next s).code ≤ 4
unfolding on_sight over counted
on_sight_low F T e deep q o next h (stays j) k = k
on_sight_low F T e true q o next h (ends u) k = on_landing_low next h u (landing F T e q u none o) (landing_low F T e q u none o)
on_sight_low F T e false q o next h (ends u) k = omega arith
on_sight_low F T e deep q o next h (goes u i) k = on_landing_low next h u (landing F T e q u i o) (landing_low F T e q u i o)

pub measured_low : (F : Format) (T : Table) (e : Edit) (deep : Bool) (ns : List Bytes) (p : Bytes) (t : Tree) (c : Cache) (u : Counts) → (measured F T e deep ns p t c u).code ≤ 4
unfolding over
measured_low F T e deep [] p t c u = omega arith
measured_low F T e deep (n ∷ ns) p t c u =
    go (is_nil n)
    (on_sight_low F T e deep (join p n) (find at (join p n) c) (λ s v. measured F T e deep ns (join p n) s c v) (λ s v. measured_low F T e deep ns (join p n) s c v) (seen (is_nil ns) e n u (entry_of n t)) (seen_low (is_nil ns) e n u (entry_of n t)))
  where
    go : (b : Bool) → (on_sight F T e deep (join p n) (find at (join p n) c) (λ s v. measured F T e deep ns (join p n) s c v) (seen (is_nil ns) e n u (entry_of n t))).code ≤ 4 →
        (pick_measured b (over 1) (on_sight F T e deep (join p n) (find at (join p n) c) (λ s v. measured F T e deep ns (join p n) s c v) (seen (is_nil ns) e n u (entry_of n t)))).code ≤ 4
    go true h = omega arith
    go false h = h
