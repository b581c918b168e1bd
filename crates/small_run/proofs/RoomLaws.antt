-- The output of every input fits into 303,104 bytes: a record has at least 20 bytes and its lines at most 52; a request's lines come out of the trees that a write
-- holds, and an answer puts at most one entry back, whose name ends the path of the tree that goes. Assumes nothing.
use Prim.Native.Nat.{ℕ, zero, suc, ◌+◌, ◌*◌, ◌≤◌, Ordering}
use mathlib.Core.Path.{◌≡◌, refl, sym, ◌∙◌, ap, subst}
use mathlib.Core.Bool.{Bool, true, false, not, ◌&&◌, ◌||◌, cond}
use mathlib.Core.List.{List, [], ◌∷◌, ◌++◌, reverse}
use mathlib.Core.Option.{Option, none, some}
use native.Mathlib.Omega.{arith}
use lib.ListN.{length, length-append}
use Rattle.model.specs.Bytes.{Bytes, same, is_nil, has, by, cmp}
use Rattle.model.specs.Map.{find, put, del}
use Rattle.model.specs.Tree.{TREE, is_tree, Entry, Tree, as_kind, key, without, with_entry, without_id, pick_tree, null, well_formed, name_bytes}
use Rattle.model.specs.Raw.{raw_tree}
use Rattle.model.specs.Paths.{join, base, dir, valid_path}
use Rattle.model.specs.Editor.{Held, at, Cache, Start, from_root, from_cursor, Write, Editor}
use Rattle.model.specs.Formats.{sha1}
use Rattle.model.specs.Valid.{valid}
use Rattle.model.specs.Write.{one_kid, scanned, change_at, unlinked, linked, Going, Asking, pick_asking, finished, taken, no_tree, onward, asking, write_of, closed, pick_editor, answered_in, answered, requested}
use Rattle.model.proofs.Basics.{and_right, none_some, some_inj}
use Rattle.model.proofs.SoundTrees.{total, total_del, find_key}
use Rattle.model.proofs.Theorems.{answer_valid}
use Rattle.model.proofs.RawLaws.{well_entries}
use Rattle.model.proofs.ValidLaws.{raw_length}
use Rattle.model.proofs.ValidSums.{total_append, total_reverse, one, is_at, its_entries, its_names, its_path, Sane, is_good_lem}
use Rattle.model.proofs.WriteKeeps.{valid_ask, sum3}
use Rattle.lines.specs.Hex.{hex_of}
use Rattle.lines.specs.Texts.{line_of}
use Rattle.lines.proofs.TextLaws.{line_long, length_hex}
use Rattle.small_run.specs.Lesson.{tree_key, raw_key, root_key, count_id, request_lines, write_lines}
use Rattle.small_run.proofs.SaveLaws.{wide, pending, pending_less, more_lines, last_line}

-- what an entry and a tree weigh
abbrev cost : Entry → ℕ
cost e = 28 + length e.name

abbrev pub weigh : Held → ℕ
weigh h = 4 * length h.path + 2 * total cost h.held

module _ {A : Type 0} (name : A → Bytes) (f : A → ℕ) where
  del_less : (k : Bytes) (l : List A) → total f (del name k l) ≤ total f l
  del_less k [] = omega arith
  del_less k (x ∷ xs) = go (del_less k xs) (cmp k (name x))
    where
      go : total f (del name k xs) ≤ total f xs → (o : Ordering) → total f (by o (x ∷ xs) xs (x ∷ del name k xs)) ≤ f x + total f xs
      go ih Ordering.lt = omega arith
      go ih Ordering.eq = omega arith
      go ih Ordering.gt = omega (arith, ih)

  put_most : (a : A) (l : List A) → total f (put name a l) ≤ f a + total f l
  put_most a [] = omega arith
  put_most a (x ∷ xs) = go (put_most a xs) (cmp (name a) (name x))
    where
      go : total f (put name a xs) ≤ f a + total f xs → (o : Ordering) → total f (by o (a ∷ x ∷ xs) (a ∷ xs) (x ∷ put name a xs)) ≤ f a + (f x + total f xs)
      go ih Ordering.lt = omega arith
      go ih Ordering.eq = omega arith
      go ih Ordering.gt = omega (arith, ih)

without_less : (n : Bytes) (t : Tree) → total cost (without n t) ≤ total cost t
without_less n t = omega (arith, del_less key cost (as_kind false n) (del key (as_kind true n) t), del_less key cost (as_kind true n) t)

id_less : (i : Bytes) (t : Tree) → total cost (without_id i t) ≤ total cost t
id_less i [] = omega arith
id_less i (e ∷ es) = go (id_less i es) (same e.id i)
  where
    go : total cost (without_id i es) ≤ total cost es → (b : Bool) → total cost (pick_tree b (without_id i es) (e ∷ without_id i es)) ≤ cost e + total cost es
    go ih true = omega (arith, ih)
    go ih false = omega (arith, ih)

entry_most : (e : Entry) (t : Tree) → total cost (with_entry e t) ≤ cost e + total cost t
entry_most e t =
    omega (arith, put_most key cost e (del key (as_kind (not (is_tree e.mode)) e.name) t), del_less key cost (as_kind (not (is_tree e.mode)) e.name) t)

-- a change of the trees at a path
module _ (p : Bytes) (g : Tree → Tree) where
  change_less : ((t : Tree) → total cost (g t) ≤ total cost t) → (hs : List Held) → total weigh (change_at p g hs) ≤ total weigh hs
  change_less x [] = omega arith
  change_less x (h ∷ hs) = go (change_less x hs) (same h.path p)
    where
      go : total weigh (change_at p g hs) ≤ total weigh hs → (b : Bool) → total weigh (cond b (record { path = h.path; held = g h.held }) h ∷ change_at p g hs) ≤ weigh h + total weigh hs
      go ih true = omega (arith, ih, x h.held)
      go ih false = omega (arith, ih)

  change_none : (hs : List Held) → total (is_at p) hs ≡ 0 → total weigh (change_at p g hs) ≡ total weigh hs
  change_none [] e = refl
  change_none (h ∷ hs) e = go (change_none hs) (same h.path p) refl
    where
      go : (total (is_at p) hs ≡ 0 → total weigh (change_at p g hs) ≡ total weigh hs) → (b : Bool) → same h.path p ≡ b →
          total weigh (cond b (record { path = h.path; held = g h.held }) h ∷ change_at p g hs) ≡ weigh h + total weigh hs
      go ih true q = let z = subst (λ (b : Bool). one b + total (is_at p) hs ≡ 0) q e in absurd (omega (arith, z))
      go ih false q = let z = subst (λ (b : Bool). one b + total (is_at p) hs ≡ 0) q e in omega (arith, ih (omega (arith, z)))

  change_most : (m : ℕ) → ((t : Tree) → total cost (g t) ≤ m + total cost t) → (hs : List Held) → total (is_at p) hs ≤ 1 → total weigh (change_at p g hs) ≤ 2 * m + total weigh hs
  change_most m x [] e = omega arith
  change_most m x (h ∷ hs) e = go (change_most m x hs) (same h.path p) refl
    where
      go : (total (is_at p) hs ≤ 1 → total weigh (change_at p g hs) ≤ 2 * m + total weigh hs) → (b : Bool) → same h.path p ≡ b →
          total weigh (cond b (record { path = h.path; held = g h.held }) h ∷ change_at p g hs) ≤ 2 * m + (weigh h + total weigh hs)
      go ih true q = let z = subst (λ (b : Bool). one b + total (is_at p) hs ≤ 1) q e in omega (arith, x h.held, change_none hs (omega (arith, z)))
      go ih false q = let z = subst (λ (b : Bool). one b + total (is_at p) hs ≤ 1) q e in omega (arith, ih (omega (arith, z)))

-- a scan moves trees
scan_sum : (t : Tree) (p : Bytes) (c : Cache) → total weigh (scanned p t c).kids + total weigh (scanned p t c).left ≡ total weigh c
scan_sum [] p c = omega arith
scan_sum (e ∷ es) p c = pick (λ d. scan_sum es p d) (is_tree e.mode)
  where
    go : ((d : Cache) → total weigh (scanned p es d).kids + total weigh (scanned p es d).left ≡ total weigh d) → (o : Option Held) → find at (join p e.name) c ≡ o →
        total weigh (one_kid o (λ d. scanned p es d) c).kids + total weigh (one_kid o (λ d. scanned p es d) c).left ≡ total weigh c
    go ih none q = ih c
    go ih (some h) q =
        let k : find at h.path c ≡ some h = ap (λ (x : Bytes). find at x c) (find_key at (join p e.name) c h q) ∙ q in
        omega (arith, ih (del at h.path c), total_del at weigh h.path c h k)

    pick : ((d : Cache) → total weigh (scanned p es d).kids + total weigh (scanned p es d).left ≡ total weigh d) → (b : Bool) →
        total weigh (one_kid (cond b (find at (join p e.name) c) none) (λ d. scanned p es d) c).kids + total weigh (one_kid (cond b (find at (join p e.name) c) none) (λ d. scanned p es d) c).left ≡ total weigh c
    pick ih true = go ih (find at (join p e.name) c) refl
    pick ih false = ih c

-- on the way to a request nothing is added
abbrev going : Going → ℕ
going g = total weigh g.stack + (total weigh g.kept + total weigh g.cache)

abbrev asked : Asking → ℕ
asked a = weigh a.ask + going a.rest

finish_light : (nil : Bytes) (next : Going → Asking) (h : Held) (g : Going) → ((x : Going) → asked (next x) ≤ going x) → asked (finished nil next h g) ≤ weigh h + going g
unfolding finished unlinked
finish_light nil next h g ih = go (is_nil (without_id nil h.held) && not (is_nil g.kept))
  where
    go : (b : Bool) → asked (pick_asking b (next (record { cache = g.cache; stack = g.stack; kept = change_at (dir h.path) (λ t. without (base h.path) t) g.kept }))
        (record { rest = g; ask = record { path = h.path; held = without_id nil h.held } })) ≤ weigh h + going g
    go true =
        omega (
          arith,
          ih (record { cache = g.cache; stack = g.stack; kept = change_at (dir h.path) (λ t. without (base h.path) t) g.kept }),
          change_less (dir h.path) (λ t. without (base h.path) t) (without_less (base h.path)) g.kept,
        )
    go false = omega (arith, id_less nil h.held)

light : (n : ℕ) (nil : Bytes) (s k : List Held) (c : Cache) → asked (onward nil n s k c) ≤ total weigh s + (total weigh k + total weigh c)
unfolding no_tree taken
light zero nil s k c = omega arith
light (suc n) nil [] [] c = omega arith
light (suc n) nil [] (h ∷ hs) c =
    omega (arith, finish_light nil (λ g. onward nil n g.stack g.kept g.cache) h (record { cache = c; stack = []; kept = hs }) (λ x. light n nil x.stack x.kept x.cache))
light (suc n) nil (h ∷ hs) k c = go (λ x. light n nil x.stack x.kept x.cache) (scanned h.path h.held c).kids (scanned h.path h.held c).left (scan_sum h.held h.path c)
  where
    go : ((x : Going) → asked (onward nil n x.stack x.kept x.cache) ≤ going x) → (kids : List Held) (left : Cache) → total weigh kids + total weigh left ≡ total weigh c →
        asked (taken nil (λ g. onward nil n g.stack g.kept g.cache) h hs k c kids left) ≤ (weigh h + total weigh hs) + (total weigh k + total weigh c)
    go ih [] left q = omega (arith, finish_light nil (λ g. onward nil n g.stack g.kept g.cache) h (record { cache = c; stack = hs; kept = k }) ih)
    go ih (x ∷ xs) left q =
        omega (arith, q, ih (record { cache = left; stack = reverse (x ∷ xs) ++ hs; kept = h ∷ k }), total_append weigh (reverse (x ∷ xs)) hs, total_reverse weigh (x ∷ xs))

-- what is left to a write weighs
abbrev pub weight_in : Cache → Option Write → ℕ
weight_in c none = 0
weight_in c (some w) = weigh w.asked + (total weigh w.stacked + (total weigh w.aside + total weigh c))

unfoldable pub weight : Editor → ℕ
weight E = weight_in E.cached E.writing

base_short : (p : Bytes) → length (base p) ≤ length p
base_short [] = omega arith
base_short (b ∷ bs) = go (base_short bs) (has 47 (b ∷ bs))
  where
    go : length (base bs) ≤ length bs → (t : Bool) → length (cond t (base bs) (b ∷ bs)) ≤ suc (length bs)
    go ih true = omega (arith, ih)
    go ih false = omega arith

linked_most : (i p : Bytes) (hs : List Held) → total (is_at (dir p)) hs ≤ 1 → total weigh (linked i p hs) ≤ 2 * (28 + length (base p)) + total weigh hs
unfolding linked
linked_most i p hs e = change_most (dir p) (λ t. with_entry (record { mode = TREE; name = base p; id = i }) t) (28 + length (base p)) (λ t. entry_most (record { mode = TREE; name = base p; id = i }) t) hs e

closed_light : (s : Start) (h : Held) (c : Cache) → weight (closed s h c) ≡ 0
unfolding closed weight
closed_light from_root h c = refl
closed_light (from_cursor p) h c = refl

answer_light : (i : Bytes) (c : Cache) (w : Write) → total (is_at (dir w.asked.path)) w.aside ≤ 1 →
    weight (answered_in sha1 i c w) ≤ 2 * (28 + length w.asked.path) + (total weigh w.stacked + (total weigh w.aside + total weigh c))
unfolding answered_in write_of weight asking
answer_light i c w e = go (is_nil w.aside)
  where
    go : (b : Bool) → weight (pick_editor b (closed w.start w.asked c) (write_of w.start (asking (null sha1.width) w.stacked (linked i w.asked.path w.aside) c)))
        ≤ 2 * (28 + length w.asked.path) + (total weigh w.stacked + (total weigh w.aside + total weigh c))
    go true = omega (arith, closed_light w.start w.asked c)
    go false =
        omega (
          arith,
          light (2 * (length w.stacked + length (linked i w.asked.path w.aside) + length c)) (null sha1.width) w.stacked (linked i w.asked.path w.aside) c,
          linked_most i w.asked.path w.aside e,
          base_short w.asked.path,
        )

cost_is : (t : Tree) → total cost t ≡ 28 * length t + name_bytes t
cost_is [] = refl
cost_is (e ∷ es) = omega (arith, cost_is es)

request_long : (h : Held) → length (request_lines h) ≡ 11 + (2 * length h.path + 2 * length (raw_tree h.held))
unfolding request_lines
request_long h =
    omega (
      arith,
      length-append (line_of tree_key (hex_of h.path)) (line_of raw_key (hex_of (raw_tree h.held))),
      line_long tree_key (hex_of h.path),
      line_long raw_key (hex_of (raw_tree h.held)),
      length_hex h.path,
      length_hex (raw_tree h.held),
    )

raw_cost : (t : Tree) → well_formed sha1.width t ≡ true → length (raw_tree t) ≤ total cost t
raw_cost t v = omega (arith, raw_length 20 t (well_entries 20 t (ap (λ (z : ℕ). well_formed z t) (sym wide) ∙ v)), cost_is t)

step_in : (i : Bytes) (c : Cache) (w : Write) → valid sha1 (record { cached = c; writing = some w }) ≡ true → length (request_lines w.asked) + weight (answered_in sha1 i c w) ≤ 67 + weight_in c (some w)
step_in i c w v =
    let a : Sane sha1.width (w.asked ∷ (w.stacked ++ (w.aside ++ c))) = (valid_ask sha1 c w v).sane in
    let well : well_formed sha1.width w.asked.held ≡ true =
    and_right (is_nil w.asked.path || valid_path w.asked.path) (well_formed sha1.width w.asked.held) (is_good_lem _ (omega (arith, a.good))) in
    let few : total (is_at (dir w.asked.path)) w.aside ≤ 1 = omega (arith, a.once (dir w.asked.path), sum3 (is_at (dir w.asked.path)) w.stacked w.aside c) in
    omega (arith, answer_light i c w few, request_long w.asked, raw_cost w.asked.held well)

step_of : (i : Bytes) (c : Cache) (o : Option Write) (h : Held) → valid sha1 (record { cached = c; writing = o }) ≡ true → requested (record { cached = c; writing = o }) ≡ some h →
    length (request_lines h) + weight (answered sha1 i (record { cached = c; writing = o })).editor ≤ 67 + weight_in c o
unfolding requested answered
step_of i c none h v q = none_some h q
step_of i c (some w) h v q = subst (λ (x : Held). length (request_lines x) + weight (answered_in sha1 i c w) ≤ 67 + weight_in c (some w)) (some_inj w.asked h q) (step_in i c w v)

step : (i : Bytes) (E : Editor) (h : Held) → valid sha1 E ≡ true → requested E ≡ some h → length (request_lines h) + weight (answered sha1 i E).editor ≤ 67 + weight E
unfolding weight
step i E h v q = step_of i E.cached E.writing h v q

count_long : (k : ℕ) → length (count_id k) ≡ 20
unfolding count_id
count_long k = refl

root_long : (k : ℕ) → length (line_of root_key (hex_of (count_id k))) ≡ 46
root_long k = omega (arith, line_long root_key (hex_of (count_id k)), length_hex (count_id k), count_long k)

none_left : (k : ℕ) (E : Editor) → write_lines zero k E ≡ []
unfolding write_lines
none_left k E = refl

-- the lines of a write
pub lines_room : (n k : ℕ) (E : Editor) → valid sha1 E ≡ true → length (write_lines n k E) ≤ 67 * pending E + (weight E + 46)
lines_room zero k E v = omega (arith, ap length (none_left k E))
lines_room (suc n) k E v = go (requested E) refl (λ D x. lines_room n (k + 1) D x)
  where
    go : (o : Option Held) → requested E ≡ o → ((D : Editor) → valid sha1 D ≡ true → length (write_lines n (k + 1) D) ≤ 67 * pending D + (weight D + 46)) → length (write_lines (suc n) k E) ≤ 67 * pending E + (weight E + 46)
    go none q ih = omega (arith, ap length (last_line n k E q), root_long k)
    go (some h) q ih =
        omega (
          arith,
          ap length (more_lines n k E h q),
          length-append (request_lines h) (write_lines n (k + 1) (answered sha1 (count_id (k + 1)) E).editor),
          ih (answered sha1 (count_id (k + 1)) E).editor (answer_valid sha1 (count_id (k + 1)) E (count_long (k + 1) ∙ sym wide) v),
          step (count_id (k + 1)) E h v q,
          pending_less (count_id (k + 1)) E h q,
        )

-- a valid editor's write is not heavy
weigh_is : (l : List Held) → total weigh l ≡ 4 * total its_path l + (56 * total its_entries l + 2 * total its_names l)
weigh_is [] = refl
weigh_is (h ∷ hs) = omega (arith, weigh_is hs, cost_is h.held)

few_in : (c : Cache) (o : Option Write) → valid sha1 (record { cached = c; writing = o }) ≡ true → weight_in c o ≤ 122880
few_in c none v = omega arith
few_in c (some w) v =
    let a : Sane sha1.width (w.asked ∷ (w.stacked ++ (w.aside ++ c))) = (valid_ask sha1 c w v).sane in
    omega (arith, a.paths, a.entries, a.names, weigh_is (w.asked ∷ (w.stacked ++ (w.aside ++ c))), sum3 weigh w.stacked w.aside c)

pub weight_few : (E : Editor) → valid sha1 E ≡ true → weight E ≤ 122880
unfolding weight
weight_few E v = few_in E.cached E.writing v
