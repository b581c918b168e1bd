-- Laws of edits of a tree: the model's maps by places, and the bytes. Assumes nothing.
use mathlib.Core.Path.{◌≡◌, refl, sym, ap, ap₂, ◌∙◌}
use mathlib.Core.Bool.{Bool, true, false, not}
use mathlib.Core.Option.{none, some}
use mathlib.Core.List.{List, [], ◌∷◌, ◌++◌, append_assoc}
use Prim.Native.Nat.{Ordering}
use Prim.Native.Nat.{ℕ, suc, ◌+◌, ◌≤◌, ◌<◌}
use native.Mathlib.Omega.{arith}
use native.Mathlib.Nat.{zero-add}
use lib.ListN.{length, take, drop, get_or, length-append, length-drop, take-append-drop}
use lib.Seq.{take_at, drop_at, drop-cons, split_at}
use Rattle.model.specs.Bytes.{Bytes, cmp}
use Rattle.model.specs.Map.{find, put, del, rising_from, rising}
use Rattle.model.specs.Tree.{Mode, Entry, Tree, as_kind, key, is_tree, with_entry, good_name, well_formed, name_bytes}
use Rattle.model.proofs.Basics.{some_none}
use Rattle.model.proofs.RawLaws.{well_entries}
use Rattle.model.proofs.SwapShared.{well_rising}
use Rattle.model.proofs.MapLaws.{cmp_refl, cmp_lt, cmp_trans, above_head, above_tail, rising_of_above, rising_del, find_del_same, find_del_other}
use Rattle.model.specs.Search.{hit, searched}
use Rattle.std.specs.Prelude.{Ok, Err}
use Rattle.model.proofs.SearchLaws.{Right}
use Rattle.model.proofs.SoundTrees.{sound_well, name_plain, find_key, del_absent}
use Rattle.model.proofs.RoomCounts.{name_of}
use Rattle.model.proofs.WellFormedLaws.{sound_del, sound_distinct, well_with, good_del}
use Rattle.store_runs.specs.Moves.{inserted, removed}
use Rattle.names_compact.specs.Compact.{packed, packed_all, unpack, Run, blank, entry_at, Tells}
use Rattle.names_compact.specs.declared.compact.Place.{Place}
use Rattle.names.specs.Splice.{splice}
use Rattle.store_runs.proofs.MoveLaws.{splice_is}
use Rattle.store_entries.specs.Entries.{Fresh}
use Rattle.names_compact.proofs.TwinLaws.{told_right}
use Rattle.names_compact.proofs.CompactLaws.{packed_cons, packed_append, packed_length, split_run, Mark, mark, here}

-- ---- maps in order, by places

module _ {A : Type 0} (key : A → Bytes) where
  middle_above : (j : Bytes) (bs : List A) (x : A) (cs : List A) → rising_from key j (bs ++ (x ∷ cs)) ≡ true → cmp j (key x) ≡ Ordering.lt
  middle_above j [] x cs r = above_head key j x cs r
  middle_above j (b ∷ bs) x cs r = cmp_trans j (key b) (key x) (above_head key j b (bs ++ (x ∷ cs)) r) (middle_above (key b) bs x cs (above_tail key j b (bs ++ (x ∷ cs)) r))

  pub del_mid : (bs : List A) (x : A) (cs : List A) → rising key (bs ++ (x ∷ cs)) ≡ true → del key (key x) (bs ++ (x ∷ cs)) ≡ bs ++ cs
  del_mid [] x cs r = rw (cmp_refl (key x))
  del_mid (b ∷ bs) x cs r =
      rw (cmp_lt (key b) (key x) (middle_above (key b) bs x cs r), del_mid bs x cs (rising_of_above key (key b) (bs ++ (x ∷ cs)) r))

  pub put_mid : (bs : List A) (x a : A) (cs : List A) → key a ≡ key x → rising key (bs ++ (x ∷ cs)) ≡ true → put key a (bs ++ (x ∷ cs)) ≡ bs ++ (a ∷ cs)
  put_mid [] x a cs q r = rw (q, cmp_refl (key x))
  put_mid (b ∷ bs) x a cs q r =
      rw (q, cmp_lt (key b) (key x) (middle_above (key b) bs x cs r)) (ap (λ (l : List A). b ∷ l) (put_mid bs x a cs q (rising_of_above key (key b) (bs ++ (x ∷ cs)) r)))

-- ---- a tree without one key is well formed

pub well_del : (w : ℕ) (k : Bytes) (t : Tree) → well_formed w t ≡ true → well_formed w (del key k t) ≡ true
unfolding well_formed
well_del w k t h = rw (good_del w k t (well_entries w t h), rising_del key k t (well_rising w t h), sound_distinct (del key k t) (sound_del k t (sound_well w t h)))

-- ---- counts

pub names_append : (s t : Tree) → name_bytes (s ++ t) ≡ name_bytes s + name_bytes t
names_append [] t = sym (zero-add (name_bytes t))
names_append (e ∷ es) t = omega (arith, names_append es t)

-- ---- what a search found

-- a search that found none
pub missing : (w : ℕ) (b k : Bytes) → rising key (unpack w b) ≡ true → (p : Place) → Tells w b (searched key k (unpack w b)) (Err p) → find key k (unpack w b) ≡ none
missing w b k ris p T = (told_right w b k (Err p) T ris false refl).0

module _ (w : ℕ) (b k : Bytes) (run : Run w b) (ris : rising key (unpack w b) ≡ true) (p : Place) (T : Tells w b (searched key k (unpack w b)) (Ok p)) where
  abbrev t : Tree
  t = unpack w b

  right : Right key k t (hit p.index)
  right = told_right w b k (Ok p) T ris true refl

  -- one that found an entry, where the tree has none
  pub not_missing : find key k t ≡ none → ⊥
  not_missing n = some_none right.0 (sym right.3 ∙ n)

  abbrev i : ℕ
  i = p.index

  abbrev x : Entry
  x = right.0

  there : drop i t ≡ x ∷ right.1
  there = right.2

  pub inside : p.index < length t
  inside = omega (arith, ap length there, length-drop p.index t)

  x_is : entry_at w b i ≡ x
  x_is = head (drop-cons t i blank inside) there
    where
      head : {l : Tree} {u v : Entry} {us vs : Tree} → l ≡ u ∷ us → l ≡ v ∷ vs → u ≡ v
      head q r = cc

  pub key_is : key (entry_at w b p.index) ≡ k
  key_is = ap key x_is ∙ find_key key k t x right.3

  -- what the model's find finds
  pub found_entry : find key k t ≡ some (entry_at w b p.index)
  found_entry = right.3 ∙ ap some (sym x_is)

  pub whole : t ≡ take p.index t ++ (entry_at w b p.index ∷ drop (suc p.index) t)
  whole = split_at t p.index blank inside

  pub deleted : del key k t ≡ take p.index t ++ drop (suc p.index) t
  deleted =
      ap₂ (λ (z : Bytes) (l : Tree). del key z l) (sym key_is) whole
      ∙ del_mid key (take p.index t) (entry_at w b p.index) (drop (suc p.index) t) (ap (rising key) (sym whole) ∙ ris)

  pub marked : Mark w b p.index p.at
  marked = mark w b p.index p.at run T.start inside

  pub bytes_without : (n : ℕ) → n ≡ get_or b (p.at + 1) 0 → removed b p.at (2 + w + n) ≡ packed_all (del key k t)
  bytes_without n q =
      let u = packed_all (take p.index t) in
      let v = packed (entry_at w b p.index) in
      let z = packed_all (drop (suc p.index) t) in
      let H = here w b p.index run inside in
      let lu : length u ≡ p.at = sym T.start in
      let lv : length (u ++ v) ≡ p.at + (2 + w + n) = omega (arith, length-append u v, packed_length w (entry_at w b p.index) H.wide, q, marked.word, lu) in
      let all : b ≡ u ++ (v ++ z) = split_run w b p.index run inside in
      ap₂ (λ (c d : Bytes). c ++ d)
      (ap (take p.at) all ∙ take_at u (v ++ z) p.at lu)
      (ap (drop (p.at + (2 + w + n))) (all ∙ sym (append_assoc u v z)) ∙ drop_at (u ++ v) z (p.at + (2 + w + n)) lv)
      ∙ sym (ap packed_all deleted ∙ packed_append (take p.index t) (drop (suc p.index) t))

  pub one_fewer : length (del key k t) + 1 ≡ length t
  one_fewer = omega (arith, ap length deleted, length-append (take p.index t) (drop (suc p.index) t), ap length whole, length-append (take p.index t) (entry_at w b p.index ∷ drop (suc p.index) t))

  pub names_fewer : name_bytes (del key k t) + get_or b (p.at + 1) 0 ≡ name_bytes t
  names_fewer =
      omega (arith, ap name_bytes deleted, names_append (take p.index t) (drop (suc p.index) t), ap name_bytes whole, names_append (take p.index t) (entry_at w b p.index ∷ drop (suc p.index) t), marked.word)

  -- an entry put under the key that was found stands in its place
  pub put_over : (a : Entry) → key a ≡ k → put key a t ≡ take p.index t ++ (a ∷ drop (suc p.index) t)
  put_over a q =
      ap (put key a) whole ∙ put_mid key (take p.index t) (entry_at w b p.index) a (drop (suc p.index) t) (q ∙ sym key_is) (ap (rising key) (sym whole) ∙ ris)

  pub bytes_over : (a : Entry) → key a ≡ k → length a.id ≡ w → a.name ≡ (entry_at w b p.index).name → splice b p.at (packed a) ≡ packed_all (put key a t)
  bytes_over a q li ln =
      let u = packed_all (take p.index t) in
      let v = packed (entry_at w b p.index) in
      let z = packed_all (drop (suc p.index) t) in
      let H = here w b p.index run inside in
      let lu : length u ≡ p.at = sym T.start in
      let lv : length (u ++ v) ≡ p.at + length (packed a) =
      omega (arith, length-append u v, packed_length w (entry_at w b p.index) H.wide, packed_length w a li, ap length ln, lu) in
      let all : b ≡ u ++ (v ++ z) = split_run w b p.index run inside in
      splice_is b p.at (packed a)
      ∙ ap₂ (λ (c d : Bytes). c ++ (packed a ++ d)) (ap (take p.at) all ∙ take_at u (v ++ z) p.at lu)
      (ap (drop (p.at + length (packed a))) (all ∙ sym (append_assoc u v z)) ∙ drop_at (u ++ v) z (p.at + length (packed a)) lv)
      ∙ sym (ap packed_all (put_over a q) ∙ packed_append (take p.index t) (a ∷ drop (suc p.index) t) ∙ ap (λ (d : Bytes). u ++ d) (packed_cons a (drop (suc p.index) t)))

  pub as_many : (a : Entry) → key a ≡ k → length (put key a t) ≡ length t
  as_many a q =
      omega (arith, ap length (put_over a q), length-append (take p.index t) (a ∷ drop (suc p.index) t), ap length whole, length-append (take p.index t) (entry_at w b p.index ∷ drop (suc p.index) t))

  pub as_long : (a : Entry) → key a ≡ k → a.name ≡ (entry_at w b p.index).name → name_bytes (put key a t) ≡ name_bytes t
  as_long a q ln =
      omega
      (arith, ap name_bytes (put_over a q), names_append (take p.index t) (a ∷ drop (suc p.index) t), ap name_bytes whole, names_append (take p.index t) (entry_at w b p.index ∷ drop (suc p.index) t), ap length ln)

-- ---- an entry put in

module _ (w : ℕ) (b k : Bytes) (run : Run w b) (ris : rising key (unpack w b) ≡ true) (p : Place) (T : Tells w b (searched key k (unpack w b)) (Err p)) (e : Entry) (ek : key e ≡ k) where
  abbrev u : Tree
  u = unpack w b

  pub put_is : put key e u ≡ take p.index u ++ (e ∷ drop p.index u)
  put_is = (told_right w b k (Err p) T ris false refl).1 e ek

  pub bytes_with : inserted b p.at (packed e) ≡ packed_all (put key e u)
  bytes_with =
      let s = packed_all (take p.index u) in
      let z = packed_all (drop p.index u) in
      let all : b ≡ s ++ z = run.bytes ∙ ap packed_all (sym (take-append-drop p.index u)) ∙ packed_append (take p.index u) (drop p.index u) in
      let ls : length s ≡ p.at = sym T.start in
      ap₂ (λ (c d : Bytes). c ++ (packed e ++ d)) (ap (take p.at) all ∙ take_at s z p.at ls) (ap (drop p.at) all ∙ drop_at s z p.at ls)
      ∙ sym (ap packed_all put_is ∙ packed_append (take p.index u) (e ∷ drop p.index u) ∙ ap (λ (d : Bytes). s ++ d) (packed_cons e (drop p.index u)))

  pub place_in : p.at ≤ length b
  place_in =
      let s = packed_all (take p.index u) in
      let z = packed_all (drop p.index u) in
      let all : b ≡ s ++ z = run.bytes ∙ ap packed_all (sym (take-append-drop p.index u)) ∙ packed_append (take p.index u) (drop p.index u) in
      omega (arith, T.start, ap length all, length-append s z)

  pub one_more : length (put key e u) ≡ length u + 1
  one_more = omega (arith, ap length put_is, length-append (take p.index u) (e ∷ drop p.index u), ap length (take-append-drop p.index u), length-append (take p.index u) (drop p.index u))

  pub names_more : name_bytes (put key e u) ≡ name_bytes u + length e.name
  names_more = omega (arith, ap name_bytes put_is, names_append (take p.index u) (e ∷ drop p.index u), ap name_bytes (take-append-drop p.index u), names_append (take p.index u) (drop p.index u))

-- with no entry of the name, an entry put in is the entry set
pub well_put : (w : ℕ) (m : Mode) (n i : Bytes) (t : Tree) → good_name n ≡ true → length i ≡ w → well_formed w t ≡ true → find key (as_kind (not (is_tree m)) n) t ≡ none →
    well_formed w (put key (record { mode = m; name = n; id = i }) t) ≡ true
well_put w m n i t g l h f =
    ap (λ (x : Tree). well_formed w (put key (record { mode = m; name = n; id = i }) x)) (sym (del_absent key (as_kind (not (is_tree m)) n) t f)) ∙ well_with w m n i t g l h

-- with an entry of the key, the tree has none of the other kind: an entry set is one put in its place
module _ (w : ℕ) (m : Mode) (n i : Bytes) (t : Tree) (g : good_name n ≡ true) (h : well_formed w t ≡ true) (x : Entry) (f : find key (as_kind (is_tree m) n) t ≡ some x) where
  pub name_is : n ≡ x.name
  name_is = sym (name_of t (sound_well w t h) (is_tree m) n x (name_plain n g) f)

  pub set_over : put key (record { mode = m; name = n; id = i }) t ≡ with_entry (record { mode = m; name = n; id = i }) t
  set_over = ap (put key (record { mode = m; name = n; id = i })) (sym (del_absent key (as_kind (not (is_tree m)) n) t ((sound_well w t h).once n (is_tree m) x (name_plain n g) f)))

-- with no entry of the key, and the one of the other kind removed, none has the name
pub fresh_then : (b : Bool) (n : Bytes) (t : Tree) → rising key t ≡ true → find key (as_kind b n) t ≡ none → Fresh n (del key (as_kind (not b) n) t)
fresh_then true n t r f =
    record {
      file = find_del_same key (as_kind false n) t r;
      tree = find_del_other key (as_kind true n) (as_kind false n) t r (λ e. omega (arith, ap length e, length-append n (47 ∷ []))) ∙ f;
    }
fresh_then false n t r f =
    record {
      file = find_del_other key (as_kind false n) (as_kind true n) t r (λ e. omega (arith, ap length e, length-append n (47 ∷ []))) ∙ f;
      tree = find_del_same key (as_kind true n) t r;
    }
